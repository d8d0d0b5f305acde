use Rattle.std.proofs.Common.{◌≡◌, take, map}
use Rattle.scr_spec.specs.Shown.{data_of}
use Rattle.prove_formula.specs.Frozen.{frozen_term}
use Rattle.prove_formula.proofs.frozen.atom_frozen.Given as goal

abbrev pub invariant-loop-term : goal.invariant-loop-term
invariant-loop-term l = l.terms ≡ map (frozen_term (data_of l.spec) l.x) (take l.term-index l.term-items)
