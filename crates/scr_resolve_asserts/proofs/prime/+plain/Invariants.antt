use Rattle.std.proofs.Common.{◌≡◌, drop}
use Rattle.std.specs.List.{list_all}
use Rattle.scr_spec.specs.Parts.{sides_pass}
use Rattle.scr_spec.specs.Formed.{is_side_plain}
use Rattle.scr_resolve_asserts.proofs.prime.+plain.Given as goal

abbrev pub invariant-are_plain-loop-cond : goal.invariant-are_plain-loop-cond
invariant-are_plain-loop-cond l = list_all (sides_pass is_side_plain) (drop l.cond-index l.conds) ≡ list_all (sides_pass is_side_plain) l.conds
