use Rattle.std.proofs.Common.{◌≡◌, map}
use Rattle.std.specs.List.{range_with_len}
use Rattle.scr_spec.specs.Shown.{data_of}
use Rattle.prove_decide.specs.Levels.{level_domain}
use Rattle.prove_decide.proofs.levels.domains_of.Given as goal

abbrev pub invariant-loop-level : goal.invariant-loop-level
invariant-loop-level l = l.domains.items ≡ map (level_domain (data_of l.spec)) (range_with_len 0 l.level)
