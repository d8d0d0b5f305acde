use Rattle.std.proofs.Common.{◌≡◌, ◌++◌, take}
use Rattle.std.specs.List.{flat_map}
use Rattle.scr_spec.specs.Shown.{data_of}
use Rattle.cmd_invariants.specs.Texts.{found_text}
use Rattle.cmd_invariants.proofs.text.push_all.Given as goal

abbrev pub invariant-loop-found : goal.invariant-loop-found
invariant-loop-found l = l.out.items ≡ l.initial.out.items ++ flat_map (found_text (data_of l.spec) l.class) (take l.found-index l.list)
