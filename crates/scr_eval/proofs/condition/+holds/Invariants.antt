use Rattle.std.proofs.Common.{◌≡◌, true, false, take}
use Rattle.std.specs.List.{list_all, list_any}
use Rattle.scr_spec.specs.Shown.{data_of}
use Rattle.scr_spec.specs.Meaning.{is_true}
use Rattle.scr_eval.proofs.condition.+holds.Given as goal

abbrev pub invariant-all_hold-loop-c : goal.invariant-all_hold-loop-c
invariant-all_hold-loop-c l = list_all (is_true (data_of l.spec) l.at.codes) (take l.c-index l.cs) ≡ true

abbrev pub invariant-any_holds-loop-c : goal.invariant-any_holds-loop-c
invariant-any_holds-loop-c l = list_any (is_true (data_of l.spec) l.at.codes) (take l.c-index l.cs) ≡ false
