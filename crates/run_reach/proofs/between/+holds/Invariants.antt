use Rattle.std.proofs.Common.{◌≡◌, true, false, take}
use Rattle.std.specs.List.{list_all, list_any}
use Rattle.scr_spec.specs.Shown.{data_of}
use Rattle.prove_formula.specs.Between.{is_true_between}
use Rattle.run_reach.proofs.between.+holds.Given as goal

abbrev pub invariant-all_hold-loop-c : goal.invariant-all_hold-loop-c
invariant-all_hold-loop-c l = list_all (is_true_between (data_of l.spec) l.old.codes l.new.codes) (take l.c-index l.cs) ≡ true

abbrev pub invariant-any_holds-loop-c : goal.invariant-any_holds-loop-c
invariant-any_holds-loop-c l = list_any (is_true_between (data_of l.spec) l.old.codes l.new.codes) (take l.c-index l.cs) ≡ false
