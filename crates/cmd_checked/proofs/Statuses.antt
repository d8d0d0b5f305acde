-- How a command ends with these verdicts.
use Rattle.std.proofs.Common.{◌≡◌, Bool, true, false, List, [], ◌∷◌, refl, sym, ◌∙◌}
use Rattle.std.specs.Prelude.{if◌then◌else◌}
use Rattle.std.specs.List.{list_all, list_any}
use Rattle.std.proofs.lemmas.Bool.{false≢true}
use Rattle.prove_tables.specs.declared.verdict.Verdict.{Verdict}
use Rattle.prove_tables.specs.declared.verdict.Verdict.TheVariants.{Yes, No, Undecided}
use Rattle.prove_tables.specs.Outcomes.{is_yes}
use Rattle.cmd_work.specs.declared.status.Status.TheVariants as status
use Rattle.cmd_work.specs.Ends.{is_own}
use Rattle.cmd_checked.specs.Reports.{is_no, is_undecided, verdicts_status}
use Rattle.cmd_checked.specs.Checking.{EndsCommand}

-- where no verdict is no and none is undecided, each is yes
all_yes_by : (verdicts : List Verdict) → list_any is_no verdicts ≡ false → list_any is_undecided verdicts ≡ false → list_all is_yes verdicts ≡ true
all_yes_by [] negative open_ones = refl
all_yes_by (Yes ∷ verdicts) negative open_ones = all_yes_by verdicts negative open_ones
all_yes_by (No goal w ∷ verdicts) negative open_ones = absurd (false≢true (sym negative))
all_yes_by (Undecided ∷ verdicts) negative open_ones = absurd (false≢true (sym open_ones))

done_by : (verdicts : List Verdict) (n u : Bool) → list_any is_no verdicts ≡ n → list_any is_undecided verdicts ≡ u
    → (if n then status.Findings else if u then status.Undecided else status.Done) ≡ status.Done → list_all is_yes verdicts ≡ true
done_by verdicts true u negative open_ones done = cc
done_by verdicts false true negative open_ones done = cc
done_by verdicts false false negative open_ones done = all_yes_by verdicts negative open_ones

-- a command ends with `Done` only where each verdict is yes
pub all_yes_done : (verdicts : List Verdict) → verdicts_status verdicts ≡ status.Done → list_all is_yes verdicts ≡ true
all_yes_done verdicts done = done_by verdicts (list_any is_no verdicts) (list_any is_undecided verdicts) refl refl done

own_by : (n u : Bool) → is_own (if n then status.Findings else if u then status.Undecided else status.Done) ≡ true
own_by true u = refl
own_by false true = refl
own_by false false = refl

-- and else it ends with a status of its own
pub verdicts_final : (verdicts : List Verdict) → list_all is_yes verdicts ≡ false → EndsCommand (verdicts_status verdicts)
verdicts_final verdicts some = record {
  other = λ done. false≢true (sym some ∙ all_yes_done verdicts done);
  own = own_by (list_any is_no verdicts) (list_any is_undecided verdicts);
}
