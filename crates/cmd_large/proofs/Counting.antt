-- The numbers of verdicts.
use Rattle.std.proofs.Common.{◌≡◌, suc, Bool, true, false, List, [], ◌∷◌, map, length, count_by, refl, sym, ap, ◌∙◌}
use Rattle.std.specs.Prelude.{if◌then◌else◌}
use Rattle.std.specs.List.{filter, list_all, list_any}
use Rattle.std.proofs.lemmas.List.Sums.{length-filter}
use Rattle.std.proofs.lemmas.Bool.{false≢true}
use Rattle.scr_spec.specs.declared.table.Table.{Table}
use Rattle.prove_tables.specs.declared.verdict.Verdict.{Verdict}
use Rattle.prove_tables.specs.declared.verdict.Verdict.TheVariants as verdict
use Rattle.prove_tables.specs.Outcomes.{is_yes}
use Rattle.cmd_work.specs.declared.status.Status.TheVariants.{Findings, Undecided, Done}
use Rattle.cmd_checked.specs.Reports.{is_no, is_undecided, verdicts_status}

-- ---- where one is not yes

some_undecided : (verdicts : List Verdict) → list_any is_no verdicts ≡ false → list_all is_yes verdicts ≡ false → list_any is_undecided verdicts ≡ true
some_undecided [] none other = absurd (false≢true (sym other))
some_undecided (verdict.Yes ∷ verdicts) none other = some_undecided verdicts none other
some_undecided (verdict.No goal w ∷ verdicts) none other = absurd (false≢true (sym none))
some_undecided (verdict.Undecided ∷ verdicts) none other = refl

status_by : (n u : Bool) → n ≡ false → u ≡ true → (if n then Findings else if u then Undecided else Done) ≡ Undecided
status_by true u none some = absurd (false≢true (sym none))
status_by false true none some = refl
status_by false false none some = absurd (false≢true some)

-- and none is no
pub no_yes : (verdicts : List Verdict) → list_any is_no verdicts ≡ false → list_all is_yes verdicts ≡ false → verdicts_status verdicts ≡ Undecided
no_yes verdicts none other = status_by (list_any is_no verdicts) (list_any is_undecided verdicts) none (some_undecided verdicts none other)

-- ---- where each is yes

pub yes_length : (ts : List Table) → length (map (λ t. verdict.Yes) ts) ≡ length ts
yes_length [] = refl
yes_length (t ∷ ts) = ap suc (yes_length ts)

yes_filtered : (ts : List Table) → length (filter is_yes (map (λ t. verdict.Yes) ts)) ≡ length ts
yes_filtered [] = refl
yes_filtered (t ∷ ts) = ap suc (yes_filtered ts)

pub yes_yes : (ts : List Table) → count_by is_yes (map (λ t. verdict.Yes) ts) ≡ length ts
yes_yes ts = sym (length-filter is_yes (map (λ t. verdict.Yes) ts)) ∙ yes_filtered ts

pub yes_no : (ts : List Table) → count_by is_no (map (λ t. verdict.Yes) ts) ≡ 0
yes_no [] = refl
yes_no (t ∷ ts) = yes_no ts

pub yes_undecided : (ts : List Table) → count_by is_undecided (map (λ t. verdict.Yes) ts) ≡ 0
yes_undecided [] = refl
yes_undecided (t ∷ ts) = yes_undecided ts

pub ruleset yes_laws = (yes_length, yes_yes, yes_no, yes_undecided)
