-- The lines on tables, and how a run with their verdicts ends.
use Rattle.std.proofs.Common.{◌≡◌, ℕ, ◌+◌, ◌<◌, ◌≤◌, Bool, false, List, [], ◌∷◌, ◌++◌, length, get_or, take, map, min, refl, sym, ap, ap₂, ◌∙◌, arith}
use Rattle.std.specs.List.{flat_map, list_any, zip, All}
use Rattle.std.proofs.lemmas.List.{take_all}
use Rattle.std.proofs.lemmas.List.Elements.{All-head, All-tail}
use Rattle.std.proofs.lemmas.Slice.Zip.{length-zip, get_or-zip}
use Rattle.scr_spec.specs.Data.{Data}
use Rattle.scr_spec.specs.declared.table.Table.{Table}
use Rattle.prove_tables.specs.declared.verdict.Verdict.{Verdict}
use Rattle.prove_tables.specs.declared.verdict.Verdict.TheVariants.{Yes}
use Rattle.prove_tables.specs.Verdicts.{HasVerdict, HaveVerdicts}
use Rattle.cmd_report.specs.Reports.{verdict_text}
use Rattle.cmd_report.proofs.StateLines.{texts_more}
use Rattle.cmd_work.specs.declared.status.Status.TheVariants.{Done}
use Rattle.cmd_checked.specs.Reports.{is_no, is_undecided, verdicts_status, line_text, lines_text, all_yes}

-- ---- one line more

pub lines_more : (spec : Data) (verdicts : List Verdict) (k : ℕ) (t : Table) (v : Verdict) (out new initial : List ℕ)
    → k < length spec.tables → k < length verdicts → t ≡ get_or spec.tables k t → v ≡ get_or verdicts k v
    → new ≡ out ++ verdict_text spec t.variable v → out ≡ initial ++ flat_map (line_text spec) (take k (zip spec.tables verdicts))
    → new ≡ initial ++ flat_map (line_text spec) (take (k + 1) (zip spec.tables verdicts))
lines_more spec verdicts k t v out new initial there also table verdict added before =
    let pairs = zip spec.tables verdicts in
    let within : k < length pairs = omega (arith, length-zip spec.tables verdicts) in
    let is : (t, v) ≡ get_or pairs k (t, v) = ap₂ (λ s w. (s, w)) table verdict ∙ sym (get_or-zip spec.tables verdicts k (t, v) there also) in
    texts_more (line_text spec) pairs k (t, v) out new initial within is added before

-- all lines are there
pub lines_end : (spec : Data) (verdicts : List Verdict) (k : ℕ) (out initial : List ℕ) → k ≡ min (length spec.tables) (length verdicts)
    → out ≡ initial ++ flat_map (line_text spec) (take k (zip spec.tables verdicts)) → out ≡ initial ++ lines_text spec verdicts
lines_end spec verdicts k out initial all before =
    before ∙ ap (λ ps. initial ++ flat_map (line_text spec) ps) (take_all k (zip spec.tables verdicts) (omega (arith, length-zip spec.tables verdicts)))

-- ---- a yes on each table

abbrev pub yes_line : Data → Table → List ℕ
yes_line spec t = verdict_text spec t.variable Yes

each_yes : (spec : Data) (ts : List Table) → flat_map (yes_line spec) ts ≡ flat_map (line_text spec) (zip ts (map (λ t. Yes) ts))
each_yes spec [] = refl
each_yes spec (t ∷ ts) = ap (λ more. yes_line spec t ++ more) (each_yes spec ts)

pub yes_more : (spec : Data) (k : ℕ) (t : Table) (out new initial : List ℕ) → k < length spec.tables → t ≡ get_or spec.tables k t
    → new ≡ out ++ verdict_text spec t.variable Yes → out ≡ initial ++ flat_map (yes_line spec) (take k spec.tables)
    → new ≡ initial ++ flat_map (yes_line spec) (take (k + 1) spec.tables)
yes_more spec k t out new initial within is added before = texts_more (yes_line spec) spec.tables k t out new initial within is added before

pub yes_end : (spec : Data) (k : ℕ) (out initial : List ℕ) → length spec.tables ≤ k → out ≡ initial ++ flat_map (yes_line spec) (take k spec.tables)
    → out ≡ initial ++ lines_text spec (all_yes spec)
yes_end spec k out initial all before = before ∙ ap (λ xs. initial ++ xs) (ap (flat_map (yes_line spec)) (take_all k spec.tables all) ∙ each_yes spec spec.tables)

no_other : (p : Verdict → Bool) (ts : List Table) → p Yes ≡ false → list_any p (map (λ t. Yes) ts) ≡ false
no_other p [] e = refl
no_other p (t ∷ ts) e = rw e (no_other p ts e)

-- a run with a yes on each table is done
pub yes_done : (spec : Data) → verdicts_status (all_yes spec) ≡ Done
yes_done spec = rw (no_other is_no spec.tables refl, no_other is_undecided spec.tables refl) refl

pub yes_verdicts : (spec : Data) (order : List ℕ) (limit : ℕ) (ts : List Table) → All (λ t. HasVerdict spec order t.variable limit Yes) ts
    → HaveVerdicts spec order limit ts (map (λ t. Yes) ts)
yes_verdicts spec order limit [] each = tt
yes_verdicts spec order limit (t ∷ ts) each =
    (All-head (λ t. HasVerdict spec order t.variable limit Yes) t ts each, yes_verdicts spec order limit ts (All-tail (λ t. HasVerdict spec order t.variable limit Yes) t ts each))
