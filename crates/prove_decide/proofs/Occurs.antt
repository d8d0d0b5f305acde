-- Whether a level occurs in a formula, by its members.
use Rattle.std.proofs.Common.{◌≡◌, ℕ, ℤ, ◌+◌, Bool, true, false, ◌||◌, List, [], ◌∷◌, ◌++◌, map, sym, ap, ◌∙◌}
use Rattle.std.specs.List.{list_any, filter, range_with_len}
use Rattle.std.proofs.lemmas.List.{map-append}
use Rattle.std.proofs.lemmas.List.Folds.{list_any-append}
use Rattle.dd_formula.proofs.Lists.{list_any-map}
use Rattle.scr_spec.proofs.Below.{passing_push, passing_kept}
use Rattle.dd_formula.specs.declared.formula.Formula.{Formula, fold-roll-Formula}
use Rattle.dd_formula.specs.declared.formula.Formula.TheVariants.{And, Or, rolls-And, rolls-Or}
use Rattle.dd_formula.specs.declared.formula.Formula.TheOpen as layer
use Rattle.prove_decide.specs.Readings.{occurs, occurs_step, reading}

-- in some member of And
pub occurs-And : (level : ℕ) (fs : List Formula) → occurs level (And fs) ≡ list_any (occurs level) fs
occurs-And level fs =
    ap (occurs level) (sym (rolls-And fs)) ∙ fold-roll-Formula Bool (occurs_step level) (layer.And fs) ∙ list_any-map (λ t. t) (occurs level) fs

-- in some member of Or
pub occurs-Or : (level : ℕ) (fs : List Formula) → occurs level (Or fs) ≡ list_any (occurs level) fs
occurs-Or level fs =
    ap (occurs level) (sym (rolls-Or fs)) ∙ fold-roll-Formula Bool (occurs_step level) (layer.Or fs) ∙ list_any-map (λ t. t) (occurs level) fs

-- in a member of two lists
occurs_both : (level : ℕ) (fs gs : List Formula) → occurs level (And (fs ++ gs)) ≡ (list_any (occurs level) fs || list_any (occurs level) gs)
occurs_both level fs gs = occurs-And level (fs ++ gs) ∙ list_any-append (occurs level) fs gs

-- in one of the first, and so in one of both
pub occurs_first : (level : ℕ) (fs gs : List Formula) → list_any (occurs level) fs ≡ true → list_any (occurs level) fs ≡ occurs level (And (fs ++ gs))
occurs_first level fs gs h = h ∙ ap (λ b. b || list_any (occurs level) gs) (sym h) ∙ sym (occurs_both level fs gs)

-- in none of the first
pub occurs_rest : (level : ℕ) (fs gs : List Formula) → list_any (occurs level) fs ≡ false → list_any (occurs level) gs ≡ occurs level (And (fs ++ gs))
occurs_rest level fs gs h = ap (λ b. b || list_any (occurs level) gs) (sym h) ∙ sym (occurs_both level fs gs)

pub ruleset occurs_laws = (occurs-And, occurs-Or)

-- a level that passes is read, too
pub readings_push : (v : List ℤ) (p : ℕ → Bool) (n : ℕ) → p n ≡ true → map (reading v) (filter p (range_with_len 0 (n + 1))) ≡ map (reading v) (filter p (range_with_len 0 n)) ++ reading v n ∷ []
readings_push v p n h = ap (map (reading v)) (passing_push p n h) ∙ map-append (reading v) (filter p (range_with_len 0 n)) (n ∷ [])

-- one that does not is left out
pub readings_kept : (v : List ℤ) (p : ℕ → Bool) (n : ℕ) → p n ≡ false → map (reading v) (filter p (range_with_len 0 (n + 1))) ≡ map (reading v) (filter p (range_with_len 0 n))
readings_kept v p n h = ap (map (reading v)) (passing_kept p n h)

pub ruleset more_readings = (readings_push, readings_kept)
