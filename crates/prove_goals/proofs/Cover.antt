-- The cover goals of a condition table have no solution exactly where the table covers.
use Rattle.std.proofs.Common.{◌≡◌, ◌↔◌, ℕ, zero, suc, ◌+◌, ◌-◌, ◌<◌, Bool, true, false, not, ◌&&◌, ◌||◌, List, [], ◌∷◌, length, Option, Some, None, refl, sym, ap, subst, ◌∙◌, arith, IsTrue}
use Rattle.std.specs.Prelude.{slice_get}
use Rattle.std.specs.Option.{option_map_or}
use Rattle.std.specs.List.{list_any, flat_map, range_with_len, AllByRecursion as Each}
use Rattle.std.proofs.lemmas.Bool.{and_parts}
use Rattle.std.proofs.lemmas.List.Folds.{list_any_at}
use Rattle.std.proofs.lemmas.Option.{slice_get_within, get_or_from_slice_get}
use Rattle.scr_spec.specs.Data.{Data}
use Rattle.scr_spec.specs.declared.table.Row.{Row}
use Rattle.scr_spec.specs.declared.table.Heading.TheVariants.{Condition}
use Rattle.scr_spec.specs.declared.table.Table.{Table}
use Rattle.scr_spec.specs.Meaning.{Codes}
use Rattle.scr_spec.specs.Domains.{IsTyped}
use Rattle.scr_spec.specs.Cells.{in_modes, looked_at, cell_true, row_cell_true}
use Rattle.dd_formula.specs.declared.formula.Formula.TheVariants.{False}
use Rattle.dd_formula.specs.Truth.{holds_at}
use Rattle.prove_formula.specs.Levels.{valuation_of}
use Rattle.prove_formula.specs.Violations.{gap_formula}
use Rattle.dd_formula.proofs.FormulaLaws.{holds_at-False}
use Rattle.prove_formula.proofs.ViolationTruth.{holds_at-gap_formula}
use Rattle.scr_depend.specs.Meets.{IsCovering}
use Rattle.prove_goals.specs.Goals.{cover_goal, cover_goals}
use Rattle.prove_goals.specs.Formulas.{at_row}
use Rattle.prove_formula.specs.Solutions.{HasNoSolution}
use Rattle.prove_goals.proofs.Lists.{each_like, each_flat, each_range, chain}
use Rattle.prove_goals.proofs.PairTruth.{false_is_true}
use Rattle.prove_goals.proofs.Disjoint.{one_less, HasNone}

-- in each typed state the class has a mode of exactly one row
pub record IsInOneRow (table : Table) (at : Codes) : Type 0 where
  pub row : ℕ
  pub it : Row
  pub there : slice_get table.rows row ≡ Some it
  pub has : IsTrue (in_modes table.class it.modes at)
  pub only : (k : ℕ) (q : Row) → slice_get table.rows k ≡ Some q → IsTrue (in_modes table.class q.modes at) → q ≡ it

abbrev pub IsSplitByMode : Data → Table → Type 0
IsSplitByMode spec table = (at : Codes) → IsTyped spec at → IsInOneRow table at

-- a condition of the row is true
abbrev pub any_cell : Data → Row → Codes → Bool
any_cell spec r s = list_any (cell_true spec Condition s s) r.cells

any_shifted : (p q : ℕ → Bool) → ((j : ℕ) → p (suc j) ≡ q j) → (a b n : ℕ) → suc a ≡ b → list_any p (range_with_len b n) ≡ list_any q (range_with_len a n)
any_shifted p q same a b zero e = refl
any_shifted p q same a b (suc n) e =
    let here : p b ≡ q a = ap p (sym e) ∙ same a in
    let rest = any_shifted p q same (a + 1) (b + 1) n (omega (arith, e)) in
    cc

-- a test of the items of a list, by their places
any_placed : {X : Type 0} (p : X → Bool) (xs : List X) → list_any (λ j. option_map_or p (slice_get xs j) false) (range_with_len 0 (length xs)) ≡ list_any p xs
any_placed p [] = refl
any_placed p (x ∷ xs) =
    ap (λ b. p x || b)
    (any_shifted (λ j. option_map_or p (slice_get (x ∷ xs) j) false) (λ j. option_map_or p (slice_get xs j) false) (λ j. refl) 0 1 (length xs) refl ∙ any_placed p xs)

list_any-and : {X : Type 0} (a : Bool) (q : X → Bool) (xs : List X) → list_any (λ x. a && q x) xs ≡ a && list_any q xs
list_any-and true q [] = refl
list_any-and false q [] = refl
list_any-and true q (x ∷ xs) = ap (λ b. q x || b) (list_any-and true q xs)
list_any-and false q (x ∷ xs) = list_any-and false q xs

-- some cell of the row holds
abbrev pub holds_row : Data → Table → Codes → Row → Bool
holds_row spec table s r = list_any (λ column. row_cell_true spec table s s column r) (range_with_len 0 (length r.cells))

pub row_truth : (spec : Data) (table : Table) (s : Codes) (r : Row) → table.heading ≡ Condition → holds_row spec table s r ≡ in_modes table.class r.modes s && any_cell spec r s
row_truth spec table s r e =
    ap (λ h. list_any (λ column. in_modes table.class r.modes (looked_at h s s) && option_map_or (cell_true spec h s s) (slice_get r.cells column) false) (range_with_len 0 (length r.cells))) e
    ∙ list_any-and (in_modes table.class r.modes s) (λ j. option_map_or (cell_true spec Condition s s) (slice_get r.cells j) false) (range_with_len 0 (length r.cells))
    ∙ ap (λ b. in_modes table.class r.modes s && b) (any_placed (cell_true spec Condition s s) r.cells)

pub any_found : {X : Type 0} (p : X → Bool) (xs : List X) → IsTrue (list_any p xs) → (k : ℕ) × (x : X) × (slice_get xs k ≡ Some x) × IsTrue (p x)
any_found p [] h = absurd (false_is_true h)
any_found p (x ∷ xs) h =
    elim (p x) as (λ b. p x ≡ b → b || list_any p xs ≡ true → (k : ℕ) × (y : _) × (slice_get (x ∷ xs) k ≡ Some y) × IsTrue (p y)) [
      | true ↦ λ e k. (0, x, refl, e)
      | false ↦ λ e k. let w = any_found p xs k in (suc w.0, w.1, w.2, w.3)
    ] refl h

pub any_there : {X : Type 0} (p : X → Bool) (xs : List X) (k : ℕ) (x : X) → slice_get xs k ≡ Some x → IsTrue (p x) → IsTrue (list_any p xs)
any_there p xs k x e h = list_any_at p xs k x (slice_get_within xs k x e) (ap p (get_or_from_slice_get xs k x x e) ∙ h)

pub false_unless : (b : Bool) → (b ≡ true → ⊥) → b ≡ false
false_unless true h = absurd (h refl)
false_unless false h = refl

pub true_unless : (b : Bool) → (b ≡ false → ⊥) → b ≡ true
true_unless true h = refl
true_unless false h = absurd (h refl)

pub both_true : (a b : Bool) → a ≡ true → b ≡ false → a && not b ≡ true
both_true a b e k = ap (λ c. c && not b) e ∙ ap not k

pub cover_found : (spec : Data) (table : Table) (s t : Codes) (o : Option Row) → IsTrue (holds_at (valuation_of s t) (option_map_or (gap_formula spec table) o False))
    → (r : Row) × (o ≡ Some r) × IsTrue (holds_at (valuation_of s t) (gap_formula spec table r))
cover_found spec table s t None h = absurd (false_is_true (sym (holds_at-False _) ∙ h))
cover_found spec table s t (Some r) h = (r, refl, h)

pub not_true : (b : Bool) → not b ≡ true → b ≡ true → ⊥
not_true true h e = false_is_true h
not_true false h e = false_is_true e

cover_one : (spec : Data) (table : Table) (order need : List ℕ) (row : ℕ) → HasNone spec order need table (cover_goal row) ↔ HasNoSolution spec (at_row table row (gap_formula spec table))
cover_one spec table order need row =
    let e : at_row table (row + 1 - 1) (gap_formula spec table) ≡ at_row table row (gap_formula spec table) = ap (λ n. at_row table n (gap_formula spec table)) (one_less row) in
    ((λ h. subst (HasNoSolution spec) e h), (λ h. subst (HasNoSolution spec) (sym e) h))

cover_list : (spec : Data) (table : Table) (order need : List ℕ)
    → Each (HasNone spec order need table) (flat_map (cover_goals Condition) (range_with_len 0 (length table.rows)))
    ↔ ((row : ℕ) → row < length table.rows → HasNoSolution spec (at_row table row (gap_formula spec table)))
cover_list spec table order need =
    let U = HasNone spec order need table in
    let V : ℕ → Type 0 = λ row. HasNoSolution spec (at_row table row (gap_formula spec table)) in
    chain (each_flat U (cover_goals Condition) (range_with_len 0 (length table.rows)))
    (chain (each_like (λ row. Each U (cover_goals Condition row)) V (λ row. let w = cover_one spec table order need row in ((λ h. w.0 h.0), (λ h. (w.1 h, tt)))) (range_with_len 0 (length table.rows)))
    (each_range V (length table.rows)))

-- no cover goal has a solution exactly where some cell holds in every typed state
pub cover_law : (spec : Data) (table : Table) (order need : List ℕ) → table.heading ≡ Condition → IsSplitByMode spec table
    → Each (HasNone spec order need table) (flat_map (cover_goals Condition) (range_with_len 0 (length table.rows))) ↔ IsCovering spec table
cover_law spec table order need e split =
    chain (cover_list spec table order need) (
      (λ none at typed.
          let w = split at typed in
          let cell : any_cell spec w.it at ≡ true = true_unless (any_cell spec w.it at) (λ f.
          let there : holds_at (valuation_of at at) (at_row table w.row (gap_formula spec table)) ≡ true
          = ap (λ o. holds_at (valuation_of at at) (option_map_or (gap_formula spec table) o False)) w.there ∙ holds_at-gap_formula spec table w.it at at ∙ both_true _ _ w.has f in
          none w.row (slice_get_within table.rows w.row w.it w.there) at at (record { old = typed; new = typed; truth = there })) in
          any_there (holds_row spec table at) table.rows w.row w.it w.there (row_truth spec table at w.it e ∙ ap (λ b. b && any_cell spec w.it at) w.has ∙ cell)),
      (λ covers row m s t solution.
          let c = cover_found spec table s t (slice_get table.rows row) solution.truth in
          let w = split s solution.old in
          let both = and_parts (in_modes table.class c.0.modes s) (not (any_cell spec c.0 s)) (sym (holds_at-gap_formula spec table c.0 s t) ∙ c.2) in
          let k = any_found (holds_row spec table s) table.rows (covers s solution.old) in
          let other = and_parts (in_modes table.class k.1.modes s) (any_cell spec k.1 s) (sym (row_truth spec table s k.1 e) ∙ k.3) in
          let same : k.1 ≡ c.0 = w.only k.0 k.1 k.2 other.0 ∙ sym (w.only row c.0 c.1 both.0) in
          not_true (any_cell spec c.0 s) both.1 (ap (λ r. any_cell spec r s) (sym same) ∙ other.1)),
    )
