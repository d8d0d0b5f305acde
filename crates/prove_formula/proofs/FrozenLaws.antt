-- The truth and the bounds of a formula in which the monitored variables but one are frozen.
use Rattle.std.proofs.Common.{◌≡◌, ◌≢◌, ℕ, ◌+◌, ◌-◌, ◌*◌, ◌/◌, ◌%◌, ◌+ℤ◌, ◌*ℤ◌, Bool, true, false, ◌&&◌, List, [], ◌∷◌, map, length, refl, sym, ap, subst, ◌∙◌, arith, IsTrue}
use Rattle.std.specs.Prelude.{if◌then◌else◌, unsigned_abs, sum_by, nat_lt, nat_le, IfOk, Result, Ok, Err}
use Rattle.std.specs.List.{list_all}
use Rattle.std.proofs.lemmas.Bool.Decides.{nat_tests}
use Rattle.std.proofs.lemmas.List.Folds.{list_all-map}
use Rattle.std.proofs.lemmas.List.Sums.{sum_by-cons}
use Rattle.base.specs.declared.memory.NoMemory.{NoMemory}
use Rattle.scr_spec.specs.Data.{Data}
use Rattle.scr_spec.specs.Meaning.{Codes, code_of}
use Rattle.scr_spec.specs.Over.{variable_bound}
use Rattle.scr_spec.specs.Relations.{is_monitored, KeepsOthers}
use Rattle.dd_formula.proofs.Lists.{list_any-map}
use Rattle.dd_formula.specs.declared.formula.Term.{Term}
use Rattle.dd_formula.specs.declared.formula.Linear.{Linear}
use Rattle.dd_formula.specs.declared.formula.Formula.{Formula, ind-Formula, roll-Formula, fold-roll-Formula}
use Rattle.dd_formula.specs.declared.formula.Formula.TheVariants as made
use Rattle.dd_formula.specs.declared.formula.Formula.TheVariants.{rolls-And, rolls-Or}
use Rattle.dd_formula.specs.declared.formula.Formula.TheOpen as layer
use Rattle.dd_formula.specs.declared.formula.Formula.TheFolds.{map-Formula}
use Rattle.dd_formula.specs.Truth.{Valuation, terms_value, meets_zero, holds_at, holds_step}
use Rattle.prove_formula.specs.Levels.{valuation_of}
use Rattle.prove_formula.specs.Measure.{term_measure, is_own_level, is_atom_within}
use Rattle.dd_formula.specs.Measure.{atoms_step, all_atoms}
use Rattle.prove_formula.specs.Frozen.{is_frozen, frozen_level, frozen_term, frozen_atom, frozen_step, frozen, HasTruthWhereKept, HasBoundsOf}
use Rattle.dd_formula.proofs.Totals.{total, term_value, fold_total}
use Rattle.dd_formula.proofs.FormulaLaws.{holds_at-True, holds_at-False, holds_at-Atom, holds_at-Not, holds_at-And, holds_at-Or, all_atoms-True, all_atoms-False, all_atoms-Atom, all_atoms-Not, all_atoms-And, all_atoms-Or}

-- ---- members

pub frozen-And : (spec : Data) (x : ℕ) (fs : List Formula) → frozen spec x (made.And fs) ≡ made.And (map (frozen spec x) fs)
frozen-And spec x fs = ap (frozen spec x) (sym (rolls-And fs)) ∙ fold-roll-Formula Formula (frozen_step spec x) (layer.And fs)

pub frozen-Or : (spec : Data) (x : ℕ) (fs : List Formula) → frozen spec x (made.Or fs) ≡ made.Or (map (frozen spec x) fs)
frozen-Or spec x fs = ap (frozen spec x) (sym (rolls-Or fs)) ∙ fold-roll-Formula Formula (frozen_step spec x) (layer.Or fs)

pub ruleset frozen_laws = (frozen-And, frozen-Or)

-- what holds of each member holds of the list
mapped_list : {E : Type 0} (p : E → Formula) (h : Formula → Bool) (f : Formula → Formula) (g : Formula → Bool) → ((e : E) → h (f (p e)) ≡ g (p e))
    → (es : List E) → map h (map f (map p es)) ≡ map g (map p es)
mapped_list p h f g same [] = refl
mapped_list p h f g same (e ∷ es) = let here = same e in let rest = mapped_list p h f g same es in cc

-- what holds of each member holds of the layer
mapped : {E : Type 0} (p : E → Formula) (h : Formula → Bool) (f : Formula → Formula) (g : Formula → Bool) → ((e : E) → h (f (p e)) ≡ g (p e))
    → (y : layer.Formula-F E) → map-Formula Formula Bool h (map-Formula Formula Formula f (map-Formula E Formula p y)) ≡ map-Formula Formula Bool g (map-Formula E Formula p y)
mapped p h f g same layer.True = refl
mapped p h f g same layer.False = refl
mapped p h f g same (layer.Atom a) = refl
mapped p h f g same (layer.Not e) = ap layer.Not (same e)
mapped p h f g same (layer.And es) = ap layer.And (mapped_list p h f g same es)
mapped p h f g same (layer.Or es) = ap layer.Or (mapped_list p h f g same es)

-- a test by layers, of the formula and of the one with frozen levels
pub folded : (spec : Data) (x : ℕ) (h g : Formula → Bool) (step : layer.Formula-F Bool → Bool)
    → ((f : layer.Formula-F Formula) → h (frozen_step spec x f) ≡ step (map-Formula Formula Bool h f))
    → ((z : layer.Formula-F Formula) → g (roll-Formula z) ≡ step (map-Formula Formula Bool g z))
    → (f : Formula) → h (frozen spec x f) ≡ g f
folded spec x h g step same rolls f =
    let m = frozen spec x in
    ind-Formula (λ d. h (m d) ≡ g d)
    (λ z y e.
    ap h (fold-roll-Formula Formula (frozen_step spec x) z)
    ∙ same (map-Formula Formula Formula m z)
    ∙ ap step (subst (λ w. map-Formula Formula Bool h (map-Formula Formula Formula m w) ≡ map-Formula Formula Bool g w) e (mapped (λ d. d.0) h m g (λ d. d.1) y))
    ∙ sym (rolls z))
    f

-- ---- truth

total_frozen : (spec : Data) (x : ℕ) (val other : Valuation) → ((l : ℕ) → val (frozen_level spec x l) ≡ other l) → (ts : List Term)
    → total (term_value val) (map (frozen_term spec x) ts) ≡ total (term_value other) ts
total_frozen spec x val other same [] = refl
total_frozen spec x val other same (t ∷ ts) =
    let here : term_value val (frozen_term spec x t) ≡ term_value other t = ap (λ z. t.factor *ℤ z) (same t.level) in
    let rest = total_frozen spec x val other same ts in
    ap (λ z. z +ℤ total (term_value val) (map (frozen_term spec x) ts)) here ∙ ap (λ z. term_value other t +ℤ z) rest

terms_frozen : (spec : Data) (x : ℕ) (val other : Valuation) → ((l : ℕ) → val (frozen_level spec x l) ≡ other l) → (ts : List Term)
    → terms_value val (map (frozen_term spec x) ts) ≡ terms_value other ts
terms_frozen spec x val other same ts =
    fold_total (term_value val) (map (frozen_term spec x) ts) ∙ total_frozen spec x val other same ts ∙ sym (fold_total (term_value other) ts)

truth_step : (spec : Data) (x : ℕ) (val other : Valuation) → ((l : ℕ) → val (frozen_level spec x l) ≡ other l) → (f : layer.Formula-F Formula)
    → holds_at val (frozen_step spec x f) ≡ holds_step other (map-Formula Formula Bool (holds_at val) f)
truth_step spec x val other same layer.True = holds_at-True val
truth_step spec x val other same layer.False = holds_at-False val
truth_step spec x val other same (layer.Atom a) =
    holds_at-Atom val (frozen_atom spec x a) ∙ ap (λ z. meets_zero a.op (z +ℤ a.constant)) (terms_frozen spec x val other same a.terms)
truth_step spec x val other same (layer.Not f) = holds_at-Not val f
truth_step spec x val other same (layer.And fs) = holds_at-And val fs ∙ sym (list_all-map (λ t. t) (holds_at val) fs)
truth_step spec x val other same (layer.Or fs) = holds_at-Or val fs ∙ sym (list_any-map (λ t. t) (holds_at val) fs)

-- the formula with frozen levels reads each level where it was moved to
pub holds_at-frozen : (spec : Data) (x : ℕ) (val other : Valuation) → ((l : ℕ) → val (frozen_level spec x l) ≡ other l) → (f : Formula)
    → holds_at val (frozen spec x f) ≡ holds_at other f
holds_at-frozen spec x val other same f =
    folded spec x (holds_at val) (holds_at other) (holds_step other) (truth_step spec x val other same) (fold-roll-Formula Bool (holds_step other)) f

-- the new level of a variable that keeps its code has the code of the old one
moved_if : (s t : Codes) (l : ℕ) (b : Bool) → (b ≡ true → (l % 2 ≡ 1) × (code_of t (l / 2) ≡ code_of s (l / 2))) → valuation_of s t (if b then l - 1 else l) ≡ valuation_of s t l
moved_if s t l false h = refl
moved_if s t l true h =
    let k = h refl in
    let odd = k.0 in
    let even : (l - 1) % 2 ≡ 0 = omega (arith, odd) in
    let half : (l - 1) / 2 ≡ l / 2 = omega (arith, odd) in
    rw (even, odd, half) (sym k.1)

frozen_means : (spec : Data) (x l : ℕ) → is_frozen spec x l ≡ true → (l % 2 ≡ 1) × (l / 2 ≢ x) × IsTrue (is_monitored spec (l / 2))
frozen_means spec x l h = grind (arith, nat_tests)

level_kept : (spec : Data) (x : ℕ) (s t : Codes) → KeepsOthers spec x s t → (l : ℕ) → valuation_of s t (frozen_level spec x l) ≡ valuation_of s t l
level_kept spec x s t keeps l =
    moved_if s t l (is_frozen spec x l) (λ h. let m = frozen_means spec x l h in (m.0, keeps (l / 2) m.1 m.2))

frozen_truth : (spec : Data) (x : ℕ) (f : Formula) → HasTruthWhereKept spec x f (frozen spec x f)
frozen_truth spec x f s t keeps = holds_at-frozen spec x (valuation_of s t) (valuation_of s t) (level_kept spec x s t keeps) f

-- ---- bounds

frozen_half : (l : ℕ) (b : Bool) → (b ≡ true → l % 2 ≡ 1) → (if b then l - 1 else l) / 2 ≡ l / 2
frozen_half l true h = let odd = h refl in omega (arith, odd)
frozen_half l false h = refl

level_half : (spec : Data) (x l : ℕ) → frozen_level spec x l / 2 ≡ l / 2
level_half spec x l = frozen_half l (is_frozen spec x l) (λ h. (frozen_means spec x l h).0)

own_half : (l m n : ℕ) → l / 2 ≡ m / 2 → nat_lt l (2 * n) ≡ nat_lt m (2 * n)
own_half l m n e = grind (arith, nat_tests)

own_frozen : (spec : Data) (x : ℕ) (ts : List Term) → list_all (is_own_level spec) (map (frozen_term spec x) ts) ≡ list_all (is_own_level spec) ts
own_frozen spec x [] = refl
own_frozen spec x (t ∷ ts) =
    let here = own_half (frozen_level spec x t.level) t.level (length spec.variables) (level_half spec x t.level) in
    let rest = own_frozen spec x ts in
    cc

term_measure_frozen : (spec : Data) (x : ℕ) (t : Term) → term_measure spec (frozen_term spec x t) ≡ term_measure spec t
term_measure_frozen spec x t = ap (λ v. unsigned_abs t.factor * variable_bound spec v) (level_half spec x t.level)

terms_measure_frozen : (spec : Data) (x : ℕ) (ts : List Term) → sum_by (term_measure spec) (map (frozen_term spec x) ts) ≡ sum_by (term_measure spec) ts
terms_measure_frozen spec x [] = refl
terms_measure_frozen spec x (t ∷ ts) =
    let here = term_measure_frozen spec x t in
    let rest = terms_measure_frozen spec x ts in
    let left = sum_by-cons (term_measure spec) (frozen_term spec x t) (map (frozen_term spec x) ts) in
    let right = sum_by-cons (term_measure spec) t ts in
    omega (arith, here, rest, left, right)

atom_bounds : (spec : Data) (x n : ℕ) (a : Linear) → is_atom_within spec n (frozen_atom spec x a) ≡ is_atom_within spec n a
atom_bounds spec x n a =
    ap (λ b. b && nat_le (unsigned_abs a.constant + sum_by (term_measure spec) (map (frozen_term spec x) a.terms)) n) (own_frozen spec x a.terms)
    ∙ ap (λ m. list_all (is_own_level spec) a.terms && nat_le (unsigned_abs a.constant + m) n) (terms_measure_frozen spec x a.terms)

bounds_step : (spec : Data) (x n : ℕ) (f : layer.Formula-F Formula)
    → all_atoms (is_atom_within spec n) (frozen_step spec x f) ≡ atoms_step (is_atom_within spec n) (map-Formula Formula Bool (all_atoms (is_atom_within spec n)) f)
bounds_step spec x n layer.True = all_atoms-True _
bounds_step spec x n layer.False = all_atoms-False _
bounds_step spec x n (layer.Atom a) = all_atoms-Atom _ (frozen_atom spec x a) ∙ atom_bounds spec x n a
bounds_step spec x n (layer.Not f) = all_atoms-Not _ f
bounds_step spec x n (layer.And fs) = all_atoms-And _ fs ∙ sym (list_all-map (λ t. t) _ fs)
bounds_step spec x n (layer.Or fs) = all_atoms-Or _ fs ∙ sym (list_all-map (λ t. t) _ fs)

-- frozen levels have the same bounds
pub frozen_bounds : (spec : Data) (x : ℕ) (f : Formula) → HasBoundsOf spec f (frozen spec x f)
frozen_bounds spec x f n =
    folded spec x (all_atoms (is_atom_within spec n)) (all_atoms (is_atom_within spec n)) (atoms_step (is_atom_within spec n)) (bounds_step spec x n) (fold-roll-Formula Bool (atoms_step (is_atom_within spec n))) f

-- ---- the laws of the call

pub truth_ok : (spec : Data) (x : ℕ) (f : Formula) (r : Result Formula NoMemory) → IfOk r (λ g. g ≡ frozen spec x f) → IfOk r (λ g. HasTruthWhereKept spec x f g)
truth_ok spec x f (Ok g) k = λ s t keeps. rw k (frozen_truth spec x f s t keeps)
truth_ok spec x f (Err e) k = k

pub bounds_ok : (spec : Data) (x : ℕ) (f : Formula) (r : Result Formula NoMemory) → IfOk r (λ g. g ≡ frozen spec x f) → IfOk r (λ g. HasBoundsOf spec f g)
bounds_ok spec x f (Ok g) k = λ n. rw k (frozen_bounds spec x f n)
bounds_ok spec x f (Err e) k = k
