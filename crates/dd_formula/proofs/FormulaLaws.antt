-- The truth of a formula, and a test of its atoms, by its members.
use Rattle.std.proofs.Common.{◌≡◌, Bool, true, false, not, ◌&&◌, ◌||◌, List, [], ◌∷◌, refl, sym, ap, ◌∙◌}
use Rattle.std.specs.List.{list_all, list_any}
use Rattle.std.proofs.lemmas.List.Folds.{list_all-map}
use Rattle.dd_formula.proofs.Lists.{list_any-map}
use Rattle.dd_formula.specs.declared.formula.Linear.{Linear}
use Rattle.dd_formula.specs.declared.formula.Formula.{Formula, fold-roll-Formula}
use Rattle.dd_formula.specs.declared.formula.Formula.TheVariants.{True, False, Atom, Not, And, Or, rolls-True, rolls-False, rolls-Atom, rolls-Not, rolls-And, rolls-Or}
use Rattle.dd_formula.specs.declared.formula.Formula.TheOpen as layer
use Rattle.dd_formula.specs.Truth.{Valuation, holds_at, holds_step, atom_holds}
use Rattle.dd_formula.specs.Joined.{all_of, any_of}
use Rattle.dd_formula.specs.Measure.{all_atoms, atoms_step}

-- True is true
pub holds_at-True : (val : Valuation) → holds_at val True ≡ true
holds_at-True val = ap (holds_at val) (sym rolls-True) ∙ fold-roll-Formula Bool (holds_step val) layer.True

-- False is not
pub holds_at-False : (val : Valuation) → holds_at val False ≡ false
holds_at-False val = ap (holds_at val) (sym rolls-False) ∙ fold-roll-Formula Bool (holds_step val) layer.False

-- an atom
pub holds_at-Atom : (val : Valuation) (a : Linear) → holds_at val (Atom a) ≡ atom_holds val a
holds_at-Atom val a = ap (holds_at val) (sym (rolls-Atom a)) ∙ fold-roll-Formula Bool (holds_step val) (layer.Atom a)

-- a negation is true where its member is not
pub holds_at-Not : (val : Valuation) (f : Formula) → holds_at val (Not f) ≡ not (holds_at val f)
holds_at-Not val f = ap (holds_at val) (sym (rolls-Not f)) ∙ fold-roll-Formula Bool (holds_step val) (layer.Not f)

-- And is true where each member is
pub holds_at-And : (val : Valuation) (fs : List Formula) → holds_at val (And fs) ≡ list_all (holds_at val) fs
holds_at-And val fs =
    ap (holds_at val) (sym (rolls-And fs)) ∙ fold-roll-Formula Bool (holds_step val) (layer.And fs) ∙ list_all-map (λ t. t) (holds_at val) fs

-- Or is true where some member is
pub holds_at-Or : (val : Valuation) (fs : List Formula) → holds_at val (Or fs) ≡ list_any (holds_at val) fs
holds_at-Or val fs =
    ap (holds_at val) (sym (rolls-Or fs)) ∙ fold-roll-Formula Bool (holds_step val) (layer.Or fs) ∙ list_any-map (λ t. t) (holds_at val) fs

-- formulas joined by and
pub holds_at-all_of : (val : Valuation) (fs : List Formula) → holds_at val (all_of fs) ≡ list_all (holds_at val) fs
holds_at-all_of val [] = holds_at-True val
holds_at-all_of val (f ∷ []) = elim (holds_at val f) as (λ b. b ≡ b && true) [ true ↦ refl | false ↦ refl ]
holds_at-all_of val (f ∷ g ∷ fs) = holds_at-And val (f ∷ g ∷ fs)

-- formulas joined by or
pub holds_at-any_of : (val : Valuation) (fs : List Formula) → holds_at val (any_of fs) ≡ list_any (holds_at val) fs
holds_at-any_of val [] = holds_at-False val
holds_at-any_of val (f ∷ []) = elim (holds_at val f) as (λ b. b ≡ b || false) [ true ↦ refl | false ↦ refl ]
holds_at-any_of val (f ∷ g ∷ fs) = holds_at-Or val (f ∷ g ∷ fs)

-- True has no atom
pub all_atoms-True : (p : Linear → Bool) → all_atoms p True ≡ true
all_atoms-True p = ap (all_atoms p) (sym rolls-True) ∙ fold-roll-Formula Bool (atoms_step p) layer.True

-- False has none
pub all_atoms-False : (p : Linear → Bool) → all_atoms p False ≡ true
all_atoms-False p = ap (all_atoms p) (sym rolls-False) ∙ fold-roll-Formula Bool (atoms_step p) layer.False

-- an atom is its own
pub all_atoms-Atom : (p : Linear → Bool) (a : Linear) → all_atoms p (Atom a) ≡ p a
all_atoms-Atom p a = ap (all_atoms p) (sym (rolls-Atom a)) ∙ fold-roll-Formula Bool (atoms_step p) (layer.Atom a)

-- a negation has those of its member
pub all_atoms-Not : (p : Linear → Bool) (f : Formula) → all_atoms p (Not f) ≡ all_atoms p f
all_atoms-Not p f = ap (all_atoms p) (sym (rolls-Not f)) ∙ fold-roll-Formula Bool (atoms_step p) (layer.Not f)

-- And has those of its members
pub all_atoms-And : (p : Linear → Bool) (fs : List Formula) → all_atoms p (And fs) ≡ list_all (all_atoms p) fs
all_atoms-And p fs =
    ap (all_atoms p) (sym (rolls-And fs)) ∙ fold-roll-Formula Bool (atoms_step p) (layer.And fs) ∙ list_all-map (λ t. t) (all_atoms p) fs

-- Or has those of its members
pub all_atoms-Or : (p : Linear → Bool) (fs : List Formula) → all_atoms p (Or fs) ≡ list_all (all_atoms p) fs
all_atoms-Or p fs =
    ap (all_atoms p) (sym (rolls-Or fs)) ∙ fold-roll-Formula Bool (atoms_step p) (layer.Or fs) ∙ list_all-map (λ t. t) (all_atoms p) fs

-- formulas joined by and
pub all_atoms-all_of : (p : Linear → Bool) (fs : List Formula) → all_atoms p (all_of fs) ≡ list_all (all_atoms p) fs
all_atoms-all_of p [] = all_atoms-True p
all_atoms-all_of p (f ∷ []) = elim (all_atoms p f) as (λ b. b ≡ b && true) [ true ↦ refl | false ↦ refl ]
all_atoms-all_of p (f ∷ g ∷ fs) = all_atoms-And p (f ∷ g ∷ fs)

-- formulas joined by or
pub all_atoms-any_of : (p : Linear → Bool) (fs : List Formula) → all_atoms p (any_of fs) ≡ list_all (all_atoms p) fs
all_atoms-any_of p [] = all_atoms-False p
all_atoms-any_of p (f ∷ []) = elim (all_atoms p f) as (λ b. b ≡ b && true) [ true ↦ refl | false ↦ refl ]
all_atoms-any_of p (f ∷ g ∷ fs) = all_atoms-Or p (f ∷ g ∷ fs)
