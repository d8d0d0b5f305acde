-- Where a test of atoms follows from another, so it does of all atoms of a formula.
use Rattle.std.proofs.Common.{◌≡◌, Bool, true, List, [], ◌∷◌, map, refl, sym, subst, ◌∙◌}
use Rattle.std.specs.List.{list_all}
use Rattle.std.proofs.lemmas.Bool.{and_parts, and_from}
use Rattle.dd_formula.specs.declared.formula.Linear.{Linear}
use Rattle.dd_formula.specs.declared.formula.Formula.{Formula, ind-Formula, fold-roll-Formula}
use Rattle.dd_formula.specs.declared.formula.Formula.TheOpen as layer
use Rattle.dd_formula.specs.declared.formula.Formula.TheFolds.{map-Formula}
use Rattle.dd_formula.specs.Measure.{atoms_step, all_atoms}

module _ (p q : Linear → Bool) (implies : (a : Linear) → p a ≡ true → q a ≡ true) where
  -- a formula of which it holds
  abbrev Implied : Type 0
  Implied = (f : Formula) × (all_atoms p f ≡ true → all_atoms q f ≡ true)

  members : (ds : List Implied) → list_all (λ b. b) (map (all_atoms p) (map (λ (d : Implied). d.0) ds)) ≡ true
      → list_all (λ b. b) (map (all_atoms q) (map (λ (d : Implied). d.0) ds)) ≡ true
  members [] h = refl
  members (d ∷ ds) h =
      let both = and_parts (all_atoms p d.0) (list_all (λ b. b) (map (all_atoms p) (map (λ (d : Implied). d.0) ds))) h in
      and_from _ _ (d.1 both.0) (members ds both.1)

  step : (y : layer.Formula-F Implied) → atoms_step p (map-Formula Formula Bool (all_atoms p) (map-Formula Implied Formula (λ (d : Implied). d.0) y)) ≡ true
      → atoms_step q (map-Formula Formula Bool (all_atoms q) (map-Formula Implied Formula (λ (d : Implied). d.0) y)) ≡ true
  step layer.True h = refl
  step layer.False h = refl
  step (layer.Atom a) h = implies a h
  step (layer.Not d) h = d.1 h
  step (layer.And ds) h = members ds h
  step (layer.Or ds) h = members ds h

  pub all_atoms-implies : (f : Formula) → all_atoms p f ≡ true → all_atoms q f ≡ true
  all_atoms-implies f =
      ind-Formula (λ g. all_atoms p g ≡ true → all_atoms q g ≡ true)
      (λ z y e h.
      fold-roll-Formula Bool (atoms_step q) z
      ∙ subst (λ w. atoms_step p (map-Formula Formula Bool (all_atoms p) w) ≡ true → atoms_step q (map-Formula Formula Bool (all_atoms q) w) ≡ true) e (step y)
      (sym (fold-roll-Formula Bool (atoms_step p) z) ∙ h))
      f
