-- What passes at each level of a formula passes at one that occurs in it.
use Rattle.std.proofs.Common.{◌≡◌, ℕ, Bool, true, false, ◌||◌, List, [], ◌∷◌, map, cond, refl, sym, ap, ap₂, subst, ◌∙◌}
use Rattle.std.specs.Prelude.{◌==◌}
use Rattle.std.specs.List.{filter, list_all, list_any}
use Rattle.std.proofs.lemmas.Bool.{and_parts, false≢true, eqb-true}
use Rattle.dd_formula.specs.declared.formula.Term.{Term}
use Rattle.dd_formula.specs.declared.formula.Linear.{Linear}
use Rattle.dd_formula.specs.declared.formula.Formula.{Formula, ind-Formula, fold-roll-Formula}
use Rattle.dd_formula.specs.declared.formula.Formula.TheOpen as layer
use Rattle.dd_formula.specs.declared.formula.Formula.TheFolds.{map-Formula}
use Rattle.dd_formula.specs.Measure.{all_atoms, atoms_step}
use Rattle.prove_decide.specs.Readings.{occurs, occurs_step}

-- each level of the atom passes
abbrev pub terms_pass : (ℕ → Bool) → Linear → Bool
terms_pass p a = list_all (λ t. p t.level) a.terms

module _ (level : ℕ) (p : ℕ → Bool) where
  -- a level that occurs where all pass
  abbrev Passes : Formula → Type 0
  Passes f = occurs level f ≡ true → all_atoms (terms_pass p) f ≡ true → p level ≡ true

  pass_terms : (ts : List Term) → list_any (λ t. t.level == level) ts ≡ true → list_all (λ t. p t.level) ts ≡ true → p level ≡ true
  pass_terms [] h k = absurd (false≢true h)
  pass_terms (t ∷ ts) h k =
      let both = and_parts (p t.level) (list_all (λ t. p t.level) ts) k in
      elim (t.level == level) as (λ b. (t.level == level) ≡ b → (b || list_any (λ t. t.level == level) ts) ≡ true → p level ≡ true) [
        | true ↦ λ e g. ap p (sym (eqb-true t.level level e)) ∙ both.0
        | false ↦ λ e g. pass_terms ts g both.1
      ] refl h

  pass_members : {E : Type 0} (f : E → Formula) → ((e : E) → Passes (f e)) → (es : List E) → list_any (λ b. b) (map (occurs level) (map f es)) ≡ true
      → list_all (λ b. b) (map (all_atoms (terms_pass p)) (map f es)) ≡ true → p level ≡ true
  pass_members f each [] h k = absurd (false≢true h)
  pass_members f each (e ∷ es) h k =
      let rest = list_any (λ b. b) (map (occurs level) (map f es)) in
      let both = and_parts (all_atoms (terms_pass p) (f e)) (list_all (λ b. b) (map (all_atoms (terms_pass p)) (map f es))) k in
      elim (occurs level (f e)) as (λ b. occurs level (f e) ≡ b → (b || rest) ≡ true → p level ≡ true) [
        | true ↦ λ there g. each e there both.0
        | false ↦ λ other g. pass_members f each es g both.1
      ] refl h

  pass_layer : {E : Type 0} (f : E → Formula) → ((e : E) → Passes (f e)) → (y : layer.Formula-F E) → occurs_step level (map-Formula Formula Bool (occurs level) (map-Formula E Formula f y)) ≡ true
      → atoms_step (terms_pass p) (map-Formula Formula Bool (all_atoms (terms_pass p)) (map-Formula E Formula f y)) ≡ true → p level ≡ true
  pass_layer f each layer.True h k = absurd (false≢true h)
  pass_layer f each layer.False h k = absurd (false≢true h)
  pass_layer f each (layer.Atom a) h k = pass_terms a.terms h k
  pass_layer f each (layer.Not e) h k = each e h k
  pass_layer f each (layer.And es) h k = pass_members f each es h k
  pass_layer f each (layer.Or es) h k = pass_members f each es h k

  pub occurs_passes : (f : Formula) → Passes f
  occurs_passes f =
      ind-Formula Passes
      (λ x y e h k.
      subst (λ z. occurs_step level (map-Formula Formula Bool (occurs level) z) ≡ true → atoms_step (terms_pass p) (map-Formula Formula Bool (all_atoms (terms_pass p)) z) ≡ true → p level ≡ true) e
      (pass_layer (λ d. d.0) (λ d. d.1) y)
      (sym (fold-roll-Formula Bool (occurs_step level) x) ∙ h)
      (sym (fold-roll-Formula Bool (atoms_step (terms_pass p)) x) ∙ k))
      f

-- maps that agree where the test passes
pub same_filtered : {X : Type 0} (p : ℕ → Bool) (f g : ℕ → X) → ((l : ℕ) → p l ≡ true → f l ≡ g l) → (ls : List ℕ) → map f (filter p ls) ≡ map g (filter p ls)
same_filtered p f g same [] = refl
same_filtered p f g same (l ∷ ls) =
    elim (p l) as (λ b. p l ≡ b → map f (cond b (l ∷ filter p ls) (filter p ls)) ≡ map g (cond b (l ∷ filter p ls) (filter p ls))) [
      | true ↦ λ e. ap₂ (λ x xs. x ∷ xs) (same l e) (same_filtered p f g same ls)
      | false ↦ λ e. same_filtered p f g same ls
    ] refl
