-- What is counted or tested over a condition, and over the same with other numbers.
use Rattle.std.proofs.Common.{◌≡◌, ℕ, Bool, true, ◌&&◌, ◌||◌, List, [], ◌∷◌, map, refl, sym, ap, subst, ◌∙◌}
use Rattle.std.specs.List.{list_all, list_any}
use Rattle.std.proofs.lemmas.Bool.{or_left, or_right}
use Rattle.base.specs.declared.relation.Relation.{Relation}
use Rattle.scr_spec.specs.declared.cond.Expr.{Expr}
use Rattle.scr_spec.specs.declared.cond.Cond.{Cond, fold-Cond, fold-roll-Cond, ind-Cond}
use Rattle.scr_spec.specs.declared.cond.Cond.TheOpen as cond
use Rattle.scr_spec.specs.declared.cond.Cond.TheFolds.{map-Cond}
use Rattle.scr_slice.specs.Mentions.{side_mentions, mentions_step, cond_mentions}
use Rattle.scr_slice.specs.Renumbered.{side_with, step_with, cond_with}
use Rattle.scr_slice.proofs.Moved.{Each, named}

-- two measures that agree above the leaves, and at the leaves where what is mentioned passes
pub record Agree {X : Type 0} (number : ℕ → ℕ) (P : ℕ → Type 0) (f g : cond.Cond-F X → X) : Type 0 where
  pub truths : (b : Bool) → g (cond.Truth b) ≡ f (cond.Truth b)
  pub holds : (v : ℕ) → P v → g (cond.Holds (number v)) ≡ f (cond.Holds v)
  pub compares : (l : Expr) (r : Relation) (m : Expr) → Each (λ w. side_mentions w l || side_mentions w m) P → g (cond.Compare (side_with number l) r (side_with number m)) ≡ f (cond.Compare l r m)
  pub nots : (x : X) → g (cond.Not x) ≡ f (cond.Not x)
  pub ands : (xs : List X) → g (cond.And xs) ≡ f (cond.And xs)
  pub ors : (xs : List X) → g (cond.Or xs) ≡ f (cond.Or xs)

module _ {X : Type 0} (number : ℕ → ℕ) (P : ℕ → Type 0) (f g : cond.Cond-F X → X) (agree : Agree number P f g) where
  abbrev Same : Cond → Type 0
  Same c = fold-Cond X g (cond_with number c) ≡ fold-Cond X f c

  members_same : {E : Type 0} (p : E → Cond) → ((e : E) → Each (λ w. cond_mentions w (p e)) P → Same (p e)) → (es : List E)
      → ((w : ℕ) → list_any (λ b. b) (map (cond_mentions w) (map p es)) ≡ true → P w)
      → map (fold-Cond X g) (map (cond_with number) (map p es)) ≡ map (fold-Cond X f) (map p es)
  members_same p each [] h = refl
  members_same p each (e ∷ es) h =
      let rest = λ (w : ℕ). list_any (λ b. b) (map (cond_mentions w) (map p es)) in
      ap (λ x. x ∷ map (fold-Cond X g) (map (cond_with number) (map p es))) (each e (λ w k. h w (or_left (cond_mentions w (p e)) (rest w) k)))
      ∙ ap (λ xs. fold-Cond X f (p e) ∷ xs) (members_same p each es (λ w k. h w (or_right (cond_mentions w (p e)) (rest w) k)))

  layer_same : {E : Type 0} (p : E → Cond) → ((e : E) → Each (λ w. cond_mentions w (p e)) P → Same (p e)) → (y : cond.Cond-F E)
      → ((w : ℕ) → mentions_step w (map-Cond Cond Bool (cond_mentions w) (map-Cond E Cond p y)) ≡ true → P w)
      → fold-Cond X g (step_with number (map-Cond Cond Cond (cond_with number) (map-Cond E Cond p y))) ≡ f (map-Cond Cond X (fold-Cond X f) (map-Cond E Cond p y))
  layer_same p each (cond.Truth b) h = fold-roll-Cond X g (cond.Truth b) ∙ agree.truths b
  layer_same p each (cond.Holds v) h = fold-roll-Cond X g (cond.Holds (number v)) ∙ agree.holds v (named P v h)
  layer_same p each (cond.Compare l r m) h = fold-roll-Cond X g (cond.Compare (side_with number l) r (side_with number m)) ∙ agree.compares l r m h
  layer_same p each (cond.Not e) h = fold-roll-Cond X g (cond.Not (cond_with number (p e))) ∙ ap (λ x. g (cond.Not x)) (each e h) ∙ agree.nots (fold-Cond X f (p e))
  layer_same p each (cond.And es) h =
      fold-roll-Cond X g (cond.And (map (cond_with number) (map p es))) ∙ ap (λ xs. g (cond.And xs)) (members_same p each es h) ∙ agree.ands (map (fold-Cond X f) (map p es))
  layer_same p each (cond.Or es) h =
      fold-roll-Cond X g (cond.Or (map (cond_with number) (map p es))) ∙ ap (λ xs. g (cond.Or xs)) (members_same p each es h) ∙ agree.ors (map (fold-Cond X f) (map p es))

  pub cond_same : (c : Cond) → Each (λ w. cond_mentions w c) P → Same c
  cond_same c =
      ind-Cond (λ d. ((w : ℕ) → cond_mentions w d ≡ true → P w) → fold-Cond X g (cond_with number d) ≡ fold-Cond X f d)
      (λ x y e h.
      ap (fold-Cond X g) (fold-roll-Cond Cond (step_with number) x)
      ∙ subst (λ z. ((w : ℕ) → mentions_step w (map-Cond Cond Bool (cond_mentions w) z) ≡ true → P w)
      → fold-Cond X g (step_with number (map-Cond Cond Cond (cond_with number) z)) ≡ f (map-Cond Cond X (fold-Cond X f) z)) e
      (layer_same (λ d. d.0) (λ d. d.1) y)
      (λ w k. h w (fold-roll-Cond Bool (mentions_step w) x ∙ k))
      ∙ sym (fold-roll-Cond X f x))
      c

-- a test of all members, each of which mentions only what passes
pub all_moved : {X : Type 0} (m : ℕ → X → Bool) (P : ℕ → Type 0) (r : X → X) (f g : X → Bool) → ((x : X) → ((w : ℕ) → m w x ≡ true → P w) → g (r x) ≡ f x) → (xs : List X)
    → ((w : ℕ) → list_any (m w) xs ≡ true → P w) → list_all g (map r xs) ≡ list_all f xs
all_moved m P r f g one [] h = refl
all_moved m P r f g one (x ∷ xs) h =
    ap (λ b. b && list_all g (map r xs)) (one x (λ w e. h w (or_left (m w x) (list_any (m w) xs) e)))
    ∙ ap (λ b. f x && b) (all_moved m P r f g one xs (λ w e. h w (or_right (m w x) (list_any (m w) xs) e)))
