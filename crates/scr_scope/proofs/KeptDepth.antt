-- A resolved condition nests as deep as the one of the text.
use Rattle.std.proofs.Common.{◌≡◌, ℕ, Bool, true, false, ◌&&◌, List, [], ◌∷◌, map, refl, sym, ap, subst, ◌∙◌}
use Rattle.std.specs.Prelude.{nat_le}
use Rattle.base.specs.declared.relation.Relation.{Relation}
use Rattle.scr_spec.specs.declared.cond.Expr.{Expr}
use Rattle.scr_spec.specs.declared.cond.Operand.{Operand}
use Rattle.scr_spec.specs.declared.cond.Operand.TheVariants as made
use Rattle.scr_spec.specs.declared.cond.Cond.{Cond, fold-Cond, fold-roll-Cond}
use Rattle.scr_spec.specs.declared.cond.Cond.TheVariants as c
use Rattle.scr_spec.specs.declared.cond.Cond.TheOpen as layer
use Rattle.scr_spec.specs.Depth as spec
use Rattle.scr_parse.specs.declared.draft.DraftItem.{DraftItem}
use Rattle.scr_parse.specs.declared.draft.DraftSide.{DraftSide}
use Rattle.scr_parse.specs.declared.draft.DraftCond.{DraftCond, fold-DraftCond, fold-roll-DraftCond, ind-DraftCond}
use Rattle.scr_parse.specs.declared.draft.DraftCond.TheOpen as draft
use Rattle.scr_parse.specs.declared.draft.DraftCond.TheFolds.{map-DraftCond}
use Rattle.scr_parse.specs.Nesting.{nots_step, nots_deep, ands_step, ands_deep, ors_step, is_shallow}
use Rattle.scr_scope.specs.declared.known.Known.{Known}
use Rattle.scr_scope.specs.Sides.{operand_of, side_of}
use Rattle.scr_scope.specs.Conditions.{operand_cond, alone_of, cond_step, cond_of}

abbrev DraftNumber : Type 0
DraftNumber = draft.DraftCond-F ℕ → ℕ

abbrev CondNumber : Type 0
CondNumber = layer.Cond-F ℕ → ℕ

-- a number of a condition that is 0 at a leaf, and is told from those of the parts in the same way
record SameNumber (f : DraftNumber) (g : CondNumber) : Type 0 where
  alone : (side : DraftSide) → f (draft.Alone side) ≡ 0
  compared : (l m : DraftSide) (r : Relation) → f (draft.Compare l r m) ≡ 0
  truth : (b : Bool) → g (layer.Truth b) ≡ 0
  holds : (v : ℕ) → g (layer.Holds v) ≡ 0
  relates : (l m : Expr) (r : Relation) → g (layer.Compare l r m) ≡ 0
  negated : (n : ℕ) → g (layer.Not n) ≡ f (draft.Not n)
  joined_by_and : (ns : List ℕ) → g (layer.And ns) ≡ f (draft.And ns)
  joined_by_or : (ns : List ℕ) → g (layer.Or ns) ≡ f (draft.Or ns)

truth_zero : (f : DraftNumber) (g : CondNumber) → SameNumber f g → (b : Bool) → fold-Cond ℕ g (c.Truth b) ≡ 0
truth_zero f g same b = ap (fold-Cond ℕ g) (sym (c.rolls-Truth b)) ∙ fold-roll-Cond ℕ g (layer.Truth b) ∙ same.truth b

operand_zero : (f : DraftNumber) (g : CondNumber) → SameNumber f g → (o : Operand) → fold-Cond ℕ g (operand_cond o) ≡ 0
operand_zero f g same made.One = truth_zero f g same false
operand_zero f g same (made.Truth b) = truth_zero f g same b
operand_zero f g same (made.Constant k) = truth_zero f g same false
operand_zero f g same (made.Label owner code) = truth_zero f g same false
operand_zero f g same (made.Variable v) = ap (fold-Cond ℕ g) (sym (c.rolls-Holds v)) ∙ fold-roll-Cond ℕ g (layer.Holds v) ∙ same.holds v
operand_zero f g same (made.Primed v) = truth_zero f g same false

alone_zero : (known : Known) (f : DraftNumber) (g : CondNumber) → SameNumber f g → (items : List DraftItem) → fold-Cond ℕ g (alone_of known items) ≡ 0
alone_zero known f g same [] = truth_zero f g same false
alone_zero known f g same (i ∷ is) = operand_zero f g same (operand_of known i.operand)

abbrev Same : Known → DraftNumber → CondNumber → DraftCond → Type 0
Same known f g d = fold-Cond ℕ g (cond_of known d) ≡ fold-DraftCond ℕ f d

abbrev Part : Known → DraftNumber → CondNumber → Type 0
Part known f g = (d : DraftCond) × Same known f g d

members_same : (known : Known) (f : DraftNumber) (g : CondNumber) (ps : List (Part known f g))
    → map (fold-Cond ℕ g) (map (cond_of known) (map (λ p. p.0) ps)) ≡ map (fold-DraftCond ℕ f) (map (λ p. p.0) ps)
members_same known f g [] = refl
members_same known f g (p ∷ ps) =
    ap (λ n. n ∷ map (fold-Cond ℕ g) (map (cond_of known) (map (λ (p : Part known f g). p.0) ps))) (p.1)
    ∙ ap (λ ns. fold-DraftCond ℕ f (p.0) ∷ ns) (members_same known f g ps)

abbrev Layer : Known → DraftNumber → CondNumber → draft.DraftCond-F DraftCond → Type 0
Layer known f g z = fold-Cond ℕ g (cond_step known (map-DraftCond DraftCond Cond (cond_of known) z)) ≡ f (map-DraftCond DraftCond ℕ (fold-DraftCond ℕ f) z)

layer_same : (known : Known) (f : DraftNumber) (g : CondNumber) → SameNumber f g → (y : draft.DraftCond-F (Part known f g))
    → Layer known f g (map-DraftCond (Part known f g) DraftCond (λ p. p.0) y)
layer_same known f g same (draft.Alone side) = alone_zero known f g same side.items ∙ sym (same.alone side)
layer_same known f g same (draft.Compare l r m) =
    ap (fold-Cond ℕ g) (sym (c.rolls-Compare (side_of known l) r (side_of known m))) ∙ fold-roll-Cond ℕ g (layer.Compare (side_of known l) r (side_of known m))
    ∙ same.relates (side_of known l) (side_of known m) r ∙ sym (same.compared l m r)
layer_same known f g same (draft.Not p) =
    ap (fold-Cond ℕ g) (sym (c.rolls-Not (cond_of known p.0))) ∙ fold-roll-Cond ℕ g (layer.Not (cond_of known p.0)) ∙ same.negated _ ∙ ap (λ n. f (draft.Not n)) (p.1)
layer_same known f g same (draft.And ps) =
    let cs = map (cond_of known) (map (λ (p : Part known f g). p.0) ps) in
    ap (fold-Cond ℕ g) (sym (c.rolls-And cs)) ∙ fold-roll-Cond ℕ g (layer.And cs) ∙ same.joined_by_and _ ∙ ap (λ ns. f (draft.And ns)) (members_same known f g ps)
layer_same known f g same (draft.Or ps) =
    let cs = map (cond_of known) (map (λ (p : Part known f g). p.0) ps) in
    ap (fold-Cond ℕ g) (sym (c.rolls-Or cs)) ∙ fold-roll-Cond ℕ g (layer.Or cs) ∙ same.joined_by_or _ ∙ ap (λ ns. f (draft.Or ns)) (members_same known f g ps)

same_number : (known : Known) (f : DraftNumber) (g : CondNumber) → SameNumber f g → (d : DraftCond) → Same known f g d
same_number known f g same d =
    ind-DraftCond (Same known f g)
    (λ x y q.
    ap (fold-Cond ℕ g) (fold-roll-DraftCond Cond (cond_step known) x) ∙ subst (Layer known f g) q (layer_same known f g same y) ∙ sym (fold-roll-DraftCond ℕ f x))
    d

same_nots : SameNumber nots_step spec.nots_step
same_nots = record {
  alone = λ side. refl;
  compared = λ l m r. refl;
  truth = λ b. refl;
  holds = λ v. refl;
  relates = λ l m r. refl;
  negated = λ n. refl;
  joined_by_and = λ ns. refl;
  joined_by_or = λ ns. refl;
}

same_ands : SameNumber ands_step spec.ands_step
same_ands = record {
  alone = λ side. refl;
  compared = λ l m r. refl;
  truth = λ b. refl;
  holds = λ v. refl;
  relates = λ l m r. refl;
  negated = λ n. refl;
  joined_by_and = λ ns. refl;
  joined_by_or = λ ns. refl;
}

same_ors : SameNumber ors_step spec.ors_step
same_ors = record {
  alone = λ side. refl;
  compared = λ l m r. refl;
  truth = λ b. refl;
  holds = λ v. refl;
  relates = λ l m r. refl;
  negated = λ n. refl;
  joined_by_and = λ ns. refl;
  joined_by_or = λ ns. refl;
}

abbrev within_three : ℕ → ℕ → ℕ → Bool
within_three n a o = nat_le n 64 && nat_le a 65 && nat_le o 65

-- on each path at most 64 NOT, 65 AND and 65 OR
pub cond_shallow_kept : (known : Known) (d : DraftCond) → is_shallow d ≡ true → spec.is_shallow (cond_of known d) ≡ true
cond_shallow_kept known d h =
    ap (λ n. within_three n (spec.ands_deep (cond_of known d)) (spec.ors_deep (cond_of known d))) (same_number known nots_step spec.nots_step same_nots d)
    ∙ ap (λ a. within_three (nots_deep d) a (spec.ors_deep (cond_of known d))) (same_number known ands_step spec.ands_step same_ands d)
    ∙ ap (λ o. within_three (nots_deep d) (ands_deep d) o) (same_number known ors_step spec.ors_step same_ors d)
    ∙ h
