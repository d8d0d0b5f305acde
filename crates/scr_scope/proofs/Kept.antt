-- What each part of a condition keeps where it is resolved is kept by the whole condition. A test of the resolved
-- condition may need two tests of the draft.
use Rattle.std.proofs.Common.{◌≡◌, suc, Bool, true, List, [], ◌∷◌, map, length, refl, sym, ap, subst, ◌∙◌}
use Rattle.std.specs.List.{list_all}
use Rattle.std.proofs.lemmas.Bool.{and_parts}
use Rattle.base.specs.declared.relation.Relation.{Relation}
use Rattle.scr_spec.specs.declared.cond.Cond.{Cond, fold-Cond, fold-roll-Cond}
use Rattle.scr_spec.specs.declared.cond.Cond.TheVariants as c
use Rattle.scr_spec.specs.declared.cond.Cond.TheOpen as layer
use Rattle.scr_spec.proofs.Passing.{and_true}
use Rattle.scr_parse.specs.declared.draft.DraftSide.{DraftSide}
use Rattle.scr_parse.specs.declared.draft.DraftCond.{DraftCond, fold-DraftCond, fold-roll-DraftCond, ind-DraftCond}
use Rattle.scr_parse.specs.declared.draft.DraftCond.TheOpen as draft
use Rattle.scr_parse.specs.declared.draft.DraftCond.TheFolds.{map-DraftCond}
use Rattle.scr_scope.specs.declared.known.Known.{Known}
use Rattle.scr_scope.specs.Sides.{side_of}
use Rattle.scr_scope.specs.Conditions.{alone_of, cond_step, cond_of}

abbrev pub DraftTest : Type 0
DraftTest = draft.DraftCond-F Bool → Bool

abbrev pub CondTest : Type 0
CondTest = layer.Cond-F Bool → Bool

-- each of the last follows from its fellows
pub data Follow : List Bool → List Bool → List Bool → Type 0 where
  no_more : Follow [] [] []
  one_more : {r s t : Bool} {rs ss ts : List Bool} → (r ≡ true → s ≡ true → t ≡ true) → Follow rs ss ts → Follow (r ∷ rs) (s ∷ ss) (t ∷ ts)

pub all_follow : {rs ss ts : List Bool} → Follow rs ss ts → list_all (λ t. t) rs ≡ true → list_all (λ t. t) ss ≡ true → list_all (λ t. t) ts ≡ true
all_follow no_more h k = refl
all_follow {rs = r ∷ rs} {ss = s ∷ ss} (one_more f more) h k =
    let p = and_parts r (list_all (λ t. t) rs) h in
    let q = and_parts s (list_all (λ t. t) ss) k in
    and_true _ _ (f (p.0) (q.0)) (all_follow more (p.1) (q.1))

pub length_follow : {rs ss ts : List Bool} → Follow rs ss ts → length ts ≡ length rs
length_follow no_more = refl
length_follow (one_more f more) = ap suc (length_follow more)

-- each part keeps the tests e and f as the test g
pub record PartsKeep (known : Known) (e f : DraftTest) (g : CondTest) : Type 0 where
  pub alone : (side : DraftSide) → e (draft.Alone side) ≡ true → f (draft.Alone side) ≡ true → fold-Cond Bool g (alone_of known side.items) ≡ true
  pub compared : (l m : DraftSide) (r : Relation) → e (draft.Compare l r m) ≡ true → f (draft.Compare l r m) ≡ true → g (layer.Compare (side_of known l) r (side_of known m)) ≡ true
  pub negated : (r s t : Bool) → (r ≡ true → s ≡ true → t ≡ true) → e (draft.Not r) ≡ true → f (draft.Not s) ≡ true → g (layer.Not t) ≡ true
  pub joined_by_and : (rs ss ts : List Bool) → Follow rs ss ts → e (draft.And rs) ≡ true → f (draft.And ss) ≡ true → g (layer.And ts) ≡ true
  pub joined_by_or : (rs ss ts : List Bool) → Follow rs ss ts → e (draft.Or rs) ≡ true → f (draft.Or ss) ≡ true → g (layer.Or ts) ≡ true

abbrev Kept : Known → DraftTest → DraftTest → CondTest → DraftCond → Type 0
Kept known e f g d = fold-DraftCond Bool e d ≡ true → fold-DraftCond Bool f d ≡ true → fold-Cond Bool g (cond_of known d) ≡ true

abbrev Part : Known → DraftTest → DraftTest → CondTest → Type 0
Part known e f g = (d : DraftCond) × Kept known e f g d

members_follow : (known : Known) (e f : DraftTest) (g : CondTest) (ps : List (Part known e f g))
    → Follow (map (fold-DraftCond Bool e) (map (λ p. p.0) ps)) (map (fold-DraftCond Bool f) (map (λ p. p.0) ps)) (map (fold-Cond Bool g) (map (cond_of known) (map (λ p. p.0) ps)))
members_follow known e f g [] = no_more
members_follow known e f g (p ∷ ps) = one_more (p.1) (members_follow known e f g ps)

abbrev Layer : Known → DraftTest → DraftTest → CondTest → draft.DraftCond-F DraftCond → Type 0
Layer known e f g z =
    e (map-DraftCond DraftCond Bool (fold-DraftCond Bool e) z) ≡ true → f (map-DraftCond DraftCond Bool (fold-DraftCond Bool f) z) ≡ true
    → fold-Cond Bool g (cond_step known (map-DraftCond DraftCond Cond (cond_of known) z)) ≡ true

layer_kept : (known : Known) (e f : DraftTest) (g : CondTest) → PartsKeep known e f g → (y : draft.DraftCond-F (Part known e f g))
    → Layer known e f g (map-DraftCond (Part known e f g) DraftCond (λ p. p.0) y)
layer_kept known e f g keep (draft.Alone side) h k = keep.alone side h k
layer_kept known e f g keep (draft.Compare l r m) h k =
    ap (fold-Cond Bool g) (sym (c.rolls-Compare (side_of known l) r (side_of known m))) ∙ fold-roll-Cond Bool g (layer.Compare (side_of known l) r (side_of known m)) ∙ keep.compared l m r h k
layer_kept known e f g keep (draft.Not p) h k =
    ap (fold-Cond Bool g) (sym (c.rolls-Not (cond_of known p.0))) ∙ fold-roll-Cond Bool g (layer.Not (cond_of known p.0)) ∙ keep.negated _ _ _ (p.1) h k
layer_kept known e f g keep (draft.And ps) h k =
    let cs = map (cond_of known) (map (λ (p : Part known e f g). p.0) ps) in
    ap (fold-Cond Bool g) (sym (c.rolls-And cs)) ∙ fold-roll-Cond Bool g (layer.And cs) ∙ keep.joined_by_and _ _ _ (members_follow known e f g ps) h k
layer_kept known e f g keep (draft.Or ps) h k =
    let cs = map (cond_of known) (map (λ (p : Part known e f g). p.0) ps) in
    ap (fold-Cond Bool g) (sym (c.rolls-Or cs)) ∙ fold-roll-Cond Bool g (layer.Or cs) ∙ keep.joined_by_or _ _ _ (members_follow known e f g ps) h k

-- and so does the condition
pub cond_kept : (known : Known) (e f : DraftTest) (g : CondTest) → PartsKeep known e f g → (d : DraftCond) → Kept known e f g d
cond_kept known e f g keep d =
    ind-DraftCond (Kept known e f g)
    (λ x y q h k.
    ap (fold-Cond Bool g) (fold-roll-DraftCond Cond (cond_step known) x)
    ∙ subst (Layer known e f g) q (layer_kept known e f g keep y)
    (sym (fold-roll-DraftCond Bool e x) ∙ h)
    (sym (fold-roll-DraftCond Bool f x) ∙ k))
    d
