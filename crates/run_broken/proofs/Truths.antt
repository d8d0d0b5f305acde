-- The condition is true on the slice that it needs where it is on the whole.
use Rattle.std.proofs.Common.{◌≡◌, ℕ, ◌<◌, pos, Bool, true, not, ◌&&◌, ◌||◌, List, [], ◌∷◌, map, length, refl, sym, ap, subst, ◌∙◌}
use Rattle.std.specs.Ordering.{int_eq}
use Rattle.std.specs.List.{list_all, list_any}
use Rattle.std.proofs.lemmas.Bool.{or_left, or_right, lt-ltb}
use Rattle.base.specs.declared.relation.Relation.{Relation}
use Rattle.base.specs.Relations.{stands_in}
use Rattle.scr_spec.specs.Data.{Data}
use Rattle.scr_spec.specs.declared.cond.Expr.{Expr}
use Rattle.scr_spec.specs.declared.cond.Cond.{Cond, fold-roll-Cond, ind-Cond}
use Rattle.scr_spec.specs.declared.cond.Cond.TheOpen as cond
use Rattle.scr_spec.specs.declared.cond.Cond.TheFolds.{map-Cond}
use Rattle.scr_spec.specs.Meaning.{Codes, side_value, is_true}
use Rattle.scr_spec.specs.Over.{is_cond_over}
use Rattle.scr_spec.specs.Sound.{IsSound}
use Rattle.scr_depend.specs.Graphs.{is_among}
use Rattle.scr_depend.proofs.Numbers.{passing_member, member_passing}
use Rattle.prove_formula.specs.Between.{between_step, is_true_between}
use Rattle.scr_slice.specs.Mentions.{side_mentions, mentions_step, cond_mentions}
use Rattle.scr_slice.specs.Renumbered.{side_with, step_with, cond_with}
use Rattle.scr_slice.specs.Slices.{AreKept, IsKeepable, number_in, kept_codes}
use Rattle.scr_slice.proofs.Declared.{cond_tells}
use Rattle.scr_slice.proofs.Moved.{MovesBoth, Each, named, side_moved, cond_moved}
use Rattle.scr_slice.proofs.Numbers.{number_code}
use Rattle.scr_slice.proofs.Over.{cond_over_at}
use Rattle.scr_slice.proofs.SliceLaws.{kept_is_keepable}
use Rattle.run_broken.specs.Slices.{mentioned_below, mentioned, IsSliceFor}

-- ---- two states

module _ (number : ℕ → ℕ) (spec other : Data) (same : other.constants ≡ spec.constants) (old new s t : Codes) where
  abbrev both : ℕ → Type 0
  both w = MovesBoth number old new s t w

  abbrev Moved : Cond → Type 0
  Moved c = Each (λ w. cond_mentions w c) both → is_true_between other s t (cond_with number c) ≡ is_true_between spec old new c

  compare_moved : (l : Expr) (r : Relation) (m : Expr) → Each (λ w. side_mentions w l || side_mentions w m) both
      → stands_in r (side_value other s t (side_with number l)) (side_value other s t (side_with number m)) ≡ stands_in r (side_value spec old new l) (side_value spec old new m)
  compare_moved l r m h =
      ap (λ z. stands_in r z (side_value other s t (side_with number m))) (side_moved number spec other same old new s t l (λ w k. h w (or_left (side_mentions w l) (side_mentions w m) k)))
      ∙ ap (λ z. stands_in r (side_value spec old new l) z) (side_moved number spec other same old new s t m (λ w k. h w (or_right (side_mentions w l) (side_mentions w m) k)))

  members_all : {E : Type 0} (p : E → Cond) → ((e : E) → Moved (p e)) → (es : List E) → ((w : ℕ) → list_any (λ b. b) (map (cond_mentions w) (map p es)) ≡ true → both w)
      → list_all (λ b. b) (map (is_true_between other s t) (map (cond_with number) (map p es))) ≡ list_all (λ b. b) (map (is_true_between spec old new) (map p es))
  members_all p each [] h = refl
  members_all p each (e ∷ es) h =
      let rest = λ (w : ℕ). list_any (λ b. b) (map (cond_mentions w) (map p es)) in
      ap (λ b. b && list_all (λ c. c) (map (is_true_between other s t) (map (cond_with number) (map p es)))) (each e (λ w k. h w (or_left (cond_mentions w (p e)) (rest w) k)))
      ∙ ap (λ b. is_true_between spec old new (p e) && b) (members_all p each es (λ w k. h w (or_right (cond_mentions w (p e)) (rest w) k)))

  members_any : {E : Type 0} (p : E → Cond) → ((e : E) → Moved (p e)) → (es : List E) → ((w : ℕ) → list_any (λ b. b) (map (cond_mentions w) (map p es)) ≡ true → both w)
      → list_any (λ b. b) (map (is_true_between other s t) (map (cond_with number) (map p es))) ≡ list_any (λ b. b) (map (is_true_between spec old new) (map p es))
  members_any p each [] h = refl
  members_any p each (e ∷ es) h =
      let rest = λ (w : ℕ). list_any (λ b. b) (map (cond_mentions w) (map p es)) in
      ap (λ b. b || list_any (λ c. c) (map (is_true_between other s t) (map (cond_with number) (map p es)))) (each e (λ w k. h w (or_left (cond_mentions w (p e)) (rest w) k)))
      ∙ ap (λ b. is_true_between spec old new (p e) || b) (members_any p each es (λ w k. h w (or_right (cond_mentions w (p e)) (rest w) k)))

  layer_moved : {E : Type 0} (p : E → Cond) → ((e : E) → Moved (p e)) → (y : cond.Cond-F E)
      → ((w : ℕ) → mentions_step w (map-Cond Cond Bool (cond_mentions w) (map-Cond E Cond p y)) ≡ true → both w)
      → is_true_between other s t (step_with number (map-Cond Cond Cond (cond_with number) (map-Cond E Cond p y)))
      ≡ between_step spec old new (map-Cond Cond Bool (is_true_between spec old new) (map-Cond E Cond p y))
  layer_moved p each (cond.Truth b) h = fold-roll-Cond Bool (between_step other s t) (cond.Truth b)
  layer_moved p each (cond.Holds v) h = fold-roll-Cond Bool (between_step other s t) (cond.Holds (number v)) ∙ ap (λ z. int_eq z (pos 1)) ((named both v h).before)
  layer_moved p each (cond.Compare l r m) h = fold-roll-Cond Bool (between_step other s t) (cond.Compare (side_with number l) r (side_with number m)) ∙ compare_moved l r m h
  layer_moved p each (cond.Not e) h = fold-roll-Cond Bool (between_step other s t) (cond.Not (cond_with number (p e))) ∙ ap not (each e h)
  layer_moved p each (cond.And es) h = fold-roll-Cond Bool (between_step other s t) (cond.And (map (cond_with number) (map p es))) ∙ members_all p each es h
  layer_moved p each (cond.Or es) h = fold-roll-Cond Bool (between_step other s t) (cond.Or (map (cond_with number) (map p es))) ∙ members_any p each es h

  between_moved : (c : Cond) → Moved c
  between_moved c =
      ind-Cond Moved
      (λ x y e h.
      ap (is_true_between other s t) (fold-roll-Cond Cond (step_with number) x)
      ∙ subst (λ z. ((w : ℕ) → mentions_step w (map-Cond Cond Bool (cond_mentions w) z) ≡ true → both w)
      → is_true_between other s t (step_with number (map-Cond Cond Cond (cond_with number) z)) ≡ between_step spec old new (map-Cond Cond Bool (is_true_between spec old new) z)) e
      (layer_moved (λ d. d.0) (λ d. d.1) y)
      (λ w k. h w (fold-roll-Cond Bool (mentions_step w) x ∙ k))
      ∙ sym (fold-roll-Cond Bool (between_step spec old new) x))
      c

-- ---- the slice that a condition needs

mentioned_among : (n w : ℕ) (c : Cond) → w < n → cond_mentions w c ≡ true → is_among (mentioned_below n c) w ≡ true
unfolding mentioned_below
mentioned_among n w c below m = member_passing (λ u. cond_mentions u c) n w below m

pub among_mentioned : (n w : ℕ) (c : Cond) → is_among (mentioned_below n c) w ≡ true → w < n
unfolding mentioned_below
among_mentioned n w c h = (passing_member (λ u. cond_mentions u c) n w h).0

module _ (spec : Data) (c : Cond) where
  -- what is kept can be
  pub names_declared : (v : ℕ) → is_among (mentioned spec c) v ≡ true → v < length spec.variables
  names_declared v h = among_mentioned (length spec.variables) v c h

  pub kept_keepable : (keep : List ℕ) → AreKept spec (mentioned spec c) keep → IsSound spec → IsKeepable spec keep
  kept_keepable keep kept sound = kept_is_keepable.keepable spec (mentioned spec c) keep sound (λ v h. lt-ltb v (length spec.variables) (names_declared v h)) kept

  module _ (keep : List ℕ) (slice : Data) (need : IsSliceFor spec c keep slice) where
    pub keepable : IsSound spec → IsKeepable spec keep
    keepable sound = kept_keepable keep need.kept sound

    module _ (over : is_cond_over spec c ≡ true) where
      mentioned_kept : (w : ℕ) → cond_mentions w c ≡ true → is_among keep w ≡ true
      mentioned_kept w m = need.kept.named w (mentioned_among (length spec.variables) w c (cond_tells spec w c over m) m)

      pub truth_kept : (at : Codes) → is_true slice (kept_codes keep at) (cond_with (number_in keep) c) ≡ is_true spec at c
      truth_kept at = cond_moved (number_in keep) spec slice need.sliced.constants at (kept_codes keep at) c (λ w m. number_code keep at w (mentioned_kept w m))

      pub between_kept : (old new : Codes) → is_true_between slice (kept_codes keep old) (kept_codes keep new) (cond_with (number_in keep) c) ≡ is_true_between spec old new c
      between_kept old new =
          between_moved (number_in keep) spec slice need.sliced.constants old new (kept_codes keep old) (kept_codes keep new) c
          (λ w m. record { before = number_code keep old w (mentioned_kept w m); after = number_code keep new w (mentioned_kept w m) })

      pub over_kept : IsSound spec → is_cond_over slice (cond_with (number_in keep) c) ≡ true
      over_kept sound = cond_over_at spec keep slice need.sliced (keepable sound) c (λ w m. mentioned_kept w m) ∙ over
