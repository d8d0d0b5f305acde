-- What going over exits adds, one after another.
use Rattle.std.proofs.Common.{◌≡◌, ℕ, ◌+◌, ◌<◌, ◌≤◌, List, [], ◌∷◌, ◌++◌, length, get_or, take, sym, ap, subst, ◌∙◌, append-nil}
use Rattle.std.specs.List.{flat_map}
use Rattle.std.proofs.lemmas.List.{take_more, take_all}
use Rattle.std.proofs.lemmas.List.Concat.{flat_map-append}
use Rattle.scr_spec.specs.declared.cond.Cond.{Cond}
use Rattle.scr_spec.specs.declared.table.Primitive.{Primitive}
use Rattle.prove_candidates.specs.New.{AddsNew}
use Rattle.prove_candidates.specs.Told.{exit_told}
use Rattle.prove_candidates.specs.Steps.{AddsExits}
use Rattle.prove_candidates.proofs.Listing.{adds_none, adds_append}

pub exits_none : (before after : List Cond) → after ≡ before → AddsExits before [] after
exits_none before after e = record { adds = adds_none before after e }

pub exits_append : (before middle after : List Cond) (ps qs : List Primitive) → AddsExits before ps middle → AddsExits middle qs after → AddsExits before (ps ++ qs) after
exits_append before middle after ps qs h k = record {
  adds = subst (λ cs. AddsNew before cs after) (sym (flat_map-append exit_told ps qs)) (adds_append (flat_map exit_told ps) (flat_map exit_told qs) h.adds k.adds);
}

exits_one : (before after : List Cond) (p : Primitive) → AddsNew before (exit_told p) after → AddsExits before (p ∷ []) after
exits_one before after p h = record { adds = subst (λ cs. AddsNew before cs after) (sym (append-nil (exit_told p))) h }

-- the next of a list of events
pub exits_next : (before middle after : List Cond) (ps : List Primitive) (i : ℕ) (p : Primitive) → i < length ps → p ≡ get_or ps i p → AddsExits before (take i ps) middle → AddsNew middle (exit_told p) after
    → AddsExits before (take (i + 1) ps) after
exits_next before middle after ps i p lt at h k =
    subst (λ qs. AddsExits before qs after) (ap (λ q. take i ps ++ q ∷ []) at ∙ sym (take_more ps i p lt)) (exits_append before middle after (take i ps) (p ∷ []) h (exits_one middle after p k))

-- those of the next of a list
pub exits_next_of : {X : Type 0} (g : X → List Primitive) (before middle after : List Cond) (xs : List X) (i : ℕ) (x : X) → i < length xs → x ≡ get_or xs i x
    → AddsExits before (flat_map g (take i xs)) middle → AddsExits middle (g x) after → AddsExits before (flat_map g (take (i + 1) xs)) after
exits_next_of g before middle after xs i x lt at h k =
    subst (λ qs. AddsExits before qs after)
    (ap (λ y. flat_map g (take i xs) ++ g y) at ∙ ap (λ qs. flat_map g (take i xs) ++ qs) (sym (append-nil (g (get_or xs i x))))
    ∙ sym (flat_map-append g (take i xs) (get_or xs i x ∷ [])) ∙ ap (flat_map g) (sym (take_more xs i x lt)))
    (exits_append before middle after (flat_map g (take i xs)) (g x) h k)

pub exits_all : (before after : List Cond) (ps : List Primitive) (i : ℕ) → length ps ≤ i → AddsExits before (take i ps) after → AddsExits before ps after
exits_all before after ps i le h = subst (λ qs. AddsExits before qs after) (take_all i ps le) h

pub exits_all_of : {X : Type 0} (g : X → List Primitive) (before after : List Cond) (xs : List X) (i : ℕ) → length xs ≤ i → AddsExits before (flat_map g (take i xs)) after → AddsExits before (flat_map g xs) after
exits_all_of g before after xs i le h = subst (λ ys. AddsExits before (flat_map g ys) after) (take_all i xs le) h

pub ruleset exit_laws = (exits_none, adds_none)

pub ruleset exit_steps = (exits_none, exits_next, exits_next_of, exits_all, exits_all_of)
