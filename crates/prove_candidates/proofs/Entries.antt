-- What going over entries adds, one after another.
use Rattle.std.proofs.Common.{◌≡◌, ℕ, ◌+◌, ◌<◌, ◌≤◌, Bool, true, false, ◌||◌, List, [], ◌∷◌, ◌++◌, length, get_or, take, map, refl, sym, ap, subst, ◌∙◌, append-nil, arith}
use Rattle.std.specs.List.{flat_map, list_any, range_with_len}
use Rattle.std.proofs.lemmas.List.{take_more, take_all}
use Rattle.std.proofs.lemmas.List.Concat.{flat_map-append}
use Rattle.std.proofs.lemmas.List.FromFn.{map-range_with_len_more}
use Rattle.scr_spec.specs.declared.cond.Cond.{Cond}
use Rattle.scr_spec.specs.declared.table.Primitive.{Primitive}
use Rattle.prove_candidates.specs.declared.entry.Entered.{Entered}
use Rattle.prove_candidates.specs.New.{AddsNew}
use Rattle.prove_candidates.specs.Told.{entry_told, entry_change, told_after, told_guard, is_silent, is_silent_change}
use Rattle.prove_candidates.specs.Steps.{AddsEntries}
use Rattle.prove_candidates.proofs.Listing.{adds_none, adds_append}

-- ---- whether some entry is silent

or_nothing : (a : Bool) → (a || false) ≡ a
or_nothing true = refl
or_nothing false = refl

or_later : (a b c : Bool) → ((a || b) || c) ≡ (a || (b || c))
or_later true b c = refl
or_later false b c = refl

any_append : {X : Type 0} (p : X → Bool) (xs ys : List X) → list_any p (xs ++ ys) ≡ (list_any p xs || list_any p ys)
any_append p [] ys = refl
any_append p (x ∷ xs) ys = ap (λ b. p x || b) (any_append p xs ys) ∙ sym (or_later (p x) (list_any p xs) (list_any p ys))

-- ---- entries

pub entries_none : (old new : Entered) → new ≡ old → AddsEntries old [] new
entries_none old new e = record {
  conditions = adds_none old.conditions new.conditions (ap (λ (t : Entered). t.conditions) e);
  changes = adds_none old.changes new.changes (ap (λ (t : Entered). t.changes) e);
  silent = ap (λ (t : Entered). t.silent) e ∙ sym (or_nothing old.silent);
}

-- one entry: its change to both lists, then the condition behind WHEN
pub entries_one : (old new : Entered) (p : Primitive) (middle : List Cond) → AddsNew old.changes (told_after p.change) new.changes → AddsNew old.conditions (told_after p.change) middle
    → AddsNew middle (told_guard p.guard) new.conditions → new.silent ≡ (old.silent || is_silent_change p.change) → AddsEntries old (p ∷ []) new
entries_one old new p middle changes after guard silent = record {
  conditions = subst (λ cs. AddsNew old.conditions cs new.conditions) (sym (append-nil (entry_told p))) (adds_append (told_after p.change) (told_guard p.guard) after guard);
  changes = subst (λ cs. AddsNew old.changes cs new.changes) (sym (append-nil (entry_change p))) changes;
  silent = silent ∙ ap (λ b. old.silent || b) (sym (or_nothing (is_silent p)));
}

pub entries_append : (old middle new : Entered) (ps qs : List Primitive) → AddsEntries old ps middle → AddsEntries middle qs new → AddsEntries old (ps ++ qs) new
entries_append old middle new ps qs h k = record {
  conditions = subst (λ cs. AddsNew old.conditions cs new.conditions) (sym (flat_map-append entry_told ps qs)) (adds_append (flat_map entry_told ps) (flat_map entry_told qs) h.conditions k.conditions);
  changes = subst (λ cs. AddsNew old.changes cs new.changes) (sym (flat_map-append entry_change ps qs)) (adds_append (flat_map entry_change ps) (flat_map entry_change qs) h.changes k.changes);
  silent =
      k.silent ∙ ap (λ b. b || list_any is_silent qs) h.silent ∙ or_later old.silent (list_any is_silent ps) (list_any is_silent qs)
      ∙ ap (λ b. old.silent || b) (sym (any_append is_silent ps qs));
}

-- the next of a list of events
pub entries_next : (old middle new : Entered) (ps : List Primitive) (i : ℕ) (p : Primitive) → i < length ps → p ≡ get_or ps i p → AddsEntries old (take i ps) middle → AddsEntries middle (p ∷ []) new
    → AddsEntries old (take (i + 1) ps) new
entries_next old middle new ps i p lt at h k =
    subst (λ qs. AddsEntries old qs new) (ap (λ q. take i ps ++ q ∷ []) at ∙ sym (take_more ps i p lt)) (entries_append old middle new (take i ps) (p ∷ []) h k)

-- those of the next of a list
pub entries_next_of : {X : Type 0} (g : X → List Primitive) (old middle new : Entered) (xs : List X) (i : ℕ) (x : X) → i < length xs → x ≡ get_or xs i x
    → AddsEntries old (flat_map g (take i xs)) middle → AddsEntries middle (g x) new → AddsEntries old (flat_map g (take (i + 1) xs)) new
entries_next_of g old middle new xs i x lt at h k =
    subst (λ qs. AddsEntries old qs new)
    (ap (λ y. flat_map g (take i xs) ++ g y) at ∙ ap (λ qs. flat_map g (take i xs) ++ qs) (sym (append-nil (g (get_or xs i x))))
    ∙ sym (flat_map-append g (take i xs) (get_or xs i x ∷ [])) ∙ ap (flat_map g) (sym (take_more xs i x lt)))
    (entries_append old middle new (flat_map g (take i xs)) (g x) h k)

-- a range with one number more
range_more : (n : ℕ) → range_with_len 0 (n + 1) ≡ range_with_len 0 n ++ n ∷ []
range_more n = sym (map_same (range_with_len 0 (n + 1))) ∙ map-range_with_len_more (λ x. x) 0 n n (omega arith) ∙ ap (λ xs. xs ++ n ∷ []) (map_same (range_with_len 0 n))
  where
    map_same : (xs : List ℕ) → map (λ x. x) xs ≡ xs
    map_same [] = refl
    map_same (x ∷ xs) = ap (λ ys. x ∷ ys) (map_same xs)

-- those of the next column
pub entries_next_column : (g : ℕ → List Primitive) (old middle new : Entered) (n : ℕ) → AddsEntries old (flat_map g (range_with_len 0 n)) middle → AddsEntries middle (g n) new
    → AddsEntries old (flat_map g (range_with_len 0 (n + 1))) new
entries_next_column g old middle new n h k =
    subst (λ qs. AddsEntries old qs new)
    (ap (λ qs. flat_map g (range_with_len 0 n) ++ qs) (sym (append-nil (g n))) ∙ sym (flat_map-append g (range_with_len 0 n) (n ∷ [])) ∙ ap (flat_map g) (sym (range_more n)))
    (entries_append old middle new (flat_map g (range_with_len 0 n)) (g n) h k)

pub entries_all : (old new : Entered) (ps : List Primitive) (i : ℕ) → length ps ≤ i → AddsEntries old (take i ps) new → AddsEntries old ps new
entries_all old new ps i le h = subst (λ qs. AddsEntries old qs new) (take_all i ps le) h

pub entries_all_of : {X : Type 0} (g : X → List Primitive) (old new : Entered) (xs : List X) (i : ℕ) → length xs ≤ i → AddsEntries old (flat_map g (take i xs)) new → AddsEntries old (flat_map g xs) new
entries_all_of g old new xs i le h = subst (λ ys. AddsEntries old (flat_map g ys) new) (take_all i xs le) h

pub ruleset entry_laws = (entries_none, entries_one)

pub ruleset entry_steps = (entries_none, entries_next, entries_next_of, entries_next_column, entries_all, entries_all_of)
