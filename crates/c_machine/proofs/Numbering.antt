-- One name more, in a list and in the map from names to their ends in it.
use Rattle.std.specs.Prelude.{◌≡◌, ℕ, suc, ◌+◌, Bool, true, false, cond, List, [], ◌∷◌, ◌++◌, length, Option, Some, None}
use Rattle.std.specs.Option.{option_map, unwrap_or}
use Rattle.std.specs.List.{position_from}
use Rattle.std.specs.Str.{bytes_eq}
use Rattle.std.specs.declared.vec.Vec.{Vec}
use Rattle.std.specs.declared.alloc.Global.{Global}
use Rattle.std.proofs.Common.{refl, sym, ap, ◌∙◌, arith}
use Rattle.std.proofs.lemmas.Iterator.Adapters.{position_from-zero}
use Rattle.std.proofs.lemmas.Bool.{false_from_ne_true}
use Rattle.std.proofs.lemmas.Slice.Eq.{bytes_eq-Decides}
use Rattle.indexmap.specs.IndexMap.{insert_entry}
use Rattle.c_subset.specs.Meaning.{place_of}
use Rattle.c_machine.specs.declared.places.Ends.{Ends}
use Rattle.c_machine.specs.Last.{last_place}
use Rattle.c_machine.specs.Places.{Entry, ends_of, HasEnds}
use Rattle.c_machine.proofs.LastPlace.{last_place-push}

same_way : (a b : List ℕ) (c : Bool) → bytes_eq a b ≡ c → bytes_eq b a ≡ c
same_way a b true e = (bytes_eq-Decides b a).1 (sym ((bytes_eq-Decides a b).0 e))
same_way a b false e =
    false_from_ne_true (bytes_eq b a) (λ same. (let there : bytes_eq a b ≡ true = (bytes_eq-Decides a b).1 (sym ((bytes_eq-Decides b a).0 same)) in let wrong : true ≡ false = sym there ∙ e in cc))

-- ---- the first place

-- a place that was found, or else the new one
abbrev or_new : Option ℕ → Bool → ℕ → Option ℕ
or_new None here n = cond here (Some n) None
or_new (Some i) here n = Some i

position-push : {X : Type 0} (p : X → Bool) (i : ℕ) (xs : List X) (x : X) → position_from p i (xs ++ x ∷ []) ≡ or_new (position_from p i xs) (p x) (i + length xs)
position-push p i [] x = let e : i ≡ i + 0 = omega arith in ap (λ n. cond (p x) (Some n) None) e
position-push {X} p i (y ∷ ys) x = by (p y) (position-push p (i + 1) ys x)
  where
    by : (b : Bool) → position_from p (i + 1) (ys ++ x ∷ []) ≡ or_new (position_from p (i + 1) ys) (p x) (i + 1 + length ys)
        → cond b (Some i) (position_from p (i + 1) (ys ++ x ∷ [])) ≡ or_new (cond b (Some i) (position_from p (i + 1) ys)) (p x) (i + suc (length ys))
    by true h = refl
    by false h = let e : i + 1 + length ys ≡ i + suc (length ys) = omega arith in h ∙ ap (or_new (position_from p (i + 1) ys) (p x)) e

place_of-push : (names : List (List ℕ)) (m name : List ℕ) → place_of (names ++ m ∷ []) name ≡ or_new (place_of names name) (bytes_eq m name) (length names)
place_of-push names m name =
    let from_zero : 0 + length names ≡ length names = omega arith in
    position_from-zero (λ o. bytes_eq o name) (names ++ m ∷ []) ∙ position-push (λ o. bytes_eq o name) 0 names m
    ∙ ap (or_new (position_from (λ o. bytes_eq o name) 0 names) (bytes_eq m name)) from_zero
    ∙ ap (λ o. or_new o (bytes_eq m name) (length names)) (sym (position_from-zero (λ o. bytes_eq o name) names))

-- ---- the map

apart : (n k a : List ℕ) (v w : Ends) (o : Option Ends) → bytes_eq k a ≡ false
    → cond (bytes_eq n a) (Some w) (cond (bytes_eq n k) (Some v) o) ≡ cond (bytes_eq n k) (Some v) (cond (bytes_eq n a) (Some w) o)
apart n k a v w o differ = by (bytes_eq n a) (bytes_eq n k) refl refl
  where
    by : (c d : Bool) → bytes_eq n a ≡ c → bytes_eq n k ≡ d → cond c (Some w) (cond d (Some v) o) ≡ cond d (Some v) (cond c (Some w) o)
    by true true p q =
        let same : k ≡ a = sym ((bytes_eq-Decides n k).0 q) ∙ (bytes_eq-Decides n a).0 p in
        let wrong : true ≡ false = sym ((bytes_eq-Decides k a).1 same) ∙ differ in
        cc
    by true false p q = refl
    by false true p q = refl
    by false false p q = refl

twice : (v w : Ends) (o : Option Ends) (c : Bool) → cond c (Some v) o ≡ cond c (Some v) (cond c (Some w) o)
twice v w o true = refl
twice v w o false = refl

-- an entry put in
ends_of-insert : (es : List Entry) (k : Vec ℕ Global) (v : Ends) (n : List ℕ)
    → ends_of (insert_entry (λ (a b : Vec ℕ Global). bytes_eq a.items b.items) es k v) n ≡ cond (bytes_eq n k.items) (Some v) (ends_of es n)
ends_of-insert [] k v n = refl
ends_of-insert (e ∷ es) k v n = by (bytes_eq k.items e.0.items) refl (ends_of-insert es k v n)
  where
    by : (b : Bool) → bytes_eq k.items e.0.items ≡ b
        → ends_of (insert_entry (λ (a c : Vec ℕ Global). bytes_eq a.items c.items) es k v) n ≡ cond (bytes_eq n k.items) (Some v) (ends_of es n)
        → ends_of (cond b ((e.0, v) ∷ es) (e ∷ insert_entry (λ (a c : Vec ℕ Global). bytes_eq a.items c.items) es k v)) n
        ≡ cond (bytes_eq n k.items) (Some v) (cond (bytes_eq n e.0.items) (Some e.1) (ends_of es n))
    by true p h =
        let same : k.items ≡ e.0.items = (bytes_eq-Decides k.items e.0.items).0 p in
        twice v e.1 (ends_of es n) (bytes_eq n e.0.items)
        ∙ sym (ap (λ q. cond (bytes_eq n q) (Some v) (cond (bytes_eq n e.0.items) (Some e.1) (ends_of es n))) same)
    by false p h = ap (cond (bytes_eq n e.0.items) (Some e.1)) h ∙ apart n k.items e.0.items v e.1 (ends_of es n) p

-- ---- both

found_or_new : (o : Option ℕ) (n : ℕ) → Some (unwrap_or o n) ≡ or_new o true n
found_or_new None n = refl
found_or_new (Some i) n = refl

as_before : (o : Option ℕ) (n : ℕ) → o ≡ or_new o false n
as_before None n = refl
as_before (Some i) n = refl

-- the map has the ends of a name more
pub HasEnds-push : (names : List (List ℕ)) (es fs : List Entry) (k : Vec ℕ Global) (v : Ends) (name : List ℕ) → HasEnds names es → k.items ≡ name
    → v.first ≡ unwrap_or (place_of names name) (length names) → v.last ≡ length names
    → fs ≡ insert_entry (λ (a b : Vec ℕ Global). bytes_eq a.items b.items) es k v → HasEnds (names ++ name ∷ []) fs
HasEnds-push names es fs k v name has key first_is last_is put = record {
  first = λ n. ap (option_map (λ e. e.first)) (found n) ∙ first_by n (bytes_eq n name) refl ∙ sym (place_of-push names name n);
  last = λ n. ap (option_map (λ e. e.last)) (found n) ∙ last_by n (bytes_eq n name) refl ∙ sym (last_place-push names name n);
}
  where
    found : (n : List ℕ) → ends_of fs n ≡ cond (bytes_eq n name) (Some v) (ends_of es n)
    found n = ap (λ l. ends_of l n) put ∙ ends_of-insert es k v n ∙ ap (λ q. cond (bytes_eq n q) (Some v) (ends_of es n)) key

    first_by : (n : List ℕ) (b : Bool) → bytes_eq n name ≡ b
        → option_map (λ e. e.first) (cond b (Some v) (ends_of es n)) ≡ or_new (place_of names n) (bytes_eq name n) (length names)
    first_by n true p =
        let same : n ≡ name = (bytes_eq-Decides n name).0 p in
        ap Some first_is ∙ ap (λ q. Some (unwrap_or (place_of names q) (length names))) (sym same) ∙ found_or_new (place_of names n) (length names)
        ∙ ap (λ b. or_new (place_of names n) b (length names)) (sym (same_way n name true p))
    first_by n false p = has.first n ∙ as_before (place_of names n) (length names) ∙ ap (λ b. or_new (place_of names n) b (length names)) (sym (same_way n name false p))

    last_by : (n : List ℕ) (b : Bool) → bytes_eq n name ≡ b
        → option_map (λ e. e.last) (cond b (Some v) (ends_of es n)) ≡ cond (bytes_eq name n) (Some (length names)) (last_place names n)
    last_by n true p = ap Some last_is ∙ ap (λ b. cond b (Some (length names)) (last_place names n)) (sym (same_way n name true p))
    last_by n false p = has.last n ∙ ap (λ b. cond b (Some (length names)) (last_place names n)) (sym (same_way n name false p))
