-- Lists that grow at a step of a loop.
use Rattle.std.proofs.Common.{◌≡◌, ℕ, ◌+◌, ◌<◌, Bool, true, false, List, [], ◌∷◌, ◌++◌, length, get_or, take, map, ap, ◌∙◌, arith, append-nil, append_assoc}
use Rattle.std.specs.List.{filter, flat_map, range_with_len}
use Rattle.std.proofs.lemmas.List.{take_more, map-append}
use Rattle.std.proofs.lemmas.List.Concat.{flat_map-append}
use Rattle.std.proofs.lemmas.List.FromFn.{map-range_with_len_more}
use Rattle.scr_spec.proofs.Below.{passing_push, passing_kept}

-- one more number
pub map-range_more : {X : Type 0} (f : ℕ → X) (n : ℕ) → map f (range_with_len 0 (n + 1)) ≡ map f (range_with_len 0 n) ++ f n ∷ []
map-range_more f n = map-range_with_len_more f 0 n n (omega arith)

-- one more member
pub flat_map-take_more : {X Y : Type 0} (f : X → List Y) (xs : List X) (i : ℕ) (d : X) → i < length xs → flat_map f (take (i + 1) xs) ≡ flat_map f (take i xs) ++ f (get_or xs i d)
flat_map-take_more f xs i d h = rw (take_more xs i d h, flat_map-append, append-nil)

-- one more that passes
pub map-filter_true : {X : Type 0} (f : ℕ → X) (p : ℕ → Bool) (n : ℕ) → p n ≡ true → map f (filter p (range_with_len 0 (n + 1))) ≡ map f (filter p (range_with_len 0 n)) ++ f n ∷ []
map-filter_true f p n e = ap (map f) (passing_push p n e) ∙ map-append f (filter p (range_with_len 0 n)) (n ∷ [])

-- one that does not
pub map-filter_false : {X : Type 0} (f : ℕ → X) (p : ℕ → Bool) (n : ℕ) → p n ≡ false → map f (filter p (range_with_len 0 (n + 1))) ≡ map f (filter p (range_with_len 0 n))
map-filter_false f p n e = ap (map f) (passing_kept p n e)

pub ruleset range_laws = (map-range_more, map-filter_true, map-filter_false, append_assoc, append-nil)

pub ruleset flat_laws = (flat_map-take_more, append_assoc, append-nil)
