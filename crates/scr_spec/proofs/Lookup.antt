-- A test of all members holds at each.
use Rattle.std.proofs.Common.{◌≡◌, ℕ, Bool, List, Some, IsTrue, ◌<◌, length, get_or, arith, refl}
use Rattle.std.specs.Prelude.{slice_get}
use Rattle.std.specs.List.{list_all}
use Rattle.std.proofs.lemmas.List.Folds.{list_all_at}
use Rattle.std.proofs.lemmas.Option.{slice_get_within, get_or_from_slice_get, slice_get_read}

-- at one that is looked up
pub all_get : {X : Type 0} (p : X → Bool) (xs : List X) (i : ℕ) (x : X) → IsTrue (list_all p xs) → slice_get xs i ≡ Some x → IsTrue (p x)
all_get p xs i x h e =
    let k = slice_get_within xs i x e in
    let g = get_or_from_slice_get xs i x x e in
    let f = list_all_at p xs i x k in
    grind (arith, f)

-- one that is read by its place is the one that is looked up
pub get_read : {X : Type 0} (xs : List X) (i : ℕ) (x : X) → i < length xs → x ≡ get_or xs i x → slice_get xs i ≡ Some x
get_read xs i x h e = slice_get_read xs (length xs) i x refl h e

pub ruleset lookup_laws = (all_get, slice_get_within, get_read)
