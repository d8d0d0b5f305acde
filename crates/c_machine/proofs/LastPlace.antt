-- The last place of a name in a list with one name more.
use Rattle.std.specs.Prelude.{◌≡◌, ℕ, suc, Bool, true, false, cond, List, [], ◌∷◌, ◌++◌, length, Option, Some}
use Rattle.std.specs.Str.{bytes_eq}
use Rattle.std.proofs.Common.{refl, ap, ◌∙◌}
use Rattle.c_machine.specs.Last.{behind_one, last_place}

cond_behind : (b here : Bool) (n : ℕ) (o : Option ℕ) → behind_one here (cond b (Some n) o) ≡ cond b (Some (suc n)) (behind_one here o)
cond_behind true here n o = refl
cond_behind false here n o = refl

pub last_place-push : (ms : List (List ℕ)) (m name : List ℕ) → last_place (ms ++ m ∷ []) name ≡ cond (bytes_eq m name) (Some (length ms)) (last_place ms name)
last_place-push [] m name = refl
last_place-push (x ∷ ms) m name =
    ap (behind_one (bytes_eq x name)) (last_place-push ms m name) ∙ cond_behind (bytes_eq m name) (bytes_eq x name) (length ms) (last_place ms name)
