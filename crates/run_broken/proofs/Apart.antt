-- A loop over two scripts to the first place where they differ.
use Rattle.std.proofs.Common.{◌≡◌, ℕ, zero, suc, ◌+◌, ◌<◌, Bool, true, false, cond, not, List, [], ◌∷◌, length, get_or, drop, min, sym, ap, ap₂, ◌∙◌, arith}
use Rattle.std.specs.Prelude.{Some, find}
use Rattle.std.specs.Option.{option_map_or}
use Rattle.std.specs.List.{zip}
use Rattle.std.proofs.lemmas.List.{drop_all}
use Rattle.std.proofs.lemmas.Slice.Zip.{length-zip}
use Rattle.scr_spec.specs.declared.state.Input.{Input}
use Rattle.run_broken.specs.Orders.{is_same, is_lesser, is_less}

abbrev Pair : Type 0
Pair = Input × Input

abbrev pub less_in : List Pair → Bool
less_in ps = option_map_or (λ (p : Pair). is_lesser p.0 p.1) (find (λ (p : Pair). not (is_same p.0 p.1)) ps) false

pair_here : (a b : List Input) (k : ℕ) (x y : Input) → k < length a → k < length b → x ≡ get_or a k x → y ≡ get_or b k y → drop k (zip a b) ≡ (x, y) ∷ drop (suc k) (zip a b)
pair_here [] b k x y h g e f = absurd (omega (arith, h))
pair_here (u ∷ a) [] k x y h g e f = absurd (omega (arith, g))
pair_here (u ∷ a) (v ∷ b) zero x y h g e f = ap₂ (λ (s t : Input). let p : Pair = (s, t) in p ∷ zip a b) (sym e) (sym f)
pair_here (u ∷ a) (v ∷ b) (suc k) x y h g e f = pair_here a b k x y (omega (arith, h)) (omega (arith, g)) e f

none_left : (a b : List Input) (k : ℕ) → k ≡ min (length a) (length b) → drop k (zip a b) ≡ []
none_left a b k e = drop_all k (zip a b) (omega (arith, length-zip a b))

less_first : (a b : List Input) (k : ℕ) (x y : Input) (t : Bool) → k < length a → k < length b → x ≡ get_or a k x → y ≡ get_or b k y → is_same x y ≡ t
    → less_in (drop k (zip a b)) ≡ option_map_or (λ (p : Pair). is_lesser p.0 p.1) (cond (not t) (Some (x, y)) (find (λ (p : Pair). not (is_same p.0 p.1)) (drop (suc k) (zip a b)))) false
less_first a b k x y t h g e f s =
    ap less_in (pair_here a b k x y h g e f)
    ∙ ap (λ u. option_map_or (λ (p : Pair). is_lesser p.0 p.1) (cond (not u) (Some (x, y)) (find (λ (p : Pair). not (is_same p.0 p.1)) (drop (suc k) (zip a b)))) false) s

pub less_here : (a b : List Input) (k : ℕ) (x y : Input) → k < length a → k < length b → x ≡ get_or a k x → y ≡ get_or b k y → is_same x y ≡ false → is_less a b ≡ less_in (drop k (zip a b))
    → is_lesser x y ≡ is_less a b
less_here a b k x y h g e f s before = sym (before ∙ less_first a b k x y false h g e f s)

pub less_on : (a b : List Input) (k : ℕ) (x y : Input) → k < length a → k < length b → x ≡ get_or a k x → y ≡ get_or b k y → is_same x y ≡ true → is_less a b ≡ less_in (drop k (zip a b))
    → is_less a b ≡ less_in (drop (k + 1) (zip a b))
less_on a b k x y h g e f s before =
    let one : suc k ≡ k + 1 = omega arith in
    before ∙ less_first a b k x y true h g e f s ∙ ap (λ (n : ℕ). less_in (drop n (zip a b))) one

pub less_end : (a b : List Input) (k : ℕ) → k ≡ min (length a) (length b) → is_less a b ≡ less_in (drop k (zip a b)) → false ≡ is_less a b
less_end a b k e before = sym (before ∙ ap less_in (none_left a b k e))
