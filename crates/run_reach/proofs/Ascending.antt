-- The inputs of a state are listed in ascending order.
use Rattle.std.proofs.Common.{◌≡◌, ℕ, zero, suc, ◌+◌, ◌<◌, ℤ, pos, ◌+ℤ◌, ◌<ℤ◌, true, false, List, [], ◌∷◌, ◌++◌, length, refl, sym, ap, subst, ◌∙◌, arith, inl, inr}
use Rattle.std.specs.Prelude.{if◌then◌else◌}
use Rattle.std.specs.List.{AllByRecursion, flat_map, range_with_len}
use Rattle.std.specs.Ordering.{int_eq}
use Rattle.std.proofs.lemmas.Int.{ints}
use Rattle.scr_spec.specs.Data.{Data}
use Rattle.scr_spec.specs.declared.state.Input.{Input}
use Rattle.scr_spec.specs.Meaning.{Codes, code_of}
use Rattle.scr_spec.specs.Domains.{domain_of}
use Rattle.scr_spec.specs.Relations.{is_monitored}
use Rattle.scr_depend.specs.Related.{bound_of}
use Rattle.run_reach.specs.Inputs.{least_code, greatest_code, count_codes, unless_present, inputs_from, inputs_at, inputs_of}
use Rattle.run_reach.specs.Scripts.{IsLesser}
use Rattle.run_reach.proofs.Ranges.{all_both, all_front, all_back, flat_more, of_all}

-- ---- lists in ascending order

-- each input is lesser than those behind it
abbrev pub Ascends : List Input → Type 0
Ascends [] = Unit {0}
Ascends (x ∷ xs) = AllByRecursion (IsLesser x) xs × Ascends xs

pub all_map : {X : Type 0} (P Q : X → Type 0) → ((x : X) → P x → Q x) → (xs : List X) → AllByRecursion P xs → AllByRecursion Q xs
all_map P Q f [] h = tt
all_map P Q f (x ∷ xs) h = (f x h.0, all_map P Q f xs h.1)

-- all of the first are lesser than all of the second
abbrev AllLesser : List Input → List Input → Type 0
AllLesser xs ys = AllByRecursion (λ x. AllByRecursion (IsLesser x) ys) xs

both : (xs ys : List Input) → Ascends xs → Ascends ys → AllLesser xs ys → Ascends (xs ++ ys)
both [] ys h k l = k
both (x ∷ xs) ys h k l = (all_both (IsLesser x) xs ys h.0 l.0, both xs ys h.1 k l.1)

pub ascends_front : (xs ys : List Input) → Ascends (xs ++ ys) → Ascends xs
ascends_front [] ys h = tt
ascends_front (x ∷ xs) ys h = (all_front (IsLesser x) xs ys h.0, ascends_front xs ys h.1)

-- those before an input are lesser, and those behind it greater
pub lesser_before : (front : List Input) (input : Input) (rest : List Input) → Ascends ((front ++ input ∷ []) ++ rest) → AllByRecursion (λ y. IsLesser y input) front
lesser_before [] input rest h = tt
lesser_before (x ∷ front) input rest h =
    ((all_back (IsLesser x) front (input ∷ []) (all_front (IsLesser x) (front ++ input ∷ []) rest h.0)).0, lesser_before front input rest h.1)

pub greater_behind : (front : List Input) (input : Input) (rest : List Input) → Ascends ((front ++ input ∷ []) ++ rest) → AllByRecursion (IsLesser input) rest
greater_behind [] input rest h = h.0
greater_behind (x ∷ front) input rest h = greater_behind front input rest h.1

-- ---- lists made of one list for each number

flat_ascends : (f : ℕ → List Input) (n : ℕ) → ((k : ℕ) → Ascends (f k)) → ((j k : ℕ) → j < k → AllLesser (f j) (f k)) → Ascends (flat_map f (range_with_len 0 n))
flat_ascends f zero h l = tt
flat_ascends f (suc n) h l =
    let one : n + 1 ≡ suc n = omega arith in
    subst Ascends (sym (flat_more f n) ∙ ap (λ (m : ℕ). flat_map f (range_with_len 0 m)) one)
    (both (flat_map f (range_with_len 0 n)) (f n) (flat_ascends f n h l) (h n) (of_all (λ x. AllByRecursion (IsLesser x) (f n)) f n (λ k below. l k n below)))

-- ---- the inputs of one variable

abbrev input_of : ℕ → ℤ → Input
input_of v code = record { variable = v; code = code }

unless_all : (P : Input → Type 0) (v : ℕ) (p code : ℤ) → P (input_of v code) → AllByRecursion P (unless_present v p code)
unless_all P v p code h =
    elim (int_eq code p) as (λ b. AllByRecursion P (if b then [] else input_of v code ∷ [])) [
      | true ↦ tt
      | false ↦ (h, tt)
    ]

unless_ascends : (v : ℕ) (p code : ℤ) → Ascends (unless_present v p code)
unless_ascends v p code =
    elim (int_eq code p) as (λ b. Ascends (if b then [] else input_of v code ∷ [])) [
      | true ↦ tt
      | false ↦ (tt, tt)
    ]

code_on : (least : ℤ) (j k : ℕ) → j < k → (least +ℤ pos j) <ℤ (least +ℤ pos k)
code_on least j k h = omega (arith, ints)

from_ascends : (v : ℕ) (p least : ℤ) (count : ℕ) → Ascends (inputs_from v p least count)
from_ascends v p least count =
    flat_ascends (λ (k : ℕ). unless_present v p (least +ℤ pos k)) count (λ k. unless_ascends v p (least +ℤ pos k))
    (λ j k below.
    unless_all (λ x. AllByRecursion (IsLesser x) (unless_present v p (least +ℤ pos k))) v p (least +ℤ pos j)
    (unless_all (IsLesser (input_of v (least +ℤ pos j))) v p (least +ℤ pos k) (inr (refl, code_on least j k below))))

-- ---- those of all variables

abbrev IsOf : ℕ → Input → Type 0
IsOf v x = x.variable ≡ v

at_of : (spec : Data) (at : Codes) (v : ℕ) → AllByRecursion (IsOf v) (inputs_at spec at v)
at_of spec at v =
    let p = code_of at v in
    let least = least_code (bound_of spec v) p (domain_of spec v).lo in
    let count = count_codes least (greatest_code (bound_of spec v) p (domain_of spec v).hi) in
    elim (is_monitored spec v) as (λ b. AllByRecursion (IsOf v) (if b then inputs_from v p least count else [])) [
      | true ↦ of_all (IsOf v) (λ (k : ℕ). unless_present v p (least +ℤ pos k)) count (λ k below. unless_all (IsOf v) v p (least +ℤ pos k) refl)
      | false ↦ tt
    ]

at_ascends : (spec : Data) (at : Codes) (v : ℕ) → Ascends (inputs_at spec at v)
at_ascends spec at v =
    let p = code_of at v in
    let least = least_code (bound_of spec v) p (domain_of spec v).lo in
    let count = count_codes least (greatest_code (bound_of spec v) p (domain_of spec v).hi) in
    elim (is_monitored spec v) as (λ b. Ascends (if b then inputs_from v p least count else [])) [
      | true ↦ from_ascends v p least count
      | false ↦ tt
    ]

of_lesser : (j k : ℕ) (x y : Input) → j < k → IsOf j x → IsOf k y → IsLesser x y
of_lesser j k x y h e f = inl (omega (arith, h, e, f))

pub inputs_ascend : (spec : Data) (at : Codes) → Ascends (inputs_of spec at)
inputs_ascend spec at =
    flat_ascends (inputs_at spec at) (length spec.variables) (at_ascends spec at)
    (λ j k below.
    all_map (IsOf j) (λ x. AllByRecursion (IsLesser x) (inputs_at spec at k))
    (λ x e. all_map (IsOf k) (IsLesser x) (λ y f. of_lesser j k x y below e f) (inputs_at spec at k) (at_of spec at k)) (inputs_at spec at j) (at_of spec at j))
