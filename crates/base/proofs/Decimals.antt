-- The decimal text of a number spells it.
use Rattle.std.proofs.Common.{◌≡◌, ℕ, ◌+◌, ◌-◌, ◌*◌, ◌/◌, ◌%◌, ◌^◌, ◌<◌, ◌≤◌, true, List, [], ◌∷◌, ◌++◌, refl, ◌∙◌, arith}
use Rattle.std.specs.Char.{is_ascii_digit}
use Rattle.std.specs.Fmt.{decimal}
use Rattle.std.specs.List.{list_all}
use Rattle.std.proofs.lemmas.Fmt.{decimal_by_steps}
use Rattle.std.proofs.lemmas.Bool.{and_parts}
use Rattle.std.proofs.lemmas.List.Sums.{fold-append}
use Rattle.base.specs.Decimals.{decimal_of}

-- these are digits, and they spell the number
abbrev pub Spells : ℕ → List ℕ → Type 0
Spells n digits = (list_all is_ascii_digit digits ≡ true) × (decimal_of digits ≡ n)

pub digit_is : (d : ℕ) → d < 10 → is_ascii_digit (48 + d) ≡ true
digit_is d h = grind arith

one_digit : (n : ℕ) → n < 10 → Spells n ((48 + n) ∷ [])
one_digit n h = (let e = digit_is n h in rw e refl, omega arith)

pub digits_more : (bytes : List ℕ) (b : ℕ) → list_all is_ascii_digit bytes ≡ true → is_ascii_digit b ≡ true → list_all is_ascii_digit (bytes ++ b ∷ []) ≡ true
digits_more [] b h k = rw k refl
digits_more (d ∷ bytes) b h k =
    let parts = and_parts (is_ascii_digit d) (list_all is_ascii_digit bytes) h in let digit = parts.0 in rw digit (digits_more bytes b parts.1 k)

pub less_ten : (n : ℕ) → n % 10 < 10
less_ten n = omega arith

last_digit : (n m : ℕ) → m ≡ n / 10 → 10 * m + (48 + n % 10 - 48) ≡ n
last_digit n m e = omega arith

more_digits : (n : ℕ) (digits : List ℕ) → 10 ≤ n → Spells (n / 10) digits → Spells n (digits ++ ((48 + n % 10) ∷ []))
more_digits n digits h r = (
  digits_more digits (48 + n % 10) r.0 (digit_is (n % 10) (less_ten n)),
  fold-append (λ n b. 10 * n + (b - 48)) 0 digits ((48 + n % 10) ∷ []) ∙ last_digit n (decimal_of digits) r.1,
)

pub decimal_spells : (n : ℕ) → n < 2 ^ 64 → Spells n (decimal n)
decimal_spells n h = decimal_by_steps Spells one_digit more_digits n h
