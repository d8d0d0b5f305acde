-- The number that a word is the decimal text of.
use Rattle.std.proofs.Common.{◌≡◌, ◌≢◌, ℕ, zero, suc, ◌+◌, ◌-◌, ◌^◌, ◌<◌, ◌≤◌, Bool, true, false, List, ◌∷◌, Option, None, Some, Result, refl, sym, ap, subst, ◌∙◌, arith}
use Rattle.std.specs.Prelude.{decimal}
use Rattle.std.specs.Result.{result_ok}
use Rattle.std.specs.Str.{bytes_eq}
use Rattle.std.specs.Str.Parse.{ParsesUnsigned}
use Rattle.std.specs.List.{find, range_with_len}
use Rattle.std.proofs.lemmas.Fmt.{decimal_injective, parse-decimal}
use Rattle.std.proofs.lemmas.Slice.Eq.{bytes_eq-Decides}
use Rattle.cmd_work.specs.Words.{number_in}

-- ---- among neighbouring numbers

by_first : (p : ℕ → Bool) (a k : ℕ) (more : List ℕ) (b : Bool) → p a ≡ b → (p a ≡ true → a ≡ k) → (p a ≡ false → find p more ≡ Some k) → find p (a ∷ more) ≡ Some k
by_first p a k more true e only later = rw e (ap Some (only e))
by_first p a k more false e only later = rw e (later e)

-- the only one that passes is found
find_only : (p : ℕ → Bool) (a n k : ℕ) → a ≤ k → k < a + n → p k ≡ true → ((j : ℕ) → j < a + n → p j ≡ true → j ≡ k) → find p (range_with_len a n) ≡ Some k
find_only p a zero k from to passes only = absurd (omega arith)
find_only p a (suc n) k from to passes only =
    by_first p a k (range_with_len (a + 1) n) (p a) refl (only a (omega arith))
    (λ e. let other : a ≢ k = (λ q. let same : p a ≡ p k = ap p q in cc) in
    find_only p (a + 1) n k (omega arith) (omega arith) passes (λ j to. only j (omega arith)))

none_first : (p : ℕ → Bool) (a : ℕ) (more : List ℕ) (b : Bool) → p a ≡ b → (p a ≡ true → ⊥) → find p more ≡ None → find p (a ∷ more) ≡ None
none_first p a more true e other rest = absurd (other e)
none_first p a more false e other rest = rw e rest

-- where none passes, none is found
find_none : (p : ℕ → Bool) (a n : ℕ) → ((j : ℕ) → a ≤ j → j < a + n → p j ≡ true → ⊥) → find p (range_with_len a n) ≡ None
find_none p a zero other = refl
find_none p a (suc n) other =
    none_first p a (range_with_len (a + 1) n) (p a) refl (other a (omega arith) (omega arith)) (find_none p (a + 1) n (λ j from to. other j (omega arith) (omega arith)))

-- ---- by its decimal text

text_is : (n : ℕ) (word : List ℕ) → bytes_eq (decimal n) word ≡ true → decimal n ≡ word
text_is n word e = (bytes_eq-Decides (decimal n) word).0 e

one_number : (j k : ℕ) (word : List ℕ) → j < 2 ^ 32 → k < 2 ^ 32 → bytes_eq (decimal j) word ≡ true → bytes_eq (decimal k) word ≡ true → j ≡ k
one_number j k word small also e f = decimal_injective j k (omega arith) (omega arith) (text_is j word e ∙ sym (text_is k word f))

-- the number that is the word's is found
pub number_there : (least greatest k : ℕ) (word : List ℕ) → greatest < 2 ^ 32 → least ≤ k → k ≤ greatest → bytes_eq (decimal k) word ≡ true
    → number_in least greatest word ≡ Some k
unfolding number_in
number_there least greatest k word small from to is =
    find_only (λ j. bytes_eq (decimal j) word) least (greatest + 1 - least) k from (omega arith) is (λ j below also. one_number j k word (omega arith) (omega arith) also is)

no_number : {E : Type 0} (least greatest : ℕ) (word : List ℕ) (r : Result ℕ E) (o : Option ℕ) → greatest < 2 ^ 32 → ParsesUnsigned 32 10 word r → o ≡ result_ok r
    → ((k : ℕ) → o ≡ Some k → least ≤ k → k ≤ greatest → bytes_eq (decimal k) word ≡ true → ⊥) → number_in least greatest word ≡ None
unfolding number_in
no_number least greatest word r o small parsed read other =
    find_none (λ j. bytes_eq (decimal j) word) least (greatest + 1 - least)
    (λ j from to is.
    let e = parse-decimal 32 j word r (omega arith) (omega arith) (sym (text_is j word is)) parsed in
    other j (read ∙ ap result_ok e) (omega arith) (omega arith) is)

-- a word that is not read as a number has none
pub no_reading : {E : Type 0} (least greatest : ℕ) (word : List ℕ) (r : Result ℕ E) (o : Option ℕ) → greatest < 2 ^ 32 → ParsesUnsigned 32 10 word r → o ≡ result_ok r → o ≡ None
    → number_in least greatest word ≡ None
no_reading least greatest word r o small parsed read none = no_number least greatest word r o small parsed read (λ k is from to text. cc)

-- nor has one whose number is out of range, or has another text
pub other_reading : {E : Type 0} (least greatest m : ℕ) (word : List ℕ) (r : Result ℕ E) (o : Option ℕ) → greatest < 2 ^ 32 → ParsesUnsigned 32 10 word r → o ≡ result_ok r → o ≡ Some m
    → (least ≤ m → m ≤ greatest → bytes_eq (decimal m) word ≡ true → ⊥) → number_in least greatest word ≡ None
other_reading least greatest m word r o small parsed read some other =
    no_number least greatest word r o small parsed read
    (λ k is from to text. let same : k ≡ m = cc in other (omega arith) (omega arith) (subst (λ j. bytes_eq (decimal j) word ≡ true) same text))
