-- The number of states that a word tells.
use Rattle.std.proofs.Common.{◌≡◌, ℕ, zero, suc, ◌+◌, ◌-◌, ◌<◌, ◌≤◌, Bool, true, false, List, Some, refl, arith}
use Rattle.std.specs.Prelude.{decimal, ◌∷◌}
use Rattle.std.specs.Str.{bytes_eq}
use Rattle.std.specs.List.{find, range_with_len}
use Rattle.cmd_work.specs.Words.{number_in}

-- by the first of them
first_least : (p : ℕ → Bool) (a k : ℕ) (more : List ℕ) (b : Bool) → p a ≡ b → find p (a ∷ more) ≡ Some k → (find p more ≡ Some k → a ≤ k) → a ≤ k
first_least p a k more true is e later =
    let found : Some a ≡ Some k = rw is at e in
    let same : a ≡ k = cc in
    omega (arith, same)
first_least p a k more false is e later =
    let behind : find p more ≡ Some k = rw is at e in
    later behind

-- what is found is no less than where the range begins
find_least : (p : ℕ → Bool) (a n k : ℕ) → find p (range_with_len a n) ≡ Some k → a ≤ k
find_least p a zero k e = cc
find_least p a (suc n) k e = first_least p a k (range_with_len (a + 1) n) (p a) refl e (λ l. omega (arith, find_least p (a + 1) n k l))

pub number_some : (greatest n : ℕ) (word : List ℕ) → number_in 1 greatest word ≡ Some n → 0 < n
unfolding number_in
number_some greatest n word e = omega (arith, find_least (λ j. bytes_eq (decimal j) word) 1 (greatest + 1 - 1) n e)
