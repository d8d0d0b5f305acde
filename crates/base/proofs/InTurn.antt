-- Lines that are taken from a text one after another.
use Rattle.std.proofs.Common.{◌≡◌, ℕ, suc, ◌+◌, ◌-◌, Bool, true, false, not, cond, nat_eq, nat_lt, List, [], ◌∷◌, length, take, drop, get_or, refl, sym, ap, ◌∙◌, arith}
use Rattle.std.specs.Io.BufRead.{take_through, drop_through, strip_last}
use Rattle.base.specs.Lines.{lines, feed_at}
use Rattle.base.specs.Ends.{LinesInTurn}
use Rattle.base.proofs.FirstLine.{lines_first}

-- what stands behind the first line feed
through_test : (t : Bool) (x f m : ℕ) (xs more : List ℕ) → m ≡ suc f → more ≡ drop (suc f) xs → cond t xs more ≡ drop (suc (cond (not t) m 0)) (x ∷ xs)
through_test true x f m xs more e h = refl
through_test false x f m xs more e h = rw (e, h) refl

behind : (text : List ℕ) → drop_through 10 text ≡ drop (suc (feed_at text)) text
behind [] = refl
behind (x ∷ xs) = through_test (nat_eq x 10) x (feed_at xs) (1 + feed_at xs) xs (drop_through 10 xs) (omega arith) (behind xs)

-- what is stripped, by the number of bytes in front of the last one
strip_at : (byte z : ℕ) (zs : List ℕ) (n : ℕ) → suc (length zs) - 1 ≡ n → nat_lt 0 (suc (length zs)) ≡ true
    → strip_last byte (z ∷ zs) ≡ cond (nat_eq (get_or (z ∷ zs) n 0) byte) (take n (z ∷ zs)) (z ∷ zs)
strip_at byte z zs n e p = rw (e, p) refl

some_before : (n : ℕ) → nat_lt 0 (suc n) ≡ true
some_before n = grind arith

by_last : (t : Bool) (x : ℕ) (front all : List ℕ) → cond t (x ∷ front) (x ∷ all) ≡ x ∷ cond t front all
by_last true x front all = refl
by_last false x front all = refl

-- a byte in front of some others is not the last one
strip_behind : (x y : ℕ) (ys : List ℕ) → strip_last 10 (x ∷ y ∷ ys) ≡ x ∷ strip_last 10 (y ∷ ys)
strip_behind x y ys =
    strip_at 10 x (y ∷ ys) (suc (length ys)) (omega arith) (some_before (suc (length ys)))
    ∙ by_last (nat_eq (get_or (y ∷ ys) (length ys) 0) 10) x (take (length ys) (y ∷ ys)) (y ∷ ys)
    ∙ ap (λ zs. x ∷ zs) (sym (strip_at 10 y ys (length ys) (omega arith) (some_before (length ys))))

-- a byte alone
alone_test : (t : Bool) (x : ℕ) → cond t [] (x ∷ []) ≡ take (cond (not t) 1 0) (x ∷ [])
alone_test true x = refl
alone_test false x = refl

alone : (x : ℕ) → strip_last 10 (x ∷ []) ≡ take (cond (not (nat_eq x 10)) 1 0) (x ∷ [])
alone x = alone_test (nat_eq x 10) x

-- a byte that is a line feed or not, in front of a line with its end
feed_test : (t : Bool) (x f m : ℕ) (xs more : List ℕ) → m ≡ suc f → strip_last 10 (x ∷ []) ≡ cond t [] (x ∷ []) → (t ≡ false → strip_last 10 (x ∷ more) ≡ x ∷ take f xs)
    → strip_last 10 (cond t (x ∷ []) (x ∷ more)) ≡ take (cond (not t) m 0) (x ∷ xs)
feed_test true x f m xs more e one other = one
feed_test false x f m xs more e one other = rw e (other refl)

cond_same : (t : Bool) (xs : List ℕ) → cond t xs xs ≡ xs
cond_same true xs = refl
cond_same false xs = refl

begins : (t : Bool) (y : ℕ) (zs : List ℕ) → cond t (y ∷ []) (y ∷ zs) ≡ y ∷ cond t [] zs
begins true y zs = refl
begins false y zs = refl

-- the first line without its line feed
in_front_of_feed : (text : List ℕ) → strip_last 10 (take_through 10 text) ≡ take (feed_at text) text
in_front_of_feed [] = refl
in_front_of_feed (x ∷ []) = ap (strip_last 10) (cond_same (nat_eq x 10) (x ∷ [])) ∙ alone x
in_front_of_feed (x ∷ y ∷ ys) =
    let same = begins (nat_eq y 10) y (take_through 10 ys) in
    let other : strip_last 10 (x ∷ take_through 10 (y ∷ ys)) ≡ x ∷ take (feed_at (y ∷ ys)) (y ∷ ys) =
    ap (λ zs. strip_last 10 (x ∷ zs)) same ∙ strip_behind x y (cond (nat_eq y 10) [] (take_through 10 ys)) ∙ ap (λ zs. x ∷ strip_last 10 zs) (sym same)
    ∙ ap (λ zs. x ∷ zs) (in_front_of_feed (y ∷ ys)) in
    feed_test (nat_eq x 10) x (feed_at (y ∷ ys)) (1 + feed_at (y ∷ ys)) (y ∷ ys) (take_through 10 (y ∷ ys)) (omega arith) refl (λ _. other)

first_in_turn : (b : ℕ) (bytes : List ℕ) → lines (b ∷ bytes) ≡ strip_last 13 (strip_last 10 (take_through 10 (b ∷ bytes))) ∷ lines (drop_through 10 (b ∷ bytes))
first_in_turn b bytes =
    lines_first (b ∷ bytes) (omega arith)
    ∙ ap (λ xs. strip_last 13 xs ∷ lines (drop (suc (feed_at (b ∷ bytes))) (b ∷ bytes))) (sym (in_front_of_feed (b ∷ bytes)))
    ∙ ap (λ xs. strip_last 13 (strip_last 10 (take_through 10 (b ∷ bytes))) ∷ lines xs) (sym (behind (b ∷ bytes)))

pub lines_in_turn : LinesInTurn
lines_in_turn = record { none = refl; first = first_in_turn }
