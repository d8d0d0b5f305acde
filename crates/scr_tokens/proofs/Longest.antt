-- What is cut off a line is the longest piece.
use Rattle.std.proofs.Common.{◌≡◌, ℕ, zero, suc, ◌+◌, ◌<◌, ◌≤◌, Bool, true, false, ◌&&◌, ◌||◌, ◌==◌, cond, nat_eq, List, [], ◌∷◌, length, take, drop, refl, ◌∙◌, arith}
use Rattle.std.specs.Char.{is_ascii_alphabetic, is_ascii_digit}
use Rattle.std.specs.List.{list_all, prefix_len}
use Rattle.base.specs.Bytes.{is_word_byte}
use Rattle.scr_tokens.specs.Piece.{is_single, is_nothing, is_byte, is_name_rest, is_piece, name_rest_len, starts, piece_len, CutsLongest}

-- ---- the parts behind the first byte

-- one more element in front, which passes or not
run_step : (test : ℕ → Bool) (b : ℕ) (bytes : List ℕ) (p : Bool) (m k : ℕ) → m ≡ suc k → test b ≡ p → list_all test (take k bytes) ≡ true
    → list_all test (take (cond p m 0) (b ∷ bytes)) ≡ true
run_step test b bytes true m k e q h = rw (e, q) h
run_step test b bytes false m k e q h = refl

-- the elements in front that pass a test pass it
run_is : (test : ℕ → Bool) (bytes : List ℕ) → list_all test (take (prefix_len test bytes) bytes) ≡ true
run_is test [] = refl
run_is test (b ∷ bytes) = run_step test b bytes (test b) (1 + prefix_len test bytes) (prefix_len test bytes) (omega arith) refl (run_is test bytes)

-- one more byte of a run
run_more : (p q : Bool) (m n : ℕ) → (q ≡ true → m ≤ n) → (p && q) ≡ true → suc m ≤ cond p (1 + n) 0
run_more true q m n h d = let k : m ≤ n = h d in omega arith
run_more false q m n h d = cc

-- no more elements in front pass it
run_most : (test : ℕ → Bool) (bytes : List ℕ) (m : ℕ) → m ≤ length bytes → list_all test (take m bytes) ≡ true → m ≤ prefix_len test bytes
run_most test bytes zero h d = omega arith
run_most test [] (suc m) h d = h
run_most test (b ∷ bytes) (suc m) h d = run_more (test b) (list_all test (take m bytes)) m (prefix_len test bytes) (run_most test bytes m (omega arith)) d

-- a name goes on so far
name_are : (bytes : List ℕ) → is_name_rest (take (name_rest_len bytes) bytes) ≡ true
name_are [] = refl
name_are (b ∷ bytes) = grind (arith, name_are bytes)

-- one more byte of a name
name_more : (w q prime none : Bool) (m n : ℕ) → (q ≡ true → m ≤ n) → (none ≡ true → m ≡ 0) → ((w && q) || (prime && none)) ≡ true → suc m ≤ cond w (suc n) (cond prime 1 0)
name_more true true prime none m n h k d = let e : m ≤ n = h refl in omega arith
name_more true false true true m n h k d = let e : m ≡ 0 = k refl in omega arith
name_more true false true false m n h k d = cc
name_more true false false none m n h k d = cc
name_more false q true true m n h k d = let e : m ≡ 0 = k refl in omega arith
name_more false q true false m n h k d = cc
name_more false q false none m n h k d = cc

-- a front that is empty has no length
nothing_most : (bytes : List ℕ) (m : ℕ) → m ≤ length bytes → is_nothing (take m bytes) ≡ true → m ≡ 0
nothing_most bytes zero h d = refl
nothing_most [] (suc m) h d = absurd (omega arith)
nothing_most (b ∷ bytes) (suc m) h d = cc

-- a name goes on no further
name_most : (bytes : List ℕ) (m : ℕ) → m ≤ length bytes → is_name_rest (take m bytes) ≡ true → m ≤ name_rest_len bytes
name_most bytes zero h d = omega arith
name_most [] (suc m) h d = h
name_most (b ∷ bytes) (suc m) h d = name_more (is_word_byte b) (is_name_rest (take m bytes)) (nat_eq b 39) (is_nothing (take m bytes)) m (name_rest_len bytes) (name_most bytes m (omega arith)) (nothing_most bytes m (omega arith)) d

-- one byte more, at a prime or not
suc_if : (prime : Bool) (k : ℕ) → suc (cond prime (k + 1) k) ≡ cond prime (suc k + 1) (suc k)
suc_if true k = omega arith
suc_if false k = refl

-- one byte more in front of a name
name_run_step : (word : Bool) (b m k : ℕ) (bytes : List ℕ) → m ≡ suc k → name_rest_len bytes ≡ cond (starts 39 (drop k bytes)) (k + 1) k
    → cond word (suc (name_rest_len bytes)) (cond (nat_eq b 39) 1 0) ≡ cond (starts 39 (drop (cond word m 0) (b ∷ bytes))) (cond word m 0 + 1) (cond word m 0)
name_run_step true b m k bytes e h = rw (e, h) (suc_if (starts 39 (drop k bytes)) k)
name_run_step false b m k bytes e h = refl

-- a name goes on as far as letters, digits and `_` do, and a prime behind them
pub name_run : (bytes : List ℕ) → name_rest_len bytes ≡ cond (starts 39 (drop (prefix_len is_word_byte bytes) bytes)) (prefix_len is_word_byte bytes + 1) (prefix_len is_word_byte bytes)
name_run [] = refl
name_run (b ∷ bytes) = name_run_step (is_word_byte b) b (1 + prefix_len is_word_byte bytes) (prefix_len is_word_byte bytes) bytes (omega arith) (name_run bytes)

-- a sign of one byte or of two
two : (p : Bool) (k m : ℕ) → p ≡ true → m ≡ 1 → suc m ≤ cond p 2 k
two true k m h e = omega arith
two false k m h e = cc

-- likewise, where one byte alone is a sign, too
one_or_two : (p : Bool) (m : ℕ) → m ≡ 0 → suc m ≤ cond p 2 1
one_or_two true m e = omega arith
one_or_two false m e = omega arith

-- a front of this one byte has length 1
byte_alone : (p none : Bool) (m : ℕ) → (none ≡ true → m ≡ 0) → (p && none) ≡ true → (p ≡ true) × (suc m ≡ 1)
byte_alone true true m h d = (refl, let e : m ≡ 0 = h refl in omega arith)
byte_alone true false m h d = cc
byte_alone false none m h d = cc

-- the second byte of a sign
byte_is : (x : ℕ) (bytes : List ℕ) → starts x bytes ≡ true → is_byte x (take 1 bytes) ≡ true
byte_is x [] h = cc
byte_is x (b ∷ bytes) h = grind arith

-- a front of one byte has length 1, and is the byte that stands in front
byte_most : (x : ℕ) (bytes : List ℕ) (m : ℕ) → m ≤ length bytes → is_byte x (take m bytes) ≡ true → (starts x bytes ≡ true) × (m ≡ 1)
byte_most x bytes zero h d = cc
byte_most x [] (suc m) h d = absurd (omega arith)
byte_most x (b ∷ bytes) (suc m) h d = byte_alone (b == x) (is_nothing (take m bytes)) m (nothing_most bytes m (omega arith)) d

-- ---- a whole piece, by its first byte

-- the second test suffices
or_right : (p q : Bool) → q ≡ true → (p || q) ≡ true
or_right true q h = refl
or_right false q h = h

-- by the class of the first byte (letter, digit, `@`, `<` or `>`, `!`, `.`, single), and of the second where it counts
class_is : (l d a c e x s equal dot : Bool) (b : ℕ) (bytes : List ℕ) (test : List ℕ → Bool)
    → ((rest : List ℕ) → test (b ∷ rest) ≡ cond l (is_name_rest rest) (cond d (list_all is_ascii_digit rest) (cond a (list_all is_word_byte rest) (cond c (is_nothing rest || is_byte 61 rest) (cond e (is_byte 61 rest) (cond x (is_byte 46 rest) (s && is_nothing rest)))))))
    → starts 61 bytes ≡ equal → starts 46 bytes ≡ dot
    → 0 < cond l (suc (name_rest_len bytes)) (cond d (suc (prefix_len is_ascii_digit bytes)) (cond a (suc (prefix_len is_word_byte bytes)) (cond c (cond equal 2 1) (cond e (cond equal 2 0) (cond x (cond dot 2 0) (cond s 1 0))))))
    → test (take (cond l (suc (name_rest_len bytes)) (cond d (suc (prefix_len is_ascii_digit bytes)) (cond a (suc (prefix_len is_word_byte bytes)) (cond c (cond equal 2 1) (cond e (cond equal 2 0) (cond x (cond dot 2 0) (cond s 1 0))))))) (b ∷ bytes)) ≡ true
class_is true d a c e x s equal dot b bytes test at p q h = at _ ∙ name_are bytes
class_is false true a c e x s equal dot b bytes test at p q h = at _ ∙ run_is is_ascii_digit bytes
class_is false false true c e x s equal dot b bytes test at p q h = at _ ∙ run_is is_word_byte bytes
class_is false false false true e x s true dot b bytes test at p q h = at _ ∙ or_right _ _ (byte_is 61 bytes p)
class_is false false false true e x s false dot b bytes test at p q h = at _
class_is false false false false true x s true dot b bytes test at p q h = at _ ∙ byte_is 61 bytes p
class_is false false false false true x s false dot b bytes test at p q h = absurd (omega arith)
class_is false false false false false true s equal true b bytes test at p q h = at _ ∙ byte_is 46 bytes q
class_is false false false false false true s equal false b bytes test at p q h = absurd (omega arith)
class_is false false false false false false true equal dot b bytes test at p q h = at _
class_is false false false false false false false equal dot b bytes test at p q h = absurd (omega arith)

-- what is cut is a piece
front_is : (b : ℕ) (bytes : List ℕ) → 0 < piece_len (b ∷ bytes) → is_piece (take (piece_len (b ∷ bytes)) (b ∷ bytes)) ≡ true
unfolding piece_len
front_is b bytes h =
    class_is (is_ascii_alphabetic b) (is_ascii_digit b) (b == 64) (b == 60 || b == 62) (b == 33) (b == 46) (is_single b) (starts 61 bytes) (starts 46 bytes) b bytes is_piece (λ rest. refl) refl refl h

-- likewise, with what is known of the rest that each class takes
by_class : (l d a c e x s : Bool) (name digits words none equal dot : Bool) (starts_equal starts_dot : Bool) (m p q r : ℕ)
    → (name ≡ true → m ≤ p) → (digits ≡ true → m ≤ q) → (words ≡ true → m ≤ r) → (none ≡ true → m ≡ 0)
    → (equal ≡ true → (starts_equal ≡ true) × (m ≡ 1)) → (dot ≡ true → (starts_dot ≡ true) × (m ≡ 1))
    → cond l name (cond d digits (cond a words (cond c (none || equal) (cond e equal (cond x dot (s && none)))))) ≡ true
    → suc m ≤ cond l (suc p) (cond d (suc q) (cond a (suc r) (cond c (cond starts_equal 2 1) (cond e (cond starts_equal 2 0) (cond x (cond starts_dot 2 0) (cond s 1 0))))))
by_class true d a c e x s n g w o q t sq st m i j k hn hg hw ho hq ht h = let y : m ≤ i = hn h in omega arith
by_class false true a c e x s n g w o q t sq st m i j k hn hg hw ho hq ht h = let y : m ≤ j = hg h in omega arith
by_class false false true c e x s n g w o q t sq st m i j k hn hg hw ho hq ht h = let y : m ≤ k = hw h in omega arith
by_class false false false true e x s n g w true q t sq st m i j k hn hg hw ho hq ht h = let y : m ≡ 0 = ho refl in one_or_two sq m y
by_class false false false true e x s n g w false q t sq st m i j k hn hg hw ho hq ht h = let y = hq h in two sq 1 m y.0 y.1
by_class false false false false true x s n g w o q t sq st m i j k hn hg hw ho hq ht h = let y = hq h in two sq 0 m y.0 y.1
by_class false false false false false true s n g w o q t sq st m i j k hn hg hw ho hq ht h = let y = ht h in two st 0 m y.0 y.1
by_class false false false false false false true n g w o q t sq st m i j k hn hg hw ho hq ht h = let y : m ≡ 0 = ho h in omega arith
by_class false false false false false false false n g w o q t sq st m i j k hn hg hw ho hq ht h = cc

-- no longer piece stands in front
front_most : (b : ℕ) (bytes : List ℕ) (m : ℕ) → m ≤ length (b ∷ bytes) → is_piece (take m (b ∷ bytes)) ≡ true → m ≤ piece_len (b ∷ bytes)
unfolding piece_len
front_most b bytes zero h d = omega arith
front_most b bytes (suc m) h d =
    let less : m ≤ length bytes = omega arith in
    by_class (is_ascii_alphabetic b) (is_ascii_digit b) (b == 64) (b == 60 || b == 62) (b == 33) (b == 46) (is_single b) _ _ _ _ _ _ _ _ m _ _ _
    (name_most bytes m less) (run_most is_ascii_digit bytes m less) (run_most is_word_byte bytes m less) (nothing_most bytes m less) (byte_most 61 bytes m less) (byte_most 46 bytes m less) d

-- a test that cannot hold fails
if_not : (p : Bool) → (p ≡ true → ⊥) → p ≡ false
if_not true h = absurd (h refl)
if_not false h = refl

-- the length is that of the longest piece
pub cuts : (bytes : List ℕ) → piece_len bytes ≤ length bytes → CutsLongest bytes (piece_len bytes)
unfolding piece_len
cuts [] w = record { found = λ h. absurd (omega arith); none = λ h m k. let e : m ≡ 0 = omega arith in rw e refl }
cuts (b ∷ bytes) w = record {
  found = λ h. record {
    within = w;
    piece = front_is b bytes h;
    longest = λ m more fits. if_not _ (λ e. let most = front_most b bytes m fits e in absurd (omega arith));
  };
  none = λ h m fits. if_not _ (λ e. let most = front_most b bytes m fits e in let z : m ≡ 0 = omega arith in let f : false ≡ true = rw z at e in cc);
}
