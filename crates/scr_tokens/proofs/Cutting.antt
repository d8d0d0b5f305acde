-- A line is cut into tokens in one way.
use Rattle.std.proofs.Common.{◌≡◌, ◌≢◌, ℕ, zero, suc, ◌+◌, ◌<◌, Bool, true, false, ◌||◌, nat_eq, List, [], ◌∷◌, take, drop, Some, None, refl, ap, sym, subst, ◌∙◌, inl, inr, ◌⊎◌, eqb-true, arith}
use Rattle.std.specs.List.{list_all}
use Rattle.scr_tokens.specs.declared.fault.LexFault.{LexFault}
use Rattle.scr_tokens.specs.declared.fault.LexFault.TheVariants as f
use Rattle.scr_tokens.specs.declared.word.Word.{Word}
use Rattle.scr_tokens.specs.declared.word.Token.{Token}
use Rattle.base.specs.Bytes.{is_blank}
use Rattle.scr_tokens.specs.Piece.{is_piece, IsLongest, NoPiece}
use Rattle.scr_tokens.specs.Words.{word_of}
use Rattle.scr_tokens.specs.Tokens.{Tokens, no_more, blank, piece, is_small, IsLexed, Refuses}
use Rattle.scr_tokens.specs.Lexing.{OneLexing}

-- no piece stands in front of no bytes
no_empty : {n : ℕ} → IsLongest [] n → ⊥
no_empty {n = zero} l = let h : false ≡ true = l.piece in cc
no_empty {n = suc n} l = let h = l.within in absurd (omega arith)

-- one of two tests holds
by_tests : (p q : Bool) → (p || q) ≡ true → (p ≡ true) ⊎ (q ≡ true)
by_tests true q h = inl refl
by_tests false q h = inr h

-- a blank begins no piece
blank_begins : (b n : ℕ) (bytes : List ℕ) → is_blank b ≡ true → is_piece (take n (b ∷ bytes)) ≡ true → ⊥
blank_begins b zero bytes h p = cc
blank_begins b (suc n) bytes h p = elim (by_tests (nat_eq b 32) (nat_eq b 9) h) [
  | inl e ↦ let is : b ≡ 32 = eqb-true b 32 e in let q = rw is at p in cc
  | inr e ↦ let is : b ≡ 9 = eqb-true b 9 e in let q = rw is at p in cc
]

-- the longest piece has one length
pub longest_once : {bytes : List ℕ} {n m : ℕ} → IsLongest bytes n → IsLongest bytes m → n ≡ m
longest_once {bytes} {n} {m} l k =
    let below : n < m → ⊥ = λ h. let e = l.longest m h k.within in let f : is_piece (take m bytes) ≡ true = k.piece in cc in
    let above : m < n → ⊥ = λ h. let e = k.longest n h l.within in let f : is_piece (take n bytes) ≡ true = l.piece in cc in
    omega arith

-- ---- what the tokens of a list of bytes say of their first byte

-- behind a blank the tokens go on
pub after_blank : {at b : ℕ} {bytes : List ℕ} {tokens : List Token} → is_blank b ≡ true → Tokens at (b ∷ bytes) tokens → (more : List Token) × Tokens (at + 1) bytes more
after_blank h (blank k d) = (_, d)
after_blank {b = b} {bytes = bytes} h (piece {n = n} l e d) = absurd (blank_begins b n bytes h l.piece)

-- behind the longest piece the tokens go on
pub after_piece : {at n : ℕ} {bytes : List ℕ} {word : Word} {tokens : List Token} → IsLongest bytes n → word_of (take n bytes) ≡ Some word → Tokens at bytes tokens
    → (more : List Token) × Tokens (at + n) (drop n bytes) more
after_piece l e no_more = absurd (no_empty l)
after_piece {n = n} l e (blank {b = b} {bytes = bytes} k d) = absurd (blank_begins b n bytes k l.piece)
after_piece {at} {n} {bytes} l e (piece {n = m} {tokens = more} k f d) = let same : n ≡ m = longest_once l k in (more, rw same d)

-- a piece that stands for no word has no tokens
pub no_word : {at n : ℕ} {bytes : List ℕ} {tokens : List Token} → IsLongest bytes n → word_of (take n bytes) ≡ None → Tokens at bytes tokens → ⊥
no_word l e no_more = no_empty l
no_word {n = n} l e (blank {b = b} {bytes = bytes} k d) = blank_begins b n bytes k l.piece
no_word {at} {n} {bytes} l e (piece {n = m} {word = word} k f d) = let same : n ≡ m = longest_once l k in let g : word_of (take n bytes) ≡ Some word = rw same f in cc

-- bytes in front of which stands neither a piece nor a blank have no tokens
pub no_piece : {at b : ℕ} {bytes : List ℕ} {tokens : List Token} → NoPiece (b ∷ bytes) → is_blank b ≡ false → Tokens at (b ∷ bytes) tokens → ⊥
no_piece h k (blank e d) = cc
no_piece h k (piece {n = n} l e d) = let f = h n l.within in let g = l.piece in cc

-- tokens of equal bytes
pub tokens_at : {at : ℕ} {a b : List ℕ} {tokens : List Token} → a ≡ b → Tokens at b tokens → Tokens at a tokens
tokens_at {at} {a} {b} {tokens} e d = subst (λ bytes. Tokens at bytes tokens) (sym e) d

-- ---- one list of tokens

-- a token of this word in this column, in front of others
abbrev begins : ℕ → Word → List Token → List Token
begins at word tokens = record { column = at; word = word } ∷ tokens

-- equal tokens in front of equal others
begins_same : (at : ℕ) {word other : Word} {tokens more : List Token} → Some word ≡ Some other → tokens ≡ more → begins at word tokens ≡ begins at other more
begins_same at {word = word} {other = other} e h = let same : word ≡ other = cc in rw (same, h) refl

-- bytes have at most one list of tokens
pub tokens_once : {at : ℕ} {bytes : List ℕ} {a b : List Token} → Tokens at bytes a → Tokens at bytes b → a ≡ b
tokens_once no_more no_more = refl
tokens_once no_more (piece l e d) = absurd (no_empty l)
tokens_once (piece l e d) no_more = absurd (no_empty l)
tokens_once (blank h d) (blank k e) = tokens_once d e
tokens_once (blank {b = b} {bytes = bytes} h d) (piece {n = n} l e f) = absurd (blank_begins b n bytes h l.piece)
tokens_once (piece {n = n} l e f) (blank {b = b} {bytes = bytes} h d) = absurd (blank_begins b n bytes h l.piece)
tokens_once {at} {bytes} (piece {n = n} {word = word} {tokens = a} l e d) (piece {n = m} {word = other} {tokens = b} k f c) =
    let same : n ≡ m = longest_once l k in
    let there : Tokens (at + n) (drop n bytes) b = rw same c in
    let same_word : word_of (take n bytes) ≡ Some other = rw same f in
    begins_same at (sym e ∙ same_word) (tokens_once d there)

-- a line has at most one list of tokens
pub lexed_once : {line : List ℕ} {a b : List Token} → IsLexed line a → IsLexed line b → a ≡ b
lexed_once l k = tokens_once l.cut k.cut

-- ---- one fault

-- a test of equal lists has one answer
one_answer : {A : Type 0} {a b : A} (test : A → Bool) → a ≡ b → test a ≡ true → test b ≡ false → ⊥
one_answer {a = a} {b = b} test e h k = let same : test a ≡ test b = ap test e in cc

-- a line with tokens is not refused
pub lexed_apart : {line : List ℕ} {tokens : List Token} (fault : LexFault) → fault ≢ f.NoMemory → IsLexed line tokens → Refuses line fault → ⊥
lexed_apart f.NoMemory n l h = n refl
lexed_apart f.Byte n l h = let e = l.allowed in let g = h.1 in cc
lexed_apart f.Syntax n l h = h.2 _ l.cut
lexed_apart f.Limit n l (inl h) = let e = l.short in absurd (omega arith)
lexed_apart f.Limit n l (inr (_, _, d, h)) = one_answer (list_all is_small) (tokens_once l.cut d) l.small h

-- a line has at most one fault
pub refused_once : (line : List ℕ) (i j : LexFault) → i ≢ f.NoMemory → j ≢ f.NoMemory → Refuses line i → Refuses line j → i ≡ j
refused_once line f.NoMemory j n m h g = absurd (n refl)
refused_once line f.Byte f.NoMemory n m h g = absurd (m refl)
refused_once line f.Syntax f.NoMemory n m h g = absurd (m refl)
refused_once line f.Limit f.NoMemory n m h g = absurd (m refl)
refused_once line f.Byte f.Byte n m h g = refl
refused_once line f.Syntax f.Syntax n m h g = refl
refused_once line f.Limit f.Limit n m h g = refl
refused_once line f.Byte f.Syntax n m h g = let e = h.1 in let d = g.1 in cc
refused_once line f.Syntax f.Byte n m h g = let e = h.1 in let d = g.1 in cc
refused_once line f.Byte f.Limit n m h (inl g) = absurd (omega (arith, h.0, g))
refused_once line f.Byte f.Limit n m h (inr g) = let e = h.1 in let d = g.0 in cc
refused_once line f.Limit f.Byte n m (inl h) g = absurd (omega (arith, h, g.0))
refused_once line f.Limit f.Byte n m (inr h) g = let e = h.0 in let d = g.1 in cc
refused_once line f.Syntax f.Limit n m h (inl g) = absurd (omega (arith, h.0, g))
refused_once line f.Syntax f.Limit n m h (inr (_, tokens, d, _)) = absurd (h.2 tokens d)
refused_once line f.Limit f.Syntax n m (inl h) g = absurd (omega (arith, h, g.0))
refused_once line f.Limit f.Syntax n m (inr (_, tokens, d, _)) g = absurd (g.2 tokens d)

pub one_lexing : OneLexing
one_lexing = record {
  once = λ line a b l k. lexed_once l k;
  apart = λ line tokens fault n l h. lexed_apart fault n l h;
  one_fault = λ line i j n m h g. refused_once line i j n m h g;
}
