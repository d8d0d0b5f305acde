-- The first line of a text, and the lines behind it.
use Rattle.std.proofs.Common.{◌≡◌, ℕ, suc, ◌+◌, ◌<◌, ◌≤◌, Bool, true, false, not, cond, nat_eq, List, [], ◌∷◌, length, take, drop, map, refl, ap, arith, add-one}
use Rattle.std.proofs.lemmas.List.{drop-drop, length-drop, length-map}
use Rattle.base.specs.Lines.{in_front, pieces, without_return, lines, feed_at}

-- a byte more in front of a text of which the first piece is known
by_feed : (t : Bool) (b f m : ℕ) (bytes : List ℕ) (more : List (List ℕ)) → m ≡ suc f → more ≡ take f bytes ∷ pieces (drop (suc f) bytes)
    → cond t ([] ∷ pieces bytes) (in_front b more) ≡ take (cond (not t) m 0) (b ∷ bytes) ∷ pieces (drop (suc (cond (not t) m 0)) (b ∷ bytes))
by_feed true b f m bytes more e h = refl
by_feed false b f m bytes more e h = rw (e, h) refl

-- the pieces of a text of one byte
alone : (t : Bool) (b : ℕ) → cond t ([] ∷ []) ((b ∷ []) ∷ []) ≡ take (cond (not t) 1 0) (b ∷ []) ∷ pieces (drop (cond (not t) 1 0) [])
alone true b = refl
alone false b = refl

-- the first piece of a text, and the pieces behind it
pub pieces_first : (b : ℕ) (bytes : List ℕ) → pieces (b ∷ bytes) ≡ take (feed_at (b ∷ bytes)) (b ∷ bytes) ∷ pieces (drop (suc (feed_at (b ∷ bytes))) (b ∷ bytes))
pieces_first b [] = alone (nat_eq b 10) b
pieces_first b (c ∷ bytes) = by_feed (nat_eq b 10) b (feed_at (c ∷ bytes)) (1 + feed_at (c ∷ bytes)) (c ∷ bytes) (pieces (c ∷ bytes)) (omega arith) (pieces_first c bytes)

-- the first line of a text, and the lines behind it
pub lines_first : (text : List ℕ) → 0 < length text → lines text ≡ without_return (take (feed_at text) text) ∷ lines (drop (suc (feed_at text)) text)
lines_first [] h = absurd (omega arith)
lines_first (b ∷ bytes) h = ap (map without_return) (pieces_first b bytes)

-- likewise, with the line feed dropped by itself
pub lines_after : (text : List ℕ) → 0 < length text → lines text ≡ without_return (take (feed_at text) text) ∷ lines (drop 1 (drop (feed_at text) text))
lines_after text h = rw (drop-drop, add-one) (lines_first text h)

-- a text without bytes has no lines
pub lines_empty : lines [] ≡ []
lines_empty = refl

-- likewise by its length
pub lines_none : (text : List ℕ) → length text ≡ 0 → lines text ≡ []
lines_none [] h = refl
lines_none (b ∷ bytes) h = absurd (omega arith)

-- from the end of a text on there are no lines
pub lines_at_end : (text : List ℕ) (from : ℕ) → length text ≤ from → lines (drop from text) ≡ []
lines_at_end text from h = lines_none (drop from text) (rw length-drop (omega arith))

-- a byte in front adds at most one piece
in_front_few : (b : ℕ) (more : List (List ℕ)) → length (in_front b more) ≤ suc (length more)
in_front_few b [] = omega arith
in_front_few b (piece ∷ more) = omega arith

-- one byte more, which is a line feed or not
one_more : (t : Bool) (b n : ℕ) (more : List (List ℕ)) → length more ≤ n → length (cond t ([] ∷ more) (in_front b more)) ≤ suc n
one_more true b n more h = omega arith
one_more false b n more h = let e = in_front_few b more in omega arith

-- a text has no more pieces than bytes
pieces_few : (text : List ℕ) → length (pieces text) ≤ length text
pieces_few [] = omega arith
pieces_few (b ∷ bytes) = one_more (nat_eq b 10) b (length bytes) (pieces bytes) (pieces_few bytes)

-- a text has no more lines than bytes
pub lines_few : (text : List ℕ) → length (lines text) ≤ length text
lines_few text = rw length-map (pieces_few text)
