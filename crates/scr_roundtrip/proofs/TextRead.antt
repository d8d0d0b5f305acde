-- Where the canonical text passes no limit, it is read as the statements of the specification.
use Rattle.std.proofs.Common.{◌≡◌, ℕ, pos, negsuc, suc, ◌+◌, ◌<◌, ◌≤◌, Bool, true, false, not, ◌&&◌, ◌==◌, cond, nat_lt, List, [], ◌∷◌, ◌++◌, length, take, map, Some, refl, sym, ap, subst, ◌∙◌, inl, inr, append_assoc, arith}
use Rattle.std.specs.Prelude.{nat_le, int_le, slice_index, codes}
use Rattle.std.specs.Fmt.{decimal}
use Rattle.std.specs.Char.{is_ascii_alphabetic, is_ascii_digit}
use Rattle.std.specs.List.{list_all, flat_map, prefix_len}
use Rattle.std.proofs.lemmas.Bool.{and_parts, leb-true}
use Rattle.std.proofs.lemmas.List.Folds.{list_all-append, list_all-map}
use Rattle.scr_tokens.specs.declared.word.Token.{Token}
use Rattle.scr_tokens.specs.declared.word.Word.{Word}
use Rattle.scr_tokens.specs.declared.word.Word.TheVariants as w
use Rattle.scr_tokens.specs.declared.word.Sign.{Sign}
use Rattle.scr_tokens.specs.declared.word.Sign.TheVariants as s
use Rattle.base.specs.Bytes.{is_word_byte}
use Rattle.base.specs.Lines.{in_front, pieces, without_return, lines}
use Rattle.base.specs.Bytes.{is_allowed}
use Rattle.base.specs.Lines.{body}
use Rattle.scr_tokens.specs.Tokens.{Tokens, word_is_small, is_small, IsLexed}
use Rattle.scr_spec.specs.NameSpace.{is_spelt, is_name}
use Rattle.scr_spec.proofs.Passing.{and_true, all_imply}
use Rattle.scr_parse.specs.declared.draft.Statement.{Statement}
use Rattle.scr_parse.specs.declared.draft.Numbered.{Numbered}
use Rattle.scr_parse.specs.declared.place.Place.{Place}
use Rattle.scr_parse.specs.declared.place.Place.TheVariants as p
use Rattle.scr_parse.specs.declared.place.Position.{Position}
use Rattle.scr_parse.specs.declared.place.TextKind.TheVariants as k
use Rattle.scr_parse.specs.declared.place.TextFault.TheVariants as fault
use Rattle.scr_parse.specs.Words.{words}
use Rattle.scr_parse.specs.Forms.{Form}
use Rattle.scr_parse.specs.Limits.{is_line_within, is_statement_within, counted, is_count_within}
use Rattle.scr_parse.specs.Text.{LineReads, says, LineRefuses, Reads, no_line, line_more, Refused, here, later, start, TextReads, TextRefuses}
use Rattle.scr_printer.specs.declared.line.Behind.{Behind}
use Rattle.scr_printer.specs.declared.line.Behind.TheVariants.{Opening}
use Rattle.scr_printer.specs.Spelling.{keyword_text, sign_text, spelling, behind_word, is_joined, gap, spaced}
use Rattle.scr_roundtrip.specs.Laws.{is_sound}
use Rattle.scr_printer.specs.Text.{line_text}
use Rattle.scr_roundtrip.proofs.Spelt.{keyword_spelt, spaced_lexes, less_one}
use Rattle.base.proofs.Decimals.{decimal_spells}
use Rattle.scr_roundtrip.proofs.LinesRead as read
use Rattle.scr_roundtrip.proofs.LinesRead.{Forms}

-- ---- the bytes of a line

-- a byte that may stand in a line, begins no comment, and ends no line
abbrev pub is_ink : ℕ → Bool
is_ink b = (nat_le 32 b && nat_le b 126) && not (b == 35)

word_ink : (b : ℕ) → is_word_byte b ≡ true → is_ink b ≡ true
word_ink b h = grind arith

letter_ink : (b : ℕ) → is_ascii_alphabetic b ≡ true → is_ink b ≡ true
letter_ink b h = grind arith

digit_ink : (b : ℕ) → is_ascii_digit b ≡ true → is_ink b ≡ true
digit_ink b h = grind arith

spelt_ink : (name : List ℕ) → is_spelt name ≡ true → list_all is_ink name ≡ true
spelt_ink [] h = absurd (cc)
spelt_ink (b ∷ bytes) h =
    let parts = and_parts (is_ascii_alphabetic b) (list_all is_word_byte bytes) h in
    and_true (is_ink b) (list_all is_ink bytes) (letter_ink b (parts.0)) (all_imply is_word_byte is_ink word_ink bytes (parts.1))

name_spelt : (name : List ℕ) → is_name name ≡ true → is_spelt name ≡ true
name_spelt name h = (and_parts (is_spelt name) (nat_le (length name) 24) ((and_parts (is_spelt name && nat_le (length name) 24) _ h).0)).0

name_short : (name : List ℕ) → is_name name ≡ true → nat_le (length name) 24 ≡ true
name_short name h = (and_parts (is_spelt name) (nat_le (length name) 24) ((and_parts (is_spelt name && nat_le (length name) 24) _ h).0)).1

joined_ink : (a b : List ℕ) → list_all is_ink a ≡ true → list_all is_ink b ≡ true → list_all is_ink (a ++ b) ≡ true
joined_ink a b h g = list_all-append is_ink a b ∙ and_true (list_all is_ink a) (list_all is_ink b) h g

sign_ink : (sign : Sign) → list_all is_ink (sign_text sign) ≡ true
sign_ink s.AtT = refl
sign_ink sign = refl

spelling_ink : (word : Word) → is_sound word ≡ true → list_all is_ink (spelling word) ≡ true
spelling_ink (w.Name name) h = spelt_ink name (name_spelt name h)
spelling_ink (w.Primed name) h = joined_ink name (codes "'") (spelt_ink name (name_spelt name h)) refl
spelling_ink (w.Number (pos n)) h =
    let small : n ≤ 1000000 = leb-true n 1000000 ((and_parts (nat_le 0 n) (nat_le n 1000000) h).1) in
    all_imply is_ascii_digit is_ink digit_ink (decimal n) ((decimal_spells n (omega arith)).0)
spelling_ink (w.Number (negsuc n)) h = absurd (cc)
spelling_ink (w.Reserved keyword) h = spelt_ink (keyword_text keyword) (keyword_spelt keyword)
spelling_ink (w.Sign sign) h = sign_ink sign

gap_ink : (joined : Bool) → list_all is_ink (gap joined) ≡ true
gap_ink true = refl
gap_ink false = refl

spaced_ink : (behind : Behind) (ws : List Word) → list_all is_sound ws ≡ true → list_all is_ink (spaced behind ws) ≡ true
spaced_ink behind [] h = refl
spaced_ink behind (word ∷ ws) h =
    let parts = and_parts (is_sound word) (list_all is_sound ws) h in
    joined_ink (gap (is_joined behind word)) (spelling word ++ spaced (behind_word behind word) ws) (gap_ink (is_joined behind word))
    (joined_ink (spelling word) (spaced (behind_word behind word) ws) (spelling_ink word (parts.0)) (spaced_ink (behind_word behind word) ws (parts.1)))

-- ---- a line and its tokens

ink_parts : (b : ℕ) → is_ink b ≡ true → (is_allowed b ≡ true) × (not (b == 35) ≡ true) × ((b == 10) ≡ false) × ((b == 13) ≡ false)
ink_parts b h = (grind arith, grind arith, grind arith, grind arith)

all_body : (bytes : List ℕ) → list_all is_ink bytes ≡ true → body bytes ≡ bytes
all_body [] h = refl
all_body (b ∷ bytes) h =
    let parts = and_parts (is_ink b) (list_all is_ink bytes) h in
    let plain = (ink_parts b (parts.0)).1 in
    let more : 1 + prefix_len (λ x. not (x == 35)) bytes ≡ suc (prefix_len (λ x. not (x == 35)) bytes) = omega arith in
    rw (plain, more) (ap (λ more. b ∷ more) (all_body bytes (parts.1)))

sound_small : (word : Word) → is_sound word ≡ true → word_is_small word ≡ true
sound_small (w.Name name) h = name_short name h
sound_small (w.Primed name) h = name_short name h
sound_small (w.Number n) h = (and_parts (int_le (pos 0) n) (int_le n (pos 1000000)) h).1
sound_small (w.Reserved keyword) h = refl
sound_small (w.Sign sign) h = refl

small_tokens : (tokens : List Token) (ws : List Word) → words tokens ≡ ws → list_all is_sound ws ≡ true → list_all is_small tokens ≡ true
small_tokens tokens ws e h =
    sym (list_all-map word_is_small (λ (t : Token). t.word) tokens) ∙ ap (list_all word_is_small) e ∙ all_imply is_sound word_is_small sound_small ws h

-- a line that is not too long has its words as tokens
pub line_lexed : (ws : List Word) → list_all is_sound ws ≡ true → length (spaced Opening ws) ≤ 4096
    → (tokens : List Token) × IsLexed (spaced Opening ws) tokens × (words tokens ≡ ws)
line_lexed ws h short =
    let lexed = spaced_lexes ws h in
    let ink = spaced_ink Opening ws h in
    let whole = all_body (spaced Opening ws) ink in (
      lexed.0,
      record {
        short = short;
        allowed = ap (list_all is_allowed) whole ∙ all_imply is_ink is_allowed (λ b h. (ink_parts b h).0) (spaced Opening ws) ink;
        cut = subst (λ bytes. Tokens 0 bytes (lexed.0)) (sym whole) (lexed.1);
        small = small_tokens (lexed.0) ws (lexed.2) h;
      },
      lexed.2,
    )

-- ---- lines are read, where none passes a limit

if_not : (b : Bool) → (b ≡ false → ⊥) → b ≡ true
if_not true h = refl
if_not false h = absurd (h refl)

too_long : (n m : ℕ) → nat_le n m ≡ false → m < n
too_long n m h = grind arith

no_words : {place next : Place} {statement : Statement} → Form place [] statement next → ⊥
no_words f = elim f [ ]

has_words : {place next : Place} {statement : Statement} (ws : List Word) → Form place ws statement next → 0 < length ws
has_words [] f = absurd (no_words f)
has_words (word ∷ ws) f = omega arith

length_words : (tokens : List Token) → length (words tokens) ≡ length tokens
length_words [] = refl
length_words (t ∷ tokens) = ap suc (length_words tokens)

abbrev after : Position → Place → Statement → Position
after position mid statement = record { place = mid; counts = counted position.counts statement }

words_read : (position : Position) (ws : List Word) (tokens : List Token) (statement : Statement) (mid : Place) → IsLexed (spaced Opening ws) tokens → words tokens ≡ ws
    → Form position.place ws statement mid → (LineRefuses position (spaced Opening ws) k.Limit → ⊥) → LineReads position (spaced Opening ws) (Some statement) (after position mid statement)
words_read position ws tokens statement mid lexed e form keeps =
    let form_at : Form position.place (words tokens) statement mid = subst (λ ws. Form position.place ws statement mid) (sym e) form in
    let some : 0 < length tokens = omega (arith, has_words ws form, length_words tokens, ap length e) in
    let within = if_not (is_line_within (words tokens)) (λ h. keeps (inr (tokens, lexed, some, inl h))) in
    let said = if_not (is_statement_within statement) (λ h. keeps (inr (tokens, lexed, some, inr (within, (statement, mid, form_at, inl h))))) in
    let counts = if_not (is_count_within (counted position.counts statement)) (λ h. keeps (inr (tokens, lexed, some, inr (within, (statement, mid, form_at, inr h))))) in
    says lexed (record { line_within = within; form = form_at; within = said; counts = refl; count_within = counts })

line_read : (position : Position) (ws : List Word) (statement : Statement) (mid : Place) → list_all is_sound ws ≡ true → Form position.place ws statement mid
    → (LineRefuses position (spaced Opening ws) k.Limit → ⊥) → LineReads position (spaced Opening ws) (Some statement) (after position mid statement)
line_read position ws statement mid h form keeps =
    let short = if_not (nat_le (length (spaced Opening ws)) 4096) (λ e. keeps (inl (inl (too_long _ _ e)))) in
    let lexed = line_lexed ws h (leb-true _ _ short) in
    words_read position ws (lexed.0) statement mid (lexed.1) (lexed.2) form keeps

-- the statements with the numbers of their lines
abbrev pub numbered_from : ℕ → List Statement → List Numbered
numbered_from n [] = []
numbered_from n (statement ∷ more) = record { line = n; statement = statement } ∷ numbered_from (n + 1) more

lines_read : {place last : Place} {wss : List (List Word)} {statements : List Statement} → Forms place wss statements last → list_all (list_all is_sound) wss ≡ true
    → (position : Position) → position.place ≡ place → (n : ℕ) → ((m : ℕ) → Refused position n (map (spaced Opening) wss) m k.Limit → ⊥)
    → (end : Position) × Reads position n (map (spaced Opening) wss) (numbered_from n statements) end × (end.place ≡ last)
lines_read read.no_line h position e n keeps = (position, no_line, e)
lines_read (read.line {mid = mid} {words = ws} {more = more} {statement = statement} f fs) h position e n keeps =
    let parts = and_parts (list_all is_sound ws) (list_all (list_all is_sound) more) h in
    let first = line_read position ws statement mid (parts.0) (subst (λ place. Form place ws statement mid) (sym e) f) (λ r. keeps n (here r)) in
    let rest = lines_read fs (parts.1) (after position mid statement) refl (n + 1) (λ m r. keeps m (later first r)) in
    (rest.0, line_more first (rest.1), rest.2)

-- ---- the lines of a text

pieces_line : (line rest : List ℕ) → list_all is_ink line ≡ true → pieces (line ++ 10 ∷ rest) ≡ line ∷ pieces rest
pieces_line [] rest h = refl
pieces_line (b ∷ line) rest h =
    let parts = and_parts (is_ink b) (list_all is_ink line) h in let plain = (ink_parts b (parts.0)).2 in rw plain (ap (in_front b) (pieces_line line rest (parts.1)))

pieces_all : (wss : List (List Word)) → list_all (list_all is_sound) wss ≡ true → pieces (flat_map line_text wss) ≡ map (spaced Opening) wss
unfolding line_text
pieces_all [] h = refl
pieces_all (ws ∷ wss) h =
    let parts = and_parts (list_all is_sound ws) (list_all (list_all is_sound) wss) h in
    ap pieces (append_assoc (spaced Opening ws) (codes "\n") (flat_map line_text wss))
    ∙ pieces_line (spaced Opening ws) (flat_map line_text wss) (spaced_ink Opening ws (parts.0)) ∙ ap (λ more. spaced Opening ws ∷ more) (pieces_all wss (parts.1))

last_ink : (b : ℕ) (bytes : List ℕ) → is_ink b ≡ true → list_all is_ink bytes ≡ true → (slice_index (b ∷ bytes) (length bytes) == 13) ≡ false
last_ink b [] h g = (ink_parts b h).3
last_ink b (d ∷ bytes) h g = let parts = and_parts (is_ink d) (list_all is_ink bytes) g in last_ink d bytes (parts.0) (parts.1)

-- where the last byte is another one nothing is taken away
kept_whole : (t : Bool) (front whole : List ℕ) → cond (t && false) front whole ≡ whole
kept_whole true front whole = refl
kept_whole false front whole = refl

no_return : (line : List ℕ) → list_all is_ink line ≡ true → without_return line ≡ line
no_return [] h = refl
no_return (b ∷ bytes) h =
    let parts = and_parts (is_ink b) (list_all is_ink bytes) h in let e = less_one (length bytes) in let plain = last_ink b bytes (parts.0) (parts.1) in
    rw (e, plain) (kept_whole (nat_lt 0 (length (b ∷ bytes))) (take (length bytes) (b ∷ bytes)) (b ∷ bytes))

returns : (wss : List (List Word)) → list_all (list_all is_sound) wss ≡ true → map without_return (map (spaced Opening) wss) ≡ map (spaced Opening) wss
returns [] h = refl
returns (ws ∷ wss) h =
    let parts = and_parts (list_all is_sound ws) (list_all (list_all is_sound) wss) h in
    let first = no_return (spaced Opening ws) (spaced_ink Opening ws (parts.0)) in
    let rest = returns wss (parts.1) in
    cc

text_lines : (wss : List (List Word)) → list_all (list_all is_sound) wss ≡ true → lines (flat_map line_text wss) ≡ map (spaced Opening) wss
text_lines wss h = ap (map without_return) (pieces_all wss h) ∙ returns wss h

-- ---- a text

-- a text of such lines is read as their statements, where it passes no limit
pub text_read : {wss : List (List Word)} {statements : List Statement} → Forms p.Start wss statements p.After → list_all (list_all is_sound) wss ≡ true
    → ((n : ℕ) → TextRefuses (flat_map line_text wss) (fault.Refused n k.Limit) → ⊥) → TextReads (flat_map line_text wss) (numbered_from 1 statements)
text_read {wss} {statements} forms h keeps =
    let text = flat_map line_text wss in
    let size = leb-true _ _ (if_not (nat_le (length text) 1048576) (λ e. keeps 0 (inl (too_long _ _ e, refl, refl)))) in
    let same = text_lines wss h in
    let read = lines_read forms h start refl 1 (λ m r. keeps m (inr (size, subst (λ ls. Refused start 1 ls m k.Limit) (sym same) r))) in
    record {
      size = size;
      lines = record { last = read.0; finished = read.2; lines = subst (λ ls. Reads start 1 ls (numbered_from 1 statements) (read.0)) (sym same) (read.1) };
    }
