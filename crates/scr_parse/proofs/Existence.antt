-- A text is read or refused: that it is neither is absurd.
use Rattle.std.proofs.Common.{◌≡◌, ◌≢◌, ◌⊎◌, inl, inr, ℕ, ◌+◌, ◌<◌, Bool, true, false, List, [], ◌∷◌, ◌++◌, length, Option, Some, None, refl, arith}
use Rattle.std.specs.Prelude.{nat_le}
use Rattle.std.proofs.lemmas.Bool.Decides.{nat_tests}
use Rattle.scr_tokens.specs.declared.word.Token.{Token}
use Rattle.base.specs.Lines.{lines}
use Rattle.scr_tokens.specs.Tokens.{IsLexed}
use Rattle.scr_parse.specs.declared.draft.Statement.{Statement}
use Rattle.scr_parse.specs.declared.draft.Numbered.{Numbered}
use Rattle.scr_parse.specs.declared.place.Place.{Place}
use Rattle.scr_parse.specs.declared.place.Place.TheVariants as p
use Rattle.scr_parse.specs.declared.place.Position.{Position}
use Rattle.scr_parse.specs.declared.place.TextKind.{TextKind}
use Rattle.scr_parse.specs.declared.place.TextKind.TheVariants as k
use Rattle.scr_parse.specs.declared.place.TextFault.TheVariants as fault
use Rattle.scr_parse.specs.Words.{words}
use Rattle.scr_parse.specs.Forms.{Form}
use Rattle.scr_parse.specs.Limits.{is_line_within, is_statement_within, counted, is_count_within}
use Rattle.scr_parse.specs.Text.{LineReads, blank, says, WordsRefuse, LineRefuses, Reads, no_line, line_more, Refused, here, later, unfinished, numbered, start, TextReads, TextRefuses}
use Rattle.scr_parse.proofs.RefusedOnce.{lexed_or_refused}

-- the line is not read
abbrev NotRead : Position → List ℕ → Type 0
NotRead position line = (statement : Option Statement) (next : Position) → LineReads position line statement next → ⊥

-- the line is not refused
abbrev NotRefused : Position → List ℕ → Type 0
NotRefused position line = (kind : TextKind) → LineRefuses position line kind → ⊥

-- ---- a line

by_counts : (position : Position) (line : List ℕ) (tokens : List Token) → IsLexed line tokens → 0 < length tokens → is_line_within (words tokens) ≡ true
    → (statement : Statement) (next : Place) → Form position.place (words tokens) statement next → is_statement_within statement ≡ true
    → (b : Bool) → is_count_within (counted position.counts statement) ≡ b → NotRead position line → NotRefused position line → ⊥
by_counts position line tokens lexed some line_within statement next form within true e unread unrefused =
    unread (Some statement) (record { place = next; counts = counted position.counts statement })
    (says lexed (record { line_within = line_within; form = form; within = within; counts = refl; count_within = e }))
by_counts position line tokens lexed some line_within statement next form within false e unread unrefused =
    unrefused k.Limit (inr (tokens, lexed, some, inr (line_within, (statement, next, form, inr e))))

by_statement : (position : Position) (line : List ℕ) (tokens : List Token) → IsLexed line tokens → 0 < length tokens → is_line_within (words tokens) ≡ true
    → (statement : Statement) (next : Place) → Form position.place (words tokens) statement next
    → (b : Bool) → is_statement_within statement ≡ b → NotRead position line → NotRefused position line → ⊥
by_statement position line tokens lexed some line_within statement next form true e unread unrefused =
    by_counts position line tokens lexed some line_within statement next form e (is_count_within (counted position.counts statement)) refl unread unrefused
by_statement position line tokens lexed some line_within statement next form false e unread unrefused =
    unrefused k.Limit (inr (tokens, lexed, some, inr (line_within, (statement, next, form, inl e))))

by_words : (position : Position) (line : List ℕ) (tokens : List Token) → IsLexed line tokens → 0 < length tokens
    → (b : Bool) → is_line_within (words tokens) ≡ b → NotRead position line → NotRefused position line → ⊥
by_words position line tokens lexed some true e unread unrefused =
    unrefused k.Syntax (inr (
      tokens,
      lexed,
      some,
      (
        e,
        λ statement next form.
            by_statement position line tokens lexed some e statement next form (is_statement_within statement) refl unread unrefused,
      ),
    ))
by_words position line tokens lexed some false e unread unrefused = unrefused k.Limit (inr (tokens, lexed, some, inl e))

by_tokens : (position : Position) (line : List ℕ) (tokens : List Token) → IsLexed line tokens → NotRead position line → NotRefused position line → ⊥
by_tokens position line [] lexed unread unrefused = unread None position (blank lexed)
by_tokens position line (token ∷ tokens) lexed unread unrefused =
    by_words position line (token ∷ tokens) lexed (omega arith) (is_line_within (words (token ∷ tokens))) refl unread unrefused

some_line : (position : Position) (line : List ℕ) → NotRead position line → NotRefused position line → ⊥
some_line position line unread unrefused =
    lexed_or_refused (WordsRefuse position) line (λ tokens lexed. by_tokens position line tokens lexed unread unrefused) unrefused

-- ---- the lines

is_after : (place : Place) → (place ≡ p.After) ⊎ (place ≢ p.After)
is_after p.Start = inr (λ e. cc)
is_after p.Declarations = inr (λ e. cc)
is_after (p.FirstRow heading) = inr (λ e. cc)
is_after (p.Rows heading) = inr (λ e. cc)
is_after p.Transitions = inr (λ e. cc)
is_after p.Closed = inr (λ e. cc)
is_after p.Tables = inr (λ e. cc)
is_after p.After = inl refl

by_place : (position : Position) (n : ℕ) → (position.place ≡ p.After) ⊎ (position.place ≢ p.After)
    → ((draft : List Numbered) (last : Position) → Reads position n [] draft last → last.place ≡ p.After → ⊥)
    → ((m : ℕ) (kind : TextKind) → Refused position n [] m kind → ⊥) → ⊥
by_place position n (inl e) unread unrefused = unread [] position no_line e
by_place position n (inr h) unread unrefused = unrefused n k.End (unfinished h)

some_lines : (position : Position) (n : ℕ) (ls : List (List ℕ))
    → ((draft : List Numbered) (last : Position) → Reads position n ls draft last → last.place ≡ p.After → ⊥)
    → ((m : ℕ) (kind : TextKind) → Refused position n ls m kind → ⊥) → ⊥
some_lines position n [] unread unrefused = by_place position n (is_after position.place) unread unrefused
some_lines position n (line ∷ more) unread unrefused = some_line position line
    (λ statement next says_so. some_lines next (n + 1) more
    (λ draft last reads e. unread (numbered n statement ++ draft) last (line_more says_so reads) e)
    (λ m kind refused. unrefused m kind (later says_so refused)))
    (λ kind refused. unrefused n kind (here refused))

-- ---- a text

by_text : (text : List ℕ) (b : Bool) → nat_le (length text) 1048576 ≡ b → ((draft : List Numbered) → TextReads text draft → ⊥)
    → ((line : ℕ) (kind : TextKind) → TextRefuses text (fault.Refused line kind) → ⊥) → ⊥
by_text text true e unread unrefused = some_lines start 1 (lines text)
    (λ draft last reads e2. unread draft (record { size = grind (arith, nat_tests); lines = record { last = last; finished = e2; lines = reads } }))
    (λ m kind refused. unrefused m kind (inr (grind (arith, nat_tests), refused)))
by_text text false e unread unrefused = unrefused 0 k.Limit (inl (grind (arith, nat_tests), refl, refl))

pub some_outcome : (text : List ℕ) → ((draft : List Numbered) → TextReads text draft → ⊥) → ((line : ℕ) (kind : TextKind) → TextRefuses text (fault.Refused line kind) → ⊥) → ⊥
some_outcome text unread unrefused = by_text text (nat_le (length text) 1048576) refl unread unrefused
