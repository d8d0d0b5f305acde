-- A text: its lines one after another, each with a form at its place and within the limits, or the first line that is
-- refused.
use Rattle.std.specs.Prelude.{◌≡◌, ◌≢◌, ◌⊎◌, ℕ, ◌+◌, ◌<◌, ◌≤◌, true, false, List, [], ◌∷◌, ◌++◌, length, Option, Some, None}
use Rattle.scr_tokens.specs.declared.word.Token.{Token}
use Rattle.scr_tokens.specs.declared.word.Word.{Word}
use Rattle.base.specs.Lines.{lines}
use Rattle.scr_tokens.specs.Tokens.{IsLexed}
use Rattle.scr_parse.specs.declared.draft.Statement.{Statement}
use Rattle.scr_parse.specs.declared.draft.Numbered.{Numbered}
use Rattle.scr_parse.specs.declared.place.Place.{Place}
use Rattle.scr_parse.specs.declared.place.Place.TheVariants.{Start, After}
use Rattle.scr_parse.specs.declared.place.Position.{Position}
use Rattle.scr_parse.specs.declared.place.TextKind.{TextKind}
use Rattle.scr_parse.specs.declared.place.TextKind.TheVariants as k
use Rattle.scr_parse.specs.declared.place.TextFault.{TextFault}
use Rattle.scr_parse.specs.declared.place.TextFault.TheVariants as fault
use Rattle.scr_parse.specs.declared.text.TheConstants.{TEXT_LIMIT}
use Rattle.scr_parse.specs.Words.{words}
use Rattle.scr_parse.specs.Refusals.{WordsRefusedBy, TokensRefusedBy, LineRefusedBy}
use Rattle.scr_parse.specs.Forms.{Form, NoForm}
use Rattle.scr_parse.specs.Limits.{is_line_within, is_statement_within, counted, is_count_within, no_counts}

-- ---- a line

-- the words say this statement here, with all limits kept
pub record Says (position : Position) (from : List Word) (statement : Statement) (next : Position) : Type 0 where
  pub line_within : is_line_within from ≡ true
  pub form : Form position.place from statement next.place
  pub within : is_statement_within statement ≡ true
  pub counts : next.counts ≡ counted position.counts statement
  pub count_within : is_count_within next.counts ≡ true

-- a line without tokens is skipped
pub data LineReads : Position → List ℕ → Option Statement → Position → Type 0 where
  blank : {position : Position} {line : List ℕ} → IsLexed line [] → LineReads position line None position
  says : {position next : Position} {line : List ℕ} {tokens : List Token} {statement : Statement} → IsLexed line tokens
      → Says position (words tokens) statement next → LineReads position line (Some statement) next

-- the words have a form here, but the statement or the lines so far pass a limit
abbrev pub PassesLimit : Position → List Word → Type 0
PassesLimit position from = (statement : Statement) × (next : Place) × Form position.place from statement next
    × ((is_statement_within statement ≡ false) ⊎ (is_count_within (counted position.counts statement) ≡ false))

-- the first step that refuses the words: what they open, no form, a statement or a count too large
abbrev pub WordsRefuse : Position → List Word → TextKind → Type 0
WordsRefuse position from kind = WordsRefusedBy (NoForm position.place from) (PassesLimit position from) from kind

-- the line has tokens, and these are refused
abbrev pub TokensRefuse : Position → List ℕ → TextKind → Type 0
TokensRefuse position line kind = TokensRefusedBy (WordsRefuse position) line kind

-- the first step that refuses the line: its length, a byte, a piece that is no token, a token too large, or its words
abbrev pub LineRefuses : Position → List ℕ → TextKind → Type 0
LineRefuses position line kind = LineRefusedBy (WordsRefuse position) line kind

-- ---- the lines

-- a statement with its line, where the line has one
abbrev pub numbered : ℕ → Option Statement → List Numbered
numbered n None = []
numbered n (Some statement) = record { line = n; statement = statement } ∷ []

-- the lines, of which the first has this number, are these statements
pub data Reads : Position → ℕ → List (List ℕ) → List Numbered → Position → Type 0 where
  no_line : {position : Position} {n : ℕ} → Reads position n [] [] position
  line_more : {position next last : Position} {n : ℕ} {line : List ℕ} {more : List (List ℕ)} {statement : Option Statement} {draft : List Numbered}
      → LineReads position line statement next → Reads next (n + 1) more draft last
      → Reads position n (line ∷ more) (numbered n statement ++ draft) last

-- the first line that is refused has this number; without FINISH it is the line after the last
pub data Refused : Position → ℕ → List (List ℕ) → ℕ → TextKind → Type 0 where
  here : {position : Position} {n : ℕ} {line : List ℕ} {more : List (List ℕ)} {kind : TextKind} → LineRefuses position line kind
      → Refused position n (line ∷ more) n kind
  later : {position next : Position} {n m : ℕ} {line : List ℕ} {more : List (List ℕ)} {statement : Option Statement} {kind : TextKind}
      → LineReads position line statement next → Refused next (n + 1) more m kind → Refused position n (line ∷ more) m kind
  unfinished : {position : Position} {n : ℕ} → position.place ≢ After → Refused position n [] n k.End

-- ---- a text

abbrev pub start : Position
start = record { place = Start; counts = no_counts }

-- the lines are these statements, to FINISH
pub record LinesRead (ls : List (List ℕ)) (draft : List Numbered) : Type 0 where
  pub last : Position
  pub finished : last.place ≡ After
  pub lines : Reads start 1 ls draft last

-- the text is these statements
pub record TextReads (text : List ℕ) (draft : List Numbered) : Type 0 where
  pub size : length text ≤ TEXT_LIMIT
  pub lines : LinesRead (lines text) draft

-- the lines are refused with this fault; memory may run out at any lines
abbrev pub LinesFail : List (List ℕ) → TextFault → Type 0
LinesFail ls fault.NoMemory = Unit {0}
LinesFail ls (fault.Refused line kind) = Refused start 1 ls line kind

-- the text is refused with this fault; memory may run out at any text
abbrev pub TextRefuses : List ℕ → TextFault → Type 0
TextRefuses text fault.NoMemory = Unit {0}
TextRefuses text (fault.Refused line kind) =
    ((TEXT_LIMIT < length text) × (line ≡ 0) × (kind ≡ k.Limit)) ⊎ ((length text ≤ TEXT_LIMIT) × Refused start 1 (lines text) line kind)

-- a text is read in one way or refused in one way, and never neither
pub record OneOutcome : Type 0 where
  pub once : (text : List ℕ) (a b : List Numbered) → TextReads text a → TextReads text b → a ≡ b
  pub apart : (text : List ℕ) (draft : List Numbered) (line : ℕ) (kind : TextKind) → TextReads text draft → TextRefuses text (fault.Refused line kind) → ⊥
  pub one_fault : (text : List ℕ) (m n : ℕ) (j kind : TextKind) → TextRefuses text (fault.Refused m j) → TextRefuses text (fault.Refused n kind)
      → (m ≡ n) × (j ≡ kind)
  pub some : (text : List ℕ) → ((draft : List Numbered) → TextReads text draft → ⊥) → ((line : ℕ) (kind : TextKind) → TextRefuses text (fault.Refused line kind) → ⊥) → ⊥
