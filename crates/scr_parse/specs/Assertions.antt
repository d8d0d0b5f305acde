-- A text of assertions: its lines one after another, each an assertion within the limits, or the first line that is
-- refused.
use Rattle.std.specs.Prelude.{◌≡◌, ◌⊎◌, ℕ, ◌+◌, ◌<◌, ◌≤◌, Bool, true, false, ◌&&◌, List, [], ◌∷◌, ◌++◌, length, Option, Some, None}
use Rattle.std.specs.Option.{option_to_list}
use Rattle.std.specs.List.{list_all}
use Rattle.scr_tokens.specs.declared.word.Token.{Token}
use Rattle.scr_tokens.specs.declared.word.Word.{Word}
use Rattle.scr_tokens.specs.declared.word.Word.TheVariants as w
use Rattle.scr_tokens.specs.declared.word.Sign.TheVariants as s
use Rattle.scr_tokens.specs.declared.word.Keyword.TheVariants as word
use Rattle.base.specs.Lines.{lines}
use Rattle.scr_tokens.specs.Tokens.{IsLexed}
use Rattle.scr_spec.specs.NameSpace.{is_name}
use Rattle.scr_parse.specs.declared.draft.DraftCond.{DraftCond}
use Rattle.scr_parse.specs.declared.draft.DraftAssertion.{DraftAssertion}
use Rattle.scr_parse.specs.declared.place.TextKind.{TextKind}
use Rattle.scr_parse.specs.declared.place.TextKind.TheVariants as k
use Rattle.scr_parse.specs.declared.place.TextFault.{TextFault}
use Rattle.scr_parse.specs.declared.place.TextFault.TheVariants as fault
use Rattle.scr_parse.specs.declared.text.TheConstants.{TEXT_LIMIT}
use Rattle.scr_parse.specs.declared.assertions.TheConstants.{ASSERTION_LIMIT}
use Rattle.scr_parse.specs.Words.{words}
use Rattle.scr_parse.specs.Conds.{any_of, Cond}
use Rattle.scr_parse.specs.Limits.{is_line_within, is_cond_within}
use Rattle.scr_parse.specs.Refusals.{WordsRefusedBy, LineRefusedBy}
use Rattle.scr_parse.specs.Readable.{is_cond_spelt}

-- ---- a line

-- ASSERT n : cond, where an item may have a primed name
pub data Form : List Word → List ℕ → DraftCond → Type 0 where
  assert : {name : List ℕ} {from : List Word} {ds : List DraftCond} → Cond true from ds []
      → Form (w.Reserved word.Assert ∷ w.Name name ∷ w.Sign s.Colon ∷ from) name (any_of ds)

-- behind so many assertions the words say this one, with all limits kept
pub record Says (before : ℕ) (from : List Word) (name : List ℕ) (cond : DraftCond) : Type 0 where
  pub line_within : is_line_within from ≡ true
  pub form : Form from name cond
  pub within : is_cond_within cond ≡ true
  pub few : before < ASSERTION_LIMIT

-- a line without tokens is skipped
pub data LineAsserts : ℕ → ℕ → List ℕ → Option DraftAssertion → Type 0 where
  blank : {before n : ℕ} {line : List ℕ} → IsLexed line [] → LineAsserts before n line None
  says : {before n : ℕ} {line name : List ℕ} {tokens : List Token} {cond : DraftCond} → IsLexed line tokens → Says before (words tokens) name cond
      → LineAsserts before n line (Some (record { line = n; name = name; cond = cond }))

-- the words have no such form
abbrev pub NoForm : List Word → Type 0
NoForm from = (name : List ℕ) (cond : DraftCond) → Form from name cond → ⊥

-- they have it, but a side is too long, a factor too great, or there are as many assertions before it as may be
abbrev pub PassesLimit : ℕ → List Word → Type 0
PassesLimit before from = (name : List ℕ) × (cond : DraftCond) × Form from name cond × ((is_cond_within cond ≡ false) ⊎ (ASSERTION_LIMIT ≤ before))

abbrev pub WordsRefuse : ℕ → List Word → TextKind → Type 0
WordsRefuse before from kind = WordsRefusedBy (NoForm from) (PassesLimit before from) from kind

abbrev pub LineRefuses : ℕ → List ℕ → TextKind → Type 0
LineRefuses before line kind = LineRefusedBy (WordsRefuse before) line kind

-- ---- the lines

-- behind so many assertions the lines, of which the first has this number, are these
pub data Reads : ℕ → ℕ → List (List ℕ) → List DraftAssertion → Type 0 where
  no_line : {before n : ℕ} → Reads before n [] []
  line_more : {before n : ℕ} {line : List ℕ} {more : List (List ℕ)} {said : Option DraftAssertion} {drafts : List DraftAssertion}
      → LineAsserts before n line said → Reads (before + length (option_to_list said)) (n + 1) more drafts
      → Reads before n (line ∷ more) (option_to_list said ++ drafts)

-- the first line that is refused has this number
pub data Refused : ℕ → ℕ → List (List ℕ) → ℕ → TextKind → Type 0 where
  here : {before n : ℕ} {line : List ℕ} {more : List (List ℕ)} {kind : TextKind} → LineRefuses before line kind → Refused before n (line ∷ more) n kind
  later : {before n m : ℕ} {line : List ℕ} {more : List (List ℕ)} {said : Option DraftAssertion} {kind : TextKind}
      → LineAsserts before n line said → Refused (before + length (option_to_list said)) (n + 1) more m kind → Refused before n (line ∷ more) m kind

-- the lines are refused with this fault; memory may run out at any lines
abbrev pub LinesFail : List (List ℕ) → TextFault → Type 0
LinesFail ls fault.NoMemory = Unit {0}
LinesFail ls (fault.Refused line kind) = Refused 0 1 ls line kind

-- ---- a text

-- the text is these assertions
pub record TextAsserts (text : List ℕ) (drafts : List DraftAssertion) : Type 0 where
  pub size : length text ≤ TEXT_LIMIT
  pub lines : Reads 0 1 (lines text) drafts

-- the text is refused with this fault; memory may run out at any text
abbrev pub AssertionsRefuse : List ℕ → TextFault → Type 0
AssertionsRefuse text fault.NoMemory = Unit {0}
AssertionsRefuse text (fault.Refused line kind) =
    ((TEXT_LIMIT < length text) × (line ≡ 0) × (kind ≡ k.Limit)) ⊎ ((length text ≤ TEXT_LIMIT) × Refused 0 1 (lines text) line kind)

-- a text of assertions is read in one way or refused in one way, and never neither; no text ends too early
pub record OneOutcomeOfAssertions : Type 0 where
  pub once : (text : List ℕ) (a b : List DraftAssertion) → TextAsserts text a → TextAsserts text b → a ≡ b
  pub apart : (text : List ℕ) (drafts : List DraftAssertion) (line : ℕ) (kind : TextKind) → TextAsserts text drafts → AssertionsRefuse text (fault.Refused line kind) → ⊥
  pub one_fault : (text : List ℕ) (m n : ℕ) (j kind : TextKind) → AssertionsRefuse text (fault.Refused m j) → AssertionsRefuse text (fault.Refused n kind)
      → (m ≡ n) × (j ≡ kind)
  pub some : (text : List ℕ) → ((drafts : List DraftAssertion) → TextAsserts text drafts → ⊥) → ((line : ℕ) (kind : TextKind) → AssertionsRefuse text (fault.Refused line kind) → ⊥) → ⊥
  pub no_end : (text : List ℕ) (line : ℕ) → AssertionsRefuse text (fault.Refused line k.End) → ⊥

-- ---- what is read

-- its name and those in its condition are names of the language, its numbers are within the limits, and AND and OR join
-- at least two conditions
abbrev pub is_assertion_readable : DraftAssertion → Bool
is_assertion_readable a = is_name a.name && is_cond_within a.cond && is_cond_spelt true a.cond

-- every text that is read gives such assertions, and no more than may be
pub record AssertsReadable : Type 0 where
  pub each : (text : List ℕ) (drafts : List DraftAssertion) → TextAsserts text drafts → list_all is_assertion_readable drafts ≡ true
  pub few : (text : List ℕ) (drafts : List DraftAssertion) → TextAsserts text drafts → length drafts ≤ ASSERTION_LIMIT
