-- Laws of the canonical text.
use Rattle.std.specs.Prelude.{◌≡◌, ℕ, pos, int_le, Bool, true, false, ◌&&◌, List, [], map, Option}
use Rattle.std.specs.List.{list_all}
use Rattle.base.specs.declared.limits.TheConstants.{NUMBER_LIMIT}
use Rattle.scr_tokens.specs.declared.word.Word.{Word}
use Rattle.scr_tokens.specs.declared.word.Word.TheVariants as w
use Rattle.scr_tokens.specs.declared.word.Token.{Token}
use Rattle.scr_tokens.specs.Tokens.{Tokens}
use Rattle.scr_spec.specs.Data.{Data}
use Rattle.scr_spec.specs.declared.cond.Cond.{Cond}
use Rattle.scr_spec.specs.declared.table.Table.{Table}
use Rattle.scr_spec.specs.NameSpace.{is_name}
use Rattle.scr_spec.specs.Over.{is_cond_over}
use Rattle.scr_spec.specs.Typed.{is_cond_typed}
use Rattle.scr_spec.specs.Parts.{sides_pass}
use Rattle.scr_spec.specs.Formed.{is_side_formed, is_side_plain, joins_several}
use Rattle.scr_spec.specs.Sound.{IsSound}
use Rattle.scr_parse.specs.declared.draft.DraftCond.{DraftCond}
use Rattle.scr_parse.specs.declared.draft.Numbered.{Numbered}
use Rattle.scr_parse.specs.declared.place.TextKind.TheVariants as kind
use Rattle.scr_parse.specs.declared.place.TextFault.TheVariants as fault
use Rattle.scr_parse.specs.Conds.{any_of, Cond as Reads}
use Rattle.scr_parse.specs.Text.{TextReads, TextRefuses}
use Rattle.scr_scope.specs.declared.known.Known.{Known}
use Rattle.scr_scope.specs.Names.{NameList}
use Rattle.scr_scope.specs.Conditions.{cond_of, is_typed_cond}
use Rattle.scr_printer.specs.declared.line.Behind.TheVariants.{Opening}
use Rattle.scr_printer.specs.Spelling.{spaced}
use Rattle.scr_printer.specs.Conds.{cond_words}
use Rattle.scr_printer.specs.Text.{canonical}
use Rattle.scr_scope.specs.Entries.{entries_of}
use Rattle.scr_resolve.specs.Texts.{Spells}

-- a word that a line can have: a name of the language, or a number up to 1,000,000
abbrev pub is_sound : Word → Bool
is_sound (w.Name name) = is_name name
is_sound (w.Primed name) = is_name name
is_sound (w.Number n) = int_le (pos 0) n && int_le n (pos NUMBER_LIMIT)
is_sound (w.Reserved keyword) = true
is_sound (w.Sign sign) = true

-- the tokens of spaced words are these words
abbrev pub SpacedLexes : Type 0
SpacedLexes = (ws : List Word) → list_all is_sound ws ≡ true → (tokens : List Token) × Tokens 0 (spaced Opening ws) tokens × (map (λ t. t.word) tokens ≡ ws)

-- a text passes no limit of the reader where it is not refused for one
abbrev pub PassesNoLimit : List ℕ → Type 0
PassesNoLimit text = (line : ℕ) → TextRefuses text (fault.Refused line kind.Limit) → ⊥

-- the canonical text of a specification is read, where it passes no limit
abbrev pub CanonicalReads : Type 0
CanonicalReads = (spec : Data) → IsSound spec → PassesNoLimit (canonical spec) → (draft : List Numbered) × TextReads (canonical spec) draft

-- a condition that may stand in a specification
pub record IsCondSound (spec : Data) (c : Cond) : Type 0 where
  pub over : is_cond_over spec c ≡ true
  pub typed : is_cond_typed spec c ≡ true
  pub unprimed : sides_pass is_side_plain c ≡ true
  pub sides : sides_pass is_side_formed c ≡ true
  pub joined : joins_several c ≡ true

-- what is known behind the declarations of a specification, with these tables so far
abbrev pub known_with : Data → NameList → List Table → Option Table → Known
known_with spec names tables current = record {
  title = spec.name;
  names = names;
  types = spec.types;
  constants = spec.constants;
  variables = spec.variables;
  tables = tables;
  current = current;
}

-- the words of a condition are read as one that resolves to this condition, and is well typed, behind its declarations
pub record CondComesBack (spec : Data) (names : NameList) (c : Cond) : Type 0 where
  pub drafts : List DraftCond
  pub reads : Reads false (cond_words spec c) drafts []
  pub resolves : (tables : List Table) (current : Option Table) → cond_of (known_with spec names tables current) (any_of drafts) ≡ c
  pub typed : (tables : List Table) (current : Option Table) → is_typed_cond (known_with spec names tables current) (any_of drafts) ≡ true

abbrev pub CondsComeBack : Type 0
CondsComeBack = (spec : Data) → IsSound spec → (c : Cond) → IsCondSound spec c → CondComesBack spec (entries_of spec) c

-- the text spells this specification and no other, and is the canonical text of what it spells
pub record IsCanonical (text : List ℕ) (spec : Data) : Type 0 where
  pub spells : Spells text spec
  pub only : (other : Data) → Spells text other → other ≡ spec
  pub stays : (other : Data) → Spells text other → canonical other ≡ text

-- so the canonical text of a specification is, where it passes no limit
abbrev pub CanonicalSpells : Type 0
CanonicalSpells = (spec : Data) → IsSound spec → PassesNoLimit (canonical spec) → IsCanonical (canonical spec) spec
