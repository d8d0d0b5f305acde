-- What a text spells, and why it is refused.
use Rattle.std.specs.Prelude.{◌≡◌, ℕ, List}
use Rattle.scr_spec.specs.Data.{Data}
use Rattle.scr_spec.specs.Sound.{IsSound}
use Rattle.scr_parse.specs.declared.draft.Numbered.{Numbered}
use Rattle.scr_parse.specs.declared.place.TextKind.{TextKind}
use Rattle.scr_parse.specs.declared.place.TextFault.TheVariants as text_fault
use Rattle.scr_parse.specs.Text.{TextReads, TextRefuses}
use Rattle.scr_scope.specs.Names.{Name}
use Rattle.scr_resolve.specs.declared.fault.TypeKind.{TypeKind}
use Rattle.scr_resolve.specs.declared.fault.TypeFault.TheVariants as type_fault
use Rattle.scr_resolve.specs.Draft.{DraftResolves, DraftRefuses}

-- the text spells this specification
pub record Spells (text : List ℕ) (spec : Data) : Type 0 where
  pub draft : List Numbered
  pub reads : TextReads text draft
  pub resolves : DraftResolves draft spec

-- what is wrong with a text: a line that is not read, or one that is read and breaks a rule of names and types
pub data Refusal : Type 0 where
  unread : ℕ → TextKind → Refusal
  unresolved : ℕ → TypeKind → Name → Refusal

-- the text is refused for this; a line that is not read, anywhere in the text, comes before all rules of names and types
abbrev pub IsRefused : List ℕ → Refusal → Type 0
IsRefused text (unread line kind) = TextRefuses text (text_fault.Refused line kind)
IsRefused text (unresolved line kind name) = (draft : List Numbered) × TextReads text draft × DraftRefuses draft (type_fault.Refused line kind name)

-- each text spells one specification or is refused for one thing, never both and never neither
pub record OneReading : Type 0 where
  pub once : (text : List ℕ) (a b : Data) → Spells text a → Spells text b → a ≡ b
  pub one_refusal : (text : List ℕ) (r s : Refusal) → IsRefused text r → IsRefused text s → r ≡ s
  pub apart : (text : List ℕ) (spec : Data) (r : Refusal) → Spells text spec → IsRefused text r → ⊥
  pub some : (text : List ℕ) → ((spec : Data) → Spells text spec → ⊥) → ((r : Refusal) → IsRefused text r → ⊥) → ⊥

-- what a text spells keeps all rules of a specification
pub record SpelledIsSound : Type 0 where
  pub sound : (text : List ℕ) (spec : Data) → Spells text spec → IsSound spec
