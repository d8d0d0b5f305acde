-- The lines on a text that is refused.
use Rattle.std.specs.Prelude.{ℕ, List, ◌++◌, codes, decimal}
use Rattle.scr_parse.specs.declared.place.TextKind.{TextKind}
use Rattle.scr_parse.specs.declared.place.TextKind.TheVariants as text
use Rattle.scr_resolve.specs.declared.fault.TypeKind.{TypeKind}
use Rattle.scr_resolve.specs.declared.fault.TypeKind.TheVariants as type
use Rattle.scr_resolve.specs.Texts.{Refusal, unread, unresolved}

abbrev pub text_kind_word : TextKind → List ℕ
text_kind_word text.Byte = codes "byte"
text_kind_word text.Limit = codes "limit"
text_kind_word text.Syntax = codes "syntax"
text_kind_word text.End = codes "end"

-- a line that is not read
abbrev pub text_fault : ℕ → TextKind → List ℕ
text_fault line kind = codes "line " ++ decimal line ++ codes ": " ++ text_kind_word kind ++ codes "\n"

abbrev pub type_kind_word : TypeKind → List ℕ
type_kind_word type.Duplicate = codes "duplicate"
type_kind_word type.Unknown = codes "unknown"
type_kind_word type.Kind = codes "type"
type_kind_word type.Range = codes "range"
type_kind_word type.Wide = codes "wide"
type_kind_word type.Mode = codes "mode"
type_kind_word type.Table = codes "table"

-- a line that breaks a rule, with the name that breaks it
abbrev pub type_fault : ℕ → TypeKind → List ℕ → List ℕ
type_fault line kind name = codes "line " ++ decimal line ++ codes ": " ++ type_kind_word kind ++ codes " " ++ name ++ codes "\n"

-- the line on a text that is refused for this
abbrev pub refusal_text : Refusal → List ℕ
refusal_text (unread line kind) = text_fault line kind
refusal_text (unresolved line kind name) = type_fault line kind name
