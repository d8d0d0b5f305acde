-- A line that is refused, by the first of its steps that refuses it.
use Rattle.std.specs.Prelude.{◌≡◌, ◌⊎◌, ℕ, ◌<◌, true, false, List, length}
use Rattle.scr_tokens.specs.declared.fault.LexFault.TheVariants as f
use Rattle.scr_tokens.specs.declared.word.Token.{Token}
use Rattle.scr_tokens.specs.declared.word.Word.{Word}
use Rattle.scr_tokens.specs.Tokens.{IsLexed, Refuses}
use Rattle.scr_parse.specs.declared.place.TextKind.{TextKind}
use Rattle.scr_parse.specs.declared.place.TextKind.TheVariants as k
use Rattle.scr_parse.specs.declared.place.LineFault.{LineFault}
use Rattle.scr_parse.specs.declared.place.LineFault.TheVariants as why
use Rattle.scr_parse.specs.Words.{words}
use Rattle.scr_parse.specs.Limits.{is_line_within}

-- words that open too much, have no form, or have one that passes a limit
abbrev pub WordsRefusedBy : Type 0 → Type 0 → List Word → TextKind → Type 0
WordsRefusedBy no_form passes from k.Byte = ⊥
WordsRefusedBy no_form passes from k.Syntax = (is_line_within from ≡ true) × no_form
WordsRefusedBy no_form passes from k.Limit = (is_line_within from ≡ false) ⊎ ((is_line_within from ≡ true) × passes)
WordsRefusedBy no_form passes from k.End = ⊥

-- the line has tokens, and their words are refused
abbrev pub TokensRefusedBy : (List Word → TextKind → Type 0) → List ℕ → TextKind → Type 0
TokensRefusedBy refuse line kind = (tokens : List Token) × IsLexed line tokens × (0 < length tokens) × refuse (words tokens) kind

-- the first step that refuses the line: its length, a byte, a piece that is no token, a token too large, or its words
abbrev pub LineRefusedBy : (List Word → TextKind → Type 0) → List ℕ → TextKind → Type 0
LineRefusedBy refuse line k.Byte = Refuses line f.Byte
LineRefusedBy refuse line k.Syntax = Refuses line f.Syntax ⊎ TokensRefusedBy refuse line k.Syntax
LineRefusedBy refuse line k.Limit = Refuses line f.Limit ⊎ TokensRefusedBy refuse line k.Limit
LineRefusedBy refuse line k.End = ⊥

-- a fault of this kind, where the line or its words are refused so; memory may run out anywhere
abbrev pub Fails : (TextKind → Type 0) → LineFault → Type 0
Fails refuses why.NoMemory = Unit {0}
Fails refuses (why.Refused kind) = refuses kind
