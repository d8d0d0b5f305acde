-- The fault of a line, by that of its tokens or its form, and of a text, by that of a line.
use Rattle.std.specs.Prelude.{ℕ}
use Rattle.scr_tokens.specs.declared.fault.LexFault.{LexFault}
use Rattle.scr_tokens.specs.declared.fault.LexFault.TheVariants as lex
use Rattle.scr_parse.specs.declared.fault.FormFault.{FormFault}
use Rattle.scr_parse.specs.declared.fault.FormFault.TheVariants as form
use Rattle.scr_parse.specs.declared.place.TextKind.TheVariants as k
use Rattle.scr_parse.specs.declared.place.LineFault.{LineFault}
use Rattle.scr_parse.specs.declared.place.LineFault.TheVariants as why
use Rattle.scr_parse.specs.declared.place.TextFault.{TextFault}
use Rattle.scr_parse.specs.declared.place.TextFault.TheVariants as text

-- a line without a form is refused as syntax
abbrev pub of_form : FormFault → LineFault
of_form form.Refused = why.Refused k.Syntax
of_form form.NoMemory = why.NoMemory

-- a line without tokens is refused with the kind of that fault
abbrev pub of_lex : LexFault → LineFault
of_lex lex.Limit = why.Refused k.Limit
of_lex lex.Byte = why.Refused k.Byte
of_lex lex.Syntax = why.Refused k.Syntax
of_lex lex.NoMemory = why.NoMemory

-- the fault of a line stands at that line
abbrev pub at_line : ℕ → LineFault → TextFault
at_line line (why.Refused kind) = text.Refused line kind
at_line line why.NoMemory = text.NoMemory
