-- What the lines so far declare, and what names stand for in it.
use Rattle.std.specs.Prelude.{ℕ, pos, Bool, [], Option, Some, None, is_some}
use Rattle.std.specs.Option.{option_and_then}
use Rattle.scr_spec.specs.Data.{Data}
use Rattle.scr_spec.specs.declared.cond.Operand.{Operand}
use Rattle.scr_spec.specs.declared.cond.Operand.TheVariants as made
use Rattle.scr_scope.specs.declared.meaning.Meaning.{Meaning}
use Rattle.scr_scope.specs.declared.meaning.Meaning.TheVariants as m
use Rattle.scr_scope.specs.declared.known.Known.{Known}
use Rattle.scr_scope.specs.Names.{Name, meaning_of, is_known}
use Rattle.scr_scope.specs.First.{unless}

-- before the first line
abbrev pub nothing : Known
nothing = record { title = []; names = []; types = []; constants = []; variables = []; tables = []; current = None }

-- the parts of a specification that are there so far
abbrev pub seen : Known → Data
seen known = record { name = known.title; types = known.types; constants = known.constants; variables = known.variables; tables = known.tables }

-- what a name stands for, where it is declared
abbrev pub meant : Known → Name → Option Meaning
meant known n = meaning_of known.names n

-- the name, where it is not declared
abbrev pub unknown : Known → Name → Option Name
unknown known n = unless (is_known known.names n) n

abbrev pub type_meant : Meaning → Option ℕ
type_meant (m.Type k) = Some k
type_meant (m.Constant k) = None
type_meant (m.Label o place) = None
type_meant (m.Variable v) = None

-- the number of the type of that name
abbrev pub type_named : Known → Name → Option ℕ
type_named known n = option_and_then type_meant (meant known n)

abbrev pub variable_meant : Meaning → Option ℕ
variable_meant (m.Type k) = None
variable_meant (m.Constant k) = None
variable_meant (m.Label o place) = None
variable_meant (m.Variable v) = Some v

-- the number of the variable of that name
abbrev pub variable_named : Known → Name → Option ℕ
variable_named known n = option_and_then variable_meant (meant known n)

abbrev pub is_variable : Known → Name → Bool
is_variable known n = is_some (variable_named known n)

-- a type stands for no operand
abbrev pub operand_meant : Meaning → Option Operand
operand_meant (m.Type k) = None
operand_meant (m.Constant k) = Some (made.Constant k)
operand_meant (m.Label o place) = Some (made.Label o (pos place))
operand_meant (m.Variable v) = Some (made.Variable v)
