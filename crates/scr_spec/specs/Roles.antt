-- What a variable is for.
use Rattle.std.specs.Prelude.{Bool, true, false}
use Rattle.scr_spec.specs.declared.spec.Role.{Role}
use Rattle.scr_spec.specs.declared.spec.Role.TheVariants.{Monitored, Mode, Term, Controlled}

-- its values come from outside; every other variable is a dependent one
abbrev pub is_monitored_role : Role → Bool
is_monitored_role Monitored = true
is_monitored_role Mode = false
is_monitored_role Term = false
is_monitored_role Controlled = false

-- a mode class
abbrev pub is_class_role : Role → Bool
is_class_role Monitored = false
is_class_role Mode = true
is_class_role Term = false
is_class_role Controlled = false

-- a condition table or an event table gives its values
abbrev pub is_computed_role : Role → Bool
is_computed_role Monitored = false
is_computed_role Mode = false
is_computed_role Term = true
is_computed_role Controlled = true
