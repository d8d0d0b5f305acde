-- The initial values of variables.
use Rattle.std.specs.Prelude.{Bool, true, not, ◌||◌, List, is_some}
use Rattle.std.specs.Option.{option_map_or}
use Rattle.scr_spec.specs.declared.spec.TypeDef.{TypeDef}
use Rattle.scr_spec.specs.declared.spec.Kind.{Kind}
use Rattle.scr_spec.specs.declared.spec.Kind.TheVariants.{Boolean, Named, Modes}
use Rattle.scr_spec.specs.declared.spec.Role.{Role}
use Rattle.scr_spec.specs.declared.spec.Variable.{Variable}
use Rattle.scr_spec.specs.Roles.{is_class_role, is_computed_role}
use Rattle.scr_spec.specs.Domains.{kind_domain}
use Rattle.dd_formula.specs.Domains.{is_within}

-- a monitored variable and a mode class have one
abbrev pub is_init_there : Variable → Bool
is_init_there x = is_computed_role x.role || is_some x.init

-- it is one of the codes of the variable
abbrev pub is_init_sound : List TypeDef → Variable → Bool
is_init_sound types x = option_map_or (is_within (kind_domain types x.kind)) x.init true

-- a list of modes is the kind of a mode class alone, and its only one
abbrev pub is_kind_of_role : Role → Kind → Bool
is_kind_of_role role Boolean = not (is_class_role role)
is_kind_of_role role (Named k) = not (is_class_role role)
is_kind_of_role role (Modes names) = is_class_role role
