-- The codes of a variable: FALSE and TRUE are 0 and 1, an enumerator or a mode is its place in its list, and an
-- integer is itself.
use Rattle.std.specs.Prelude.{◌≡◌, ℕ, ◌<◌, ℤ, pos, ◌-ℤ◌, ◌≤ℤ◌, List, length, slice_get}
use Rattle.std.specs.Option.{option_map_or}
use Rattle.dd_formula.specs.declared.domain.Domain.{Domain}
use Rattle.scr_spec.specs.declared.spec.Shape.{Shape}
use Rattle.scr_spec.specs.declared.spec.Shape.TheVariants.{Range, Labels}
use Rattle.scr_spec.specs.declared.spec.TypeDef.{TypeDef}
use Rattle.scr_spec.specs.declared.spec.Kind.{Kind}
use Rattle.scr_spec.specs.declared.spec.Kind.TheVariants.{Boolean, Named, Modes}
use Rattle.scr_spec.specs.Data.{Data}
use Rattle.scr_spec.specs.Meaning.{Codes, code_of}

-- the places in a list of names
abbrev pub list_domain : List (List ℕ) → Domain
list_domain names = record { lo = pos 0; hi = pos (length names) -ℤ pos 1 }

-- the codes of a declared type
abbrev pub shape_domain : Shape → Domain
shape_domain (Range d) = d
shape_domain (Labels names) = list_domain names

-- the domain of what is not there
abbrev pub no_domain : Domain
no_domain = record { lo = pos 0; hi = pos 0 }

-- the codes of a kind of variable
abbrev pub kind_domain : List TypeDef → Kind → Domain
kind_domain types Boolean = record { lo = pos 0; hi = pos 1 }
kind_domain types (Named k) = option_map_or (λ t. shape_domain t.shape) (slice_get types k) no_domain
kind_domain types (Modes names) = list_domain names

-- the least and the greatest code of a variable
abbrev pub domain_of : Data → ℕ → Domain
domain_of spec v = option_map_or (λ x. kind_domain spec.types x.kind) (slice_get spec.variables v) no_domain

-- the code is one of the domain
pub record IsWithin (d : Domain) (code : ℤ) : Type 0 where
  pub least : d.lo ≤ℤ code
  pub most : code ≤ℤ d.hi

-- a typed state: one code for each variable, each in its domain
pub record IsTyped (spec : Data) (codes : Codes) : Type 0 where
  pub one_each : length codes ≡ length spec.variables
  pub within : (v : ℕ) → v < length spec.variables → IsWithin (domain_of spec v) (code_of codes v)
