-- The levels of a specification.
use Rattle.std.specs.Prelude.{ℕ, ◌*◌, ◌/◌, List, length, map}
use Rattle.std.specs.List.{range_with_len}
use Rattle.dd_formula.specs.declared.domain.Domain.{Domain}
use Rattle.scr_spec.specs.Data.{Data}
use Rattle.scr_spec.specs.Domains.{domain_of}

-- an old level and a new one have the codes of their variable
abbrev pub level_domain : Data → ℕ → Domain
level_domain spec level = domain_of spec (level / 2)

-- the domain of each level
abbrev pub level_domains : Data → List Domain
level_domains spec = map (level_domain spec) (range_with_len 0 (2 * length spec.variables))
