-- The size of a code.
use Rattle.std.proofs.Common.{ℤ, ◌≤◌, arith}
use Rattle.std.specs.Prelude.{unsigned_abs}
use Rattle.std.proofs.lemmas.Int.{ints}
use Rattle.dd_formula.specs.declared.domain.Domain.{Domain}
use Rattle.dd_formula.specs.Domains.{domain_bound}
use Rattle.scr_spec.specs.Domains.{IsWithin}

-- a code of a domain is within the domain's bound
pub code_bounded : (d : Domain) (code : ℤ) → IsWithin d code → unsigned_abs code ≤ domain_bound d
code_bounded d code h = grind (arith, ints)
