-- The limits of a line, as numbers.
use Rattle.std.specs.Prelude.{◌≡◌}
use Rattle.base.specs.declared.limits.TheConstants.{LINE_LIMIT, NAME_LIMIT, NUMBER_LIMIT}

pub record LimitsOfLines : Type 0 where
  pub line : LINE_LIMIT ≡ 4096
  pub name : NAME_LIMIT ≡ 24
  pub number : NUMBER_LIMIT ≡ 1000000
