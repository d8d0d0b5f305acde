-- The limits of a specification, as numbers.
use Rattle.std.specs.Prelude.{◌≡◌}
use Rattle.scr_spec.specs.declared.limits.TheConstants.{TYPE_LIMIT, CONSTANT_LIMIT, VARIABLE_LIMIT, LABEL_LIMIT, RANGE_LIMIT, ROW_LIMIT, CELL_LIMIT, ITEM_LIMIT, FACTOR_LIMIT, SIDE_LIMIT, NOT_LIMIT, NESTING_LIMIT}

pub record LimitsOfSpecifications : Type 0 where
  pub types : TYPE_LIMIT ≡ 64
  pub constants : CONSTANT_LIMIT ≡ 256
  pub variables : VARIABLE_LIMIT ≡ 128
  pub labels : LABEL_LIMIT ≡ 64
  pub range : RANGE_LIMIT ≡ 8192
  pub rows : ROW_LIMIT ≡ 64
  pub cells : CELL_LIMIT ≡ 16
  pub items : ITEM_LIMIT ≡ 8
  pub factor : FACTOR_LIMIT ≡ 1000
  pub side : SIDE_LIMIT ≡ 2000000000
  pub nots : NOT_LIMIT ≡ 64
  pub nesting : NESTING_LIMIT ≡ 64
