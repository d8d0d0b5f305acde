-- What a relation says of two numbers.
use Rattle.std.specs.Prelude.{ℤ, Bool, not, int_lt, int_le}
use Rattle.std.specs.Ordering.{int_eq}
use Rattle.base.specs.declared.relation.Relation.{Relation}
use Rattle.base.specs.declared.relation.Relation.TheVariants.{Equal, Differ, Less, AtMost, Greater, AtLeast}

-- the numbers stand in the relation; in C, these are the operators of C11 6.5.8 and 6.5.9
abbrev pub stands_in : Relation → ℤ → ℤ → Bool
stands_in Equal x y = int_eq x y
stands_in Differ x y = not (int_eq x y)
stands_in Less x y = int_lt x y
stands_in AtMost x y = int_le x y
stands_in Greater x y = int_lt y x
stands_in AtLeast x y = int_le y x
