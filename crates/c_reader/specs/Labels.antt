-- The labels of a `switch`.
use Rattle.std.specs.Prelude.{ℤ, Bool, true, ◌&&◌, ◌||◌, nat_le, List, [], ◌∷◌, length, map}
use Rattle.std.specs.List.{list_all}
use Rattle.c_subset.specs.declared.stmt.CClause.{CClause}
use Rattle.c_subset.specs.Kinds.{is_number_in_range}
use Rattle.c_subset.specs.Rules.{are_distinct}

abbrev pub labels : List CClause → List ℤ
labels clauses = map (λ c. c.label) clauses

-- something stands behind the last label
abbrev pub ends_filled : List CClause → Bool
ends_filled [] = true
ends_filled (c ∷ []) = c.stops || nat_le 1 (length c.body)
ends_filled (c ∷ d ∷ cs) = ends_filled (d ∷ cs)

-- labels are different numbers, and something stands behind the last one
abbrev pub are_labels : List CClause → Bool
are_labels clauses = list_all (λ c. is_number_in_range c.label) clauses && are_distinct (labels clauses) && ends_filled clauses
