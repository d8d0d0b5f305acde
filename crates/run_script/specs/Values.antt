-- What a word is as a value of a variable.
use Rattle.std.specs.Prelude.{ℕ, ℤ, pos, neg_ℤ, ◌&&◌, ◌==◌, if◌then◌else◌, List, [], ◌∷◌, Option, Some, None, slice_get, codes}
use Rattle.std.specs.Option.{option_map, option_and_then}
use Rattle.std.specs.List.{position}
use Rattle.std.specs.Str.{bytes_eq}
use Rattle.base.specs.Decimals.{number_of}
use Rattle.scr_spec.specs.Data.{Data}
use Rattle.dd_formula.specs.declared.domain.Domain.{Domain}
use Rattle.scr_spec.specs.declared.spec.Shape.{Shape}
use Rattle.scr_spec.specs.declared.spec.Shape.TheVariants.{Range, Labels}
use Rattle.scr_spec.specs.declared.spec.TypeDef.{TypeDef}
use Rattle.scr_spec.specs.declared.spec.Kind.{Kind}
use Rattle.scr_spec.specs.declared.spec.Kind.TheVariants.{Boolean, Named, Modes}
use Rattle.dd_formula.specs.Domains.{is_within}
use Rattle.base_script.specs.Words.{is_number}

-- a number with its sign; above 1,000,000 it counts as 1,000,001, which is in no range
abbrev pub number_value : List ℕ → ℤ
number_value [] = pos 0
number_value (b ∷ bytes) = if b == 45 then neg_ℤ (pos (number_of bytes)) else pos (number_of (b ∷ bytes))

-- TRUE is 1, and FALSE 0
abbrev pub truth_value : List ℕ → Option ℤ
truth_value word = if bytes_eq word (codes "TRUE") then Some (pos 1) else (if bytes_eq word (codes "FALSE") then Some (pos 0) else None)

-- a number of the range
abbrev pub range_value : Domain → List ℕ → Option ℤ
range_value d word = if is_number word && is_within d (number_value word) then Some (number_value word) else None

-- the place in a list of names
abbrev pub label_value : List (List ℕ) → List ℕ → Option ℤ
label_value names word = option_map (λ i. pos i) (position (λ name. bytes_eq name word) names)

abbrev pub shape_value : Shape → List ℕ → Option ℤ
shape_value (Range d) word = range_value d word
shape_value (Labels names) word = label_value names word

-- the code of the value of this kind that the word names; names of constants are no values
abbrev pub kind_value : List TypeDef → Kind → List ℕ → Option ℤ
kind_value types Boolean word = truth_value word
kind_value types (Named k) word = option_and_then (λ t. shape_value t.shape word) (slice_get types k)
kind_value types (Modes names) word = label_value names word

abbrev pub value_of : Data → ℕ → List ℕ → Option ℤ
value_of spec v word = option_and_then (λ x. kind_value spec.types x.kind word) (slice_get spec.variables v)
