-- The order of scripts as a test.
use Rattle.std.specs.Prelude.{Bool, false, not, ◌&&◌, ◌||◌, nat_eq, nat_lt, int_lt, if◌then◌else◌, List, length, find}
use Rattle.std.specs.Option.{option_map_or}
use Rattle.std.specs.Ordering.{int_eq}
use Rattle.std.specs.List.{zip}
use Rattle.scr_spec.specs.declared.state.Input.{Input}

abbrev pub is_same : Input → Input → Bool
is_same a b = nat_eq a.variable b.variable && int_eq a.code b.code

abbrev pub is_lesser : Input → Input → Bool
is_lesser a b = nat_lt a.variable b.variable || (nat_eq a.variable b.variable && int_lt a.code b.code)

-- whether the first script has the lesser input at the first place where they differ
abbrev pub is_less : List Input → List Input → Bool
is_less a b = option_map_or (λ p. is_lesser p.0 p.1) (find (λ p. not (is_same p.0 p.1)) (zip a b)) false

abbrev pub is_before : List Input → List Input → Bool
is_before a b = if nat_eq (length a) (length b) then is_less a b else nat_lt (length a) (length b)
