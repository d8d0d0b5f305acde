-- Where primed names stand.
use Rattle.std.specs.Prelude.{Bool, true, not}
use Rattle.std.specs.List.{list_all, list_any}
use Rattle.scr_spec.specs.declared.cond.Cond.{Cond}
use Rattle.scr_spec.specs.Parts.{sides_pass}
use Rattle.scr_spec.specs.Formed.{is_side_plain}
use Rattle.scr_parse.specs.declared.draft.DraftCond.{DraftCond, fold-DraftCond}
use Rattle.scr_parse.specs.declared.draft.DraftCond.TheOpen.{DraftCond-F, Alone, Compare, Not, And, Or}
use Rattle.scr_scope.specs.Sides.{is_primed}

abbrev pub compared_step : DraftCond-F Bool → Bool
compared_step (Alone side) = not (list_any is_primed side.items)
compared_step (Compare l r m) = true
compared_step (Not t) = t
compared_step (And ts) = list_all (λ t. t) ts
compared_step (Or ts) = list_all (λ t. t) ts

-- each primed name is in an item of a comparison: no side that stands alone has one
abbrev pub are_primes_compared : DraftCond → Bool
are_primes_compared d = fold-DraftCond Bool compared_step d

-- a name in the condition is primed
abbrev pub has_primed_name : Cond → Bool
has_primed_name c = not (sides_pass is_side_plain c)
