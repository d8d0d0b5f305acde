-- The truth of a condition between two states: unprimed names are read in the old one, primed names in the new.
use Rattle.std.specs.Prelude.{pos, Bool, not}
use Rattle.std.specs.List.{list_all, list_any}
use Rattle.std.specs.Ordering.{int_eq}
use Rattle.scr_spec.specs.Data.{Data}
use Rattle.scr_spec.specs.declared.cond.Cond.{Cond, fold-Cond}
use Rattle.scr_spec.specs.declared.cond.Cond.TheOpen.{Cond-F, Truth, Holds, Compare, Not, And, Or}
use Rattle.base.specs.Relations.{stands_in}
use Rattle.scr_spec.specs.Meaning.{Codes, code_of, side_value}

-- from the truths of its parts; a name alone is unprimed
abbrev pub between_step : Data → Codes → Codes → Cond-F Bool → Bool
between_step spec old new (Truth b) = b
between_step spec old new (Holds v) = int_eq (code_of old v) (pos 1)
between_step spec old new (Compare l r m) = stands_in r (side_value spec old new l) (side_value spec old new m)
between_step spec old new (Not t) = not t
between_step spec old new (And ts) = list_all (λ t. t) ts
between_step spec old new (Or ts) = list_any (λ t. t) ts

-- the condition is true between the states
abbrev pub is_true_between : Data → Codes → Codes → Cond → Bool
is_true_between spec old new c = fold-Cond Bool (between_step spec old new) c
