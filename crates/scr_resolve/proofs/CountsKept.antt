-- At most 64 types, 256 constants and 128 variables are declared.
use Rattle.std.proofs.Common.{◌≡◌, ℕ, ◌+◌, ℤ, true, ◌&&◌, length, Option, Some, None, refl, ap, ◌∙◌}
use Rattle.std.specs.Prelude.{nat_le, slice_get, slice_set}
use Rattle.std.specs.Option.{option_map_or}
use Rattle.std.proofs.lemmas.Bool.{and_parts}
use Rattle.scr_spec.specs.declared.spec.Variable.{Variable}
use Rattle.scr_parse.specs.declared.draft.Statement.TheVariants as s
use Rattle.scr_parse.specs.declared.place.Counts.{Counts}
use Rattle.scr_parse.specs.Limits.{is_count_within}
use Rattle.scr_scope.proofs.ThereAfter.{same_length}
use Rattle.scr_scope.specs.declared.known.Known.{Known}
use Rattle.scr_scope.specs.Meanings.{variable_named}
use Rattle.scr_scope.specs.Declarations.{bounded, with_bound_at}
use Rattle.scr_resolve.specs.Lines.{after}
use Rattle.scr_resolve.proofs.Carried.{Step}
use Rattle.scr_resolve.proofs.Grown.{more_length}

-- the lines are counted as what they declare
pub record AreCounts (counts : Counts) (known : Known) : Type 0 where
  pub types : length known.types ≡ counts.types
  pub constants : length known.constants ≡ counts.constants
  pub variables : length known.variables ≡ counts.variables
  pub within : is_count_within counts ≡ true

bound_by : (known : Known) (step : ℤ) (v : ℕ) (o : Option Variable) → length (option_map_or (λ x. slice_set known.variables v (bounded step x)) o known.variables) ≡ length known.variables
bound_by known step v None = refl
bound_by known step v (Some x) = same_length known.variables v (bounded step x)

bound_counts : (counts : Counts) (known : Known) (step : ℤ) (o : Option ℕ) → AreCounts counts known → AreCounts counts (option_map_or (with_bound_at known step) o known)
bound_counts counts known step None h = h
bound_counts counts known step (Some v) h = record { types = h.types; constants = h.constants; variables = bound_by known step v (slice_get known.variables v) ∙ h.variables; within = h.within }

pub counts_kept : Step (λ place counts known. AreCounts counts known)
unfolding after
counts_kept place next counts known (s.Specification n) t h = record { types = h.types; constants = h.constants; variables = h.variables; within = t.few }
counts_kept place next counts known (s.Range n lo hi) t h = record { types = more_length known.types _ ∙ ap (λ k. k + 1) h.types; constants = h.constants; variables = h.variables; within = t.few }
counts_kept place next counts known (s.Labels n labels) t h = record { types = more_length known.types _ ∙ ap (λ k. k + 1) h.types; constants = h.constants; variables = h.variables; within = t.few }
counts_kept place next counts known (s.Constant n v) t h = record { types = h.types; constants = more_length known.constants _ ∙ ap (λ k. k + 1) h.constants; variables = h.variables; within = t.few }
counts_kept place next counts known (s.Variable r n kind init) t h = record { types = h.types; constants = h.constants; variables = more_length known.variables _ ∙ ap (λ k. k + 1) h.variables; within = t.few }
counts_kept place next counts known (s.Class n modes init) t h = record { types = h.types; constants = h.constants; variables = more_length known.variables _ ∙ ap (λ k. k + 1) h.variables; within = t.few }
counts_kept place next counts known (s.Head heading n class) t h = record { types = h.types; constants = h.constants; variables = h.variables; within = t.few }
counts_kept place next counts known (s.Nat n step) t h = bound_counts counts known step (variable_named known n) h
counts_kept place next counts known (s.Row modes cells) t h = record { types = h.types; constants = h.constants; variables = h.variables; within = t.few }
counts_kept place next counts known (s.Values sides) t h = record { types = h.types; constants = h.constants; variables = h.variables; within = t.few }
counts_kept place next counts known (s.Transition source target e) t h = record { types = h.types; constants = h.constants; variables = h.variables; within = t.few }
counts_kept place next counts known s.End t h = record { types = h.types; constants = h.constants; variables = h.variables; within = t.few }
counts_kept place next counts known s.Finish t h = record { types = h.types; constants = h.constants; variables = h.variables; within = t.few }

-- each count is within its limit
pub few_types : (counts : Counts) → is_count_within counts ≡ true → nat_le counts.types 64 ≡ true
few_types counts h =
    let a = and_parts (nat_le counts.types 64 && nat_le counts.constants 256 && nat_le counts.variables 128) (nat_le counts.rows 64) h in
    let b = and_parts (nat_le counts.types 64 && nat_le counts.constants 256) (nat_le counts.variables 128) (a.0) in
    (and_parts (nat_le counts.types 64) (nat_le counts.constants 256) (b.0)).0

pub few_constants : (counts : Counts) → is_count_within counts ≡ true → nat_le counts.constants 256 ≡ true
few_constants counts h =
    let a = and_parts (nat_le counts.types 64 && nat_le counts.constants 256 && nat_le counts.variables 128) (nat_le counts.rows 64) h in
    let b = and_parts (nat_le counts.types 64 && nat_le counts.constants 256) (nat_le counts.variables 128) (a.0) in
    (and_parts (nat_le counts.types 64) (nat_le counts.constants 256) (b.0)).1

pub few_variables : (counts : Counts) → is_count_within counts ≡ true → nat_le counts.variables 128 ≡ true
few_variables counts h =
    let a = and_parts (nat_le counts.types 64 && nat_le counts.constants 256 && nat_le counts.variables 128) (nat_le counts.rows 64) h in
    (and_parts (nat_le counts.types 64 && nat_le counts.constants 256) (nat_le counts.variables 128) (a.0)).1

pub few_rows : (counts : Counts) → is_count_within counts ≡ true → nat_le counts.rows 64 ≡ true
few_rows counts h = (and_parts (nat_le counts.types 64 && nat_le counts.constants 256 && nat_le counts.variables 128) (nat_le counts.rows 64) h).1
