-- A slice of a sound specification is sound.
use Rattle.std.proofs.Common.{◌≡◌, ℕ, zero, suc, Bool, true, false, cond, ◌&&◌, ◌||◌, List, [], ◌∷◌, map, refl, ap, ◌∙◌}
use Rattle.std.specs.Prelude.{nat_eq, Option, Some, None, slice_get}
use Rattle.std.specs.Option.{option_map_or}
use Rattle.std.specs.List.{list_all, list_any, filter}
use Rattle.std.proofs.lemmas.Bool.{and_parts, or_left, eq-eqb}
use Rattle.scr_spec.specs.Data.{Data}
use Rattle.scr_spec.specs.declared.table.Table.{Table}
use Rattle.scr_spec.specs.Cells.{is_table_over}
use Rattle.scr_spec.specs.Formed.{is_side_formed, is_side_plain, joins_several}
use Rattle.scr_spec.specs.Depth.{is_shallow}
use Rattle.scr_spec.specs.Parts.{sides_pass, conds_pass}
use Rattle.scr_spec.specs.Typed.{is_cond_typed}
use Rattle.scr_spec.specs.Tables.{is_class_sound, are_cells_formed, is_layout_sound}
use Rattle.scr_spec.specs.RowModes.{are_modes_sound, is_complete, are_targets_sound}
use Rattle.scr_spec.specs.Values.{are_values_sound}
use Rattle.scr_spec.specs.Sound.{IsTabled, IsConditioned, IsSound}
use Rattle.scr_spec.proofs.Kept.{rules_kept}
use Rattle.scr_depend.specs.Graphs.{is_among}
use Rattle.scr_slice.specs.Mentions.{side_mentions, row_mentions, table_mentions}
use Rattle.scr_slice.specs.Renumbered.{table_with}
use Rattle.scr_slice.specs.Slices.{IsKeepable, IsSlice, number_in}
use Rattle.scr_slice.proofs.Moved.{Each}
use Rattle.scr_slice.proofs.Graph.{Kept}
use Rattle.scr_slice.proofs.Passes.{found_self}
use Rattle.scr_slice.proofs.Variables.{variables_kept}
use Rattle.scr_slice.proofs.Tables.{heads_kept, each_tabled_kept}
use Rattle.scr_slice.proofs.Over.{table_over_at}
use Rattle.scr_slice.proofs.Formed.{side_formed, side_plain, sides_same, joins_same, shallow_same, conds_at, typed_at, values_at}
use Rattle.scr_slice.proofs.Laid.{IsClassKept, cells_same, layout_same, class_sound_at, modes_sound_at, complete_at, targets_at, once_at}
use Rattle.scr_slice.proofs.Sub.{named_kept}

module _ (spec : Data) (keep : List ℕ) (slice : Data) (is : IsSlice spec keep slice) (can : IsKeepable spec keep) (sound : IsSound spec) where
  abbrev number : ℕ → ℕ
  number = number_in keep

  -- what a kept table mentions is kept
  mentioned : (k : ℕ) (t : Table) → slice_get spec.tables k ≡ Some t → is_among keep t.variable ≡ true → Each (λ w. table_mentions w t) (Kept keep)
  mentioned k t at kept w h =
      can.closed t.variable w kept (ap (λ (o : Option Table). option_map_or (table_mentions w) o false) (found_self spec.tables (rules_kept spec sound).tabled.one_table k t at) ∙ h)

  class_kept : (class : Option ℕ) → Each (λ w. option_map_or (λ v. nat_eq v w) class false) (Kept keep) → IsClassKept keep class
  class_kept None h = tt
  class_kept (Some v) h = h v (eq-eqb v v refl)

  class_of : (t : Table) → Each (λ w. table_mentions w t) (Kept keep) → IsClassKept keep t.class
  unfolding table_mentions
  class_of t h =
      class_kept t.class (λ w k. h w (or_left (option_map_or (λ v. nat_eq v w) t.class false) (list_any (row_mentions w) t.rows || list_any (side_mentions w) t.values) k))

  kept_by : (p q : Table → Bool) (tables : List Table) → ((k : ℕ) (t : Table) → slice_get tables k ≡ Some t → is_among keep t.variable ≡ true → p (table_with number t) ≡ q t) → list_all q tables ≡ true
      → list_all p (map (table_with number) (filter (λ t. is_among keep t.variable) tables)) ≡ true
  kept_by p q [] each h = refl
  kept_by p q (t ∷ ts) each h =
      let both = and_parts (q t) (list_all q ts) h in
      let rest = filter (λ (x : Table). is_among keep x.variable) ts in
      let later = kept_by p q ts (λ k x e. each (suc k) x e) both.1 in
      elim (is_among keep t.variable) as (λ b. is_among keep t.variable ≡ b → list_all p (map (table_with number) (cond b (t ∷ rest) rest)) ≡ true) [
        | true ↦ λ kept. ap (λ b. b && list_all p (map (table_with number) rest)) (each zero t refl kept ∙ both.0) ∙ later
        | false ↦ λ dropped. later
      ] refl

  -- a rule that a kept table keeps with its new numbers
  tables_by : (p q : Table → Bool) → ((t : Table) → is_among keep t.variable ≡ true → Each (λ w. table_mentions w t) (Kept keep) → p (table_with number t) ≡ q t) → list_all q spec.tables ≡ true
      → list_all p slice.tables ≡ true
  tables_by p q each h = ap (list_all p) is.tables ∙ kept_by p q spec.tables (λ k t at kept. each t kept (mentioned k t at kept)) h

  tabled : IsTabled slice
  tabled =
      let old = (rules_kept spec sound).tabled in
      record {
        heads = heads_kept spec keep slice is can sound;
        one_table = once_at spec keep slice is can old.one_table;
        each_tabled = each_tabled_kept spec keep slice is can sound;
        classes = tables_by (is_class_sound slice) (is_class_sound spec) (λ t kept h. class_sound_at spec keep slice is can t kept (class_of t h)) old.classes;
        cells = tables_by are_cells_formed are_cells_formed (λ t kept h. cells_same number t) old.cells;
        layout = tables_by is_layout_sound is_layout_sound (λ t kept h. layout_same number t) old.layout;
        modes = tables_by (are_modes_sound slice) (are_modes_sound spec) (λ t kept h. modes_sound_at spec keep slice is can t (class_of t h)) old.modes;
        complete = tables_by (is_complete slice) (is_complete spec) (λ t kept h. complete_at spec keep slice is can t (class_of t h)) old.complete;
        targets = tables_by (are_targets_sound slice) (are_targets_sound spec) (λ t kept h. targets_at spec keep slice is can t kept) old.targets;
        values = tables_by (are_values_sound slice) (are_values_sound spec) (λ t kept h. values_at spec keep slice is t kept h) old.values;
      }

  conditioned : IsConditioned slice
  conditioned =
      let old = (rules_kept spec sound).conditioned in
      record {
        typed = tables_by (conds_pass (is_cond_typed slice)) (conds_pass (is_cond_typed spec))
            (λ t kept h. conds_at number (Kept keep) (is_cond_typed spec) (is_cond_typed slice) (typed_at spec keep slice is) t h) old.typed;
        unprimed = tables_by (conds_pass (sides_pass is_side_plain)) (conds_pass (sides_pass is_side_plain))
            (λ t kept h. conds_at number (Kept keep) (sides_pass is_side_plain) (sides_pass is_side_plain) (λ c k. sides_same number is_side_plain (side_plain number) c) t h) old.unprimed;
        sides = tables_by (conds_pass (sides_pass is_side_formed)) (conds_pass (sides_pass is_side_formed))
            (λ t kept h. conds_at number (Kept keep) (sides_pass is_side_formed) (sides_pass is_side_formed) (λ c k. sides_same number is_side_formed (side_formed number) c) t h) old.sides;
        joined = tables_by (conds_pass joins_several) (conds_pass joins_several) (λ t kept h. conds_at number (Kept keep) joins_several joins_several (λ c k. joins_same number c) t h) old.joined;
        shallow = tables_by (conds_pass is_shallow) (conds_pass is_shallow) (λ t kept h. conds_at number (Kept keep) is_shallow is_shallow (λ c k. shallow_same number c) t h) old.shallow;
      }

  pub slice_sound : IsSound slice
  slice_sound =
      let variables = variables_kept spec keep slice is can sound in
      record {
        few = variables.few;
        types = variables.types;
        kinds = variables.kinds;
        bounds = variables.bounds;
        tables = tables_by (is_table_over slice) (is_table_over spec) (λ t kept h. table_over_at spec keep slice is can t kept h) sound.tables;
        rules = ∣ record { named = named_kept spec keep slice is can (rules_kept spec sound).named; declared = variables.declared; tabled = tabled; conditioned = conditioned } ∣₁;
      }
