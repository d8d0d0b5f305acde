-- What going over some exits or entries of a mode adds to the conditions that are listed.
use Rattle.std.specs.Prelude.{◌≡◌, ◌||◌, List, [], ◌++◌}
use Rattle.std.specs.List.{list_any, flat_map}
use Rattle.scr_spec.specs.declared.cond.Cond.{Cond}
use Rattle.scr_spec.specs.declared.table.Primitive.{Primitive}
use Rattle.prove_candidates.specs.declared.entry.Entered.{Entered}
use Rattle.prove_candidates.specs.New.{AddsNew}
use Rattle.prove_candidates.specs.Told.{exit_told, entry_told, entry_change, is_silent}

-- what these exits tell
pub record AddsExits (before : List Cond) (left : List Primitive) (after : List Cond) : Type 0 where
  pub adds : AddsNew before (flat_map exit_told left) after

-- what these entries tell, beside their changes alone, and whether one of them is silent
pub record AddsEntries (old : Entered) (entered : List Primitive) (new : Entered) : Type 0 where
  pub conditions : AddsNew old.conditions (flat_map entry_told entered) new.conditions
  pub changes : AddsNew old.changes (flat_map entry_change entered) new.changes
  pub silent : new.silent ≡ (old.silent || list_any is_silent entered)

-- what the exits tell, and then what the entries tell; the changes and the silence of the entries
pub record AreGathered (left entered : List Primitive) (told : Entered) : Type 0 where
  pub conditions : AddsNew [] (flat_map exit_told left ++ flat_map entry_told entered) told.conditions
  pub changes : AddsNew [] (flat_map entry_change entered) told.changes
  pub silent : told.silent ≡ list_any is_silent entered
