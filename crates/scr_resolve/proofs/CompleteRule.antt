-- A condition table over a class names each of its modes.
use Rattle.std.proofs.Common.{◌≡◌, ℕ, ◌+◌, pos, true, List, [], ◌∷◌, length, Option, Some, None, refl, ◌∙◌}
use Rattle.std.specs.List.{list_all, range_with_len}
use Rattle.scr_spec.specs.Data.{Data}
use Rattle.scr_spec.specs.declared.table.Heading.{Heading}
use Rattle.scr_spec.specs.declared.table.Heading.TheVariants as h
use Rattle.scr_spec.specs.declared.table.Row.{Row}
use Rattle.scr_spec.specs.declared.table.Table.{Table}
use Rattle.scr_spec.specs.Over.{modes_of}
use Rattle.scr_spec.specs.RowModes.{is_named, is_complete_under, is_complete}
use Rattle.scr_spec.proofs.Passing.{and_true}
use Rattle.scr_parse.specs.declared.place.Place.{Place}
use Rattle.scr_parse.specs.declared.place.Counts.{Counts}
use Rattle.scr_scope.specs.declared.known.Known.{Known}
use Rattle.scr_scope.specs.Names.{Name}
use Rattle.scr_scope.specs.Meanings.{seen}
use Rattle.scr_resolve.specs.Tables.{is_used, first_missing, missing_in}
use Rattle.scr_resolve.proofs.RowModes.{used_named}
use Rattle.scr_resolve.proofs.ModesKept.{taken}
use Rattle.scr_resolve.proofs.CurrentTable.{none_missing}
use Rattle.scr_resolve.proofs.Opened.{core}
use Rattle.scr_resolve.proofs.TableRules.{TableRule}

all_used : (rows : List Row) (place : ℕ) (names : List Name) → first_missing rows place names ≡ None → list_all (λ i. is_named rows (pos i)) (range_with_len place (length names)) ≡ true
all_used rows place [] h = refl
all_used rows place (n ∷ ns) h =
    let used = taken n (is_used rows (pos place)) (first_missing rows (place + 1) ns) h in
    and_true _ _ (used_named rows (pos place) ∙ used.0) (all_used rows (place + 1) ns used.1)

complete_over : (known : Known) (class : Option ℕ) (rows : List Row) → missing_in known h.Condition class rows ≡ None → is_complete_under (core known) h.Condition class rows ≡ true
complete_over known None rows h = refl
complete_over known (Some v) rows h = all_used rows 0 (modes_of (seen known) v) h

complete_under : (known : Known) (heading : Heading) (class : Option ℕ) (rows : List Row) → missing_in known heading class rows ≡ None → is_complete_under (core known) heading class rows ≡ true
complete_under known h.Condition class rows h = complete_over known class rows h
complete_under known h.Event class rows h = refl
complete_under known h.Modes class rows h = refl

-- ---- the rule

-- nothing is named before END
abbrev pub Untold : Place → Counts → Data → Table → Type 0
Untold place counts spec t = Unit {0}

pub complete_rule : TableRule is_complete Untold
complete_rule = record {
  head = λ place counts known heading n class t b. tt;
  row = λ place counts known t heading modes cells e v i a o. tt;
  values = λ counts known t heading sides a o. tt;
  transition = λ counts known t source target e a o. tt;
  close = λ place counts known t m a o. complete_under known t.heading t.class t.rows (none_missing known t a.here.is a.read.passes.mode);
}
