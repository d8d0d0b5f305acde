-- The values of each table have the sort of its variable, and are in its range where they name no variable.
use Rattle.std.proofs.Common.{◌≡◌, true, List, [], ◌∷◌, map, length, Some, refl, sym, ap, subst, ◌∙◌, ℕ}
use Rattle.std.specs.Prelude.{nat_le}
use Rattle.std.specs.Option.{option_map_or}
use Rattle.std.specs.List.{list_all}
use Rattle.std.proofs.lemmas.Bool.{and_parts}
use Rattle.scr_spec.specs.Data.{Data}
use Rattle.scr_spec.specs.declared.table.Heading.{Heading}
use Rattle.scr_spec.specs.declared.table.Table.{Table}
use Rattle.scr_spec.specs.Values.{is_value_sound, are_values_sound}
use Rattle.scr_spec.proofs.Passing.{and_true}
use Rattle.scr_parse.specs.declared.draft.DraftSide.{DraftSide}
use Rattle.scr_parse.specs.declared.place.Place.{Place}
use Rattle.scr_parse.specs.declared.place.Counts.{Counts}
use Rattle.scr_parse.specs.Limits.{is_side_within}
use Rattle.scr_parse.specs.Readable.{are_some, is_side_spelt}
use Rattle.scr_scope.proofs.KeptForms.{some_all}
use Rattle.scr_scope.proofs.KeptValues.{has_values, value_kept}
use Rattle.scr_scope.specs.declared.known.Known.{Known}
use Rattle.scr_scope.specs.Sides.{is_typed_value, is_value_within, side_of}
use Rattle.scr_resolve.specs.Lines.{are_values_typed, are_values_within}
use Rattle.scr_resolve.proofs.Opened.{core}
use Rattle.scr_resolve.proofs.TableRules.{TableRule}
use Rattle.scr_resolve.proofs.Tested.{right}

values_made : (known : Known) (heading : Heading) (v : ℕ) (sides : List DraftSide) → has_values heading ≡ true → list_all (is_side_spelt true) sides ≡ true → list_all is_side_within sides ≡ true
    → list_all (is_typed_value known heading v) sides ≡ true → list_all (is_value_within known v) sides ≡ true → list_all (is_value_sound (core known) heading v) (map (side_of known) sides) ≡ true
values_made known heading v [] has i j k l = refl
values_made known heading v (side ∷ sides) has i j k l =
    let a = and_parts (is_side_spelt true side) (list_all (is_side_spelt true) sides) i in
    let b = and_parts (is_side_within side) (list_all is_side_within sides) j in
    let c = and_parts (is_typed_value known heading v side) (list_all (is_typed_value known heading v) sides) k in
    let d = and_parts (is_value_within known v side) (list_all (is_value_within known v) sides) l in
    and_true _ _ (value_kept known heading v side has (a.0) (b.0) (c.0) (d.0)) (values_made known heading v sides has (a.1) (b.1) (c.1) (d.1))

typed_here : (known : Known) (t : Table) (sides : List DraftSide) → known.current ≡ Some t → are_values_typed known sides ≡ true → list_all (is_typed_value known t.heading t.variable) sides ≡ true
typed_here known t sides e i = sym (ap (λ o. option_map_or (λ (u : Table). list_all (is_typed_value known u.heading u.variable) sides) o true) e) ∙ i

within_here : (known : Known) (t : Table) (sides : List DraftSide) → known.current ≡ Some t → are_values_within known sides ≡ true → list_all (is_value_within known t.variable) sides ≡ true
within_here known t sides e i = sym (ap (λ o. option_map_or (λ (u : Table). list_all (is_value_within known u.variable) sides) o true) e) ∙ i

abbrev pub Valued : Place → Counts → Data → Table → Type 0
Valued place counts spec t = are_values_sound spec t ≡ true

pub values_rule : TableRule are_values_sound Valued
values_rule = record {
  head = λ place counts known heading n class t b. refl;
  row = λ place counts known t heading modes cells i v l at o. o;
  values = λ counts known t heading sides at o.
      values_made known t.heading t.variable sides (subst (λ q. has_values q ≡ true) (sym at.here.at.0) at.here.at.1)
      (some_all (is_side_spelt true) sides ((and_parts (are_some (is_side_spelt true) sides) (nat_le (length sides) 16) at.read.spelt).0)) at.read.within
      (typed_here known t sides at.here.is (right _ known t at.here (are_values_typed known sides) at.read.passes.ill))
      (within_here known t sides at.here.is (right _ known t at.here (are_values_within known sides) at.read.passes.outside));
  transition = λ counts known t source target e at o. o;
  close = λ place counts known t i at o. o;
}
