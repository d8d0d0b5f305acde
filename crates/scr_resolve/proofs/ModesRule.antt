-- The rows of a table name modes of its class, and none twice; without a class there is one row, without modes.
use Rattle.std.proofs.Common.{◌≡◌, ℕ, ℤ, pos, Bool, true, false, not, ◌&&◌, ◌||◌, List, [], ◌∷◌, ◌++◌, map, length, Option, Some, None, refl, sym, ap, subst, ◌∙◌, arith}
use Rattle.std.specs.Prelude.{nat_eq, nat_le}
use Rattle.std.specs.Option.{option_map_or, option_and_then}
use Rattle.std.specs.Ordering.{int_eq}
use Rattle.std.specs.List.{list_all, list_any}
use Rattle.std.proofs.lemmas.Bool.{and_parts, eqb-true, le-leb}
use Rattle.std.proofs.lemmas.Grind.{flat_map-append}
use Rattle.std.proofs.lemmas.List.{append-nil}
use Rattle.std.proofs.lemmas.List.Folds.{list_all-append}
use Rattle.scr_spec.specs.Data.{Data}
use Rattle.scr_spec.specs.declared.table.Event.{Event}
use Rattle.scr_spec.specs.declared.table.Heading.TheVariants as h
use Rattle.scr_spec.specs.declared.table.Row.{Row}
use Rattle.scr_spec.specs.declared.table.Table.{Table}
use Rattle.scr_spec.specs.Over.{modes_of, is_place}
use Rattle.scr_spec.specs.Distinct.{are_distinct}
use Rattle.scr_spec.specs.RowModes.{named_modes, are_modes_of, are_modes_sound}
use Rattle.scr_spec.specs.Tables.{is_over_class, is_class_sound}
use Rattle.scr_spec.proofs.Passing.{and_true}
use Rattle.scr_parse.specs.declared.draft.DraftCell.{DraftCell}
use Rattle.scr_parse.specs.declared.place.Place.{Place}
use Rattle.scr_parse.specs.declared.place.Counts.{Counts}
use Rattle.scr_scope.specs.declared.known.Known.{Known}
use Rattle.scr_scope.specs.Names.{Name}
use Rattle.scr_scope.specs.Meanings.{seen}
use Rattle.scr_scope.specs.Events.{event_of}
use Rattle.scr_resolve.specs.Tables.{mode_named, is_used, is_mode, first_bad, current_class, current_rows, bad_mode, is_empty, is_count, are_modes_placed, is_row_placed}
use Rattle.scr_resolve.specs.Built.{mode_code, row_of, rows_with}
use Rattle.scr_resolve.proofs.Grown.{push_all}
use Rattle.scr_resolve.proofs.NamesAt.{NamesAt}
use Rattle.scr_resolve.proofs.Transitions.{rows_all}
use Rattle.scr_resolve.proofs.Truths.{or_none}
use Rattle.scr_resolve.proofs.RowModes.{used_named, rows_distinct, rows_placed}
use Rattle.scr_resolve.proofs.ModesKept.{there_is, code_in, code_is, place_is, row_modes}
use Rattle.scr_resolve.proofs.Opened.{core}
use Rattle.scr_resolve.proofs.CurrentTable.{class_now, rows_now, row_placed, no_bad, is_change}
use Rattle.scr_resolve.proofs.TableRules.{TableRule}
use Rattle.scr_resolve.proofs.Tested.{right}

-- ---- codes of the class

pub same_codes : (known : Known) (v : ℕ) (ns : List Name) → current_class known ≡ Some v → map (mode_code known) ns ≡ map (code_in known v) ns
same_codes known v ns e = ap (λ o. map (λ n. option_map_or pos (option_and_then (λ u. mode_named known u n) o) (pos 0)) ns) e

pub same_code_now : (known : Known) (v : ℕ) (n : Name) → current_class known ≡ Some v → mode_code known n ≡ code_in known v n
same_code_now known v n e = ap (λ o. option_map_or pos (option_and_then (λ u. mode_named known u n) o) (pos 0)) e

-- a mode of the class has a place in its list
pub mode_placed : (known : Known) → NamesAt known → (v : ℕ) (n : Name) → current_class known ≡ Some v → is_mode known v n ≡ true → is_place (modes_of (seen known) v) (mode_code known n) ≡ true
mode_placed known at v n e h =
    let p = there_is (mode_named known v n) h in
    ap (is_place (modes_of (seen known) v)) (same_code_now known v n e ∙ code_is known v n p.0 p.1) ∙ place_is known at v n p.0 p.1

-- ---- a row

none_row : (spec : Data) (rows : List Row) (modes : List Name) (f : Name → ℤ) (row : Row) → row.modes ≡ map f modes → (is_empty modes && is_empty rows) ≡ true
    → are_modes_of spec None (rows ++ row ∷ []) ≡ true
none_row spec [] [] f row e h = ap (λ ms. nat_eq (length ms) 0 && true) e
none_row spec [] (n ∷ ns) f row e h = absurd (cc)
none_row spec (r ∷ rows) [] f row e h = absurd (cc)
none_row spec (r ∷ rows) (n ∷ ns) f row e h = absurd (cc)

some_modes : (modes : List Name) (f : Name → ℤ) → not (is_empty modes) ≡ true → nat_le 1 (length (map f modes)) ≡ true
some_modes [] f h = absurd (cc)
some_modes (n ∷ ns) f h = le-leb 1 (length (map f (n ∷ ns))) (omega arith)

named_more : (rows : List Row) (row : Row) → named_modes (rows ++ row ∷ []) ≡ named_modes rows ++ row.modes
named_more rows row = flat_map-append (λ (r : Row). r.modes) rows (row ∷ []) ∙ ap (λ ms. named_modes rows ++ ms) (append-nil row.modes)

-- the parts of the rule over a class
pub record AreModes (spec : Data) (v : ℕ) (rows : List Row) : Type 0 where
  pub some : list_all (λ r. nat_le 1 (length r.modes)) rows ≡ true
  pub placed : list_all (is_place (modes_of spec v)) (named_modes rows) ≡ true
  pub distinct : are_distinct int_eq (named_modes rows) ≡ true

pub modes_parts : (spec : Data) (v : ℕ) (rows : List Row) → are_modes_of spec (Some v) rows ≡ true → AreModes spec v rows
modes_parts spec v rows h =
    let two = and_parts (list_all (λ (r : Row). nat_le 1 (length r.modes)) rows && list_all (is_place (modes_of spec v)) (named_modes rows)) (are_distinct int_eq (named_modes rows)) h in
    let one = and_parts (list_all (λ (r : Row). nat_le 1 (length r.modes)) rows) (list_all (is_place (modes_of spec v)) (named_modes rows)) two.0 in
    record { some = one.0; placed = one.1; distinct = two.1 }

modes_whole : (spec : Data) (v : ℕ) (rows : List Row) → AreModes spec v rows → are_modes_of spec (Some v) rows ≡ true
modes_whole spec v rows m = and_true _ _ (and_true _ _ m.some m.placed) m.distinct

append_all : {X : Type 0} (q : X → Bool) (xs ys : List X) → list_all q xs ≡ true → list_all q ys ≡ true → list_all q (xs ++ ys) ≡ true
append_all q xs ys h k = list_all-append q xs ys ∙ and_true _ _ h k

some_row : (known : Known) → NamesAt known → (t : Table) (v : ℕ) (modes : List Name) (cells : List DraftCell) → known.current ≡ Some t → current_class known ≡ Some v
    → not (is_empty modes) ≡ true → first_bad known v [] modes ≡ None → are_modes_of (core known) (Some v) t.rows ≡ true
    → are_modes_of (core known) (Some v) (t.rows ++ row_of known modes cells ∷ []) ≡ true
some_row known at t v modes cells e c some bad h =
    let old = modes_parts (core known) v t.rows h in
    let codes = same_codes known v modes c in
    let same : (code : ℤ) → list_any (int_eq code) (named_modes t.rows) ≡ (is_used (current_rows known) code || false) =
    λ code. used_named t.rows code ∙ ap (λ rows. is_used rows code) (sym (rows_now known t e)) ∙ or_none (is_used (current_rows known) code) in
    let new = row_modes known at v [] modes (named_modes t.rows) bad old.distinct same refl in
    let named : named_modes (t.rows ++ row_of known modes cells ∷ []) ≡ named_modes t.rows ++ map (code_in known v) modes =
    named_more t.rows (row_of known modes cells) ∙ ap (λ ms. named_modes t.rows ++ ms) codes in
    modes_whole (core known) v (t.rows ++ row_of known modes cells ∷ []) (record {
      some = push_all (λ (r : Row). nat_le 1 (length r.modes)) t.rows (row_of known modes cells) old.some (some_modes modes (mode_code known) some);
      placed = ap (list_all (is_place (modes_of (core known) v))) named ∙ append_all (is_place (modes_of (core known) v)) (named_modes t.rows) (map (code_in known v) modes) old.placed new.1;
      distinct = ap (are_distinct int_eq) named ∙ new.0;
    })

row_by : (known : Known) → NamesAt known → (t : Table) (class : Option ℕ) (modes : List Name) (cells : List DraftCell) → known.current ≡ Some t → t.class ≡ class
    → are_modes_placed class t.rows modes ≡ true → bad_mode known modes ≡ None → are_modes_of (core known) class t.rows ≡ true
    → are_modes_of (core known) class (t.rows ++ row_of known modes cells ∷ []) ≡ true
row_by known at t None modes cells e c placed bad h = none_row (core known) t.rows modes (mode_code known) (row_of known modes cells) refl placed
row_by known at t (Some v) modes cells e c placed bad h =
    let class = class_now known t e ∙ c in some_row known at t v modes cells e class placed (no_bad known v modes class bad) h

-- ---- a transition

change_rows : (known : Known) (v : ℕ) (source target : ℤ) (e : Event) (rows : List Row) → is_place (modes_of (core known) v) source ≡ true
    → are_modes_of (core known) (Some v) rows ≡ true → are_modes_of (core known) (Some v) (rows_with source target e rows) ≡ true
change_rows known v source target e rows p h =
    let old = modes_parts (core known) v rows h in
    modes_whole (core known) v (rows_with source target e rows) (record {
      some = rows_all (λ (r : Row). nat_le 1 (length r.modes)) source target e (λ r f k. k) refl rows old.some;
      placed = rows_placed (modes_of (core known) v) source target e rows p old.placed;
      distinct = rows_distinct source target e rows old.distinct;
    })

-- the class of a mode table is its variable
own_class : (v : ℕ) (class : Option ℕ) → option_map_or (nat_eq v) class false ≡ true → class ≡ Some v
own_class v None h = absurd (cc)
own_class v (Some w) h = ap (λ u. Some u) (sym (eqb-true v w h))

pub class_is_own : (spec : Data) (t : Table) → t.heading ≡ h.Modes → is_class_sound spec t ≡ true → t.class ≡ Some t.variable
class_is_own spec t e k = own_class t.variable t.class (subst (λ heading. is_over_class spec heading t.variable t.class ≡ true) e k)

-- ---- the rule

abbrev pub HasModes : Place → Counts → Data → Table → Type 0
HasModes place counts spec t = are_modes_of spec t.class t.rows ≡ true

no_rows : (spec : Data) (class : Option ℕ) → are_modes_of spec class [] ≡ true
no_rows spec None = refl
no_rows spec (Some v) = refl

pub modes_rule : TableRule are_modes_sound HasModes
modes_rule = record {
  head = λ place counts known heading n class t b. no_rows (core known) _;
  row = λ place counts known t heading modes cells e v i a o.
      let right = right place known t a.here (is_row_placed known modes cells) a.read.passes.table in
      let placed = and_parts (are_modes_placed t.class t.rows modes) (is_count t.rows (length cells)) (row_placed known t modes cells a.here.is right) in
      row_by known a.base.variables.labels t t.class modes cells a.here.is refl placed.0 a.read.passes.mode o;
  values = λ counts known t heading sides a o. o;
  transition = λ counts known t source target e a o.
      let own = class_is_own (core known) t a.here.at.0 a.here.class in
      let class = class_now known t a.here.is ∙ own in
      let change = is_change known t.variable source target class a.read.passes.mode in
      let placed = mode_placed known a.base.variables.labels t.variable source class change.from in
      subst (λ c. are_modes_of (core known) c (rows_with (mode_code known source) (mode_code known target) (event_of known e) t.rows) ≡ true) (sym own)
      (change_rows known t.variable (mode_code known source) (mode_code known target) (event_of known e) t.rows placed (subst (λ c. are_modes_of (core known) c t.rows ≡ true) own o));
  close = λ place counts known t m a o. o;
}
