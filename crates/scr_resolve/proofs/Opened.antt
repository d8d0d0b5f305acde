-- The table whose lines are read now stands at a variable for such a table, and has a mode class or none.
use Rattle.std.proofs.Common.{◌≡◌, ℕ, ◌≤◌, ℤ, Bool, true, false, List, [], ◌∷◌, ◌++◌, map, length, Option, Some, None, refl, sym, ap, subst, ◌∙◌, arith}
use Rattle.std.specs.Option.{option_map, option_map_or}
use Rattle.std.proofs.lemmas.List.{length-append}
use Rattle.scr_spec.specs.Data.{Data}
use Rattle.scr_spec.specs.declared.table.Heading.{Heading}
use Rattle.scr_spec.specs.declared.table.Heading.TheVariants as h
use Rattle.scr_spec.specs.declared.table.Table.{Table}
use Rattle.scr_spec.specs.Tables.{is_head_sound, is_class_sound}
use Rattle.scr_parse.specs.declared.draft.Statement.{Statement}
use Rattle.scr_parse.specs.declared.draft.Statement.TheVariants as s
use Rattle.scr_parse.specs.declared.place.Place.{Place}
use Rattle.scr_parse.specs.declared.place.Place.TheVariants as p
use Rattle.scr_parse.specs.declared.place.Counts.{Counts}
use Rattle.scr_parse.specs.Forms.{is_between, may_end}
use Rattle.scr_parse.specs.Readable.{head_place}
use Rattle.scr_scope.proofs.KeptValues.{has_values}
use Rattle.scr_scope.specs.declared.known.Known.{Known}
use Rattle.scr_scope.specs.Names.{Name}
use Rattle.scr_scope.specs.Meanings.{variable_named}
use Rattle.scr_scope.specs.Sides.{side_of}
use Rattle.scr_scope.specs.Events.{event_of}
use Rattle.scr_scope.specs.Declarations.{with_bound_at}
use Rattle.scr_resolve.specs.Built.{mode_code, table_of, row_of, row_added, values_set, transition_added}
use Rattle.scr_resolve.specs.Lines.{after}
use Rattle.scr_resolve.proofs.Heads.{begun}
use Rattle.scr_resolve.proofs.Carried.{IsLine, Step}
use Rattle.scr_resolve.proofs.Moves.{is_declaring, is_early, is_inside, Moves, declares, heads, first_row, next_row, gives_values, changes, ends, finishes, moves}
use Rattle.scr_resolve.proofs.VariablesKept.{VariablesKept, variables_kept}

-- what tables look at
abbrev pub core : Known → Data
core known = record { name = []; types = known.types; constants = known.constants; variables = known.variables; tables = [] }

-- what its place tells of the table
abbrev pub IsOpenAt : Place → Table → Type 0
IsOpenAt p.Start t = ⊥
IsOpenAt p.Declarations t = ⊥
IsOpenAt (p.FirstRow heading) t = (t.heading ≡ heading) × (has_values heading ≡ true) × (t.values ≡ []) × (t.rows ≡ [])
IsOpenAt (p.Rows heading) t = (t.heading ≡ heading) × (has_values heading ≡ true) × (t.values ≡ []) × (1 ≤ length t.rows)
IsOpenAt p.Closed t = (has_values t.heading ≡ true) × (1 ≤ length t.rows)
IsOpenAt p.Transitions t = (t.heading ≡ h.Modes) × (t.values ≡ [])
IsOpenAt p.Tables t = ⊥
IsOpenAt p.After t = ⊥

pub record Here (place : Place) (known : Known) (t : Table) : Type 0 where
  pub is : known.current ≡ Some t
  pub at : IsOpenAt place t
  pub head : is_head_sound (core known) t ≡ true
  pub class : is_class_sound (core known) t ≡ true

pub record Base (place : Place) (known : Known) : Type 0 where
  pub variables : VariablesKept known
  pub early : is_early place ≡ true → known.tables ≡ []
  pub outside : is_inside place ≡ false → known.current ≡ None
  pub inside : is_inside place ≡ true → (t : Table) × Here place known t

-- ---- places

pub early_outside : (place : Place) → is_early place ≡ true → is_inside place ≡ false
early_outside p.Start h = refl
early_outside p.Declarations h = refl
early_outside (p.FirstRow heading) h = absurd (cc)
early_outside (p.Rows heading) h = absurd (cc)
early_outside p.Closed h = absurd (cc)
early_outside p.Transitions h = absurd (cc)
early_outside p.Tables h = absurd (cc)
early_outside p.After h = absurd (cc)

pub end_inside : (place : Place) → may_end place ≡ true → is_inside place ≡ true
end_inside p.Start h = absurd (cc)
end_inside p.Declarations h = absurd (cc)
end_inside (p.FirstRow heading) h = absurd (cc)
end_inside (p.Rows heading) h = absurd (cc)
end_inside p.Closed h = refl
end_inside p.Transitions h = refl
end_inside p.Tables h = absurd (cc)
end_inside p.After h = absurd (cc)

pub between_outside : (place : Place) → is_between place ≡ true → is_inside place ≡ false
between_outside p.Start h = absurd (cc)
between_outside p.Declarations h = refl
between_outside (p.FirstRow heading) h = absurd (cc)
between_outside (p.Rows heading) h = absurd (cc)
between_outside p.Closed h = absurd (cc)
between_outside p.Transitions h = absurd (cc)
between_outside p.Tables h = refl
between_outside p.After h = absurd (cc)

pub head_inside : (heading : Heading) → is_inside (head_place heading) ≡ true
head_inside h.Condition = refl
head_inside h.Event = refl
head_inside h.Modes = refl

head_late : (heading : Heading) → is_early (head_place heading) ≡ false
head_late h.Condition = refl
head_late h.Event = refl
head_late h.Modes = refl

pub apart : {A : Type 0} {b : Bool} → b ≡ true → b ≡ false → A
apart h k = absurd (let g : true ≡ false = sym h ∙ k in cc)

-- ---- a line that declares leaves the tables

bound_same : (known : Known) (step : ℤ) (o : Option ℕ) → ((option_map_or (with_bound_at known step) o known).tables ≡ known.tables) × ((option_map_or (with_bound_at known step) o known).current ≡ known.current)
bound_same known step None = (refl, refl)
bound_same known step (Some v) = (refl, refl)

pub declared_same : (known : Known) (line : Statement) → is_declaring line ≡ true → ((after known line).tables ≡ known.tables) × ((after known line).current ≡ known.current)
unfolding after
declared_same known (s.Specification n) d = (refl, refl)
declared_same known (s.Range n lo hi) d = (refl, refl)
declared_same known (s.Labels n labels) d = (refl, refl)
declared_same known (s.Constant n v) d = (refl, refl)
declared_same known (s.Variable r n kind init) d = (refl, refl)
declared_same known (s.Class n modes init) d = (refl, refl)
declared_same known (s.Nat n step) d = bound_same known step (variable_named known n)
declared_same known (s.Head heading n class) d = absurd (cc)
declared_same known (s.Row modes cells) d = absurd (cc)
declared_same known (s.Values sides) d = absurd (cc)
declared_same known (s.Transition source target e) d = absurd (cc)
declared_same known s.End d = absurd (cc)
declared_same known s.Finish d = absurd (cc)

-- ---- heads

opened_at : (known : Known) (heading : Heading) (n : Name) (class : Option Name) → IsOpenAt (head_place heading) (table_of known heading n class)
opened_at known h.Condition n class = (refl, refl, refl, refl)
opened_at known h.Event n class = (refl, refl, refl, refl)
opened_at known h.Modes n class = (refl, refl)

-- ---- each line

more_rows : {X : Type 0} (xs : List X) (x : X) → 1 ≤ length (xs ++ x ∷ [])
more_rows xs x = let e = length-append xs (x ∷ []) in omega arith

after_variables : (place next : Place) (counts : Counts) (known : Known) (line : Statement) → IsLine place next counts known line → Base place known → VariablesKept (after known line)
after_variables place next counts known line t b = variables_kept place next counts known line t b.variables

by_move : (place next : Place) (counts : Counts) (known : Known) (line : Statement) → Moves place next line → IsLine place next counts known line → Base place known → Base next (after known line)
unfolding after
by_move place next counts known line (declares d i j) t b = record {
  variables = after_variables place next counts known line t b;
  early = λ k. (declared_same known line d).0 ∙ b.early i;
  outside = λ k. (declared_same known line d).1 ∙ b.outside (early_outside place i);
  inside = λ k. apart k (early_outside next j);
}
by_move place next counts known line (heads {heading = heading} {n = n} {class = class} i) t b = record {
  variables = after_variables place next counts known line t b;
  early = λ k. apart k (head_late heading);
  outside = λ k. apart (head_inside heading) k;
  inside = λ k. (table_of known heading n class, record { is = refl; at = opened_at known heading n class; head = (begun known heading n class t.passes).head; class = (begun known heading n class t.passes).class });
}
by_move place next counts known line (first_row {heading = heading} {modes = modes} {cells = cells} i) t b =
    let o = b.inside refl in
    record {
      variables = after_variables place next counts known line t b;
      early = λ k. apart k refl;
      outside = λ k. apart refl k;
      inside = λ k. (
        row_added (row_of known modes cells) (o.0),
        record {
          is = ap (option_map (row_added (row_of known modes cells))) o.1.is;
          at = (o.1.at.0, o.1.at.1, o.1.at.2, more_rows o.0.rows (row_of known modes cells));
          head = o.1.head;
          class = o.1.class;
        },
      );
    }
by_move place next counts known line (next_row {heading = heading} {modes = modes} {cells = cells} i) t b =
    let o = b.inside refl in
    record {
      variables = after_variables place next counts known line t b;
      early = λ k. apart k refl;
      outside = λ k. apart refl k;
      inside = λ k. (
        row_added (row_of known modes cells) (o.0),
        record {
          is = ap (option_map (row_added (row_of known modes cells))) o.1.is;
          at = (o.1.at.0, o.1.at.1, o.1.at.2, more_rows o.0.rows (row_of known modes cells));
          head = o.1.head;
          class = o.1.class;
        },
      );
    }
by_move place next counts known line (gives_values {heading = heading} {sides = sides}) t b =
    let o = b.inside refl in
    record {
      variables = after_variables place next counts known line t b;
      early = λ k. apart k refl;
      outside = λ k. apart refl k;
      inside = λ k. (
        values_set (map (side_of known) sides) (o.0),
        record {
          is = ap (option_map (values_set (map (side_of known) sides))) o.1.is;
          at = (subst (λ q. has_values q ≡ true) (sym o.1.at.0) o.1.at.1, o.1.at.3);
          head = o.1.head;
          class = o.1.class;
        },
      );
    }
by_move place next counts known line (changes {source = source} {target = target} {e = e}) t b =
    let o = b.inside refl in
    record {
      variables = after_variables place next counts known line t b;
      early = λ k. apart k refl;
      outside = λ k. apart refl k;
      inside = λ k. (
        transition_added (mode_code known source) (mode_code known target) (event_of known e) (o.0),
        record {
          is = ap (option_map (transition_added (mode_code known source) (mode_code known target) (event_of known e))) o.1.is;
          at = o.1.at;
          head = o.1.head;
          class = o.1.class;
        },
      );
    }
by_move place next counts known line (ends i) t b = record {
  variables = after_variables place next counts known line t b;
  early = λ k. apart k refl;
  outside = λ k. refl;
  inside = λ k. apart k refl;
}
by_move place next counts known line (finishes i) t b = record {
  variables = after_variables place next counts known line t b;
  early = λ k. apart k refl;
  outside = λ k. b.outside (between_outside place i);
  inside = λ k. apart k refl;
}

pub base_kept : Step (λ place counts known. Base place known)
base_kept place next counts known line t b = by_move place next counts known line (moves place next line t.placed) t b
