-- A rule on tables: what the lines of a table keep of it holds of it at its END.
use Rattle.std.proofs.Common.{◌≡◌, Bool, true, List, [], ◌++◌, map, Option, Some, None, refl, sym, ap, subst, ◌∙◌}
use Rattle.std.specs.Option.{option_map, option_to_list, unwrap_or}
use Rattle.std.specs.List.{list_all}
use Rattle.scr_spec.specs.Data.{Data}
use Rattle.scr_spec.specs.declared.table.Heading.{Heading}
use Rattle.scr_spec.specs.declared.table.Table.{Table}
use Rattle.scr_parse.specs.declared.draft.DraftCell.{DraftCell}
use Rattle.scr_parse.specs.declared.draft.DraftSide.{DraftSide}
use Rattle.scr_parse.specs.declared.draft.DraftEvent.{DraftEvent}
use Rattle.scr_parse.specs.declared.draft.Statement.{Statement}
use Rattle.scr_parse.specs.declared.draft.Statement.TheVariants as s
use Rattle.scr_parse.specs.declared.place.Place.{Place}
use Rattle.scr_parse.specs.declared.place.Place.TheVariants as p
use Rattle.scr_parse.specs.declared.place.Counts.{Counts}
use Rattle.scr_parse.specs.Limits.{counted}
use Rattle.scr_parse.specs.Forms.{may_end}
use Rattle.scr_parse.specs.Readable.{is_cell_of, head_place}
use Rattle.scr_scope.proofs.KeptValues.{has_values}
use Rattle.scr_scope.specs.declared.known.Known.{Known}
use Rattle.scr_scope.specs.Names.{Name}
use Rattle.scr_scope.specs.Sides.{side_of}
use Rattle.scr_scope.specs.Events.{event_of}
use Rattle.scr_resolve.specs.Built.{mode_code, table_of, row_of, row_added, values_set, transition_added}
use Rattle.scr_resolve.specs.Lines.{after}
use Rattle.scr_resolve.proofs.Carried.{IsLine, Step}
use Rattle.scr_resolve.proofs.Grown.{push_all}
use Rattle.scr_resolve.proofs.Moves.{Moves, declares, heads, first_row, next_row, gives_values, changes, ends, finishes, moves}
use Rattle.scr_resolve.proofs.Opened.{core, Here, Base, base_kept, early_outside, end_inside, between_outside, declared_same}

-- a line in a table: it is read and has no fault
pub record At (place next : Place) (counts : Counts) (known : Known) (t : Table) (line : Statement) : Type 0 where
  pub read : IsLine place next counts known line
  pub base : Base place known
  pub here : Here place known t

-- what is known of the table so far, and how each line of it keeps that
pub record TableRule (R : Data → Table → Bool) (O : Place → Counts → Data → Table → Type 0) : Type 0 where
  pub head : (place : Place) (counts : Counts) (known : Known) (heading : Heading) (n : Name) (class : Option Name) → IsLine place (head_place heading) counts known (s.Head heading n class) → Base place known
      → O (head_place heading) (counted counts (s.Head heading n class)) (core known) (table_of known heading n class)
  pub row : (place : Place) (counts : Counts) (known : Known) (t : Table) (heading : Heading) (modes : List Name) (cells : List DraftCell) → t.heading ≡ heading → has_values heading ≡ true
      → list_all (is_cell_of heading) cells ≡ true → At place (p.Rows heading) counts known t (s.Row modes cells) → O place counts (core known) t
      → O (p.Rows heading) (counted counts (s.Row modes cells)) (core known) (row_added (row_of known modes cells) t)
  pub values : (counts : Counts) (known : Known) (t : Table) (heading : Heading) (sides : List DraftSide) → At (p.Rows heading) p.Closed counts known t (s.Values sides) → O (p.Rows heading) counts (core known) t
      → O p.Closed (counted counts (s.Values sides)) (core known) (values_set (map (side_of known) sides) t)
  pub transition : (counts : Counts) (known : Known) (t : Table) (source target : Name) (e : DraftEvent) → At p.Transitions p.Transitions counts known t (s.Transition source target e)
      → O p.Transitions counts (core known) t
      → O p.Transitions (counted counts (s.Transition source target e)) (core known) (transition_added (mode_code known source) (mode_code known target) (event_of known e) t)
  pub close : (place : Place) (counts : Counts) (known : Known) (t : Table) → may_end place ≡ true → At place p.Tables counts known t s.End → O place counts (core known) t → R (core known) t ≡ true

-- the tables that are ended keep the rule
pub record AreRuled (R : Data → Table → Bool) (O : Place → Counts → Data → Table → Type 0) (place : Place) (counts : Counts) (known : Known) : Type 0 where
  pub base : Base place known
  pub closed : list_all (R (core known)) known.tables ≡ true
  pub current : (t : Table) → known.current ≡ Some t → O place counts (core known) t

pub no_table : {A : Type 0} {t : Table} {o : Option Table} → o ≡ None → o ≡ Some t → A
no_table e f = absurd (let g = sym e ∙ f in cc)

pub same_table : {a b : Table} → Some a ≡ Some b → a ≡ b
same_table {a} {b} e = ap (λ o. unwrap_or o a) e

-- the table that another one became
pub became : (f : Table → Table) (o : Option Table) (t u : Table) → o ≡ Some t → option_map f o ≡ Some u → f t ≡ u
became f o t u e g = same_table (sym (ap (option_map f) e) ∙ g)

no_tables : (q : Table → Bool) (tables : List Table) → tables ≡ [] → list_all q tables ≡ true
no_tables q tables e = ap (list_all q) e

one_more : (q : Table → Bool) (tables : List Table) (o : Option Table) (t : Table) → o ≡ Some t → list_all q tables ≡ true → q t ≡ true → list_all q (tables ++ option_to_list o) ≡ true
one_more q tables o t e h k = subst (λ u. list_all q (tables ++ option_to_list u) ≡ true) (sym e) (push_all q tables t h k)

by_move : (R : Data → Table → Bool) (O : Place → Counts → Data → Table → Type 0) → TableRule R O → (place next : Place) (counts : Counts) (known : Known) (line : Statement)
    → Moves place next line → IsLine place next counts known line → Base next (after known line) → AreRuled R O place counts known → AreRuled R O next (counted counts line) (after known line)
unfolding after
by_move R O rule place next counts known line (declares d i j) t b r = record {
  base = b;
  closed = no_tables (R (core (after known line))) (after known line).tables ((declared_same known line d).0 ∙ r.base.early i);
  current = λ u e. no_table ((declared_same known line d).1 ∙ r.base.outside (early_outside place i)) e;
}
by_move R O rule place next counts known line (heads {heading = heading} {n = n} {class = class} i) t b r = record {
  base = b;
  closed = r.closed;
  current = λ u e. subst (O (head_place heading) (counted counts (s.Head heading n class)) (core known)) (same_table e) (rule.head place counts known heading n class t r.base);
}
by_move R O rule place next counts known line (first_row {heading = heading} {modes = modes} {cells = cells} i) t b r =
    let o = r.base.inside refl in
    record {
      base = b;
      closed = r.closed;
      current = λ u e. subst (O (p.Rows heading) (counted counts (s.Row modes cells)) (core known)) (became (row_added (row_of known modes cells)) known.current o.0 u o.1.is e)
          (rule.row (p.FirstRow heading) counts known o.0 heading modes cells o.1.at.0 o.1.at.1 i (record { read = t; base = r.base; here = o.1 }) (r.current o.0 o.1.is));
    }
by_move R O rule place next counts known line (next_row {heading = heading} {modes = modes} {cells = cells} i) t b r =
    let o = r.base.inside refl in
    record {
      base = b;
      closed = r.closed;
      current = λ u e. subst (O (p.Rows heading) (counted counts (s.Row modes cells)) (core known)) (became (row_added (row_of known modes cells)) known.current o.0 u o.1.is e)
          (rule.row (p.Rows heading) counts known o.0 heading modes cells o.1.at.0 o.1.at.1 i (record { read = t; base = r.base; here = o.1 }) (r.current o.0 o.1.is));
    }
by_move R O rule place next counts known line (gives_values {heading = heading} {sides = sides}) t b r =
    let o = r.base.inside refl in
    record {
      base = b;
      closed = r.closed;
      current = λ u e. subst (O p.Closed (counted counts (s.Values sides)) (core known)) (became (values_set (map (side_of known) sides)) known.current o.0 u o.1.is e)
          (rule.values counts known o.0 heading sides (record { read = t; base = r.base; here = o.1 }) (r.current o.0 o.1.is));
    }
by_move R O rule place next counts known line (changes {source = source} {target = target} {e = e}) t b r =
    let o = r.base.inside refl in
    record {
      base = b;
      closed = r.closed;
      current = λ u f. subst (O p.Transitions (counted counts (s.Transition source target e)) (core known))
          (became (transition_added (mode_code known source) (mode_code known target) (event_of known e)) known.current o.0 u o.1.is f)
          (rule.transition counts known o.0 source target e (record { read = t; base = r.base; here = o.1 }) (r.current o.0 o.1.is));
    }
by_move R O rule place next counts known line (ends i) t b r =
    let o = r.base.inside (end_inside place i) in
    record {
      base = b;
      closed = one_more (R (core known)) known.tables known.current o.0 o.1.is r.closed (rule.close place counts known o.0 i (record { read = t; base = r.base; here = o.1 }) (r.current o.0 o.1.is));
      current = λ u e. no_table refl e;
    }
by_move R O rule place next counts known line (finishes i) t b r = record { base = b; closed = r.closed; current = λ u e. no_table (r.base.outside (between_outside place i)) e }

pub ruled_kept : (R : Data → Table → Bool) (O : Place → Counts → Data → Table → Type 0) → TableRule R O → Step (AreRuled R O)
ruled_kept R O rule place next counts known line t r = by_move R O rule place next counts known line (moves place next line t.placed) t (base_kept place next counts known line t r.base) r
