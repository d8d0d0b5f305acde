-- Each dependent variable has exactly one table.
use Rattle.std.proofs.Common.{◌≡◌, ℕ, zero, suc, ◌+◌, Bool, true, false, not, ◌||◌, if◌then◌else◌, List, [], ◌∷◌, ◌++◌, map, Option, Some, None, refl, sym, ap, subst, ◌∙◌, arith}
use Rattle.std.specs.Prelude.{nat_eq, slice_get, unwrap_or}
use Rattle.std.specs.Option.{option_map, option_to_list}
use Rattle.std.specs.List.{list_any}
use Rattle.std.proofs.lemmas.Bool.{and_parts}
use Rattle.scr_spec.specs.declared.spec.Variable.{Variable}
use Rattle.scr_spec.specs.declared.table.Table.{Table}
use Rattle.scr_spec.specs.Roles.{is_monitored_role}
use Rattle.scr_spec.specs.Distinct.{are_distinct}
use Rattle.scr_spec.specs.Tables.{has_table}
use Rattle.scr_spec.specs.Sound.{IsEachTabled}
use Rattle.scr_spec.proofs.Passing.{and_true}
use Rattle.scr_parse.specs.declared.draft.Statement.{Statement}
use Rattle.scr_parse.specs.declared.place.Place.{Place}
use Rattle.scr_parse.specs.declared.place.Place.TheVariants as p
use Rattle.scr_parse.specs.declared.place.Counts.{Counts}
use Rattle.scr_parse.specs.Readable.{is_after}
use Rattle.scr_scope.specs.declared.known.Known.{Known}
use Rattle.scr_scope.specs.Names.{Name}
use Rattle.scr_scope.specs.Meanings.{seen}
use Rattle.scr_scope.specs.Sides.{side_of}
use Rattle.scr_scope.specs.Events.{event_of}
use Rattle.scr_resolve.specs.Tables.{first_bare}
use Rattle.scr_resolve.specs.Built.{mode_code, row_of, row_added, values_set, transition_added}
use Rattle.scr_resolve.specs.Lines.{after}
use Rattle.scr_resolve.proofs.Carried.{IsLine, Step}
use Rattle.scr_resolve.proofs.Truths.{not_true, or_false}
use Rattle.scr_resolve.proofs.Heads.{begun}
use Rattle.scr_resolve.proofs.Moves.{is_early, is_inside, Moves, declares, heads, first_row, next_row, gives_values, changes, ends, finishes, moves}
use Rattle.scr_resolve.proofs.Opened.{Base, base_kept, apart, head_inside, early_outside, end_inside, between_outside, declared_same}
use Rattle.scr_resolve.proofs.TableRules.{no_table, same_table, became}

-- ---- no variable has two tables

abbrev variables_of : List Table → List ℕ
variables_of tables = map (λ t. t.variable) tables

-- a table of a variable that has none
distinct_more : (tables : List Table) (t : Table) → are_distinct nat_eq (variables_of tables) ≡ true → has_table tables t.variable ≡ false → are_distinct nat_eq (variables_of (tables ++ t ∷ [])) ≡ true
distinct_more [] t d h = refl
distinct_more (u ∷ us) t d h =
    let a = and_parts (not (list_any (nat_eq u.variable) (variables_of us))) (are_distinct nat_eq (variables_of us)) d in
    let b = or_false (nat_eq u.variable t.variable) (has_table us t.variable) h in
    and_true _ _ (ap not (push_none us t u.variable (not_true _ (a.0)) (b.0))) (distinct_more us t (a.1) (b.1))
  where
    push_none : (vs : List Table) (w : Table) (v : ℕ) → list_any (nat_eq v) (variables_of vs) ≡ false → nat_eq v w.variable ≡ false → list_any (nat_eq v) (variables_of (vs ++ w ∷ [])) ≡ false
    push_none [] w v e f = ap (λ x. x || false) f
    push_none (x ∷ vs) w v e f = let c = or_false (nat_eq v x.variable) (list_any (nat_eq v) (variables_of vs)) e in ap (λ y. y || list_any (nat_eq v) (variables_of (vs ++ w ∷ []))) (c.0) ∙ push_none vs w v (c.1) f

pub record AreTabled (place : Place) (known : Known) : Type 0 where
  pub base : Base place known
  pub once : are_distinct nat_eq (variables_of known.tables) ≡ true
  pub new : (t : Table) → known.current ≡ Some t → has_table known.tables t.variable ≡ false
  pub all : place ≡ p.After → first_bare known.tables 0 known.variables ≡ None

-- the table keeps its variable
same_variable : (f : Table → Table) (o : Option Table) (t u : Table) → (f t).variable ≡ t.variable → o ≡ Some t → option_map f o ≡ Some u → u.variable ≡ t.variable
same_variable f o t u e g h = ap (λ (x : Table). x.variable) (sym (became f o t u g h)) ∙ e

-- Tables is no place behind FINISH
ended_after : p.Tables ≡ p.After → ⊥
ended_after e = let f : is_after p.Tables ≡ true = ap is_after e in cc

-- one more table at its END
ended : (tables : List Table) (o : Option Table) (t : Table) → o ≡ Some t → are_distinct nat_eq (variables_of tables) ≡ true → has_table tables t.variable ≡ false
    → are_distinct nat_eq (variables_of (tables ++ option_to_list o)) ≡ true
ended tables o t e d h = subst (λ u. are_distinct nat_eq (variables_of (tables ++ option_to_list u)) ≡ true) (sym e) (distinct_more tables t d h)

by_move : (place next : Place) (counts : Counts) (known : Known) (line : Statement) → Moves place next line → IsLine place next counts known line → Base next (after known line) → AreTabled place known
    → AreTabled next (after known line)
unfolding after
by_move place next counts known line (declares d i j) t b r = record {
  base = b;
  once = ap (λ tables. are_distinct nat_eq (variables_of tables)) (declared_same known line d).0 ∙ r.once;
  new = λ u e. no_table ((declared_same known line d).1 ∙ r.base.outside (early_outside place i)) e;
  all = λ e. apart (sym (ap is_early e) ∙ j) refl;
}
by_move place next counts known line (heads {heading = heading} {n = n} {class = class} i) t b r = record {
  base = b;
  once = r.once;
  new = λ u e. ap (λ (x : Table). has_table known.tables x.variable) (sym (same_table e)) ∙ (begun known heading n class t.passes).new;
  all = λ e. apart (sym (ap is_inside e) ∙ head_inside heading) refl;
}
by_move place next counts known line (first_row {heading = heading} {modes = modes} {cells = cells} i) t b r =
    let o = r.base.inside refl in
    record {
      base = b;
      once = r.once;
      new = λ u e. ap (has_table known.tables) (same_variable (row_added (row_of known modes cells)) known.current o.0 u refl o.1.is e) ∙ r.new o.0 o.1.is;
      all = λ e. apart (sym (ap is_inside e)) refl;
    }
by_move place next counts known line (next_row {heading = heading} {modes = modes} {cells = cells} i) t b r =
    let o = r.base.inside refl in
    record {
      base = b;
      once = r.once;
      new = λ u e. ap (has_table known.tables) (same_variable (row_added (row_of known modes cells)) known.current o.0 u refl o.1.is e) ∙ r.new o.0 o.1.is;
      all = λ e. apart (sym (ap is_inside e)) refl;
    }
by_move place next counts known line (gives_values {heading = heading} {sides = sides}) t b r =
    let o = r.base.inside refl in
    record {
      base = b;
      once = r.once;
      new = λ u e. ap (has_table known.tables) (same_variable (values_set (map (side_of known) sides)) known.current o.0 u refl o.1.is e) ∙ r.new o.0 o.1.is;
      all = λ e. apart (sym (ap is_inside e)) refl;
    }
by_move place next counts known line (changes {source = source} {target = target} {e = e}) t b r =
    let o = r.base.inside refl in
    record {
      base = b;
      once = r.once;
      new = λ u f.
          ap (has_table known.tables) (same_variable (transition_added (mode_code known source) (mode_code known target) (event_of known e)) known.current o.0 u refl o.1.is f)
          ∙ r.new o.0 o.1.is;
      all = λ f. apart (sym (ap is_inside f)) refl;
    }
by_move place next counts known line (ends i) t b r =
    let o = r.base.inside (end_inside place i) in
    record { base = b; once = ended known.tables known.current o.0 o.1.is r.once (r.new o.0 o.1.is); new = λ u e. no_table refl e; all = λ e. absurd (ended_after e) }
by_move place next counts known line (finishes i) t b r =
    record { base = b; once = r.once; new = λ u e. no_table (r.base.outside (between_outside place i)) e; all = λ e. t.passes.table }

pub tabled_kept : Step (λ place counts known. AreTabled place known)
tabled_kept place next counts known line t r = by_move place next counts known line (moves place next line t.placed) t (base_kept place next counts known line t r.base) r

-- ---- each dependent variable has one

bare_none : (tables : List Table) (v : ℕ) (xs : List Variable) → first_bare tables v xs ≡ None → (i : ℕ) (x : Variable) → slice_get xs i ≡ Some x → is_monitored_role x.role ≡ false → has_table tables (v + i) ≡ true
bare_none tables v [] h i x e d = absurd (cc)
bare_none tables v (y ∷ ys) h zero x e d =
    let same : y ≡ x = ap (λ o. unwrap_or o y) e in
    let at : v + zero ≡ v = omega arith in
    rw at (bare_here (is_monitored_role y.role) (has_table tables v) y.name _ h (rw same d))
  where
    bare_here : (a b : Bool) (n : Name) (rest : Option Name) → (if a || b then rest else Some n) ≡ None → a ≡ false → b ≡ true
    bare_here a true n rest f g = refl
    bare_here true false n rest f g = absurd (cc)
    bare_here false false n rest f g = absurd (cc)
bare_none tables v (y ∷ ys) h (suc i) x e d =
    let at : v + suc i ≡ v + 1 + i = omega arith in
    rw at (bare_none tables (v + 1) ys (bare_rest (is_monitored_role y.role || has_table tables v) y.name _ h) i x e d)
  where
    bare_rest : (a : Bool) (n : Name) (rest : Option Name) → (if a then rest else Some n) ≡ None → rest ≡ None
    bare_rest true n rest f = f
    bare_rest false n rest f = absurd (cc)

pub each_tabled : (known : Known) → first_bare known.tables 0 known.variables ≡ None → IsEachTabled (seen known)
each_tabled known h v x e d = let from : 0 + v ≡ v = omega arith in rw from at (bare_none known.tables 0 known.variables h v x e d)
