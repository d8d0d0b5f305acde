-- The formulas of a full pair are all true exactly there.
use Rattle.std.proofs.Common.{◌≡◌, ℕ, Bool, true, false, ◌&&◌, ◌||◌, List, [], ◌∷◌, Option, Some, None, refl, sym, ap, subst, ◌∙◌, arith, IsTrue}
use Rattle.std.specs.Prelude.{nat_eq}
use Rattle.std.specs.Option.{option_map_or}
use Rattle.std.specs.List.{list_all, list_any, flat_map}
use Rattle.std.proofs.lemmas.Bool.{and_parts, and_from, false≢true}
use Rattle.std.proofs.lemmas.Bool.Decides.{nat_tests}
use Rattle.std.proofs.lemmas.List.Folds.{list_all-append}
use Rattle.scr_spec.specs.Data.{Data}
use Rattle.scr_spec.specs.Sound.{IsSound}
use Rattle.scr_spec.specs.declared.table.Table.{Table}
use Rattle.scr_spec.specs.Meaning.{Codes}
use Rattle.scr_spec.specs.Domains.{IsTyped}
use Rattle.scr_spec.specs.Relations.{is_monitored, is_dependent, is_condition, KeepsOthers, table_of}
use Rattle.dd_formula.specs.Truth.{holds_at}
use Rattle.prove_formula.specs.Levels.{valuation_of}
use Rattle.scr_depend.specs.Graphs.{is_among}
use Rattle.scr_depend.specs.Dependencies.{graph_of}
use Rattle.scr_depend.specs.Orders.{IsOrder}
use Rattle.scr_depend.specs.Related.{bound_of}
use Rattle.scr_depend.proofs.Dependent.{whole_graph}
use Rattle.scr_depend.proofs.Places.{stands_behind}
use Rattle.prove_goals.specs.Pairs.{need_formulas, change_formula}
use Rattle.prove_goals.proofs.PairTruth.{IsMet, need_tells, change_tells}
use Rattle.run_step.proofs.Order.{table_depends}
use Rattle.prove_asserts.specs.Claims.{IsFullPair}
use Rattle.prove_asserts.specs.Formulas.{full_formulas}
use Rattle.prove_asserts.specs.Laws.{FullPairsTell}

abbrev has : List ℕ → ℕ → Bool
has xs w = list_any (λ y. nat_eq y w) xs

has_from : (xs : List ℕ) (w : ℕ) → IsTrue (is_among xs w) → IsTrue (has xs w)
unfolding is_among
has_from xs w h = h

among_from : (xs : List ℕ) (w : ℕ) → IsTrue (has xs w) → IsTrue (is_among xs w)
unfolding is_among
among_from xs w h = h

nat_same : (x w : ℕ) → nat_eq x w ≡ true → x ≡ w
nat_same x w h = grind (arith, nat_tests)

itself : (x : ℕ) → nat_eq x x ≡ true
itself x = grind (arith, nat_tests)

or_right : (a b : Bool) → b ≡ true → (a || b) ≡ true
or_right true b h = refl
or_right false b h = h

module _ (spec : Data) (s t : Codes) where
  all_met : (xs : List ℕ) → ((w : ℕ) → IsTrue (has xs w) → IsMet spec s t w) → IsTrue (list_all (holds_at (valuation_of s t)) (flat_map (need_formulas spec) xs))
  all_met [] each = refl
  all_met (x ∷ xs) each =
      list_all-append (holds_at (valuation_of s t)) (need_formulas spec x) (flat_map (need_formulas spec) xs)
      ∙ and_from _ _ ((need_tells spec s t x).1 (each x (ap (λ b. b || has xs x) (itself x)))) (all_met xs (λ w m. each w (or_right (nat_eq x w) (has xs w) m)))

  each_met : (xs : List ℕ) → IsTrue (list_all (holds_at (valuation_of s t)) (flat_map (need_formulas spec) xs)) → (w : ℕ) → IsTrue (has xs w) → IsMet spec s t w
  each_met [] k w m = absurd (false≢true m)
  each_met (x ∷ xs) k w m =
      let h = holds_at (valuation_of s t) in
      let both = and_parts (list_all h (need_formulas spec x)) (list_all h (flat_map (need_formulas spec) xs)) (sym (list_all-append h (need_formulas spec x) (flat_map (need_formulas spec) xs)) ∙ k) in
      elim (nat_eq x w) as (λ c. nat_eq x w ≡ c → c || has xs w ≡ true → IsMet spec s t w) [
        | true ↦ λ same there. subst (IsMet spec s t) (nat_same x w same) ((need_tells spec s t x).0 both.0)
        | false ↦ λ other there. each_met xs both.1 w there
      ] refl m

tabled_depends : (spec : Data) (v : ℕ) → IsSound spec → (o : Option Table) → table_of spec v ≡ o → option_map_or (λ (t : Table). is_condition t.heading) o false ≡ true → is_dependent spec v ≡ true
tabled_depends spec v sound None e h = absurd (false≢true h)
tabled_depends spec v sound (Some t) e h = table_depends spec v t sound e

module _ (spec : Data) (order : List ℕ) (x : ℕ) (sound : IsSound spec) (ordered : IsOrder (graph_of spec) order) (s t : Codes) where
  there : (v : ℕ) → IsTrue (is_dependent spec v) → IsTrue (has order v)
  there v d = has_from order v (ordered.whole v ((whole_graph.whole spec sound).dependents v ∙ d))

  depends : (v : ℕ) → IsTrue (has order v) → IsTrue (is_dependent spec v)
  depends v m = sym ((whole_graph.whole spec sound).dependents v) ∙ ((stands_behind (graph_of spec) order ordered).members v).0 (among_from order v m)

  pub full_told : IsFullPair spec x s t → IsTrue (list_all (holds_at (valuation_of s t)) (full_formulas spec order x))
  full_told r =
      list_all-append (holds_at (valuation_of s t)) (flat_map (need_formulas spec) order) (change_formula spec x ∷ [])
      ∙ and_from _ _ (all_met spec s t order (λ w m. (r.related w (depends w m), r.own w))) (and_from _ true ((change_tells s t x (bound_of spec x)).1 (r.differs, r.bounded)) refl)

  pub full_parts : IsTrue (is_monitored spec x) → IsTyped spec s → IsTyped spec t → KeepsOthers spec x s t → IsTrue (list_all (holds_at (valuation_of s t)) (full_formulas spec order x)) → IsFullPair spec x s t
  full_parts monitored old new keeps h =
      let v = holds_at (valuation_of s t) in
      let ns = flat_map (need_formulas spec) order in
      let both = and_parts (list_all v ns) (v (change_formula spec x) && true) (sym (list_all-append v ns (change_formula spec x ∷ [])) ∙ h) in
      let last = and_parts (v (change_formula spec x)) true both.1 in
      let change = (change_tells s t x (bound_of spec x)).0 last.0 in
      let met : (w : ℕ) → IsTrue (is_dependent spec w) → IsMet spec s t w = λ w d. each_met spec s t order both.0 w (there w d) in
      record {
        monitored = monitored;
        old_typed = old;
        new_typed = new;
        differs = change.0;
        bounded = change.1;
        others = keeps;
        related = λ w d. (met w d).0;
        own = λ w h. (met w (tabled_depends spec w sound (table_of spec w) refl h)).1 h;
      }

pub full_pairs_tell : FullPairsTell
full_pairs_tell = record {
  tell = λ spec order x sound ordered monitored s t old new keeps. (full_parts spec order x sound ordered s t monitored old new keeps, full_told spec order x sound ordered s t);
}
