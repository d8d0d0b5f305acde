-- A test in a setting is the one that is defined.
use Rattle.std.proofs.Common.{◌≡◌, ℕ, List, ◌++◌, map, sym, ap, ap₂, subst, ◌∙◌, IsTrue}
use Rattle.std.specs.List.{list_all}
use Rattle.std.proofs.lemmas.Bool.{and_parts}
use Rattle.std.proofs.lemmas.List.{map-append}
use Rattle.std.proofs.lemmas.List.Folds.{list_all-append}
use Rattle.scr_spec.specs.Data.{Data}
use Rattle.dd_formula.specs.declared.formula.Formula.{Formula}
use Rattle.dd_formula.specs.declared.formula.Formula.TheVariants.{And}
use Rattle.dd_formula.specs.Measure.{all_atoms}
use Rattle.dd_formula.proofs.FormulaLaws.{all_atoms-And}
use Rattle.prove_formula.specs.Frozen.{frozen}
use Rattle.prove_formula.specs.Measure.{is_atom_over, IsOver}
use Rattle.prove_formula.proofs.FrozenLaws.{frozen-And}
use Rattle.prove_goals.specs.Pairs.{AreOver as AreFormulasOver}
use Rattle.prove_candidates.specs.declared.candidate.Candidate.{Candidate}
use Rattle.prove_candidates.specs.Candidates.{is_candidate_over}
use Rattle.prove_decide.specs.declared.decision.Decision.{Decision}
use Rattle.prove_decide.specs.declared.decision.Decision.TheVariants.{Over, Unsatisfiable, Satisfied}
use Rattle.prove_decide.specs.declared.witness.Witness.{Witness}
use Rattle.prove_decide.specs.Levels.{level_domains}
use Rattle.prove_decide.specs.Alone.{IsDecided}
use Rattle.prove_invariants.specs.declared.moves.Moved.{Moved}
use Rattle.prove_invariants.specs.declared.setting.Round.{Round}
use Rattle.prove_invariants.specs.declared.change.Tested.TheVariants.{Kept, Broken, Past}
use Rattle.prove_invariants.specs.Formulas.{before_formula, own_formulas, broken_formulas, moved_formulas, test_formula}
use Rattle.prove_invariants.specs.Settings.{spec_in, IsBegun, IsMovedIn, change_test_in, front_in, formula_in}
use Rattle.prove_invariants.proofs.Narrow.{over_test}
use Rattle.prove_invariants.proofs.Counted.{change_past, change_kept, change_broken}

-- the members, each with frozen levels, are the members of the formula with frozen levels
formula_is : (spec : Data) (order need : List ℕ) (class : ℕ) (known : List Candidate) (c : Candidate) (x : ℕ)
    → And ((map (frozen spec x) (own_formulas spec class c) ++ map (frozen spec x) (map (before_formula spec class) known)) ++ map (frozen spec x) (moved_formulas spec order need class x))
    ≡ test_formula spec order need class known c x
formula_is spec order need class known c x =
    let own = own_formulas spec class c in
    let before = map (before_formula spec class) known in
    let moved = moved_formulas spec order need class x in
    ap And (ap (λ fs. fs ++ map (frozen spec x) moved) (sym (map-append (frozen spec x) own before)) ∙ sym (map-append (frozen spec x) (own ++ before) moved))
    ∙ sym (frozen-And spec x (broken_formulas spec class known c ++ moved))

module _ (r : Round) (begun : IsBegun r) (c : Candidate) (m : Moved) (there : IsMovedIn r m) (own : List Formula) (is_own : own ≡ own_formulas (spec_in r.setting.now) r.setting.now.class c)
    (over : IsTrue (is_candidate_over (spec_in r.setting.now) r.setting.now.class c)) where
  abbrev spec : Data
  spec = spec_in r.setting.now

  abbrev order : List ℕ
  order = r.setting.now.checked.now.order.list

  abbrev need : List ℕ
  need = r.setting.now.need.now

  abbrev class : ℕ
  class = r.setting.now.class

  abbrev limit : ℕ
  limit = r.setting.now.limit

  abbrev known : List Candidate
  known = r.known.now

  formula_there : formula_in r own m ≡ test_formula spec order need class known c m.changed
  formula_there =
      let f = frozen spec m.changed in
      ap And (ap₂ (λ fs gs. fs ++ gs) (ap₂ (λ fs gs. map f fs ++ map f gs) is_own begun.all_before) (ap (λ (n : Moved). n.members) there.moved))
      ∙ formula_is spec order need class known c m.changed

  over_there : AreFormulasOver spec (front_in r own m) × AreFormulasOver spec m.members
  over_there =
      let p = all_atoms (is_atom_over spec) in
      let whole : IsOver spec (formula_in r own m)
      = subst (IsOver spec) (sym formula_there)
      (over_test spec class r.setting.now.checked.now.spec.sound begun.set_up.is_class order need known c m.changed begun.over over there.monitored) in
      and_parts (list_all p (front_in r own m)) (list_all p m.members)
      (sym (list_all-append p (front_in r own m) m.members) ∙ sym (all_atoms-And (is_atom_over spec) (front_in r own m ++ m.members)) ∙ whole)

  pub front_over : AreFormulasOver spec (front_in r own m)
  front_over = over_there.0

  pub members_over : AreFormulasOver spec m.members
  members_over = over_there.1

  module _ (d : Decision) (decided : IsDecided (level_domains spec) limit (formula_in r own m) d) where
    of_test : (e : Decision) → d ≡ e → IsDecided (level_domains spec) limit (test_formula spec order need class known c m.changed) e
    of_test e is = subst (IsDecided (level_domains spec) limit (test_formula spec order need class known c m.changed)) is
        (subst (λ (f : Formula). IsDecided (level_domains spec) limit f d) formula_there decided)

    pub test_kept : d ≡ Unsatisfiable → change_test_in r c m.changed Kept
    test_kept e = change_kept spec order need class limit known c m.changed r.setting.now.checked.now.ordered.ordered begun.set_up.needed (of_test Unsatisfiable e)

    pub test_broken : (w : Witness) → d ≡ Satisfied w → change_test_in r c m.changed Broken
    test_broken w e = change_broken spec order need class limit known c m.changed r.setting.now.checked.now.ordered.ordered begun.set_up.needed w (of_test (Satisfied w) e)

    pub test_past : d ≡ Over → change_test_in r c m.changed Past
    test_past e = change_past spec order need class limit known c m.changed r.setting.now.checked.now.ordered.ordered begun.set_up.needed (of_test Over e)
