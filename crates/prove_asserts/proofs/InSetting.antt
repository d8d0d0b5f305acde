-- A test in a setting is the one that is defined.
use Rattle.std.proofs.Common.{◌≡◌, List, ◌++◌, map, sym, ap, ap₂, subst, ◌∙◌, IsTrue}
use Rattle.std.specs.Prelude.{IfOk, Result, Ok, Err}
use Rattle.std.specs.List.{list_all}
use Rattle.std.proofs.lemmas.Bool.{and_parts}
use Rattle.std.proofs.lemmas.List.{map-append}
use Rattle.std.proofs.lemmas.List.Folds.{list_all-append}
use Rattle.base.specs.declared.memory.NoMemory.{NoMemory}
use Rattle.scr_spec.specs.Data.{Data}
use Rattle.scr_spec.specs.Over.{is_cond_over}
use Rattle.dd_formula.specs.declared.formula.Formula.{Formula}
use Rattle.dd_formula.specs.declared.formula.Formula.TheVariants.{And}
use Rattle.dd_formula.specs.Measure.{all_atoms}
use Rattle.dd_formula.proofs.FormulaLaws.{all_atoms-And}
use Rattle.prove_formula.specs.Frozen.{frozen}
use Rattle.prove_formula.specs.Measure.{is_atom_over, IsOver}
use Rattle.prove_formula.proofs.FrozenLaws.{frozen-And}
use Rattle.prove_goals.specs.Pairs.{AreOver}
use Rattle.prove_decide.specs.declared.decision.Decision.{Decision}
use Rattle.prove_decide.specs.Levels.{level_domains}
use Rattle.prove_decide.specs.Alone.{IsDecided}
use Rattle.scr_resolve_asserts.specs.declared.assertion.Assertion.{Assertion}
use Rattle.prove_asserts.specs.declared.setting.Setting.{Setting}
use Rattle.prove_asserts.specs.declared.change.Change.{Change}
use Rattle.prove_asserts.specs.Formulas.{broken_formulas, common_formulas, test_formula}
use Rattle.prove_asserts.specs.Settings.{spec_in, order_in, IsSetUp, IsChangeIn, change_test_in, formula_in}
use Rattle.prove_asserts.proofs.Measures.{over_test}

module _ (s : Setting) (set_up : IsSetUp s) (a : Assertion) (change : Change) (there : IsChangeIn s change) (own : List Formula) (is_own : own ≡ broken_formulas (spec_in s) a.two a.cond)
    (over : IsTrue (is_cond_over (spec_in s) a.cond)) where
  abbrev spec : Data
  spec = spec_in s

  abbrev f : Formula → Formula
  f = frozen spec change.changed

  abbrev common : List Formula
  common = common_formulas spec (order_in s) s.lemmas.now change.changed

  -- the members, each with frozen levels, are the members of the formula with frozen levels
  formula_there : formula_in s own change ≡ test_formula spec (order_in s) s.lemmas.now a change.changed
  formula_there =
      ap And (ap₂ (λ fs gs. map f fs ++ gs) is_own (ap (λ (c : Change). c.members) there.change_is) ∙ sym (map-append f (broken_formulas spec a.two a.cond) common))
      ∙ sym (frozen-And spec change.changed (broken_formulas spec a.two a.cond ++ common))

  over_there : AreOver spec (map f own) × AreOver spec change.members
  over_there =
      let p = all_atoms (is_atom_over spec) in
      let whole : IsOver spec (formula_in s own change)
      = subst (IsOver spec) (sym formula_there) (over_test spec s.checked.now.spec.sound (order_in s) s.lemmas.now a change.changed set_up.over over there.monitored) in
      and_parts (list_all p (map f own)) (list_all p change.members)
      (sym (list_all-append p (map f own) change.members) ∙ sym (all_atoms-And (is_atom_over spec) (map f own ++ change.members)) ∙ whole)

  pub own_over : AreOver spec (map f own)
  own_over = over_there.0

  pub members_over : AreOver spec change.members
  members_over = over_there.1

  pub test_decided : (r : Result Decision NoMemory) → IfOk r (IsDecided (level_domains spec) s.limit (formula_in s own change)) → IfOk r (change_test_in s a change.changed)
  test_decided (Ok d) h = subst (λ (g : Formula). IsDecided (level_domains spec) s.limit g d) formula_there h
  test_decided (Err e) h = h
