-- The formulas of a test have levels of the specification, and small measures.
use Rattle.std.proofs.Common.{◌≡◌, ℕ, ◌<◌, ◌≤◌, ℤ, pos, Bool, true, false, ◌&&◌, List, [], ◌∷◌, ◌++◌, length, map, Option, Some, None, refl, sym, subst, ◌∙◌, arith, IsTrue, w64, to_z, of_z, FitsSigned}
use Rattle.std.specs.Prelude.{slice_get, unsigned_abs, int_le, int_lt, nat_le, IfOk, Result, Ok, Err}
use Rattle.std.specs.Option.{option_map_or}
use Rattle.std.specs.List.{list_all, filter, flat_map}
use Rattle.std.proofs.lemmas.Bool.{and_parts, and_from, leb-true, false≢true}
use Rattle.std.proofs.lemmas.Int.{ints, to_z-of_z, fits_signed_from_abs}
use Rattle.std.proofs.lemmas.Option.{slice_get_within}
use Rattle.std.proofs.lemmas.List.Folds.{list_all-append}
use Rattle.base.specs.declared.memory.NoMemory.{NoMemory}
use Rattle.scr_spec.specs.Data.{Data}
use Rattle.scr_spec.specs.Sound.{IsSound}
use Rattle.scr_spec.specs.declared.spec.TypeDef.{TypeDef}
use Rattle.scr_spec.specs.declared.spec.Kind.{Kind}
use Rattle.scr_spec.specs.declared.spec.Kind.TheVariants.{Boolean, Named, Modes}
use Rattle.scr_spec.specs.declared.spec.Variable.{Variable}
use Rattle.scr_spec.specs.Types.{kind_modes, is_kind_sound}
use Rattle.scr_spec.specs.Roles.{is_class_role}
use Rattle.scr_spec.specs.Tables.{is_class_at}
use Rattle.scr_spec.specs.Over.{modes_of, is_place, is_cond_over}
use Rattle.scr_spec.specs.Relations.{is_monitored}
use Rattle.scr_spec.proofs.Lookup.{all_get}
use Rattle.dd_formula.specs.declared.formula.Formula.{Formula}
use Rattle.dd_formula.specs.declared.formula.Formula.TheVariants.{Not, And}
use Rattle.prove_formula.specs.Measure.{greatest_measure, is_atom_over, IsOver}
use Rattle.dd_formula.specs.Measure.{all_atoms}
use Rattle.prove_formula.specs.Conditions.{has_code, condition_formula}
use Rattle.prove_formula.specs.Tables.{relation_formula}
use Rattle.dd_formula.proofs.FormulaLaws.{all_atoms-And, all_atoms-Or}
use Rattle.prove_formula.proofs.ConditionMeasure.{over_not, over_has_code, over_condition_formula}
use Rattle.prove_formula.proofs.TableMeasure.{relation_over_ok}
use Rattle.prove_formula.proofs.FrozenLaws.{frozen_bounds}
use Rattle.scr_depend.specs.Graphs.{is_among}
use Rattle.prove_goals.specs.Pairs.{need_formulas, change_formula}
use Rattle.prove_goals.proofs.PairMeasure.{pairs_over}
use Rattle.prove_candidates.specs.declared.candidate.Candidate.{Candidate}
use Rattle.prove_candidates.specs.Candidates.{is_candidate_over, AreOver}
use Rattle.prove_invariants.specs.Formulas.{candidate_formula, before_formula, broken_formulas, moved_formulas, test_formula}

-- ---- a class, and its modes

class_there : (spec : Data) (class : ℕ) (o : Option Variable) → slice_get spec.variables class ≡ o → option_map_or (λ (v : Variable). is_class_role v.role) o false ≡ true → class < length spec.variables
class_there spec class None e h = absurd (false≢true h)
class_there spec class (Some v) e h = slice_get_within spec.variables class v e

pub class_within : (spec : Data) (class : ℕ) → IsTrue (is_class_at spec class) → class < length spec.variables
class_within spec class h = class_there spec class (slice_get spec.variables class) refl h

pub class_small : (spec : Data) (class : ℕ) → IsSound spec → IsTrue (is_class_at spec class) → class < 128
class_small spec class sound h = omega (arith, class_within spec class h, leb-true _ _ sound.few)

few_modes : (types : List TypeDef) (k : Kind) → is_kind_sound types k ≡ true → length (kind_modes k) ≤ 64
few_modes types Boolean h = omega arith
few_modes types (Named n) h = omega arith
few_modes types (Modes names) h = leb-true _ _ (and_parts (nat_le 1 (length names)) (nat_le (length names) 64) h).1

modes_few : (spec : Data) (class : ℕ) → IsSound spec → (o : Option Variable) → slice_get spec.variables class ≡ o → length (option_map_or (λ (v : Variable). kind_modes v.kind) o []) ≤ 64
modes_few spec class sound None e = omega arith
modes_few spec class sound (Some v) e = few_modes spec.types v.kind (all_get (λ (x : Variable). is_kind_sound spec.types x.kind) spec.variables class v sound.kinds e)

small_place : (n : ℕ) (code : ℤ) → n ≤ 64 → int_le (pos 0) code ≡ true → int_lt code (pos n) ≡ true → unsigned_abs code ≤ 1000000
small_place n code few low high = grind (arith, ints)

pub mode_narrow : (spec : Data) (class : ℕ) (c : Candidate) → IsSound spec → IsTrue (is_candidate_over spec class c) → unsigned_abs c.mode ≤ 1000000
mode_narrow spec class c sound h =
    let place = (and_parts (is_place (modes_of spec class) c.mode) (is_cond_over spec c.cond) h).0 in
    let ends = and_parts (int_le (pos 0) c.mode) (int_lt c.mode (pos (length (modes_of spec class)))) place in
    small_place (length (modes_of spec class)) c.mode (modes_few spec class sound (slice_get spec.variables class) refl) ends.0 ends.1

pub cond_over : (spec : Data) (class : ℕ) (c : Candidate) → IsTrue (is_candidate_over spec class c) → IsTrue (is_cond_over spec c.cond)
cond_over spec class c h = (and_parts (is_place (modes_of spec class) c.mode) (is_cond_over spec c.cond) h).1

fits_small : (z : ℤ) → unsigned_abs z ≤ 1000000 → FitsSigned w64 z
fits_small z h = fits_signed_from_abs w64 z (omega (arith, h))

-- so its bits mean itself
pub same_bits : (z : ℤ) → unsigned_abs z ≤ 1000000 → unsigned_abs (to_z w64 (of_z w64 z)) ≤ 1000000
same_bits z h = subst (λ y. unsigned_abs y ≤ 1000000) (sym (to_z-of_z w64 z (fits_small z h))) h

pub ruleset mode_laws = (class_small, mode_narrow, cond_over)

-- ---- formulas

module _ (spec : Data) (class : ℕ) (sound : IsSound spec) (is_class : IsTrue (is_class_at spec class)) where
  over_mode : (b : Bool) (c : Candidate) → IsTrue (is_candidate_over spec class c) → IsOver spec (has_code b class c.mode)
  over_mode b c h = over_has_code spec b class c.mode sound (class_within spec class is_class) (mode_narrow spec class c sound h)

  over_cond : (b : Bool) (c : Candidate) → IsTrue (is_candidate_over spec class c) → IsOver spec (condition_formula spec b c.cond)
  over_cond b c h = over_condition_formula spec b sound c.cond (cond_over spec class c h)

  pub over_candidate : (b : Bool) (c : Candidate) → IsTrue (is_candidate_over spec class c) → IsOver spec (candidate_formula spec b class c)
  over_candidate b c h =
      all_atoms-Or (is_atom_over spec) (Not (has_code b class c.mode) ∷ condition_formula spec b c.cond ∷ [])
      ∙ and_from _ _ (over_not spec (has_code b class c.mode) (over_mode b c h)) (and_from _ true (over_cond b c h) refl)

  over_before : (c : Candidate) → IsTrue (is_candidate_over spec class c) → IsOver spec (before_formula spec class c)
  over_before c h = over_candidate false c h

  over_known : (known : List Candidate) → AreOver spec class known → list_all (all_atoms (is_atom_over spec)) (map (before_formula spec class) known) ≡ true
  over_known [] h = refl
  over_known (c ∷ cs) h =
      let both = and_parts (is_candidate_over spec class c) (list_all (is_candidate_over spec class) cs) h in
      and_from _ _ (over_before c both.0) (over_known cs both.1)

  over_broken : (known : List Candidate) (c : Candidate) → AreOver spec class known → IsTrue (is_candidate_over spec class c) → list_all (all_atoms (is_atom_over spec)) (broken_formulas spec class known c) ≡ true
  over_broken known c all h =
      and_from _ _ (over_mode true c h) (and_from _ _ (over_not spec (condition_formula spec true c.cond) (over_cond true c h)) (and_from _ _ (over_before c h) (over_known known all)))

  over_moved : (order need : List ℕ) (x : ℕ) → IsTrue (is_monitored spec x) → list_all (all_atoms (is_atom_over spec)) (moved_formulas spec order need class x) ≡ true
  over_moved order need x h =
      let p = all_atoms (is_atom_over spec) in
      let needs = flat_map (need_formulas spec) (filter (is_among need) order) in
      let pairs = and_parts (list_all p needs) (p (change_formula spec x) && true) (sym (list_all-append p needs (change_formula spec x ∷ [])) ∙ pairs_over spec order need x sound h) in
      list_all-append p needs (relation_formula spec class ∷ change_formula spec x ∷ [])
      ∙ and_from _ _ pairs.0 (and_from _ _ (relation_over_ok spec class (Ok (relation_formula spec class)) sound refl) pairs.1)

  pub over_test : (order need : List ℕ) (known : List Candidate) (c : Candidate) (x : ℕ) → AreOver spec class known → IsTrue (is_candidate_over spec class c) → IsTrue (is_monitored spec x)
      → IsOver spec (test_formula spec order need class known c x)
  over_test order need known c x all h m =
      let p = all_atoms (is_atom_over spec) in
      let fs = broken_formulas spec class known c in
      let gs = moved_formulas spec order need class x in
      frozen_bounds spec x (And (fs ++ gs)) greatest_measure
      ∙ all_atoms-And (is_atom_over spec) (fs ++ gs) ∙ list_all-append p fs gs ∙ and_from _ _ (over_broken known c all h) (over_moved order need x m)

-- the law of the call
pub candidate_over_ok : (spec : Data) (new : Bool) (class : ℕ) (c : Candidate) (r : Result Formula NoMemory) → IsSound spec → IsTrue (is_class_at spec class) → IsTrue (is_candidate_over spec class c)
    → IfOk r (λ f. f ≡ candidate_formula spec new class c) → IfOk r (λ f. IsOver spec f)
candidate_over_ok spec new class c (Ok f) sound is_class h e = subst (IsOver spec) (sym e) (over_candidate spec class sound is_class new c h)
candidate_over_ok spec new class c (Err z) sound is_class h e = e
