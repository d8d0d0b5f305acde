-- What a verdict tells of an assertion.
use Rattle.std.proofs.Common.{◌≡◌, ℕ, List, [], ◌∷◌, length, refl, ap, subst, IsTrue}
use Rattle.std.specs.List.{list_all, range_with_len}
use Rattle.std.proofs.lemmas.Bool.{and_parts}
use Rattle.scr_spec.specs.Data.{Data}
use Rattle.scr_spec.specs.Sound.{IsSound}
use Rattle.scr_spec.specs.Relations.{is_monitored}
use Rattle.scr_depend.specs.declared.order.Order.{Order}
use Rattle.scr_depend.specs.Dependencies.{graph_of}
use Rattle.scr_depend.specs.Orders.{IsOrder}
use Rattle.scr_depend.specs.Passes.{PassesChecks}
use Rattle.prove_decide.specs.declared.witness.Witness.{Witness}
use Rattle.prove_decide.specs.Levels.{level_domains}
use Rattle.prove_decide.specs.Readings.{IsWitness}
use Rattle.prove_goals.specs.Goals.{monitored_variables}
use Rattle.prove_invariants.proofs.Testing.{all_filtered}
use Rattle.scr_resolve_asserts.specs.declared.assertion.Assertion.{Assertion}
use Rattle.prove_asserts.specs.declared.lemma.Lemma.{Lemma}
use Rattle.prove_asserts.specs.declared.verdict.AssertVerdict.{AssertVerdict}
use Rattle.prove_asserts.specs.declared.verdict.AssertVerdict.TheVariants.{Yes, FalseInitial, Unproved, Undecided}
use Rattle.prove_asserts.specs.Formulas.{test_formula}
use Rattle.prove_asserts.specs.Judged.{AreTested, all_passed, passed, satisfied, past, IsJudgedFrom, false_at_first, tested, IsJudged}
use Rattle.prove_asserts.specs.Laws.{HoldInRuns, IsFirstBreak, IsSo, VerdictsTell}
use Rattle.prove_asserts.proofs.Sound.{assertions_hold}
use Rattle.prove_asserts.proofs.Tells.{tests_tell}

module _ (spec : Data) (order : List ℕ) (lemmas : List Lemma) (limit : ℕ) (a : Assertion) (sound : IsSound spec) (ordered : IsOrder (graph_of spec) order) (w : Witness) where
  first_break : (xs : List ℕ) → IsTrue (list_all (is_monitored spec) xs) → (v : AssertVerdict) → AreTested spec order lemmas limit a xs v → v ≡ Unproved w → IsFirstBreak spec order lemmas a xs w
  first_break [] are v all_passed e = cc
  first_break (x ∷ xs) are v (passed h more) e =
      let later = first_break xs (and_parts (is_monitored spec x) (list_all (is_monitored spec) xs) are).1 v more e in
      record {
        before = x ∷ later.before;
        changed = later.changed;
        behind = later.behind;
        place = ap (λ ys. x ∷ ys) later.place;
        none_before = (tests_tell.never spec order lemmas a x sound ordered h.1, later.none_before);
        shows = later.shows;
      }
  first_break (x ∷ xs) are v (satisfied {w = u} h) e =
      let same : u ≡ w = cc in
      let monitored = (and_parts (is_monitored spec x) (list_all (is_monitored spec) xs) are).0 in
      record { before = []; changed = x; behind = xs; place = refl; none_before = tt; shows = tests_tell.shows spec order lemmas a x w sound ordered monitored (subst (λ o. IsWitness (level_domains spec) (test_formula spec order lemmas a x) o) same h.1) }
  first_break (x ∷ xs) are v (past h) e = cc

tells : (spec : Data) (order : Order) (lemmas : List Lemma) (limit : ℕ) (a : Assertion) (v : AssertVerdict) → PassesChecks spec order → HoldInRuns spec lemmas
    → IsJudged spec order.list lemmas limit a v → IsSo spec order.list lemmas a v
tells spec order lemmas limit a Yes k hold j = assertions_hold.hold spec order lemmas limit a k hold j
tells spec order lemmas limit a FalseInitial k hold j = assertions_hold.fail spec order lemmas limit a k j
tells spec order lemmas limit a (Unproved w) k hold j = by (Unproved w) j.judged refl
  where
    by : (v : AssertVerdict) → IsJudgedFrom spec order.list lemmas limit j.first (monitored_variables spec) a v → v ≡ Unproved w → IsFirstBreak spec order.list lemmas a (monitored_variables spec) w
    by v (false_at_first e h) same = cc
    by v (tested holds t) same = first_break spec order.list lemmas limit a k.sound k.ordered.ordered w (monitored_variables spec) (all_filtered (is_monitored spec) (range_with_len 0 (length spec.variables))) v t same
tells spec order lemmas limit a Undecided k hold j = tt

pub verdicts_tell : VerdictsTell
verdicts_tell = record { tell = tells }
