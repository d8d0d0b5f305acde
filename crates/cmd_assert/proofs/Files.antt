-- Files have one answer of `assert`, and each verdict tells what is so.
use Rattle.std.proofs.Common.{◌≡◌, ℕ, ◌<◌, List, [], Option, Some, refl, sym, ap, subst, ◌∙◌, inl, inr, length, Result, Ok, Err, Vec, Global}
use Rattle.std.specs.Prelude.{IfOk, slice_get}
use Rattle.base.specs.declared.memory.NoMemory.{NoMemory}
use Rattle.scr_spec.specs.Data.{Data}
use Rattle.scr_spec.specs.Meaning.{Codes}
use Rattle.scr_spec.specs.declared.state.Input.{Input}
use Rattle.scr_parse.specs.declared.text.TheConstants.{TEXT_LIMIT}
use Rattle.scr_parse.specs.declared.place.TextKind.TheVariants.{Limit}
use Rattle.scr_resolve.specs.Texts.{unread}
use Rattle.scr_depend.specs.declared.order.Order.{Order}
use Rattle.scr_depend.specs.Dependencies.{graph_of}
use Rattle.scr_depend.specs.Orders.{IsOrder}
use Rattle.scr_depend.proofs.Dependent.{one_order}
use Rattle.scr_depend.specs.Passes.{PassesChecks}
use Rattle.run_step.specs.Runs.{IsRun}
use Rattle.cmd_work.specs.declared.status.Status.{Status}
use Rattle.cmd_work.specs.declared.status.Status.TheVariants.{Done, AssertRefused}
use Rattle.cmd_work.specs.declared.whole.Loaded.TheVariants.{TooLong}
use Rattle.cmd_work.specs.Load.{IsLoaded}
use Rattle.cmd_work.specs.Ends.{IsFront}
use Rattle.cmd_work.proofs.TwoFilesLemmas.{loaded_file}
use Rattle.cmd_work.proofs.EndsLemmas.{by_file_once, by_file_some}
use Rattle.cmd_checked.specs.Checking.{Passes, ChecksFirst, finished, passed}
use Rattle.cmd_checked.specs.Reports.{passed_text}
use Rattle.cmd_checked.proofs.Checks.{one_checking, passes_checks}
use Rattle.cmd_checked.proofs.First.{first_own, first_once, first_some}
use Rattle.scr_resolve_asserts.specs.declared.assertion.Assertion.{Assertion}
use Rattle.scr_resolve_asserts.specs.Texts.{AssertionsOf}
use Rattle.scr_resolve_asserts.proofs.Readings.{one_reading}
use Rattle.prove_asserts.specs.declared.verdict.AssertVerdict.{AssertVerdict}
use Rattle.prove_asserts.specs.Derived.{AreDerivedLemmas}
use Rattle.prove_asserts.specs.Judged.{HasEach, AreJudged}
use Rattle.prove_asserts.specs.Laws.{HoldInRuns, IsTrueAlong, IsSo}
use Rattle.prove_asserts.proofs.Granted.{derived_lemmas}
use Rattle.prove_asserts.proofs.Once.{one_judgement}
use Rattle.prove_asserts.proofs.Verdicts.{verdicts_tell}
use Rattle.cmd_assert.specs.Texts.{verdicts_text, refused_text}
use Rattle.cmd_assert.specs.Asserts.{verdicts_status, Judges, AssertsEach, AssertsText, judged, refused, AssertsFile, AssertAnswers}
use Rattle.cmd_assert.specs.Laws.{TellsVerdicts, TellsAssertions, AreProved, AreAllYes, OneAssertion}
use Rattle.cmd_assert.proofs.Verdicts.{all_yes, yes_status, verdict_at}

-- ---- over a specification that passes

module _ (limit : ℕ) (spec : Data) (order : Order) (k : PassesChecks spec order) where
  the_order : (list : List ℕ) → IsOrder (graph_of spec) list → list ≡ order.list
  the_order list is = one_order.once spec list order.list is k.ordered.ordered

  -- what is derived, by the order of what passes
  derived_by : (assertions : List Assertion) (vs : List AssertVerdict) (j : Judges limit spec assertions vs) → AreDerivedLemmas spec order.list limit j.lemmas
  derived_by assertions vs j = subst (λ l. AreDerivedLemmas spec l limit j.lemmas) (the_order j.order j.ordered) j.derived

  judged_by : (assertions : List Assertion) (vs : List AssertVerdict) (j : Judges limit spec assertions vs) → AreJudged spec order.list j.lemmas limit assertions vs
  judged_by assertions vs j = subst (λ l. AreJudged spec l j.lemmas limit assertions vs) (the_order j.order j.ordered) j.judged

  judges_once : (assertions : List Assertion) (vs ws : List AssertVerdict) → Judges limit spec assertions vs → Judges limit spec assertions ws → vs ≡ ws
  judges_once assertions vs ws a b =
      let lemmas : a.lemmas ≡ b.lemmas = derived_lemmas.once spec order limit a.lemmas b.lemmas k (derived_by assertions vs a) (derived_by assertions ws b) in
      one_judgement.all_once spec order b.lemmas limit assertions vs ws k (subst (λ ls. AreJudged spec order.list ls limit assertions vs) lemmas (judged_by assertions vs a)) (judged_by assertions ws b)

  each_once : (assertions : List Assertion) (x y : List ℕ) (i j : Status) → AssertsEach limit spec assertions x i → AssertsEach limit spec assertions y j → (x ≡ y) × (i ≡ j)
  each_once assertions x y i j a b =
      let same = judges_once assertions a.verdicts b.verdicts a.judges b.judges in
      (a.text ∙ ap (verdicts_text spec assertions) same ∙ sym b.text, a.ending ∙ ap verdicts_status same ∙ sym b.ending)

  text_once : (text x y : List ℕ) (i j : Status) → AssertsText limit spec text x i → AssertsText limit spec text y j → (x ≡ y) × (i ≡ j)
  text_once text x y i j (judged m s a) (judged n t b) = each_once n x y i j (subst (λ ns. AssertsEach limit spec ns x i) (one_reading.once text spec m n s t) a) b
  text_once text x y i j (judged m s a) (refused r e) = absurd (one_reading.apart text spec m r.refusal s r.refused)
  text_once text x y i j (refused r e) (judged n t b) = absurd (one_reading.apart text spec n r.refusal t r.refused)
  text_once text x y i j (refused r e) (refused q f) =
      (r.line_is ∙ ap refused_text (one_reading.one_refusal text spec r.refusal q.refusal r.refused q.refused) ∙ sym q.line_is, e ∙ sym f)

  text_some : (text : List ℕ) → IsFront (AssertsText limit spec text) []
  text_some text none =
      one_reading.some text spec
      (λ assertions makes.
      derived_lemmas.some spec order limit k
      (λ lemmas derived.
      one_judgement.all_some spec order lemmas limit assertions k
      (λ vs judges.
      let each : AssertsEach limit spec assertions (verdicts_text spec assertions vs) (verdicts_status vs) = record {
        verdicts = vs;
        judges = record { order = order.list; ordered = k.ordered.ordered; lemmas = lemmas; derived = derived; judged = judges };
        text = refl;
        ending = refl;
      } in
      none (verdicts_text spec assertions vs) (verdicts_status vs) (judged assertions makes each))))
      (λ refusal is. none (refused_text refusal) AssertRefused (refused (record { refusal = refusal; refused = is; line_is = refl }) refl))

  pub second_some : (second : Option (List ℕ)) → IsFront (AssertsFile limit spec second) []
  second_some second = by_file_some (AssertsText limit spec) second text_some

  second_once : (second : Option (List ℕ)) (x y : List ℕ) (i j : Status) → AssertsFile limit spec second x i → AssertsFile limit spec second y j → (x ≡ y) × (i ≡ j)
  second_once second x y i j = by_file_once (AssertsText limit spec) second x y i j (λ text. text_once text x y i j)

  -- ---- what is so

  so_of : (assertions : List Assertion) (vs : List AssertVerdict) (j : Judges limit spec assertions vs) → HasEach (IsSo spec order.list j.lemmas) assertions vs
  so_of assertions vs j =
      let holds : HoldInRuns spec j.lemmas = derived_lemmas.hold spec order limit j.lemmas k (derived_by assertions vs j) in
      let each = judged_by assertions vs j in
      record { one_each = each.one_each; each = λ i a v e g. verdicts_tell.tell spec order j.lemmas limit a v k holds (each.each i a v e g) }

  tells_each : (text bytes : List ℕ) (status : Status) (assertions : List Assertion) → AssertionsOf text spec assertions → AssertsEach limit spec assertions bytes status → TellsVerdicts limit spec text bytes status
  tells_each text bytes status assertions makes a = record {
    assertions = assertions;
    spells = makes;
    verdicts = a.verdicts;
    printed = a.text;
    ending = a.ending;
    order = order.list;
    ordered = k.ordered.ordered;
    lemmas = a.judges.lemmas;
    derived = derived_by assertions a.verdicts a.judges;
    granted = derived_lemmas.hold spec order limit a.judges.lemmas k (derived_by assertions a.verdicts a.judges);
    so = so_of assertions a.verdicts a.judges;
  }

  tells_text : (text bytes : List ℕ) (status : Status) → AssertsText limit spec text bytes status → TellsAssertions limit spec text bytes status
  tells_text text bytes status (judged assertions makes a) = inl (tells_each text bytes status assertions makes a)
  tells_text text bytes status (refused r e) = inr (r, e)

-- with Done each assertion is proved
proved_each : (limit : ℕ) (spec : Data) (text bytes : List ℕ) → TellsVerdicts limit spec text bytes Done → AreProved spec text
proved_each limit spec text bytes t = record { assertions = t.assertions; spells = t.spells; each = each }
  where
    each : (i : ℕ) (a : Assertion) → slice_get t.assertions i ≡ Some a → (inputs : List Input) (states : List Codes) → IsRun spec inputs states → IsTrueAlong spec a.two a.cond states
    each i a there =
        let v = verdict_at t.assertions t.verdicts i a t.so.one_each there in
        subst (IsSo spec t.order t.lemmas a) (all_yes t.verdicts t.ending i v.0 v.1) (t.so.each i a v.0 there v.1)

proved_by : (limit : ℕ) (spec : Data) (text bytes : List ℕ) → TellsAssertions limit spec text bytes Done → AreProved spec text
proved_by limit spec text bytes (inl t) = proved_each limit spec text bytes t
proved_by limit spec text bytes (inr r) = absurd (other r.1)
  where
    other : Done ≡ AssertRefused → ⊥
    other e = cc

-- ---- by both files

answers_once : (limit : ℕ) (held second : Option (List ℕ)) (x y : List ℕ) (i j : Status) → AssertAnswers limit held second x i → AssertAnswers limit held second y j → (x ≡ y) × (i ≡ j)
answers_once limit held second x y i j =
    by_file_once (ChecksFirst (λ spec. AssertsFile limit spec second) limit) held x y i j
    (λ text. first_once (λ spec. AssertsFile limit spec second) limit text x y i j (λ spec order v w k l p. second_once limit spec order (passes_checks limit text spec order p) second v w k l))

pub some_answers : (limit : ℕ) (held second : Option (List ℕ)) → IsFront (AssertAnswers limit held second) []
some_answers limit held second =
    by_file_some (ChecksFirst (λ spec. AssertsFile limit spec second) limit) held
    (λ text. first_some (λ spec. AssertsFile limit spec second) limit text (λ spec order p. second_some limit spec order (passes_checks limit text spec order p) second))

tells : (limit : ℕ) (text second bytes : List ℕ) (status : Status) (spec : Data) (order : Order) → Passes limit text spec order
    → AssertAnswers limit (Some text) (Some second) bytes status → TellsAssertions limit spec second bytes status
tells limit text second bytes status spec order p (finished report other) =
    absurd (other (sym (one_checking.once limit text (passed_text spec order.list) bytes Done status (one_checking.done limit text spec order p) report).1))
tells limit text second bytes status spec order p (passed spelt later q own) =
    let same : spelt ≡ spec = one_checking.one_spec limit text spelt spec later order q p in
    tells_text limit spec order (passes_checks limit text spec order p) second bytes status (subst (λ s. AssertsText limit s second bytes status) same own)

done_by : (limit : ℕ) (text second bytes : List ℕ) (status : Status) → AssertAnswers limit (Some text) (Some second) bytes status → status ≡ Done
    → (spec : Data) × (order : Order) × Passes limit text spec order × AreProved spec second
done_by limit text second bytes status (finished report other) done = absurd (other done)
done_by limit text second bytes status (passed spec order p own) done =
    let told = tells_text limit spec order (passes_checks limit text spec order p) second bytes status own in
    (spec, order, p, proved_by limit spec second bytes (subst (TellsAssertions limit spec second bytes) done told))

yes_text : (limit : ℕ) (spec : Data) (text bytes : List ℕ) (status : Status) → AreAllYes limit spec text → AssertsText limit spec text bytes status → status ≡ Done
yes_text limit spec text bytes status p (judged assertions makes a) = a.ending ∙ yes_status a.verdicts (p.1 assertions a.verdicts makes a.judges)
yes_text limit spec text bytes status p (refused r e) = absurd (p.0 bytes r)

yes : (limit : ℕ) (text second bytes : List ℕ) (status : Status) (spec : Data) (order : Order) → Passes limit text spec order → AreAllYes limit spec second
    → AssertAnswers limit (Some text) (Some second) bytes status → status ≡ Done
yes limit text second bytes status spec order p all answer =
    yes_text limit spec second bytes status all (first_own (λ s. AssertsFile limit s (Some second)) limit text spec order bytes status p answer)

pub one_assertion : OneAssertion
one_assertion = record {
  once = answers_once;
  some = some_answers;
  tells = tells;
  done = λ limit text second bytes answer. done_by limit text second bytes Done answer refl;
  yes = yes;
}

-- ---- of the second file

-- a text that is too long is refused at line 0
pub too_long : (limit : ℕ) (spec : Data) (out : List ℕ) (held : Option (List ℕ)) → out ≡ refused_text (unread 0 Limit) → IsLoaded TEXT_LIMIT held TooLong → AssertsFile limit spec held out AssertRefused
too_long limit spec out held is loaded =
    loaded_file TEXT_LIMIT (λ h. AssertsFile limit spec h out AssertRefused) held TooLong loaded
    (λ text l. refused (record { refusal = unread 0 Limit; refused = inl (longer text l, refl, refl); line_is = is }) refl)
  where
    longer : (text : List ℕ) → IsLoaded TEXT_LIMIT (Some text) TooLong → TEXT_LIMIT < length text
    longer text l = let same : text ≡ l.0 = cc in subst (λ t. TEXT_LIMIT < length t) (sym same) l.2

-- what is said of each assertion that the text makes is the answer to the text
pub judged_result : (limit : ℕ) (spec : Data) (text : List ℕ) (assertions : List Assertion) (r : Result (Vec ℕ Global × Status) NoMemory) → AssertionsOf text spec assertions
    → IfOk r (λ x. AssertsEach limit spec assertions x.0.items x.1) → IfOk r (λ x. AssertsText limit spec text x.0.items x.1)
judged_result limit spec text assertions (Ok x) makes each = judged assertions makes each
judged_result limit spec text assertions (Err e) makes each = tt
