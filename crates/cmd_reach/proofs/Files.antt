-- Files have one answer of `reach`, and what is written is so.
use Rattle.std.proofs.Common.{◌≡◌, ℕ, zero, suc, ◌+◌, ◌<◌, Bool, true, false, List, [], ◌∷◌, ◌++◌, get_or, take, Option, Some, refl, sym, ap, ap₂, subst, ◌∙◌, inl, inr, length, Result, Ok, Err, Vec, Global}
use Rattle.std.specs.Prelude.{IfOk, IsTrue, not, slice_get, if◌then◌else◌}
use Rattle.std.specs.List.{list_all, list_any, AllByRecursion}
use Rattle.std.proofs.lemmas.Bool.{and_parts, false≢true}
use Rattle.std.proofs.lemmas.List.{take_more}
use Rattle.base.specs.declared.memory.NoMemory.{NoMemory}
use Rattle.dd_store.specs.declared.store.TheConstants.{SPLIT_LIMIT}
use Rattle.scr_spec.specs.Data.{Data}
use Rattle.scr_spec.specs.declared.cond.Cond.{Cond}
use Rattle.scr_spec.specs.declared.state.Input.{Input}
use Rattle.scr_spec.specs.Meaning.{Codes, is_true}
use Rattle.scr_spec.specs.Over.{is_cond_over}
use Rattle.scr_parse.specs.declared.text.TheConstants.{TEXT_LIMIT}
use Rattle.scr_parse.specs.declared.place.TextKind.TheVariants.{Limit}
use Rattle.scr_resolve.specs.Texts.{unread}
use Rattle.scr_depend.specs.declared.order.Order.{Order}
use Rattle.scr_depend.specs.Passes.{PassesChecks}
use Rattle.scr_depend.specs.Dependencies.{graph_of}
use Rattle.scr_depend.specs.Orders.{IsOrder}
use Rattle.scr_depend.proofs.Dependent.{one_order}
use Rattle.prove_formula.specs.Between.{is_true_between}
use Rattle.run_step.specs.Runs.{IsRun}
use Rattle.run_step.proofs.Runs.{run_push}
use Rattle.cmd_work.specs.declared.status.Status.{Status}
use Rattle.cmd_work.specs.declared.status.Status.TheVariants as ended
use Rattle.cmd_work.specs.declared.whole.Loaded.TheVariants.{TooLong}
use Rattle.cmd_work.specs.Load.{IsLoaded}
use Rattle.cmd_work.specs.Ends.{IsFront}
use Rattle.cmd_work.proofs.TwoFilesLemmas.{loaded_file}
use Rattle.cmd_work.proofs.EndsLemmas.{by_file_once, by_file_some}
use Rattle.cmd_checked.specs.Checking.{Passes, ChecksFirst, finished, passed}
use Rattle.cmd_checked.specs.Reports.{passed_text}
use Rattle.cmd_checked.proofs.Checks.{one_checking, passes_checks}
use Rattle.cmd_checked.proofs.First.{first_once, first_some}
use Rattle.scr_resolve_asserts.specs.declared.assertion.Assertion.{Assertion}
use Rattle.scr_resolve_asserts.specs.Texts.{AssertionsOf}
use Rattle.scr_resolve_asserts.proofs.Readings.{one_reading, resolved_are_over}
use Rattle.prove_asserts.specs.declared.lemma.Lemma.{Lemma}
use Rattle.prove_asserts.specs.declared.verdict.AssertVerdict.{AssertVerdict}
use Rattle.prove_asserts.specs.declared.verdict.AssertVerdict.TheVariants.{Yes, FalseInitial, Unproved, Undecided}
use Rattle.prove_asserts.specs.Derived.{AreDerivedLemmas}
use Rattle.prove_asserts.specs.Judged.{IsJudged}
use Rattle.prove_asserts.specs.Laws.{HoldInRuns, Neighbours, IsTrueAlong}
use Rattle.prove_asserts.proofs.Granted.{derived_lemmas}
use Rattle.prove_asserts.proofs.Once.{one_judgement}
use Rattle.prove_asserts.proofs.Sound.{assertions_hold}
use Rattle.run_reach.specs.declared.answer.Answer.{Answer}
use Rattle.run_reach.specs.declared.answer.Answer.TheVariants.{Never, Open, Least}
use Rattle.run_reach.specs.Answers.{NoneMeets}
use Rattle.run_reach.specs.Targets.{broken_by}
use Rattle.run_broken.specs.Breaks.{IsBreak}
use Rattle.run_broken.proofs.Answers.{one_break}
use Rattle.cmd_reach.specs.Texts.{answers_text, refused_text}
use Rattle.cmd_reach.specs.Reaches.{is_finding, is_undecided, answers_status, is_proved, IsAnswerTo, proved, sought, AreAnswers, ReachesEach, ReachesText, searched, refused, ReachesFile, ReachAnswers}
use Rattle.cmd_reach.specs.Laws.{TellsReach, AreNeverBroken, OneReach}

-- ---- one answer to each assertion

module _ (spec : Data) (order : Order) (lemmas : List Lemma) (most : ℕ) (k : PassesChecks spec order) where
  verdicts_apart : (a : Assertion) (v w : AssertVerdict) → IsJudged spec order.list lemmas SPLIT_LIMIT a v → IsJudged spec order.list lemmas SPLIT_LIMIT a w → is_proved v ≡ true → is_proved w ≡ false → ⊥
  verdicts_apart a v w h g proves not_so =
      let same : v ≡ w = one_judgement.once spec order lemmas SPLIT_LIMIT a v w k h g in
      false≢true (sym not_so ∙ ap is_proved (sym same) ∙ proves)

  answer_once : (a : Assertion) (v w : Answer) → IsAnswerTo spec order.list lemmas most a v → IsAnswerTo spec order.list lemmas most a w → v ≡ w
  answer_once a Never Never (proved verdict h proves) (proved later g also) = refl
  answer_once a v w (proved verdict h proves) (sought later g not_so b) = absurd (verdicts_apart a verdict later h g proves not_so)
  answer_once a v w (sought verdict h not_so b) (proved later g proves) = absurd (verdicts_apart a later verdict g h proves not_so)
  answer_once a v w (sought verdict g not_so b) (sought later h also d) = one_break.one spec a.two a.cond most v w b d

  by_verdict : (a : Assertion) (verdict : AssertVerdict) → IsJudged spec order.list lemmas SPLIT_LIMIT a verdict → IsTrue (is_cond_over spec a.cond) → 0 < most
      → ((v : Answer) → IsAnswerTo spec order.list lemmas most a v → ⊥) → ⊥
  by_verdict a Yes judged over some none = none Never (proved Yes judged refl)
  by_verdict a FalseInitial judged over some none = one_break.some spec a.two a.cond most order k over some (λ v own. none v (sought FalseInitial judged refl own))
  by_verdict a (Unproved w) judged over some none = one_break.some spec a.two a.cond most order k over some (λ v own. none v (sought (Unproved w) judged refl own))
  by_verdict a Undecided judged over some none = one_break.some spec a.two a.cond most order k over some (λ v own. none v (sought Undecided judged refl own))

  answer_some : (a : Assertion) → IsTrue (is_cond_over spec a.cond) → 0 < most → ((v : Answer) → IsAnswerTo spec order.list lemmas most a v → ⊥) → ⊥
  answer_some a over some none = one_judgement.some spec order lemmas SPLIT_LIMIT a k (λ verdict judged. by_verdict a verdict judged over some none)

  pub are_once : (assertions : List Assertion) (vs ws : List Answer) → AreAnswers spec order.list lemmas most assertions vs → AreAnswers spec order.list lemmas most assertions ws → vs ≡ ws
  are_once [] [] [] h g = refl
  are_once [] [] (w ∷ ws) h g = absurd g
  are_once [] (v ∷ vs) ws h g = absurd h
  are_once (a ∷ more) [] ws h g = absurd h
  are_once (a ∷ more) (v ∷ vs) [] h g = absurd g
  are_once (a ∷ more) (v ∷ vs) (w ∷ ws) h g = ap₂ (λ (x : Answer) (xs : List Answer). x ∷ xs) (answer_once a v w h.0 g.0) (are_once more vs ws h.1 g.1)

  are_some : 0 < most → (assertions : List Assertion) → list_all (λ a. is_cond_over spec a.cond) assertions ≡ true
      → ((vs : List Answer) → AreAnswers spec order.list lemmas most assertions vs → ⊥) → ⊥
  are_some some [] over none = none [] tt
  are_some some (a ∷ more) over none =
      let both = and_parts (is_cond_over spec a.cond) (list_all (λ b. is_cond_over spec b.cond) more) over in
      answer_some a both.0 some (λ v own. are_some some more both.1 (λ vs rest. none (v ∷ vs) (own, rest)))

-- what a search finds is the answer, where the assertion is not proved
pub sought_result : (spec : Data) (order : List ℕ) (lemmas : List Lemma) (most : ℕ) (a : Assertion) (verdict : AssertVerdict) (r : Result Answer NoMemory) → IsJudged spec order lemmas SPLIT_LIMIT a verdict
    → is_proved verdict ≡ false → IfOk r (IsBreak spec a.two a.cond most) → IfOk r (IsAnswerTo spec order lemmas most a)
sought_result spec order lemmas most a verdict (Ok answer) judged not_so found = sought verdict judged not_so found
sought_result spec order lemmas most a verdict (Err e) judged not_so found = tt

-- an answer more
answer_more : (spec : Data) (order : List ℕ) (lemmas : List Lemma) (most : ℕ) (assertions : List Assertion) (vs : List Answer) (a : Assertion) (v : Answer)
    → AreAnswers spec order lemmas most assertions vs → IsAnswerTo spec order lemmas most a v → AreAnswers spec order lemmas most (assertions ++ a ∷ []) (vs ++ v ∷ [])
answer_more spec order lemmas most [] [] a v h g = (g, tt)
answer_more spec order lemmas most [] (w ∷ vs) a v h g = absurd h
answer_more spec order lemmas most (b ∷ bs) [] a v h g = absurd h
answer_more spec order lemmas most (b ∷ bs) (w ∷ vs) a v h g = (h.0, answer_more spec order lemmas most bs vs a v h.1 g)

pub each_more : (spec : Data) (order : List ℕ) (lemmas : List Lemma) (most : ℕ) (assertions : List Assertion) (i : ℕ) (vs after : List Answer) (a : Assertion) (v : Answer) → i < length assertions
    → a ≡ get_or assertions i a → AreAnswers spec order lemmas most (take i assertions) vs → IsAnswerTo spec order lemmas most a v → after ≡ vs ++ v ∷ []
    → AreAnswers spec order lemmas most (take (i + 1) assertions) after
each_more spec order lemmas most assertions i vs after a v within is h g e =
    let longer : take i assertions ++ a ∷ [] ≡ take (i + 1) assertions = ap (λ y. take i assertions ++ y ∷ []) is ∙ sym (take_more assertions i a within) in
    subst (λ (xs : List Assertion). AreAnswers spec order lemmas most xs after) longer
    (subst (AreAnswers spec order lemmas most (take i assertions ++ a ∷ [])) (sym e) (answer_more spec order lemmas most (take i assertions) vs a v h g))

-- ---- over a specification that passes

module _ (most : ℕ) (spec : Data) (order : Order) (k : PassesChecks spec order) where
  -- by the order of what passes
  the_order : (list : List ℕ) → IsOrder (graph_of spec) list → list ≡ order.list
  the_order list is = one_order.once spec list order.list is k.ordered.ordered

  pub derived_by : (assertions : List Assertion) (bytes : List ℕ) (status : Status) (a : ReachesEach most spec assertions bytes status) → AreDerivedLemmas spec order.list SPLIT_LIMIT a.lemmas
  derived_by assertions bytes status a = subst (λ l. AreDerivedLemmas spec l SPLIT_LIMIT a.lemmas) (the_order a.order a.ordered) a.derived

  pub searched_by : (assertions : List Assertion) (bytes : List ℕ) (status : Status) (a : ReachesEach most spec assertions bytes status) → AreAnswers spec order.list a.lemmas most assertions a.answers
  searched_by assertions bytes status a = subst (λ l. AreAnswers spec l a.lemmas most assertions a.answers) (the_order a.order a.ordered) a.searched

  each_once : (assertions : List Assertion) (x y : List ℕ) (i j : Status) → ReachesEach most spec assertions x i → ReachesEach most spec assertions y j → (x ≡ y) × (i ≡ j)
  each_once assertions x y i j a b =
      let lemmas : a.lemmas ≡ b.lemmas = derived_lemmas.once spec order SPLIT_LIMIT a.lemmas b.lemmas k (derived_by assertions x i a) (derived_by assertions y j b) in
      let same = are_once spec order b.lemmas most k assertions a.answers b.answers
      (subst (λ ls. AreAnswers spec order.list ls most assertions a.answers) lemmas (searched_by assertions x i a)) (searched_by assertions y j b) in
      (a.text ∙ ap (answers_text spec assertions) same ∙ sym b.text, a.ending ∙ ap answers_status same ∙ sym b.ending)

  text_once : (text x y : List ℕ) (i j : Status) → ReachesText most spec text x i → ReachesText most spec text y j → (x ≡ y) × (i ≡ j)
  text_once text x y i j (searched m s a) (searched n t b) = each_once n x y i j (subst (λ ns. ReachesEach most spec ns x i) (one_reading.once text spec m n s t) a) b
  text_once text x y i j (searched m s a) (refused r e) = absurd (one_reading.apart text spec m r.refusal s r.refused)
  text_once text x y i j (refused r e) (searched n t b) = absurd (one_reading.apart text spec n r.refusal t r.refused)
  text_once text x y i j (refused r e) (refused q f) =
      (r.line_is ∙ ap refused_text (one_reading.one_refusal text spec r.refusal q.refusal r.refused q.refused) ∙ sym q.line_is, e ∙ sym f)

  second_once : (second : Option (List ℕ)) (x y : List ℕ) (i j : Status) → ReachesFile most spec second x i → ReachesFile most spec second y j → (x ≡ y) × (i ≡ j)
  second_once second x y i j = by_file_once (ReachesText most spec) second x y i j (λ text. text_once text x y i j)

  text_some : 0 < most → (text : List ℕ) → IsFront (ReachesText most spec text) []
  text_some some text none =
      one_reading.some text spec
      (λ assertions makes.
      derived_lemmas.some spec order SPLIT_LIMIT k
      (λ lemmas derived.
      are_some spec order lemmas most k some assertions (resolved_are_over.over text spec assertions makes)
      (λ vs own.
      let each : ReachesEach most spec assertions (answers_text spec assertions vs) (answers_status vs) = record {
        order = order.list;
        ordered = k.ordered.ordered;
        lemmas = lemmas;
        derived = derived;
        answers = vs;
        searched = own;
        text = refl;
        ending = refl;
      } in
      none (answers_text spec assertions vs) (answers_status vs) (searched assertions makes each))))
      (λ refusal is. none (refused_text refusal) ended.AssertRefused (refused (record { refusal = refusal; refused = is; line_is = refl }) refl))

  pub second_some : 0 < most → (second : Option (List ℕ)) → IsFront (ReachesFile most spec second) []
  second_some some second = by_file_some (ReachesText most spec) second (text_some some)

module _ (most : ℕ) (spec : Data) where
  tells_text : (text bytes : List ℕ) (status : Status) → ReachesText most spec text bytes status → TellsReach most spec text bytes status
  tells_text text bytes status (searched assertions makes a) = inl (record { assertions = assertions; spells = makes; each = a })
  tells_text text bytes status (refused r e) = inr (r, e)

-- ---- where none is broken

neither : (finding undecided : Bool) → (if finding then ended.Findings else (if undecided then ended.Undecided else ended.Done)) ≡ ended.Done → (finding ≡ false) × (undecided ≡ false)
neither true undecided e = cc
neither false true e = cc
neither false false e = (refl, refl)

-- what is true in every state is so in the last one, and what is so between neighbours between the last two
last_true : (P : Codes → Type 0) (before : List Codes) (at : Codes) → AllByRecursion P (before ++ at ∷ []) → P at
last_true P [] at h = h.0
last_true P (s ∷ before) at h = last_true P before at h.1

last_two : (P : Codes → Codes → Type 0) (before : List Codes) (old new : Codes) → Neighbours P ((before ++ old ∷ []) ++ new ∷ []) → P old new
last_two P [] old new h = h.0
last_two P (s ∷ []) old new h = h.1.0
last_two P (s ∷ t ∷ before) old new h = last_two P (t ∷ before) old new h.1

not_both : (b : Bool) → IsTrue b → not b ≡ true → ⊥
not_both true h e = cc
not_both false h e = false≢true h

-- what is true along every run is broken by none
module _ (spec : Data) (c : Cond) where
  none_one : ((inputs : List Input) (states : List Codes) → IsRun spec inputs states → IsTrueAlong spec false c states) → NoneMeets spec (broken_by spec false c)
  none_one along script (inl at) = not_both (is_true spec at.first c) ((along [] (at.first ∷ []) (at.initial, tt)).0) at.met
  none_one along script (inr at) =
      let run = run_push spec at.front at.ends.before at.old at.last at.new at.ends.run at.step in
      not_both (is_true spec at.new c) (last_true (λ s. IsTrue (is_true spec s c)) (at.ends.before ++ at.old ∷ []) at.new (along _ _ run)) at.met

  none_two : ((inputs : List Input) (states : List Codes) → IsRun spec inputs states → IsTrueAlong spec true c states) → NoneMeets spec (broken_by spec true c)
  none_two along script (inl at) = false≢true at.met
  none_two along script (inr at) =
      let run = run_push spec at.front at.ends.before at.old at.last at.new at.ends.run at.step in
      not_both (is_true_between spec at.old at.new c) (last_two (λ old new. IsTrue (is_true_between spec old new c)) at.ends.before at.old at.new (along _ _ run)) at.met

  none_along : (two : Bool) → ((inputs : List Input) (states : List Codes) → IsRun spec inputs states → IsTrueAlong spec two c states) → NoneMeets spec (broken_by spec two c)
  none_along false along = none_one along
  none_along true along = none_two along

module _ (spec : Data) (order : Order) (lemmas : List Lemma) (most : ℕ) (k : PassesChecks spec order) (holds : HoldInRuns spec lemmas) where
  never_is : (a : Assertion) → IsAnswerTo spec order.list lemmas most a Never → NoneMeets spec (broken_by spec a.two a.cond)
  never_is a (proved Yes h e) = none_along spec a.cond a.two (assertions_hold.hold spec order lemmas SPLIT_LIMIT a k holds h)
  never_is a (proved FalseInitial h e) = cc
  never_is a (proved (Unproved w) h e) = cc
  never_is a (proved Undecided h e) = cc
  never_is a (sought verdict g other b) = b.0

  each_never : (assertions : List Assertion) (vs : List Answer) → list_any is_finding vs ≡ false → list_any is_undecided vs ≡ false → AreAnswers spec order.list lemmas most assertions vs
      → (i : ℕ) (a : Assertion) → slice_get assertions i ≡ Some a → NoneMeets spec (broken_by spec a.two a.cond)
  each_never [] vs f u h i a e = cc
  each_never (b ∷ bs) [] f u h i a e = absurd h
  each_never (b ∷ bs) (Never ∷ vs) f u h zero a e = let same : b ≡ a = cc in subst (λ (c : Assertion). NoneMeets spec (broken_by spec c.two c.cond)) same (never_is b h.0)
  each_never (b ∷ bs) (Never ∷ vs) f u h (suc i) a e = each_never bs vs f u h.1 i a e
  each_never (b ∷ bs) (Open d ∷ vs) f u h i a e = cc
  each_never (b ∷ bs) (Least s ∷ vs) f u h i a e = cc

never_broken : (most : ℕ) (spec : Data) (order : Order) → PassesChecks spec order → (text bytes : List ℕ) → TellsReach most spec text bytes ended.Done → AreNeverBroken spec text
never_broken most spec order k text bytes (inl t) =
    let both = neither (list_any is_finding t.each.answers) (list_any is_undecided t.each.answers) (sym t.each.ending) in
    let holds = derived_lemmas.hold spec order SPLIT_LIMIT t.each.lemmas k (derived_by most spec order k t.assertions bytes ended.Done t.each) in
    record {
      assertions = t.assertions;
      spells = t.spells;
      each = each_never spec order t.each.lemmas most k holds t.assertions t.each.answers both.0 both.1 (searched_by most spec order k t.assertions bytes ended.Done t.each);
    }
never_broken most spec order k text bytes (inr r) = absurd (other r.1)
  where
    other : ended.Done ≡ ended.AssertRefused → ⊥
    other e = cc

-- ---- by both files

answers_once : (limit most : ℕ) (held second : Option (List ℕ)) (x y : List ℕ) (i j : Status) → ReachAnswers limit most held second x i → ReachAnswers limit most held second y j → (x ≡ y) × (i ≡ j)
answers_once limit most held second x y i j =
    by_file_once (ChecksFirst (λ spec. ReachesFile most spec second) limit) held x y i j
    (λ text. first_once (λ spec. ReachesFile most spec second) limit text x y i j
    (λ spec order v w k l p. second_once most spec order (passes_checks limit text spec order p) second v w k l))

pub some_answers : (limit most : ℕ) (held second : Option (List ℕ)) → 0 < most → IsFront (ReachAnswers limit most held second) []
some_answers limit most held second some =
    by_file_some (ChecksFirst (λ spec. ReachesFile most spec second) limit) held
    (λ text. first_some (λ spec. ReachesFile most spec second) limit text (λ spec order p. second_some most spec order (passes_checks limit text spec order p) some second))

tells : (limit most : ℕ) (text second bytes : List ℕ) (status : Status) (spec : Data) (order : Order) → Passes limit text spec order
    → ReachAnswers limit most (Some text) (Some second) bytes status → TellsReach most spec second bytes status
tells limit most text second bytes status spec order p (finished report other) =
    absurd (other (sym (one_checking.once limit text (passed_text spec order.list) bytes ended.Done status (one_checking.done limit text spec order p) report).1))
tells limit most text second bytes status spec order p (passed spelt later q own) =
    let same : spelt ≡ spec = one_checking.one_spec limit text spelt spec later order q p in
    tells_text most spec second bytes status (subst (λ s. ReachesText most s second bytes status) same own)

done_by : (limit most : ℕ) (text second bytes : List ℕ) (status : Status) → ReachAnswers limit most (Some text) (Some second) bytes status → status ≡ ended.Done
    → (spec : Data) × (order : Order) × Passes limit text spec order × AreNeverBroken spec second
done_by limit most text second bytes status (finished report other) done = absurd (other done)
done_by limit most text second bytes status (passed spec order p own) done =
    let told = tells_text most spec second bytes status own in
    (spec, order, p, never_broken most spec order (passes_checks limit text spec order p) second bytes (subst (TellsReach most spec second bytes) done told))

pub one_reach : OneReach
one_reach = record {
  once = answers_once;
  some = some_answers;
  tells = tells;
  done = λ limit most text second bytes answer. done_by limit most text second bytes ended.Done answer refl;
}

-- ---- of the second file

-- a text that is too long is refused at line 0
pub too_long : (most : ℕ) (spec : Data) (out : List ℕ) (held : Option (List ℕ)) → out ≡ refused_text (unread 0 Limit) → IsLoaded TEXT_LIMIT held TooLong → ReachesFile most spec held out ended.AssertRefused
too_long most spec out held is loaded =
    loaded_file TEXT_LIMIT (λ h. ReachesFile most spec h out ended.AssertRefused) held TooLong loaded
    (λ text l. refused (record { refusal = unread 0 Limit; refused = inl (longer text l, refl, refl); line_is = is }) refl)
  where
    longer : (text : List ℕ) → IsLoaded TEXT_LIMIT (Some text) TooLong → TEXT_LIMIT < length text
    longer text l = let same : text ≡ l.0 = cc in subst (λ t. TEXT_LIMIT < length t) (sym same) l.2

-- what is said of each assertion that the text makes is the answer to the text
pub searched_result : (most : ℕ) (spec : Data) (text : List ℕ) (assertions : List Assertion) (r : Result (Vec ℕ Global × Status) NoMemory) → AssertionsOf text spec assertions
    → IfOk r (λ x. ReachesEach most spec assertions x.0.items x.1) → IfOk r (λ x. ReachesText most spec text x.0.items x.1)
searched_result most spec text assertions (Ok x) makes each = searched assertions makes each
searched_result most spec text assertions (Err e) makes each = tt
