-- What words ask of `reach` is right.
use Rattle.std.proofs.Common.{◌≡◌, ℕ, suc, ◌<◌, Bool, true, false, List, [], ◌∷◌, Option, None, Some, IsTrue, refl, sym, subst, ◌∙◌, arith}
use Rattle.std.specs.Prelude.{IsSome, slice_get, option_map, if◌then◌else◌}
use Rattle.std.specs.List.{list_any, AllByRecursion}
use Rattle.std.proofs.lemmas.Bool.{false≢true}
use Rattle.dd_store.specs.declared.store.TheConstants.{SPLIT_LIMIT}
use Rattle.scr_spec.specs.Data.{Data}
use Rattle.scr_depend.specs.declared.order.Order.{Order}
use Rattle.scr_depend.specs.Passes.{PassesChecks}
use Rattle.scr_depend.proofs.Dependent.{one_order}
use Rattle.scr_resolve_asserts.specs.declared.assertion.Assertion.{Assertion}
use Rattle.scr_resolve_asserts.proofs.Readings.{one_reading}
use Rattle.prove_asserts.specs.declared.lemma.Lemma.{Lemma}
use Rattle.prove_asserts.specs.Derived.{AreDerivedLemmas}
use Rattle.prove_asserts.proofs.Granted.{derived_lemmas}
use Rattle.run_reach.specs.declared.answer.Answer.{Answer}
use Rattle.run_reach.specs.declared.answer.Answer.TheVariants.{Never}
use Rattle.run_reach.specs.declared.search.TheConstants.{STATE_LIMIT}
use Rattle.cmd_work.specs.declared.status.Status.{Status}
use Rattle.cmd_work.specs.declared.status.Status.TheVariants.{Done, Findings, Undecided}
use Rattle.cmd_work.specs.Work.{AreRight, IsRightly, IsRight, asked_by}
use Rattle.cmd_checked.proofs.Checks.{passes_checks}
use Rattle.cmd_checked.proofs.First.{first_own}
use Rattle.cmd_checked.proofs.Offering.{ends_first, done_both}
use Rattle.cmd_reach.specs.declared.words.TheConstants.{STATES}
use Rattle.cmd_reach.specs.Reaches.{is_finding, is_undecided, IsAnswerTo, AreAnswers, ReachesText, searched, refused, ReachesFile}
use Rattle.cmd_reach.specs.Offered.{states_of, names_and_states, AreAllNever, may_end, task_of, asked_of}
use Rattle.cmd_reach.proofs.Files.{are_once, derived_by, searched_by, one_reach}
use Rattle.cmd_reach.proofs.States.{number_some}

-- ---- how it may end

if_answers : (finding other : Bool) → IsTrue (may_end (if finding then Findings else (if other then Undecided else Done)))
if_answers true other = refl
if_answers false true = refl
if_answers false false = refl

text_ends : (most : ℕ) (spec : Data) (text bytes : List ℕ) (is : Status) → ReachesText most spec text bytes is → IsTrue (may_end is)
text_ends most spec text bytes is (searched assertions makes a) =
    subst (λ s. IsTrue (may_end s)) (sym a.ending) (if_answers (list_any is_finding a.answers) (list_any is_undecided a.answers))
text_ends most spec text bytes is (refused r e) = rw e refl

file_ends : (most : ℕ) (spec : Data) (second : Option (List ℕ)) (bytes : List ℕ) (is : Status) → IsSome second → ReachesFile most spec second bytes is → IsTrue (may_end is)
file_ends most spec None bytes is there a = absurd (false≢true there)
file_ends most spec (Some text) bytes is there a = text_ends most spec text bytes is a

-- ---- where nothing is broken and nothing open

-- the answers end the command so
all_never : (vs ws : List Answer) → vs ≡ ws → AllByRecursion (λ (v : Answer). v ≡ Never) ws → (list_any is_finding vs ≡ false) × (list_any is_undecided vs ≡ false)
all_never vs [] same never = rw same (refl, refl)
all_never [] (w ∷ ws) same never = (refl, refl)
all_never (v ∷ vs) (w ∷ ws) same never =
    let first : v ≡ w = cc in
    let later : vs ≡ ws = cc in
    let rest = all_never vs ws later never.1 in
    (rw (first, never.0, rest.0) refl, rw (first, never.0, rest.1) refl)

-- the answers to assertions of each of which that is so
nevers : (spec : Data) (order : List ℕ) (lemmas : List Lemma) (most : ℕ) (assertions : List Assertion)
    → ((i : ℕ) (a : Assertion) → slice_get assertions i ≡ Some a → IsAnswerTo spec order lemmas most a Never)
    → (ws : List Answer) × AreAnswers spec order lemmas most assertions ws × AllByRecursion (λ (v : Answer). v ≡ Never) ws
nevers spec order lemmas most [] each = ([], tt, tt)
nevers spec order lemmas most (a ∷ more) each =
    let rest = nevers spec order lemmas most more (λ i b e. each (suc i) b e) in
    (Never ∷ rest.0, (each 0 a refl, rest.1), (refl, rest.2))

module _ (most : ℕ) (spec : Data) (order : Order) (k : PassesChecks spec order) where
  -- by the order of what passes
  never_by : (text : List ℕ) (never : AreAllNever most spec text) → (i : ℕ) (a : Assertion) → slice_get never.assertions i ≡ Some a → IsAnswerTo spec order.list never.lemmas most a Never
  never_by text never i a e = subst (λ l. IsAnswerTo spec l never.lemmas most a Never) (one_order.once spec never.order order.list never.ordered k.ordered.ordered) (never.each i a e)

  text_done : (text bytes : List ℕ) (is : Status) → AreAllNever most spec text → ReachesText most spec text bytes is → is ≡ Done
  text_done text bytes is never (searched assertions makes a) =
      let same : never.assertions ≡ assertions = one_reading.once text spec never.assertions assertions never.spells makes in
      let lemmas : a.lemmas ≡ never.lemmas = derived_lemmas.once spec order SPLIT_LIMIT a.lemmas never.lemmas k (derived_by most spec order k assertions bytes is a)
      (subst (λ l. AreDerivedLemmas spec l SPLIT_LIMIT never.lemmas) (one_order.once spec never.order order.list never.ordered k.ordered.ordered) never.derived) in
      let all = nevers spec order.list never.lemmas most assertions
      (subst (λ (m : List Assertion). (i : ℕ) (b : Assertion) → slice_get m i ≡ Some b → IsAnswerTo spec order.list never.lemmas most b Never) same (never_by text never)) in
      let one = are_once spec order never.lemmas most k assertions a.answers all.0
      (subst (λ ls. AreAnswers spec order.list ls most assertions a.answers) lemmas (searched_by most spec order k assertions bytes is a)) all.1 in
      let none = all_never a.answers all.0 one all.2 in
      a.ending ∙ rw (none.0, none.1) refl
  text_done text bytes is never (refused r e) = absurd (one_reading.apart text spec never.assertions r.refusal never.spells r.refused)

-- ---- the task

right_named : (name second : List ℕ) (most : ℕ) → 0 < most → IsRight (task_of (name, second, most))
right_named name second most some = record {
  once = λ files. one_reach.once SPLIT_LIMIT most (files name) (files second);
  some = λ files. one_reach.some SPLIT_LIMIT most (files name) (files second) some;
  ends = λ files bytes is accepted. ends_first (λ spec. ReachesFile most spec (files second)) (λ s. IsTrue (may_end s)) SPLIT_LIMIT (files name) bytes is
      (λ spec. file_ends most spec (files second) bytes is accepted.1) accepted.0;
  done = λ files bytes is. done_both (ReachesFile most) SPLIT_LIMIT (AreAllNever most) (files name) (files second) bytes is
      (λ text other spec order passes never answer.
      text_done most spec order (passes_checks SPLIT_LIMIT text spec order passes) other bytes is never (first_own (λ s. ReachesFile most s (Some other)) SPLIT_LIMIT text spec order bytes is passes answer));
}

right_states : (name second : List ℕ) (states : Option ℕ) → ((n : ℕ) → states ≡ Some n → 0 < n) → IsRightly (asked_by task_of (option_map (λ most. (name, second, most)) states))
right_states name second None some = tt
right_states name second (Some most) some = right_named name second most (some most refl)

states_some : (words : List (List ℕ)) (n : ℕ) → states_of words ≡ Some n → 0 < n
states_some [] n e = let same : STATES ≡ n = cc in omega (arith, same)
states_some (word ∷ []) n e = number_some STATE_LIMIT n word e
states_some (word ∷ next ∷ words) n e = cc

right_words : (words : Option (List (List ℕ))) → IsRightly (asked_by task_of (names_and_states words))
right_words None = tt
right_words (Some []) = tt
right_words (Some (name ∷ [])) = tt
right_words (Some (name ∷ second ∷ words)) = right_states name second (states_of words) (states_some words)

pub right : AreRight asked_of
right words = right_words _
