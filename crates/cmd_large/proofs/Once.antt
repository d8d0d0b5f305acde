-- A text has one summary, and never none.
use Rattle.std.proofs.Common.{◌≡◌, ℕ, ◌+◌, Bool, true, false, List, [], ◌∷◌, ◌++◌, map, length, Option, Some, None, Ok, Err, refl, sym, ap, ap₂, subst, ◌∙◌, IsTrue}
use Rattle.std.specs.Prelude.{codes}
use Rattle.std.specs.List.{list_all}
use Rattle.std.proofs.lemmas.Bool.{false≢true}
use Rattle.scr_spec.specs.Data.{Data}
use Rattle.scr_spec.specs.Sound.{IsSound}
use Rattle.scr_spec.specs.declared.table.Table.{Table}
use Rattle.scr_spec.specs.declared.state.Input.{Input}
use Rattle.scr_spec.specs.Meaning.{Codes}
use Rattle.scr_resolve.proofs.Readings.{one_reading, spelled_is_sound}
use Rattle.scr_depend.specs.declared.order.Order.{Order}
use Rattle.scr_depend.specs.Dependencies.{graph_of, read_lists}
use Rattle.scr_depend.specs.Orders.{IsOrder}
use Rattle.scr_depend.proofs.Dependent.{one_order}
use Rattle.scr_depend.proofs.SomeCycle.{order_or_cycle}
use Rattle.prove_tables.specs.declared.verdict.Verdict.{Verdict}
use Rattle.prove_tables.specs.declared.verdict.Verdict.TheVariants.{Yes}
use Rattle.prove_tables.specs.Outcomes.{is_yes, IsPassed, IsFoundOut}
use Rattle.prove_tables.specs.Verdicts.{AreVerdicts}
use Rattle.prove_tables.proofs.Right.{each_yes, all_right}
use Rattle.prove_tables.proofs.SomeVerdict.{some_verdict}
use Rattle.scr_depend.specs.Passes.{PassesChecks}
use Rattle.run_step.specs.Runs.{IsConsistent, IsInitial, IsStep}
use Rattle.run_step.proofs.Runs.{one_next_state}
use Rattle.prove_candidates.specs.declared.candidate.Candidate.{Candidate}
use Rattle.prove_invariants.specs.declared.derived.Found.{Found}
use Rattle.prove_invariants.specs.declared.derived.Derived.{Derived}
use Rattle.prove_invariants.specs.declared.derived.Derived.TheVariants as derived
use Rattle.prove_invariants.proofs.Once.{one_derived}
use Rattle.run_script.specs.declared.fault.ScriptFault.{ScriptFault}
use Rattle.run_script.specs.Script.{Reading, read_line}
use Rattle.run_script.specs.Scripts.{Ending, Whole, Faulty, Reads, whole, faulty, taken}
use Rattle.run_script.proofs.Inputs.{line_held}
use Rattle.run_script.proofs.Whole.{one_script}
use Rattle.base_script.specs.Faults.{script_fault}
use Rattle.cmd_report.specs.Faults.{refusal_text}
use Rattle.cmd_report.specs.Reports.{cycle_text}
use Rattle.cmd_report.specs.Runs.{state_text}
use Rattle.cmd_work.specs.declared.status.Status.{Status}
use Rattle.cmd_work.specs.declared.status.Status.TheVariants.{Done, Undecided}
use Rattle.cmd_work.specs.Ends.{IsFront, is_own}
use Rattle.cmd_checked.specs.Reports.{all_yes, verdicts_status}
use Rattle.cmd_checked.specs.Checking.{Passes}
use Rattle.cmd_checked.proofs.Lines.{yes_verdicts}
use Rattle.cmd_checked.proofs.Statuses.{verdicts_final}
use Rattle.run_script.specs.Faults.{kind_of}
use Rattle.cmd_generate.specs.Chain.{chain_text}
use Rattle.dd_store.specs.declared.store.TheConstants.{SPLIT_LIMIT}
use Rattle.cmd_large.specs.Texts.{number_line, counts_of, checked_text}
use Rattle.cmd_large.specs.Summaries.{script, RunSummary, ran, stopped, phase_of, IsDerivedFor, PassedSummary, counted, undecided, SpecSummary, circular, found, passed, TextSummary, spelled, refused}
use Rattle.cmd_large.specs.Laws.{IsPhaseDecided, NoneFails, OneSummary}
use Rattle.cmd_large.proofs.Lines.{first_some, second_some, third_some}

-- ---- the run

last_same : (a b c x y z : Codes) → (a ∷ b ∷ c ∷ []) ≡ (x ∷ y ∷ z ∷ []) → c ≡ z
last_same a b c x y z same = cc

whole_faulty : (line : ℕ) (fault : ScriptFault) → Whole ≡ Faulty line fault → ⊥
whole_faulty line fault same = cc

one_line : (line other : ℕ) (fault also : ScriptFault) → Faulty line fault ≡ Faulty other also → (line ≡ other) × (fault ≡ also)
one_line line other fault also same = (cc, cc)

all_same : (a b : List Found) → derived.All a ≡ derived.All b → a ≡ b
all_same a b same = cc

not_both : (list : List Found) (round : ℕ) (c : Candidate) → derived.All list ≡ derived.Undecided round c → ⊥
not_both list round c same = cc

module _ (spec : Data) (order : Order) (k : PassesChecks spec order) where
  reads_once : (a b : Codes) (i j : List Input) (s t : List Codes) (x y : Ending) → IsInitial spec a → IsInitial spec b → Reads spec a 1 script i s x → Reads spec b 1 script j t y
      → (s ≡ t) × (x ≡ y)
  reads_once a b i j s t x y initial also reads later =
      let same : a ≡ b = one_next_state.one_initial spec order a b k initial also in
      let one = one_script.once spec order b 1 script i j s t x y k (one_next_state.starts spec b also) (subst (λ q. Reads spec q 1 script i s x) same reads) later in
      (one.1, one.2)

  run_once : (x y : List ℕ) (i j : Status) → RunSummary spec x i → RunSummary spec y j → (x ≡ y) × (i ≡ j)
  run_once x y i j (ran a last initial takes) (ran b other also later) =
      let one = reads_once a b _ _ _ _ Whole Whole initial also takes.reads later.reads in
      let same = last_same takes.between.0 takes.between.1 last later.between.0 later.between.1 other one.0 in
      (ap (λ q. number_line (codes "inputs") 3 ++ state_text spec 3 q) same, refl)
  run_once x y i j (ran a last initial takes) (stopped b line fault also fails) =
      absurd (whole_faulty line fault (reads_once a b _ _ _ _ Whole (Faulty line fault) initial also takes.reads fails.reads).1)
  run_once x y i j (stopped b line fault also fails) (ran a last initial takes) =
      absurd (whole_faulty line fault (reads_once a b _ _ _ _ Whole (Faulty line fault) initial also takes.reads fails.reads).1)
  run_once x y i j (stopped a line fault initial fails) (stopped b other second also later) =
      let one = reads_once a b _ _ _ _ (Faulty line fault) (Faulty other second) initial also fails.reads later.reads in
      let same = one_line line other fault second one.1 in
      (ap₂ (λ n f. script_fault n (kind_of f)) same.0 same.1, refl)

  -- from the initial state on, line by line
  module _ (first : Codes) (initial : IsInitial spec first) (none : (more : List ℕ) (status : Status) → RunSummary spec more status → ⊥) where
    third_line : (a b : Input) (s t : Codes) → read_line spec first (codes "SET Input 60") ≡ Ok (Some a) → IsStep spec first a s
        → read_line spec s (codes "SET Input 0") ≡ Ok (Some b) → IsStep spec s b t → IsConsistent spec t → (r : Reading) → read_line spec t (codes "SET Reset TRUE") ≡ r → ⊥
    third_line a b s t h to_s g to_t consistent (Err fault) e =
        none _ _ (stopped first 3 fault initial (record { inputs = a ∷ b ∷ []; states = s ∷ t ∷ []; reads = taken h to_s (taken g to_t (faulty e)) }))
    third_line a b s t h to_s g to_t consistent (Ok None) e = third_some spec t e
    third_line a b s t h to_s g to_t consistent (Ok (Some d)) e =
        let next = one_next_state.next spec order t d k consistent (line_held spec t (codes "SET Reset TRUE") d k.sound e) in
        none _ _ (ran first next.0 initial (record { inputs = (a, b, d); between = (s, t); reads = taken h to_s (taken g to_t (taken e next.1 whole)) }))

    second_line : (a : Input) (s : Codes) → read_line spec first (codes "SET Input 60") ≡ Ok (Some a) → IsStep spec first a s → IsConsistent spec s
        → (r : Reading) → read_line spec s (codes "SET Input 0") ≡ r → ⊥
    second_line a s h to_s consistent (Err fault) e =
        none _ _ (stopped first 2 fault initial (record { inputs = a ∷ []; states = s ∷ []; reads = taken h to_s (faulty e) }))
    second_line a s h to_s consistent (Ok None) e = second_some spec s e
    second_line a s h to_s consistent (Ok (Some b)) e =
        let next = one_next_state.next spec order s b k consistent (line_held spec s (codes "SET Input 0") b k.sound e) in
        third_line a b s next.0 h to_s e next.1 (one_next_state.goes_on spec s b next.0 k.sound next.1) (read_line spec next.0 (codes "SET Reset TRUE")) refl

    first_line : (r : Reading) → read_line spec first (codes "SET Input 60") ≡ r → ⊥
    first_line (Err fault) e = none _ _ (stopped first 1 fault initial (record { inputs = []; states = []; reads = faulty e }))
    first_line (Ok None) e = first_some spec first e
    first_line (Ok (Some a)) e =
        let consistent = one_next_state.starts spec first initial in
        let next = one_next_state.next spec order first a k consistent (line_held spec first (codes "SET Input 60") a k.sound e) in
        second_line a next.0 e next.1 (one_next_state.goes_on spec first a next.0 k.sound next.1) (read_line spec next.0 (codes "SET Input 0")) refl

  run_some : IsFront (RunSummary spec) []
  run_some none =
      let first = one_next_state.initial spec order k in
      first_line first.0 first.1 none (read_line spec first.0 (codes "SET Input 60")) refl

  -- ---- what is derived

  derived_once : (o : Option ℕ) (a b : Derived) → IsDerivedFor spec order.list o a → IsDerivedFor spec order.list o b → a ≡ b
  derived_once None a b h g = h ∙ sym g
  derived_once (Some class) a b h g = one_derived.once spec order class SPLIT_LIMIT a b k h g

  derived_some : (o : Option ℕ) → ((d : Derived) → IsDerivedFor spec order.list o d → ⊥) → ⊥
  derived_some None none = none (derived.All []) refl
  derived_some (Some class) none = one_derived.some spec order class SPLIT_LIMIT k none

  -- ---- what is behind the line on tables

  passed_once : (x y : List ℕ) (i j : Status) → PassedSummary spec order.list x i → PassedSummary spec order.list y j → (x ≡ y) × (i ≡ j)
  passed_once x y i j (counted list more status is run) (counted other rest ending also later) =
      let same = all_same list other (derived_once (phase_of spec) (derived.All list) (derived.All other) is also) in
      let one = run_once more rest status ending run later in
      (ap₂ (λ (fs : List Found) text. number_line (codes "invariants") (length fs) ++ text) same one.0, one.1)
  passed_once x y i j (counted list more status is run) (undecided round c also) = absurd (not_both list round c (derived_once (phase_of spec) _ _ is also))
  passed_once x y i j (undecided round c also) (counted list more status is run) = absurd (not_both list round c (derived_once (phase_of spec) _ _ is also))
  passed_once x y i j (undecided round c is) (undecided other d also) = (refl, refl)

  passed_some : IsFront (PassedSummary spec order.list) []
  passed_some none = derived_some (phase_of spec) by_derived
    where
      by_derived : (d : Derived) → IsDerivedFor spec order.list (phase_of spec) d → ⊥
      by_derived (derived.All list) is = run_some (λ more status run. none _ _ (counted list more status is run))
      by_derived (derived.Undecided round c) is = none [] Undecided (undecided round c is)

  -- ---- how it ends

  run_done : NoneFails spec → (bytes : List ℕ) (status : Status) → RunSummary spec bytes status → status ≡ Done
  run_done runs bytes status (ran first last initial takes) = refl
  run_done runs bytes status (stopped first line fault initial fails) = absurd (runs first line fault initial fails)

  passed_done : IsPhaseDecided spec order.list → NoneFails spec → (bytes : List ℕ) (status : Status) → PassedSummary spec order.list bytes status → status ≡ Done
  passed_done decided runs bytes status (counted list more ending is run) = run_done runs more ending run
  passed_done decided runs bytes status (undecided round c is) = absurd (decided round c is)

-- ---- specifications

yes_list : (ts : List Table) → list_all is_yes (map (λ t. Yes) ts) ≡ true
yes_list [] = refl
yes_list (t ∷ ts) = yes_list ts

module _ (stages : ℕ) (spec : Data) (sound : IsSound spec) where
  yes_are : (order : Order) → IsPassed spec SPLIT_LIMIT order → AreVerdicts spec order.list SPLIT_LIMIT (all_yes spec)
  yes_are order p = yes_verdicts spec order.list SPLIT_LIMIT spec.tables p.each

  passes : (order : Order) → IsPassed spec SPLIT_LIMIT order → PassesChecks spec order
  passes order p = record {
    sound = sound;
    ordered = p.ordered;
    right = ∣ all_right spec order.list SPLIT_LIMIT sound p.ordered.ordered (all_yes spec) (yes_are order p) (yes_list spec.tables) ∣₁;
  }

  same_verdicts : (a b : Order) (v w : List Verdict) → IsOrder (graph_of spec) a.list → IsOrder (graph_of spec) b.list → AreVerdicts spec a.list SPLIT_LIMIT v → AreVerdicts spec b.list SPLIT_LIMIT w
      → v ≡ w
  same_verdicts a b v w is also are too =
      some_verdict.all_once spec b.list SPLIT_LIMIT v w (subst (λ l. AreVerdicts spec l SPLIT_LIMIT v) (one_order.once spec a.list b.list is also) are) too

  other_ends : (order later : Order) (verdicts : List Verdict) → IsFoundOut spec SPLIT_LIMIT order verdicts → IsPassed spec SPLIT_LIMIT later → ⊥
  other_ends order later verdicts f p =
      let same = same_verdicts order later verdicts (all_yes spec) f.ordered.ordered p.ordered.ordered f.verdicts_are (yes_are later p) in
      false≢true (sym f.some_other ∙ ap (list_all is_yes) same ∙ yes_list spec.tables)

  spec_once : (x y : List ℕ) (i j : Status) → SpecSummary stages spec x i → SpecSummary stages spec y j → (x ≡ y) × (i ≡ j)
  spec_once x y i j (circular a told) (circular b also) = (ap (cycle_text spec) (order_or_cycle.one_cycle spec a b told.told also.told), refl)
  spec_once x y i j (circular a told) (found order verdicts f) = absurd (order_or_cycle.apart spec order.list a f.ordered.ordered told)
  spec_once x y i j (circular a told) (passed order more status p mine) = absurd (order_or_cycle.apart spec order.list a p.ordered.ordered told)
  spec_once x y i j (found order verdicts f) (circular a told) = absurd (order_or_cycle.apart spec order.list a f.ordered.ordered told)
  spec_once x y i j (found order verdicts f) (found later others g) =
      let same = same_verdicts order later verdicts others f.ordered.ordered g.ordered.ordered f.verdicts_are g.verdicts_are in
      (ap (λ v. checked_text stages (counts_of v)) same, ap verdicts_status same)
  spec_once x y i j (found order verdicts f) (passed later more status p mine) = absurd (other_ends order later verdicts f p)
  spec_once x y i j (passed order more status p mine) (circular a told) = absurd (order_or_cycle.apart spec order.list a p.ordered.ordered told)
  spec_once x y i j (passed later more status p mine) (found order verdicts f) = absurd (other_ends order later verdicts f p)
  spec_once x y i j (passed order more status p mine) (passed later rest ending q yours) =
      let same = one_order.once spec order.list later.list p.ordered.ordered q.ordered.ordered in
      let one = passed_once spec later (passes later q) more rest status ending (subst (λ l. PassedSummary spec l more status) same mine) yours in
      (ap (λ text. checked_text stages (counts_of (all_yes spec)) ++ text) one.0, one.1)

  spec_some : IsFront (SpecSummary stages spec) []
  spec_some none =
      order_or_cycle.some spec sound
      (λ list is. some_verdict.all_some spec list SPLIT_LIMIT (λ verdicts are. by_verdicts list is verdicts are (list_all is_yes verdicts) refl))
      (λ cycle told. none _ _ (circular cycle told))
    where
      by_verdicts : (list : List ℕ) → IsOrder (graph_of spec) list → (verdicts : List Verdict) → AreVerdicts spec list SPLIT_LIMIT verdicts → (b : Bool) → list_all is_yes verdicts ≡ b → ⊥
      by_verdicts list is verdicts are true e =
          let order : Order = record { list = list; reads = read_lists spec } in
          let p : IsPassed spec SPLIT_LIMIT order = record { ordered = record { ordered = is; reads = refl }; each = each_yes spec list SPLIT_LIMIT verdicts are e } in
          passed_some spec order (passes order p) (λ more status mine. none _ _ (passed order more status p mine))
      by_verdicts list is verdicts are false e =
          none _ _ (found (record { list = list; reads = read_lists spec }) verdicts (record { ordered = record { ordered = is; reads = refl }; verdicts_are = are; some_other = e }))

  spec_done : (order : Order) (bytes : List ℕ) (status : Status) → IsPassed spec SPLIT_LIMIT order → IsPhaseDecided spec order.list → NoneFails spec → SpecSummary stages spec bytes status → status ≡ Done
  spec_done order bytes status p decided runs (circular cycle told) = absurd (order_or_cycle.apart spec order.list cycle p.ordered.ordered told)
  spec_done order bytes status p decided runs (found later verdicts f) = absurd (other_ends later order verdicts f p)
  spec_done order bytes status p decided runs (passed later more ending q mine) =
      let same = one_order.once spec later.list order.list q.ordered.ordered p.ordered.ordered in
      passed_done spec order (passes order p) decided runs more ending (subst (λ l. PassedSummary spec l more ending) same mine)

-- ---- texts

text_once : (stages : ℕ) (text x y : List ℕ) (i j : Status) → TextSummary stages text x i → TextSummary stages text y j → (x ≡ y) × (i ≡ j)
text_once stages text x y i j (spelled spec more status is mine) (spelled other rest ending also yours) =
    let same : spec ≡ other = one_reading.once text spec other is also in
    spec_once stages other (spelled_is_sound.sound text other also) x y i j (subst (λ s. SpecSummary stages s x i) same mine) yours
text_once stages text x y i j (spelled spec more status is mine) (refused refusal h) = absurd (one_reading.apart text spec refusal is h)
text_once stages text x y i j (refused refusal h) (spelled spec more status is mine) = absurd (one_reading.apart text spec refusal is h)
text_once stages text x y i j (refused refusal h) (refused other also) = (ap refusal_text (one_reading.one_refusal text refusal other h also), refl)

text_some : (stages : ℕ) (text : List ℕ) → IsFront (TextSummary stages text) []
text_some stages text none =
    one_reading.some text
    (λ spec is. spec_some stages spec (spelled_is_sound.sound text spec is) (λ more status mine. none more status (spelled spec more status is mine)))
    (λ refusal h. none _ _ (refused refusal h))

text_done : (stages : ℕ) (text : List ℕ) (spec : Data) (order : Order) (bytes : List ℕ) (status : Status) → Passes SPLIT_LIMIT text spec order → IsPhaseDecided spec order.list → NoneFails spec
    → TextSummary stages text bytes status → status ≡ Done
text_done stages text spec order bytes status p decided runs (spelled other more ending is mine) =
    let same : other ≡ spec = one_reading.once text other spec is p.spells in
    spec_done stages spec (spelled_is_sound.sound text spec p.spells) order bytes status p.passed decided runs (subst (λ s. SpecSummary stages s bytes status) same mine)
text_done stages text spec order bytes status p decided runs (refused refusal h) = absurd (one_reading.apart text spec refusal p.spells h)

pub one_summary : OneSummary
one_summary = record {
  text_once = text_once;
  text_some = text_some;
  once = λ n x y i j a b. text_once (n + 1) (chain_text n) x y i j a b;
  some = λ n. text_some (n + 1) (chain_text n);
  done = λ n spec order bytes status p decided runs answer. text_done (n + 1) (chain_text n) spec order bytes status p decided runs answer;
}

-- ---- how the command ends

run_own : (spec : Data) (bytes : List ℕ) (status : Status) → RunSummary spec bytes status → is_own status ≡ true
run_own spec bytes status (ran first last initial takes) = refl
run_own spec bytes status (stopped first line fault initial fails) = refl

passed_own : (spec : Data) (order : List ℕ) (bytes : List ℕ) (status : Status) → PassedSummary spec order bytes status → is_own status ≡ true
passed_own spec order bytes status (counted list more ending is run) = run_own spec more ending run
passed_own spec order bytes status (undecided round c is) = refl

spec_own : (stages : ℕ) (spec : Data) (bytes : List ℕ) (status : Status) → SpecSummary stages spec bytes status → is_own status ≡ true
spec_own stages spec bytes status (circular cycle told) = refl
spec_own stages spec bytes status (found order verdicts f) = (verdicts_final verdicts f.some_other).own
spec_own stages spec bytes status (passed order more ending p mine) = passed_own spec order.list more ending mine

-- with a status of its own
pub text_own : (stages : ℕ) (text : List ℕ) (bytes : List ℕ) (status : Status) → TextSummary stages text bytes status → IsTrue (is_own status)
text_own stages text bytes status (spelled spec more ending is mine) = spec_own stages spec more ending mine
text_own stages text bytes status (refused refusal h) = refl
