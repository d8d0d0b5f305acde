-- A search has an answer.
use Rattle.std.proofs.Common.{◌≡◌, ℕ, zero, suc, ◌+◌, ◌<◌, ◌≤◌, true, false, List, [], ◌∷◌, ◌++◌, length, refl, sym, subst, ◌∙◌, arith, inl, inr}
use Rattle.std.specs.List.{AllByRecursion}
use Rattle.std.proofs.lemmas.Bool.{cases_lt}
use Rattle.std.proofs.lemmas.List.{length-append, append_assoc, append-nil}
use Rattle.scr_spec.specs.Data.{Data}
use Rattle.scr_spec.specs.declared.state.Input.{Input}
use Rattle.scr_spec.specs.Meaning.{Codes}
use Rattle.scr_depend.specs.declared.order.Order.{Order}
use Rattle.scr_depend.specs.Passes.{PassesChecks}
use Rattle.run_step.specs.Runs.{IsInitial, IsInput, IsConsistent}
use Rattle.run_step.proofs.Next.{next_state}
use Rattle.run_step.proofs.Begin.{initial_state}
use Rattle.run_reach.specs.declared.answer.Answer.{Answer}
use Rattle.run_reach.specs.declared.answer.Answer.TheVariants.{Never, Open, Least}
use Rattle.run_reach.specs.declared.turn.Turn.{Turn}
use Rattle.run_reach.specs.declared.turn.Turn.TheVariants.{Expanded, Full, Hit}
use Rattle.run_reach.specs.Trees.{Tree, root, codes_at, path_of, child_of, has_codes}
use Rattle.run_reach.specs.Inputs.{inputs_of}
use Rattle.run_reach.specs.Answers.{Sought, IsAnswer}
use Rattle.run_reach.specs.Growth.{Keeps, Tries, none, more, IsTriedTo, Turns, Grown, first, expanded}
use Rattle.run_reach.specs.Laws.{OneAnswer}
use Rattle.run_reach.proofs.Stored.{has_stored, not_stored}
use Rattle.run_reach.proofs.Listed.{may_come}
use Rattle.run_reach.proofs.Ways.{one, no_fewer, never_on, least_on}
use Rattle.run_reach.proofs.Answering.{first_answer, never_answer, open_answer, least_answer, next_consistent}

module _ (spec : Data) (sought : Sought) (most : ℕ) (order : Order) (passes : PassesChecks spec order) where
  -- ---- one state

  record Turned (n : ℕ) (old : Codes) (tree : Tree) : Type 0 where
    turn : Turn
    after : Tree
    turns : Turns spec sought.at_step most n old tree after turn
    few : length after ≤ most

  -- where some of its inputs were tried, the others can be
  module _ (n : ℕ) (old : Codes) (tree : Tree) (consistent : IsConsistent spec old) where
    try_rest : (front rest : List Input) (after : Tree) → inputs_of spec old ≡ front ++ rest → AllByRecursion (IsInput spec old) rest → Tries spec sought.at_step n old front tree after
        → length after ≤ most → Turned n old tree
    try_rest front [] after whole may t few = record {
      turn = Expanded;
      after = after;
      turns = subst (λ (is : List Input). Tries spec sought.at_step n old is tree after) (sym (whole ∙ append-nil front)) t;
      few = few;
    }
    try_rest front (x ∷ rest) after whole may t few =
        let s = next_state spec order old x passes consistent may.0 in
        let on : inputs_of spec old ≡ (front ++ x ∷ []) ++ rest = whole ∙ sym (append_assoc front (x ∷ []) rest) in
        let tried : IsTriedTo spec sought.at_step n old x tree after = record { front = front; rest = rest; whole = on; tries = t } in
        elim (sought.at_step old s.0) as (λ b. sought.at_step old s.0 ≡ b → Turned n old tree) [
          | true ↦ λ met. record { turn = Hit x; after = after; turns = record { tried = tried; new = s.0; step = s.1; met = met }; few = few }
          | false ↦ λ missed.
              elim (has_codes after s.0) as (λ h. has_codes after s.0 ≡ h → Turned n old tree) [
                | true ↦ λ there.
                    let keeps : Keeps after n x s.0 after = inl (has_stored after s.0 there, refl) in
                    try_rest (front ++ x ∷ []) rest after on may.1 (more x t (record { new = s.0; step = s.1; missed = missed; kept = keeps })) few
                | false ↦ λ absent.
                    elim (cases_lt (length after) most) [
                      | inl room ↦
                          let grown : Tree = after ++ child_of after n x s.0 ∷ [] in
                          let keeps : Keeps after n x s.0 grown = inr (not_stored after s.0 absent, refl) in
                          try_rest (front ++ x ∷ []) rest grown on may.1 (more x t (record { new = s.0; step = s.1; missed = missed; kept = keeps }))
                          (omega (arith, room, length-append after (child_of after n x s.0 ∷ [])))
                      | inr full ↦ record {
                        turn = Full x;
                        after = after;
                        turns = record { tried = tried; new = s.0; step = s.1; missed = missed; absent = not_stored after s.0 absent; full = full };
                        few = few;
                      }
                    ]
              ] refl
        ] refl

  -- ---- all states

  module _ (at : Codes) (initial : IsInitial spec at) (missed : sought.at_first at ≡ false) where
    after_turn : (n : ℕ) (tree : Tree) → Grown spec sought.at_step n tree → n < length tree → (turn : Turn) (after : Tree) → Turns spec sought.at_step most n (codes_at tree n) tree after turn
        → length after ≤ most → (Grown spec sought.at_step (n + 1) after → (a : Answer) × IsAnswer spec sought most a) → (a : Answer) × IsAnswer spec sought most a
    after_turn n tree g there Expanded after t few on = on (expanded g there t)
    after_turn n tree g there (Full x) after t few on = (Open (path_of after n ++ x ∷ []), open_answer spec sought most order passes at initial missed n tree g there x after t few)
    after_turn n tree g there (Hit x) after t few on = (Least (path_of after n ++ x ∷ []), least_answer spec sought most order passes at initial missed n tree g there x after t few)

    go_on : (left n : ℕ) (tree : Tree) → Grown spec sought.at_step n tree → length tree ≤ most → most ≤ n + left → (a : Answer) × IsAnswer spec sought most a
    go_on zero n tree g few enough = (Never, never_answer spec sought most order passes at initial missed n tree g (omega (arith, few, enough)) few)
    go_on (suc left) n tree g few enough =
        elim (cases_lt n (length tree)) [
          | inl there ↦
              let old = codes_at tree n in
              let consistent = next_consistent spec sought.at_step n tree g there passes.sound in
              let t : Turned n old tree = try_rest n old tree consistent [] (inputs_of spec old) tree refl (may_come spec old) none few in
              after_turn n tree g there t.turn t.after t.turns t.few (λ h. go_on left (n + 1) t.after h t.few (omega (arith, enough)))
          | inr all ↦ (Never, never_answer spec sought most order passes at initial missed n tree g all few)
        ]

  pub some_answer : 0 < most → (a : Answer) × IsAnswer spec sought most a
  some_answer some =
      let s = initial_state spec order passes in
      elim (sought.at_first s.0) as (λ b. sought.at_first s.0 ≡ b → (a : Answer) × IsAnswer spec sought most a) [
        | true ↦ λ met. (Least [], first_answer spec sought most s.0 s.1 met)
        | false ↦ λ missed. go_on s.0 s.1 missed most 0 (root s.0 ∷ []) (first s.1) (omega (arith, some)) (omega arith)
      ] refl

pub one_answer : OneAnswer
one_answer = record {
  some = some_answer;
  one = one;
  no_fewer = no_fewer;
  never = never_on;
  least = least_on;
}
