-- What a line of a script does to a replay.
use Rattle.std.proofs.Common.{◌≡◌, ℕ, ◌+◌, ◌-◌, ◌<◌, ◌≤◌, length, List, [], ◌∷◌, ◌++◌, true, false, refl, sym, ap, subst, ◌∙◌, arith}
use Rattle.std.specs.Prelude.{nat_le, Option, Some, None, Ok, Err, if◌then◌else◌}
use Rattle.std.proofs.lemmas.Bool.Decides.{nat_tests}
use Rattle.std.proofs.lemmas.List.{append-nil}
use Rattle.base_io.specs.declared.lines.Piece.TheVariants.{Line}
use Rattle.base_io.specs.Line.{next_piece}
use Rattle.base.specs.Ends.{line_with_end}
use Rattle.scr_spec.specs.Data.{Data}
use Rattle.scr_spec.specs.declared.state.Input.{Input}
use Rattle.scr_spec.specs.Meaning.{Codes}
use Rattle.base_script.specs.declared.fault.ScriptKind.TheVariants as kind
use Rattle.base_script.specs.Faults.{script_fault}
use Rattle.run_script.specs.declared.fault.ScriptFault.TheVariants as script
use Rattle.run_script.specs.Script.{Reading, read_line}
use Rattle.cmd_work.specs.declared.status.Status.{Status}
use Rattle.cmd_work.specs.declared.status.Status.TheVariants.{ScriptRefused}
use Rattle.cmd_work.specs.Session.{GoesOn as TurnsTo, IsLast, IsAnswered, behind, first_line}
use Rattle.cmd_report.specs.Runs.{state_text}
use Rattle.run_back.specs.declared.fault.ReplayFault.{ReplayFault}
use Rattle.run_back.specs.declared.fault.ReplayFault.TheVariants as fault
use Rattle.run_back.specs.Faults.{kind_of}
use Rattle.run_back.specs.Kept.{Kept}
use Rattle.run_back.specs.StepBack.{count_back}
use Rattle.run_back.specs.Replays.{TakesInput, TakesBack, Passes, HasReplayFault}
use Rattle.run_back.proofs.Lines.{on_depth, back_depth}
use Rattle.run_back.proofs.Plain.{plain}
use Rattle.run_back.proofs.Cuts.{shows_ends, shows_on, shows_back}
use Rattle.cmd_replay.specs.Turns.{stay, add, take, refuse, set_turn, turn_by, turn_of}
use Rattle.cmd_replay.specs.Replays.{Replays, faulty, passed, added, taken, ReplaysKept}

-- ---- what a line asks for

le_test : (a b : ℕ) → a ≤ b → nat_le a b ≡ true
le_test a b h = grind (arith, nat_tests)

above_test : (a b : ℕ) → b < a → nat_le a b ≡ false
above_test a b h = grind (arith, nat_tests)

module _ (spec : Data) (at : Codes) (line : List ℕ) where
  -- a line that a plain script takes is no BACK
  no_back : (held : Option Input) → read_line spec at line ≡ Ok held → count_back line ≡ None
  no_back held read =
      let by : (c : Option ℕ) → count_back line ≡ c → count_back line ≡ None = λ c.
      elim c as (λ d. count_back line ≡ d → count_back line ≡ None) [
        | None ↦ λ e. e
        | Some count ↦ λ e. let faulty = plain spec at line count e in absurd (clash (read_line spec at line) held read faulty)
      ] in
      by (count_back line) refl
    where
      clash : (r : Reading) (o : Option Input) → r ≡ Ok o → r ≡ Err script.Syntax → ⊥
      clash r o g h = cc

  as_read : (depth : ℕ) (r : Reading) → count_back line ≡ None → read_line spec at line ≡ r → turn_of spec at depth line ≡ set_turn r
  as_read depth r none read = ap (λ c. turn_by c depth (read_line spec at line)) none ∙ ap set_turn read

  pub turn_stay : (depth : ℕ) → read_line spec at line ≡ Ok None → turn_of spec at depth line ≡ stay
  turn_stay depth read = as_read depth (Ok None) (no_back None read) read

  pub turn_add : (depth : ℕ) (input : Input) → read_line spec at line ≡ Ok (Some input) → turn_of spec at depth line ≡ add input
  turn_add depth input read = as_read depth (Ok (Some input)) (no_back (Some input) read) read

  pub turn_take : (depth count : ℕ) → count_back line ≡ Some count → count ≤ depth → turn_of spec at depth line ≡ take count
  turn_take depth count is within =
      ap (λ c. turn_by c depth (read_line spec at line)) is ∙ ap (λ t. if t then take count else refuse kind.Back) (le_test count depth within)

  too_far : (depth count : ℕ) → count_back line ≡ Some count → depth < count → turn_of spec at depth line ≡ refuse kind.Back
  too_far depth count is above =
      ap (λ c. turn_by c depth (read_line spec at line)) is ∙ ap (λ t. if t then take count else refuse kind.Back) (above_test count depth above)

  pub turn_refuse : (k : Kept) (f : ReplayFault) → k.at ≡ at → HasReplayFault spec line k f → turn_of spec at (length k.earlier) line ≡ refuse (kind_of f)
  turn_refuse k (fault.Script f) same h = as_read (length k.earlier) (Err f) h.other (subst (λ a. read_line spec a line ≡ Err f) same h.read)
  turn_refuse k (fault.Back told) same h = too_far (length k.earlier) h.count h.read (subst (λ n. n < h.count) h.depth h.above)

-- ---- what a line does

module _ (spec : Data) (line : List ℕ) (number room : ℕ) (rest : List ℕ) (piece : next_piece room rest ≡ Line) (first : first_line rest ≡ line) where
  -- the answers to what is behind the line
  abbrev Behind : Kept → List ℕ → Status → Type 0
  Behind k more status = ReplaysKept spec k (number + 1) (room - length (line_with_end rest)) (behind rest) more status

  abbrev Here : Kept → List ℕ → Status → Type 0
  Here k bytes status = ReplaysKept spec k number room rest bytes status

  pub adds : (old new : Kept) → TakesInput spec line old new → (more : List ℕ) (status : Status) → Behind new more status → Here old (state_text spec new.number new.at ++ more) status
  adds old new t more status later inputs shows =
      let held = inputs ++ t.input ∷ [] in
      let next = shows_on spec inputs old t.input new shows t.goes_on in
      let asked : turn_of spec old.at (length old.earlier) (first_line rest) ≡ add t.input =
      subst (λ l. turn_of spec old.at (length old.earlier) l ≡ add t.input) (sym first) (turn_add spec old.at line (length old.earlier) t.input t.read) in
      added t.input new.at more piece asked t.goes_on.step
      (subst (λ d. Replays spec held d new.at (number + 1) (room - length (line_with_end rest)) (behind rest) more status) (sym (on_depth spec old t.input new t.goes_on)) (later held next))
      (ap (λ n. state_text spec n new.at ++ more) next.number)

  pub takes : (old new : Kept) → TakesBack line old new → (more : List ℕ) (status : Status) → Behind new more status → Here old (state_text spec new.number new.at ++ more) status
  takes old new t more status later inputs shows =
      let c = shows_back spec inputs t.count old new shows t.goes_back in
      let fell = back_depth t.count old new t.goes_back in
      let within : t.count ≤ length old.earlier = omega (arith, fell) in
      let asked : turn_of spec old.at (length old.earlier) (first_line rest) ≡ take (length c.last) =
      subst (λ l. turn_of spec old.at (length old.earlier) l ≡ take (length c.last)) (sym first)
      (turn_take spec old.at line (length old.earlier) t.count t.read within ∙ ap take (sym c.many)) in
      let depth : length new.earlier ≡ length old.earlier - length c.last = omega (arith, fell, c.many) in
      taken c.front c.last new.at more piece asked c.is (shows_ends spec c.front new c.of_front)
      (subst (λ d. Replays spec c.front d new.at (number + 1) (room - length (line_with_end rest)) (behind rest) more status) depth (later c.front c.of_front))
      (ap (λ n. state_text spec n new.at ++ more) c.of_front.number)

  pub passes : (old : Kept) → read_line spec old.at line ≡ Ok None → (more : List ℕ) (status : Status) → Behind old more status → Here old more status
  passes old read more status later inputs shows =
      let asked : turn_of spec old.at (length old.earlier) (first_line rest) ≡ stay =
      subst (λ l. turn_of spec old.at (length old.earlier) l ≡ stay) (sym first) (turn_stay spec old.at line (length old.earlier) read) in
      passed piece asked (later inputs shows)

  pub refuses : (old : Kept) (f : ReplayFault) → HasReplayFault spec line old f → Here old (script_fault number (kind_of f)) ScriptRefused
  refuses old f h inputs shows =
      let asked : turn_of spec old.at (length old.earlier) (first_line rest) ≡ refuse (kind_of f) =
      subst (λ l. turn_of spec old.at (length old.earlier) l ≡ refuse (kind_of f)) (sym first) (turn_refuse spec old.at line old f refl h) in
      faulty (kind_of f) piece asked refl refl

-- ---- the same for a session

pub added_line : (spec other : Data) (old new : Kept) (number : ℕ) (line before after : List ℕ) → TakesInput spec line old new → other ≡ spec → IsAnswered (ReplaysKept other new)
    → after ≡ before ++ state_text other new.number new.at → TurnsTo (ReplaysKept spec old) (ReplaysKept other new) number line before after
added_line spec other old new number line before after t same =
    subst (λ s. IsAnswered (ReplaysKept s new) → after ≡ before ++ state_text s new.number new.at → TurnsTo (ReplaysKept spec old) (ReplaysKept s new) number line before after) (sym same)
    (λ some said. record { text = state_text spec new.number new.at; appended = said; leads = λ room rest more status piece first. adds spec line number room rest piece first old new t more status; some = some })

pub taken_line : (spec other : Data) (old new : Kept) (number : ℕ) (line before after : List ℕ) → TakesBack line old new → other ≡ spec → IsAnswered (ReplaysKept other new)
    → after ≡ before ++ state_text other new.number new.at → TurnsTo (ReplaysKept spec old) (ReplaysKept other new) number line before after
taken_line spec other old new number line before after t same =
    subst (λ s. IsAnswered (ReplaysKept s new) → after ≡ before ++ state_text s new.number new.at → TurnsTo (ReplaysKept spec old) (ReplaysKept s new) number line before after) (sym same)
    (λ some said. record { text = state_text spec new.number new.at; appended = said; leads = λ room rest more status piece first. takes spec line number room rest piece first old new t more status; some = some })

pub passed_line : (spec other : Data) (old new : Kept) (number : ℕ) (line before : List ℕ) → Passes spec line old new → other ≡ spec → IsAnswered (ReplaysKept other new)
    → TurnsTo (ReplaysKept spec old) (ReplaysKept other new) number line before before
passed_line spec other old new number line before p same =
    subst (λ s. IsAnswered (ReplaysKept s new) → TurnsTo (ReplaysKept spec old) (ReplaysKept s new) number line before before) (sym same)
    (subst (λ k. IsAnswered (ReplaysKept spec k) → TurnsTo (ReplaysKept spec old) (ReplaysKept spec k) number line before before) (sym p.same)
    (λ some. record { text = []; appended = sym (append-nil before); leads = λ room rest more status piece first. passes spec line number room rest piece first old p.read more status; some = some }))

pub faulty_line : (spec : Data) (old : Kept) (number : ℕ) (line before after : List ℕ) (f : ReplayFault) → HasReplayFault spec line old f
    → after ≡ before ++ script_fault number (kind_of f) → IsLast (ReplaysKept spec old) number line before after ScriptRefused
faulty_line spec old number line before after f h said =
    record { text = script_fault number (kind_of f); appended = said; answers = λ room rest piece first. refuses spec line number room rest piece first old f h; own = refl }
