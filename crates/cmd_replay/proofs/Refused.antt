-- With `ScriptRefused` the lines in front of the one that is refused tell what was written but for the line on its fault.
use Rattle.std.proofs.Common.{◌≡◌, ℕ, ◌+◌, ◌-◌, List, [], ◌∷◌, ◌++◌, length, refl, sym, ap, subst, ◌∙◌, arith}
use Rattle.std.specs.Prelude.{min, Some}
use Rattle.std.proofs.lemmas.List.{append_assoc, append-nil}
use Rattle.base_io.specs.declared.lines.Piece.{Piece}
use Rattle.base_io.specs.declared.lines.Piece.TheVariants.{Line, Long, Past, End}
use Rattle.base_io.specs.Line.{next_piece}
use Rattle.base.specs.Lines.{lines}
use Rattle.base.specs.Ends.{line_with_end}
use Rattle.scr_spec.specs.Data.{Data}
use Rattle.scr_spec.specs.declared.state.Input.{Input}
use Rattle.scr_spec.specs.Meaning.{Codes}
use Rattle.scr_depend.specs.declared.order.Order.{Order}
use Rattle.run_step.specs.Runs.{EndsIn}
use Rattle.run_step.proofs.Runs.{ends_first, ends_next}
use Rattle.base_script.specs.declared.fault.ScriptKind.{ScriptKind}
use Rattle.base_script.specs.declared.fault.ScriptKind.TheVariants as kind
use Rattle.base_script.specs.Faults.{script_fault}
use Rattle.run_script.specs.Script.{read_line}
use Rattle.base_script.proofs.InFront.{lines_taken, parted, room_put}
use Rattle.cmd_work.specs.declared.status.Status.{Status}
use Rattle.cmd_work.specs.declared.status.Status.TheVariants.{Done, ScriptRefused}
use Rattle.cmd_work.specs.declared.walk.TheConstants.{SCRIPT_LIMIT}
use Rattle.cmd_work.specs.Session.{first_line, behind}
use Rattle.cmd_work.specs.Closing.{closing_text, closing_status}
use Rattle.cmd_work.specs.Stops.{StopsScript, past, long, faulty as faulty_first}
use Rattle.cmd_work.proofs.ClosingLemmas.{line_there}
use Rattle.cmd_checked.specs.Checking.{Passes}
use Rattle.cmd_checked.proofs.Refused.{refused_passes}
use Rattle.run_back.specs.StepBack.{count_back}
use Rattle.run_back.specs.Holds.{Holds, none as holds_none, passed as holds_passed, added as holds_added, taken as holds_taken}
use Rattle.cmd_replay.specs.Replays.{Replays, closed, faulty, passed, added, taken, ReplaysFile, ReplayAnswers}
use Rattle.cmd_replay.specs.Tells.{Remaining, remaining_text, TellsLines, none, silent, forward, back, IsFaulty, TellsToFault}
use Rattle.cmd_replay.proofs.Held.{stays, adds, takes, remaining}

-- ---- a rest of a script

done_refused : Done ≡ ScriptRefused → ⊥
done_refused e = cc

-- some lines of the rest are taken, which tell what is written but for the line on the fault of the next one
record RestToFault (spec : Data) (before : List (List ℕ)) (number room : ℕ) (rest bytes : List ℕ) : Type 0 where
  front : List ℕ
  left : List ℕ
  rest_is : rest ≡ front ++ left
  taken_lines : List (List ℕ)
  lines_are : lines rest ≡ taken_lines ++ lines left
  shown : List ℕ
  tells : TellsLines spec before taken_lines shown
  last : Remaining spec (before ++ taken_lines)
  kind : ScriptKind
  refused : StopsScript (IsFaulty spec last.at last.depth) (room - length front) left kind
  told : bytes ≡ shown ++ script_fault (number + length taken_lines) kind

-- the same inputs remain after the same lines
abbrev moved : (spec : Data) (before lines : List (List ℕ)) → before ≡ lines → Remaining spec before → Remaining spec lines
moved spec before lines same r = record { inputs = r.inputs; depth = r.depth; holds = subst (λ ls. Holds spec ls r.inputs r.depth) same r.holds; at = r.at; ends = r.ends }

module _ (spec : Data) (before : List (List ℕ)) (number room : ℕ) (rest bytes : List ℕ) where
  -- the first line is refused
  here : (old : Remaining spec before) (fault : ScriptKind) → StopsScript (IsFaulty spec old.at old.depth) room rest fault → bytes ≡ script_fault number fault → RestToFault spec before number room rest bytes
  here old fault refused e =
      let all : room ≡ room - 0 = omega arith in
      let same : number ≡ number + 0 = omega arith in
      record {
        front = [];
        left = rest;
        rest_is = refl;
        taken_lines = [];
        lines_are = refl;
        shown = [];
        tells = none refl;
        last = moved spec before (before ++ []) (sym (append-nil before)) old;
        kind = fault;
        refused = subst (λ n. StopsScript (IsFaulty spec old.at old.depth) n rest fault) all refused;
        told = e ∙ ap (λ n. script_fault n fault) same;
      }

  closes : (old : Remaining spec before) (piece : Piece) → next_piece room rest ≡ piece → (piece ≡ Line → ⊥) → bytes ≡ closing_text number piece → closing_status piece ≡ ScriptRefused
      → RestToFault spec before number room rest bytes
  closes old End next other e refused = absurd (done_refused refused)
  closes old Past next other e refused = here old kind.Limit (past next) e
  closes old Long next other e refused = here old kind.Syntax (long next) e
  closes old Line next other e refused = absurd (other refl)

  -- the first line is taken, and tells this text
  goes_on : (text more : List ℕ) → next_piece room rest ≡ Line → bytes ≡ text ++ more
      → ((later : List (List ℕ)) (shown : List ℕ) → TellsLines spec (before ++ first_line rest ∷ []) later shown → TellsLines spec before (first_line rest ∷ later) (text ++ shown))
      → RestToFault spec (before ++ first_line rest ∷ []) (number + 1) (room - length (line_with_end rest)) (behind rest) more → RestToFault spec before number room rest bytes
  goes_on text more next e tell r =
      let line = first_line rest in
      let ended = line_with_end rest in
      let many : number + 1 + length r.taken_lines ≡ number + length (line ∷ r.taken_lines) = omega arith in
      record {
        front = ended ++ r.front;
        left = r.left;
        rest_is = parted rest ∙ ap (λ (xs : List ℕ). ended ++ xs) r.rest_is ∙ sym (append_assoc ended r.front r.left);
        taken_lines = line ∷ r.taken_lines;
        lines_are = lines_taken rest (line_there room rest next) ∙ ap (λ (ls : List (List ℕ)). line ∷ ls) r.lines_are;
        shown = text ++ r.shown;
        tells = tell r.taken_lines r.shown r.tells;
        last = moved spec ((before ++ line ∷ []) ++ r.taken_lines) (before ++ line ∷ r.taken_lines) (append_assoc before (line ∷ []) r.taken_lines) r.last;
        kind = r.kind;
        refused = subst (λ n. StopsScript (IsFaulty spec r.last.at r.last.depth) n r.left r.kind) (room_put room rest r.front) r.refused;
        told = e ∙ ap (λ (xs : List ℕ). text ++ xs) r.told ∙ sym (append_assoc text r.shown (script_fault (number + 1 + length r.taken_lines) r.kind))
            ∙ ap (λ n. (text ++ r.shown) ++ script_fault n r.kind) many;
      }

to_fault : (spec : Data) (before : List (List ℕ)) (inputs : List Input) (depth : ℕ) (at : Codes) (number room : ℕ) (rest bytes : List ℕ) (status : Status) → status ≡ ScriptRefused
    → Holds spec before inputs depth → EndsIn spec inputs at → Replays spec inputs depth at number room rest bytes status → RestToFault spec before number room rest bytes
to_fault spec before inputs depth at number room rest bytes status refused holds ends (closed piece next other e s) =
    closes spec before number room rest bytes (remaining inputs depth at holds ends) piece next other e (sym s ∙ refused)
to_fault spec before inputs depth at number room rest bytes status refused holds ends (faulty fault next asked e s) =
    here spec before number room rest bytes (remaining inputs depth at holds ends) fault (faulty_first next asked) e
to_fault spec before inputs depth at number room rest bytes status refused holds ends (passed next asked later) =
    let line = first_line rest in
    let read = stays (count_back line) depth (read_line spec at line) asked in
    goes_on spec before number room rest bytes [] bytes next refl (λ lines shown tells. silent (remaining inputs depth at holds ends) read tells)
    (to_fault spec (before ++ line ∷ []) inputs depth at (number + 1) (room - length (line_with_end rest)) (behind rest) bytes status refused (holds_passed line holds ends read) ends later)
to_fault spec before inputs depth at number room rest bytes status refused holds ends (added input new more next asked step later e) =
    let line = first_line rest in
    let read = adds (count_back line) depth (read_line spec at line) input asked in
    let after = holds_added line input holds ends read in
    let on = ends_next spec inputs at input new ends step in
    let now = remaining (inputs ++ input ∷ []) (min 256 (depth + 1)) new after on in
    goes_on spec before number room rest bytes (remaining_text spec now) more next e (λ lines shown tells. forward (remaining inputs depth at holds ends) input now shown read tells refl)
    (to_fault spec (before ++ line ∷ []) (inputs ++ input ∷ []) (min 256 (depth + 1)) new (number + 1) (room - length (line_with_end rest)) (behind rest) more status refused after on later)
to_fault spec before inputs depth at number room rest bytes status refused holds ends (taken front last new more next asked is front_ends later e) =
    let line = first_line rest in
    let step = takes (count_back line) depth (read_line spec at line) (length last) asked in
    let after = holds_taken line front last (subst (λ is. Holds spec before is depth) is holds) step.0 step.1 in
    let now = remaining front (depth - length last) new after front_ends in
    goes_on spec before number room rest bytes (remaining_text spec now) more next e (λ lines shown tells. back (length last) now shown step.0 tells refl)
    (to_fault spec (before ++ line ∷ []) front (depth - length last) new (number + 1) (room - length (line_with_end rest)) (behind rest) more status refused after front_ends later)

-- ---- files

refused_file : (spec : Data) (script bytes : List ℕ) (status : Status) → status ≡ ScriptRefused → ReplaysFile spec (Some script) bytes status → TellsToFault spec script bytes
refused_file spec script bytes status refused f =
    let ends = ends_first spec f.first f.initial in
    let first = remaining [] 0 f.first holds_none ends in
    let r = to_fault spec [] [] 0 f.first 1 SCRIPT_LIMIT script f.answers.0 status refused holds_none ends f.answers.2 in
    let many : 1 + length r.taken_lines ≡ length r.taken_lines + 1 = omega arith in
    record {
      front = r.front;
      rest = r.left;
      script_is = r.rest_is;
      before = r.taken_lines;
      lines_are = r.lines_are;
      shown = remaining_text spec first ++ r.shown;
      runs = record { first = first; more = r.shown; later = r.tells; told = refl };
      last = r.last;
      kind = r.kind;
      refused = r.refused;
      told = f.answers.1 ∙ ap (λ (xs : List ℕ). remaining_text spec first ++ xs) r.told ∙ sym (append_assoc (remaining_text spec first) r.shown (script_fault (1 + length r.taken_lines) r.kind))
          ∙ ap (λ n. (remaining_text spec first ++ r.shown) ++ script_fault n r.kind) many;
    }

pub refused : (limit : ℕ) (text script bytes : List ℕ) → ReplayAnswers limit (Some text) (Some script) bytes ScriptRefused → (spec : Data) × (order : Order) × Passes limit text spec order × TellsToFault spec script bytes
refused limit text script bytes answers =
    let p = refused_passes ReplaysFile limit text (Some script) bytes answers in
    (p.0, p.1, p.2, refused_file p.0 script bytes ScriptRefused refl p.3)
