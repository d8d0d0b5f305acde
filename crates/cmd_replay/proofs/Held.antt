-- With `Done` the lines of the script tell what was written.
use Rattle.std.proofs.Common.{◌≡◌, ℕ, ◌+◌, ◌-◌, ◌≤◌, Bool, true, false, List, [], ◌∷◌, ◌++◌, length, refl, sym, ap, subst, ◌∙◌, arith}
use Rattle.std.specs.Prelude.{min, nat_le, Option, Some, None, Ok, Err, if◌then◌else◌}
use Rattle.std.proofs.lemmas.Bool.Decides.{nat_tests}
use Rattle.base_io.specs.declared.lines.Piece.{Piece}
use Rattle.base_io.specs.declared.lines.Piece.TheVariants.{Line, Long, Past, End}
use Rattle.base_io.specs.Line.{next_piece}
use Rattle.base.specs.Lines.{lines}
use Rattle.base.specs.Ends.{line_with_end}
use Rattle.scr_spec.specs.Data.{Data}
use Rattle.scr_spec.specs.declared.state.Input.{Input}
use Rattle.scr_spec.specs.Meaning.{Codes}
use Rattle.scr_depend.specs.declared.order.Order.{Order}
use Rattle.run_step.specs.Runs.{EndsIn}
use Rattle.run_step.proofs.Runs.{ends_first, ends_next}
use Rattle.base_script.specs.declared.fault.ScriptKind.TheVariants as kind
use Rattle.run_script.specs.Script.{Reading, read_line}
use Rattle.base_script.proofs.InFront.{lines_taken}
use Rattle.cmd_work.specs.declared.status.Status.{Status}
use Rattle.cmd_work.specs.declared.status.Status.TheVariants.{Done}
use Rattle.cmd_work.specs.Session.{first_line, behind}
use Rattle.cmd_work.specs.Closing.{closing_text, closing_status}
use Rattle.cmd_work.proofs.ClosingLemmas.{line_there, at_end, refused_done}
use Rattle.cmd_checked.specs.Checking.{Passes, finished, passed as passes_first}
use Rattle.run_back.specs.StepBack.{count_back}
use Rattle.run_back.specs.Holds.{Holds, none as holds_none, passed as holds_passed, added as holds_added, taken as holds_taken}
use Rattle.cmd_replay.specs.Turns.{Turn, stay, add, take, refuse, turn_by}
use Rattle.cmd_replay.specs.Replays.{Replays, closed, faulty, passed, added, taken, ReplaysFile, ReplayAnswers}
use Rattle.cmd_replay.specs.Tells.{Remaining, TellsLines, none, silent, forward, back, TellsRuns}

-- ---- what a line is, by what it asks for

abbrev asks_back : Bool → ℕ → Turn
asks_back t n = if t then take n else refuse kind.Back

refuse_take : (n : ℕ) → refuse kind.Back ≡ take n → ⊥
refuse_take n h = cc

back_stay : (t : Bool) (n : ℕ) → asks_back t n ≡ stay → ⊥
back_stay true n h = cc
back_stay false n h = cc

back_add : (t : Bool) (n : ℕ) (i : Input) → asks_back t n ≡ add i → ⊥
back_add true n i h = cc
back_add false n i h = cc

back_take : (t : Bool) (n m : ℕ) → asks_back t n ≡ take m → (t ≡ true) × (n ≡ m)
back_take true n m h = (refl, cc)
back_take false n m h = absurd (refuse_take m h)

pub stays : (c : Option ℕ) (depth : ℕ) (r : Reading) → turn_by c depth r ≡ stay → r ≡ Ok None
stays (Some n) depth r h = absurd (back_stay (nat_le n depth) n h)
stays None depth (Ok None) h = refl
stays None depth (Ok (Some i)) h = cc
stays None depth (Err f) h = cc

pub adds : (c : Option ℕ) (depth : ℕ) (r : Reading) (input : Input) → turn_by c depth r ≡ add input → r ≡ Ok (Some input)
adds (Some n) depth r input h = absurd (back_add (nat_le n depth) n input h)
adds None depth (Ok None) input h = cc
adds None depth (Ok (Some i)) input h = let same : i ≡ input = cc in ap (λ j. Ok (Some j)) same
adds None depth (Err f) input h = cc

pub takes : (c : Option ℕ) (depth : ℕ) (r : Reading) (m : ℕ) → turn_by c depth r ≡ take m → (c ≡ Some m) × (m ≤ depth)
takes (Some n) depth r m h =
    let both = back_take (nat_le n depth) n m h in
    let within : nat_le n depth ≡ true = both.0 in
    let fits : n ≤ depth = grind (arith, nat_tests) in
    (ap (λ k. Some k) both.1, subst (λ k. k ≤ depth) both.1 fits)
takes None depth (Ok None) m h = cc
takes None depth (Ok (Some i)) m h = cc
takes None depth (Err f) m h = cc

-- ---- a rest of a script

module _ (spec : Data) (before : List (List ℕ)) (number room : ℕ) (rest bytes : List ℕ) where
  tells_end : (piece : Piece) → next_piece room rest ≡ piece → (piece ≡ Line → ⊥) → bytes ≡ closing_text number piece → closing_status piece ≡ Done → TellsLines spec before (lines rest) bytes
  tells_end End next other e done = subst (λ (xs : List ℕ). TellsLines spec before (lines xs) bytes) (sym (at_end room rest next)) (none e)
  tells_end Past next other e done = absurd (refused_done done)
  tells_end Long next other e done = absurd (refused_done done)
  tells_end Line next other e done = absurd (other refl)

  -- the first line and those behind it
  by_line : next_piece room rest ≡ Line → TellsLines spec before (first_line rest ∷ lines (behind rest)) bytes → TellsLines spec before (lines rest) bytes
  by_line next t = subst (λ ls. TellsLines spec before ls bytes) (sym (lines_taken rest (line_there room rest next))) t

abbrev pub remaining : {spec : Data} {before : List (List ℕ)} (inputs : List Input) (depth : ℕ) (at : Codes) → Holds spec before inputs depth → EndsIn spec inputs at → Remaining spec before
remaining inputs depth at holds ends = record { inputs = inputs; depth = depth; holds = holds; at = at; ends = ends }

tells : (spec : Data) (before : List (List ℕ)) (inputs : List Input) (depth : ℕ) (at : Codes) (number room : ℕ) (rest bytes : List ℕ) (status : Status) → status ≡ Done
    → Holds spec before inputs depth → EndsIn spec inputs at → Replays spec inputs depth at number room rest bytes status → TellsLines spec before (lines rest) bytes
tells spec before inputs depth at number room rest bytes status done holds ends (closed piece next other e s) = tells_end spec before number room rest bytes piece next other e (sym s ∙ done)
tells spec before inputs depth at number room rest bytes status done holds ends (faulty fault next asked e s) = absurd (refused_done (sym s ∙ done))
tells spec before inputs depth at number room rest bytes status done holds ends (passed next asked later) =
    let line = first_line rest in
    let read = stays (count_back line) depth (read_line spec at line) asked in
    by_line spec before number room rest bytes next
    (silent (remaining inputs depth at holds ends) read
    (tells spec (before ++ line ∷ []) inputs depth at (number + 1) (room - length (line_with_end rest)) (behind rest) bytes status done (holds_passed line holds ends read) ends later))
tells spec before inputs depth at number room rest bytes status done holds ends (added input new more next asked step later e) =
    let line = first_line rest in
    let read = adds (count_back line) depth (read_line spec at line) input asked in
    let after = holds_added line input holds ends read in
    let on = ends_next spec inputs at input new ends step in
    by_line spec before number room rest bytes next
    (forward (remaining inputs depth at holds ends) input (remaining (inputs ++ input ∷ []) (min 256 (depth + 1)) new after on) more read
    (tells spec (before ++ line ∷ []) (inputs ++ input ∷ []) (min 256 (depth + 1)) new (number + 1) (room - length (line_with_end rest)) (behind rest) more status done after on later) e)
tells spec before inputs depth at number room rest bytes status done holds ends (taken front last new more next asked is front_ends later e) =
    let line = first_line rest in
    let step = takes (count_back line) depth (read_line spec at line) (length last) asked in
    let after = holds_taken line front last (subst (λ is. Holds spec before is depth) is holds) step.0 step.1 in
    by_line spec before number room rest bytes next
    (back (length last) (remaining front (depth - length last) new after front_ends) more step.0
    (tells spec (before ++ line ∷ []) front (depth - length last) new (number + 1) (room - length (line_with_end rest)) (behind rest) more status done after front_ends later) e)

-- ---- files

held_file : (spec : Data) (script bytes : List ℕ) (status : Status) → status ≡ Done → ReplaysFile spec (Some script) bytes status → TellsRuns spec (lines script) bytes
held_file spec script bytes status done r =
    let ends = ends_first spec r.first r.initial in
    record {
      first = remaining [] 0 r.first holds_none ends;
      more = r.answers.0;
      later = tells spec [] [] 0 r.first 1 _ script r.answers.0 status done holds_none ends r.answers.2;
      told = r.answers.1;
    }

held_first : (limit : ℕ) (text script bytes : List ℕ) (status : Status) → status ≡ Done → ReplayAnswers limit (Some text) (Some script) bytes status
    → (spec : Data) × (order : Order) × Passes limit text spec order × TellsRuns spec (lines script) bytes
held_first limit text script bytes status done (finished is other) = absurd (other done)
held_first limit text script bytes status done (passes_first spec order p own) = (spec, order, p, held_file spec script bytes status done own)

pub held : (limit : ℕ) (text script bytes : List ℕ) → ReplayAnswers limit (Some text) (Some script) bytes Done → (spec : Data) × (order : Order) × Passes limit text spec order × TellsRuns spec (lines script) bytes
held limit text script bytes answers = held_first limit text script bytes Done refl answers
