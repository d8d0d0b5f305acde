-- What is written tells of the calls that were made.
use Rattle.std.proofs.Common.{◌≡◌, ℕ, ◌+◌, ◌-◌, List, [], ◌∷◌, ◌++◌, length, Some, refl, sym, ap, subst, ◌∙◌, arith, append_assoc, append-nil}
use Rattle.std.specs.Prelude.{◌≤◌}
use Rattle.base_io.specs.declared.lines.Piece.{Piece}
use Rattle.base_io.specs.declared.lines.Piece.TheVariants.{Line, Long, Past, End}
use Rattle.base_io.specs.Line.{next_piece}
use Rattle.base.specs.Lines.{lines}
use Rattle.base.specs.Ends.{line_with_end}
use Rattle.c_subset.specs.declared.unit.CUnit.{CUnit}
use Rattle.c_subset.specs.Meaning.{Objects}
use Rattle.c_subset.specs.Runs.{initial_objects}
use Rattle.c_reader.specs.Text.{Reads}
use Rattle.base_script.specs.declared.fault.ScriptKind.{ScriptKind}
use Rattle.base_script.specs.declared.fault.ScriptKind.TheVariants as kind
use Rattle.base_script.specs.Faults.{script_fault}
use Rattle.base_script.proofs.InFront.{lines_put, whole_put, uncut_put, number_put, room_put}
use Rattle.cmd_work.specs.declared.status.Status.{Status}
use Rattle.cmd_work.specs.declared.status.Status.TheVariants as status
use Rattle.cmd_work.specs.declared.walk.TheConstants.{SCRIPT_LIMIT}
use Rattle.cmd_work.specs.Session.{behind}
use Rattle.cmd_work.specs.Closing.{closing_text, closing_status}
use Rattle.cmd_work.specs.Stops.{StopsScript, past, long, faulty as stops_faulty}
use Rattle.cmd_work.proofs.ClosingLemmas.{line_there, at_end}
use Rattle.cmd_runc.specs.declared.command.TheConstants.{C_LIMIT}
use Rattle.cmd_runc.specs.Texts.{objects_text, overflow_text}
use Rattle.cmd_runc.specs.Runs.{RunsCalls, closed, faulty, passed, taken, overflow, RunsFile, RunsText, too_long, refused, read, RunCAnswers}
use Rattle.cmd_runc.specs.Tells.{MakesCalls, none as makes_none, passed as makes_passed, made as makes_made, MakesCallsTo, IsFaulty, Overflows, rows_text, TellsCalls, TellsFault, TellsOverflow}

-- ---- a rest of the calls

-- how the answer to what is left ends, by how many calls there were, by the number of its first line, and by how many bytes count yet
data Closes (unit : CUnit) (row : Objects) (count number room : ℕ) (left bytes : List ℕ) (is : Status) : Type 0 where
  at_the_end : left ≡ [] → bytes ≡ [] → is ≡ status.Done → Closes unit row count number room left bytes is
  at_a_fault : (fault : ScriptKind) → StopsScript (IsFaulty unit) room left fault → bytes ≡ script_fault number fault → is ≡ status.ScriptRefused → Closes unit row count number room left bytes is
  at_an_overflow : Overflows unit row room left → bytes ≡ overflow_text (count + 1) → is ≡ status.Findings → Closes unit row count number room left bytes is

-- some lines of the rest are gone through from this row on, and the bytes are the lines on the rows behind their calls, and how the
-- answer ends
record GoesTo (unit : CUnit) (row : Objects) (count number room : ℕ) (rest bytes : List ℕ) (is : Status) : Type 0 where
  front : List ℕ
  left : List ℕ
  rows : List Objects
  last : Objects
  whole : rest ≡ front ++ left
  uncut : lines rest ≡ lines front ++ lines left
  made : MakesCalls unit row (lines front) rows last
  many : ℕ
  many_is : many ≡ count + length rows
  line : ℕ
  line_is : line ≡ length (lines front) + number
  most : ℕ
  most_is : most ≡ room - length front
  closing : List ℕ
  told : bytes ≡ rows_text unit (count + 1) rows ++ closing
  closes : Closes unit last many line most left closing is

-- where no line more is gone through
at_once : (unit : CUnit) (row : Objects) (count number room : ℕ) (rest bytes : List ℕ) (is : Status) → Closes unit row count number room rest bytes is → GoesTo unit row count number room rest bytes is
at_once unit row count number room rest bytes is closes = record {
  front = [];
  left = rest;
  rows = [];
  last = row;
  whole = refl;
  uncut = refl;
  made = makes_none;
  many = count;
  many_is = omega arith;
  line = number;
  line_is = omega arith;
  most = room;
  most_is = omega arith;
  closing = bytes;
  told = refl;
  closes = closes;
}

closes_by : (unit : CUnit) (row : Objects) (count number room : ℕ) (rest bytes : List ℕ) (is : Status) (piece : Piece) → next_piece room rest ≡ piece → (piece ≡ Line → ⊥)
    → bytes ≡ closing_text number piece → is ≡ closing_status piece → Closes unit row count number room rest bytes is
closes_by unit row count number room rest bytes is End next other e s = at_the_end (at_end room rest next) e s
closes_by unit row count number room rest bytes is Past next other e s = at_a_fault kind.Limit (past next) e s
closes_by unit row count number room rest bytes is Long next other e s = at_a_fault kind.Syntax (long next) e s
closes_by unit row count number room rest bytes is Line next other e s = absurd (other refl)

goes_to : (unit : CUnit) (row : Objects) (count number room : ℕ) (rest bytes : List ℕ) (is : Status) → RunsCalls unit row count number room rest bytes is → GoesTo unit row count number room rest bytes is
goes_to unit row count number room rest bytes is (closed piece next other e s) =
    at_once unit row count number room rest bytes is (closes_by unit row count number room rest bytes is piece next other e s)
goes_to unit row count number room rest bytes is (faulty fault next asked e s) = at_once unit row count number room rest bytes is (at_a_fault fault (stops_faulty next asked) e s)
goes_to unit row count number room rest bytes is (overflow call next asked effect e s) =
    at_once unit row count number room rest bytes is (at_an_overflow (record { next = next; call = call; read = asked; none = effect }) e s)
goes_to unit row count number room rest bytes is (passed next asked later) =
    let t = goes_to unit row count (number + 1) (room - length (line_with_end rest)) (behind rest) bytes is later in
    let some = line_there room rest next in
    record {
      front = line_with_end rest ++ t.front;
      left = t.left;
      rows = t.rows;
      last = t.last;
      whole = whole_put rest t.front t.left some t.whole;
      uncut = uncut_put rest t.front t.left some t.whole t.uncut;
      made = subst (λ ls. MakesCalls unit row ls t.rows t.last) (sym (lines_put rest t.front t.left some t.whole)) (makes_passed asked t.made);
      many = t.many;
      many_is = t.many_is;
      line = t.line;
      line_is = t.line_is ∙ number_put rest t.front t.left some t.whole number;
      most = t.most;
      most_is = t.most_is ∙ room_put room rest t.front;
      closing = t.closing;
      told = t.told;
      closes = t.closes;
    }
goes_to unit row count number room rest bytes is (taken call new more next asked effect later e) =
    let t = goes_to unit new (count + 1) (number + 1) (room - length (line_with_end rest)) (behind rest) more is later in
    let some = line_there room rest next in
    let one_more : count + 1 + length t.rows ≡ count + length (new ∷ t.rows) = omega arith in
    record {
      front = line_with_end rest ++ t.front;
      left = t.left;
      rows = new ∷ t.rows;
      last = t.last;
      whole = whole_put rest t.front t.left some t.whole;
      uncut = uncut_put rest t.front t.left some t.whole t.uncut;
      made = subst (λ ls. MakesCalls unit row ls (new ∷ t.rows) t.last) (sym (lines_put rest t.front t.left some t.whole)) (makes_made call asked effect t.made);
      many = t.many;
      many_is = t.many_is ∙ one_more;
      line = t.line;
      line_is = t.line_is ∙ number_put rest t.front t.left some t.whole number;
      most = t.most;
      most_is = t.most_is ∙ room_put room rest t.front;
      closing = t.closing;
      told = e ∙ ap (λ bs. objects_text unit (count + 1) new ++ bs) t.told ∙ sym (append_assoc (objects_text unit (count + 1) new) (rows_text unit (count + 1 + 1) t.rows) t.closing);
      closes = t.closes;
    }

-- ---- a file of calls

abbrev Goes : CUnit → List ℕ → List ℕ → Status → Type 0
Goes unit calls more is = GoesTo unit (initial_objects unit) 0 1 SCRIPT_LIMIT calls more is

module _ (unit : CUnit) (calls more : List ℕ) (is : Status) (t : Goes unit calls more is) where
  goes : MakesCallsTo unit calls t.front t.left t.rows t.last
  goes = record { whole = t.whole; uncut = t.uncut; made = t.made }

  -- the line on the initialisers stands in front
  all_told : (bytes closing : List ℕ) → bytes ≡ objects_text unit 0 (initial_objects unit) ++ more → t.closing ≡ closing → bytes ≡ rows_text unit 0 (initial_objects unit ∷ t.rows) ++ closing
  all_told bytes closing e said =
      e ∙ ap (λ bs. objects_text unit 0 (initial_objects unit) ++ bs) (t.told ∙ ap (λ bs. rows_text unit 1 t.rows ++ bs) said)
      ∙ sym (append_assoc (objects_text unit 0 (initial_objects unit)) (rows_text unit 1 t.rows) closing)

  done_told : (bytes : List ℕ) → bytes ≡ objects_text unit 0 (initial_objects unit) ++ more → is ≡ status.Done → Closes unit t.last t.many t.line t.most t.left t.closing is → TellsCalls unit calls bytes
  done_told bytes e done (at_the_end none said s) =
      let all : lines calls ≡ lines t.front = t.uncut ∙ ap (λ xs. lines t.front ++ lines xs) none ∙ append-nil (lines t.front) in
      record {
        rows = t.rows;
        last = t.last;
        made = subst (λ ls. MakesCalls unit (initial_objects unit) ls t.rows t.last) (sym all) t.made;
        told = all_told bytes [] e said ∙ append-nil (rows_text unit 0 (initial_objects unit ∷ t.rows));
      }
  done_told bytes e done (at_a_fault fault stops said s) = absurd (apart (sym s ∙ done))
    where
      apart : status.ScriptRefused ≡ status.Done → ⊥
      apart k = cc
  done_told bytes e done (at_an_overflow o said s) = absurd (apart (sym s ∙ done))
    where
      apart : status.Findings ≡ status.Done → ⊥
      apart k = cc

  fault_told : (bytes : List ℕ) → bytes ≡ objects_text unit 0 (initial_objects unit) ++ more → is ≡ status.ScriptRefused → Closes unit t.last t.many t.line t.most t.left t.closing is
      → TellsFault unit calls bytes
  fault_told bytes e stopped (at_the_end none said s) = absurd (apart (sym s ∙ stopped))
    where
      apart : status.Done ≡ status.ScriptRefused → ⊥
      apart k = cc
  fault_told bytes e stopped (at_a_fault fault stops said s) = record {
    front = t.front;
    left = t.left;
    rows = t.rows;
    last = t.last;
    goes = goes;
    fault = fault;
    stops = subst (λ n. StopsScript (IsFaulty unit) n t.left fault) t.most_is stops;
    told = all_told bytes (script_fault (length (lines t.front) + 1) fault) e (said ∙ ap (λ n. script_fault n fault) t.line_is);
  }
  fault_told bytes e stopped (at_an_overflow o said s) = absurd (apart (sym s ∙ stopped))
    where
      apart : status.Findings ≡ status.ScriptRefused → ⊥
      apart k = cc

  overflow_told : (bytes : List ℕ) → bytes ≡ objects_text unit 0 (initial_objects unit) ++ more → is ≡ status.Findings → Closes unit t.last t.many t.line t.most t.left t.closing is
      → TellsOverflow unit calls bytes
  overflow_told bytes e finding (at_the_end none said s) = absurd (apart (sym s ∙ finding))
    where
      apart : status.Done ≡ status.Findings → ⊥
      apart k = cc
  overflow_told bytes e finding (at_a_fault fault stops said s) = absurd (apart (sym s ∙ finding))
    where
      apart : status.ScriptRefused ≡ status.Findings → ⊥
      apart k = cc
  overflow_told bytes e finding (at_an_overflow o said s) =
      let all : t.many + 1 ≡ length t.rows + 1 = omega (arith, t.many_is) in
      record {
        front = t.front;
        left = t.left;
        rows = t.rows;
        last = t.last;
        goes = goes;
        overflows = subst (λ n. Overflows unit t.last n t.left) t.most_is o;
        told = all_told bytes (overflow_text (length t.rows + 1)) e (said ∙ ap overflow_text all);
      }

-- ---- the text of a unit

-- the calls were reached
of_unit : (text calls bytes : List ℕ) (is : Status) → (is ≡ status.CodeRefused → ⊥) → RunsText (Some calls) text bytes is → (unit : CUnit) × (length text ≤ C_LIMIT) × Reads text unit × RunsFile unit (Some calls) bytes is
of_unit text calls bytes is other (too_long h e s) = absurd (other s)
of_unit text calls bytes is other (refused line h r e s) = absurd (other s)
of_unit text calls bytes is other (read unit h r a) = (unit, h, r, a)

pub run : (text calls bytes : List ℕ) → RunCAnswers (Some text) (Some calls) bytes status.Done → (unit : CUnit) × (length text ≤ C_LIMIT) × Reads text unit × TellsCalls unit calls bytes
run text calls bytes answers =
    let u = of_unit text calls bytes status.Done other answers in
    let t = goes_to (u.0) (initial_objects (u.0)) 0 1 SCRIPT_LIMIT calls (u.3.0) status.Done (u.3.2) in
    (u.0, u.1, u.2, done_told (u.0) calls (u.3.0) status.Done t bytes (u.3.1) refl t.closes)
  where
    other : status.Done ≡ status.CodeRefused → ⊥
    other k = cc

pub front : (text calls bytes : List ℕ) → RunCAnswers (Some text) (Some calls) bytes status.ScriptRefused → (unit : CUnit) × (length text ≤ C_LIMIT) × Reads text unit × TellsFault unit calls bytes
front text calls bytes answers =
    let u = of_unit text calls bytes status.ScriptRefused other answers in
    let t = goes_to (u.0) (initial_objects (u.0)) 0 1 SCRIPT_LIMIT calls (u.3.0) status.ScriptRefused (u.3.2) in
    (u.0, u.1, u.2, fault_told (u.0) calls (u.3.0) status.ScriptRefused t bytes (u.3.1) refl t.closes)
  where
    other : status.ScriptRefused ≡ status.CodeRefused → ⊥
    other k = cc

pub overflowed : (text calls bytes : List ℕ) → RunCAnswers (Some text) (Some calls) bytes status.Findings → (unit : CUnit) × (length text ≤ C_LIMIT) × Reads text unit × TellsOverflow unit calls bytes
overflowed text calls bytes answers =
    let u = of_unit text calls bytes status.Findings other answers in
    let t = goes_to (u.0) (initial_objects (u.0)) 0 1 SCRIPT_LIMIT calls (u.3.0) status.Findings (u.3.2) in
    (u.0, u.1, u.2, overflow_told (u.0) calls (u.3.0) status.Findings t bytes (u.3.1) refl t.closes)
  where
    other : status.Findings ≡ status.CodeRefused → ⊥
    other k = cc
