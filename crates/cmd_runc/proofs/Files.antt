-- What `runc` answers for its files.
use Rattle.std.proofs.Common.{◌≡◌, ℕ, ◌<◌, ◌≤◌, List, [], ◌++◌, length, Option, None, Some, Result, Ok, Err, refl, sym, ap, subst, ◌∙◌, arith, inl, inr}
use Rattle.std.specs.Prelude.{IfOk, true, false, ◌⊎◌}
use Rattle.std.proofs.Math.Dec.{leb}
use Rattle.std.proofs.lemmas.Bool.Decides.{leb_tells}
use Rattle.c_subset.specs.declared.unit.CUnit.{CUnit}
use Rattle.c_subset.specs.Meaning.{Objects}
use Rattle.c_subset.specs.Runs.{initial_objects}
use Rattle.c_machine.specs.Running.{Running}
use Rattle.c_reader.specs.Text.{Reads, Refuses}
use Rattle.c_reader.proofs.Outcome.{one_outcome}
use Rattle.base_io.specs.declared.lines.Piece.{Piece}
use Rattle.base_io.specs.declared.lines.Piece.TheVariants.{Line, Long, Past, End}
use Rattle.base.specs.declared.memory.NoMemory.{NoMemory}
use Rattle.cmd_work.specs.declared.status.Status.{Status}
use Rattle.cmd_work.specs.declared.status.Status.TheVariants.{Done, ReadFault, CodeRefused}
use Rattle.cmd_work.specs.declared.walk.TheConstants.{SCRIPT_LIMIT}
use Rattle.cmd_work.specs.declared.two_files.First.{First}
use Rattle.cmd_work.specs.declared.two_files.First.TheVariants.{Answer, Base}
use Rattle.cmd_work.specs.declared.whole.Loaded.{Loaded}
use Rattle.cmd_work.specs.declared.whole.Loaded.TheVariants.{Whole, TooLong}
use Rattle.cmd_work.specs.TwoFiles.{IsFirst}
use Rattle.cmd_work.specs.Ends.{IsFront, HasFront}
use Rattle.cmd_work.specs.Load.{IsLoaded}
use Rattle.cmd_work.specs.Closing.{closing_status}
use Rattle.cmd_work.specs.Session.{FileAnswers}
use Rattle.cmd_work.proofs.EndsLemmas.{by_file_once, by_file_some}
use Rattle.cmd_runc.specs.declared.command.TheConstants.{C_LIMIT}
use Rattle.cmd_runc.specs.Texts.{objects_text, refused_text}
use Rattle.cmd_runc.specs.Runs.{RunsCalls, RunsFile, RunsText, RunCAnswers, ReachesCalls, closed, faulty, passed, taken, overflow, too_long, refused, read}
use Rattle.cmd_runc.specs.Tells.{TellsFault, TellsOverflow, AreMade}
use Rattle.cmd_runc.specs.Firsts.{IsRefusal}
use Rattle.cmd_runc.specs.Laws.{IsEnding, OneAnswerOfCalls}
use Rattle.cmd_runc.proofs.Existence.{some_answer}
use Rattle.cmd_runc.proofs.Once.{once}
use Rattle.cmd_runc.proofs.Told.{run, front, overflowed}

-- ---- by the file of calls

file_once : (unit : CUnit) (calls : Option (List ℕ)) (x y : List ℕ) (i j : Status) → RunsFile unit calls x i → RunsFile unit calls y j → (x ≡ y) × (i ≡ j)
file_once unit None x y i j a b = (a.0 ∙ sym b.0, a.1 ∙ sym b.1)
file_once unit (Some text) x y i j a b =
    let o = once unit (initial_objects unit) 0 1 SCRIPT_LIMIT text a.0 b.0 i j a.2 b.2 in
    (a.1 ∙ ap (λ m. objects_text unit 0 (initial_objects unit) ++ m) o.0 ∙ sym b.1, o.1)

pub file_some : (unit : CUnit) (calls : Option (List ℕ)) → HasFront (RunsFile unit calls) []
file_some unit None = (objects_text unit 0 (initial_objects unit), ReadFault, (refl, refl))
file_some unit (Some text) =
    let more = some_answer unit (initial_objects unit) 0 1 SCRIPT_LIMIT text in
    (objects_text unit 0 (initial_objects unit) ++ more.0, more.1, (more.0, refl, more.2))

-- ---- by the text of the unit

both : (n m : ℕ) → n < m → m ≤ n → ⊥
both n m a b = absurd (omega (arith, a, b))

text_once : (calls : Option (List ℕ)) (text x y : List ℕ) (i j : Status) → RunsText calls text x i → RunsText calls text y j → (x ≡ y) × (i ≡ j)
text_once calls text x y i j (too_long h e s) (too_long h2 e2 s2) = (e ∙ sym e2, s ∙ sym s2)
text_once calls text x y i j (too_long h e s) (refused l h2 r2 e2 s2) = absurd (both C_LIMIT (length text) h h2)
text_once calls text x y i j (too_long h e s) (read u h2 r2 a2) = absurd (both C_LIMIT (length text) h h2)
text_once calls text x y i j (refused k h r e s) (too_long h2 e2 s2) = absurd (both C_LIMIT (length text) h2 h)
text_once calls text x y i j (refused k h r e s) (refused l h2 r2 e2 s2) = (e ∙ ap refused_text (one_outcome.one_line text k l r r2) ∙ sym e2, s ∙ sym s2)
text_once calls text x y i j (refused k h r e s) (read u h2 r2 a2) = absurd (one_outcome.apart text u k r2 r)
text_once calls text x y i j (read u h r a) (too_long h2 e2 s2) = absurd (both C_LIMIT (length text) h2 h)
text_once calls text x y i j (read u h r a) (refused l h2 r2 e2 s2) = absurd (one_outcome.apart text u l r r2)
text_once calls text x y i j (read u h r a) (read v h2 r2 a2) =
    file_once v calls x y i j (subst (λ w. RunsFile w calls x i) (one_outcome.once text u v r r2) a) a2

some_text : (calls : Option (List ℕ)) (text : List ℕ) → (length text ≤ C_LIMIT) → IsFront (RunsText calls text) []
some_text calls text within = λ none.
    one_outcome.some text
    (λ unit reads. let more = file_some unit calls in none more.0 more.1 (read unit within reads more.2))
    (λ line refuses. none (refused_text line) CodeRefused (refused line within refuses refl refl))

long_text : (calls : Option (List ℕ)) (text : List ℕ) → C_LIMIT < length text → IsFront (RunsText calls text) []
long_text calls text long = λ none. none (refused_text 0) CodeRefused (too_long long refl refl)

within_or_above : (n m : ℕ) (P : Type 0) → (n ≤ m → P) → (m < n → P) → ((leb n m ≡ true) × (n ≤ m)) ⊎ ((leb n m ≡ false) × (m < n)) → P
within_or_above n m P small large (inl h) = small h.1
within_or_above n m P small large (inr h) = large h.1

each_text : (calls : Option (List ℕ)) (text : List ℕ) → IsFront (RunsText calls text) []
each_text calls text =
    within_or_above (length text) C_LIMIT (IsFront (RunsText calls text) []) (some_text calls text) (long_text calls text) (leb_tells (length text) C_LIMIT)

-- ---- by both files

answers_once : (held calls : Option (List ℕ)) (x y : List ℕ) (i j : Status) → RunCAnswers held calls x i → RunCAnswers held calls y j → (x ≡ y) × (i ≡ j)
answers_once held calls x y i j a b = by_file_once (RunsText calls) held x y i j (λ text. text_once calls text x y i j) a b

pub some_answers : (held calls : Option (List ℕ)) → IsFront (RunCAnswers held calls) []
some_answers held calls = by_file_some (RunsText calls) held (each_text calls)

-- ---- how calls end

closed_ends : (piece : Piece) → IsEnding (closing_status piece)
closed_ends End = inl refl
closed_ends Past = inr (inr refl)
closed_ends Long = inr (inr refl)
closed_ends Line = inl refl

calls_end : (unit : CUnit) (row : Objects) (count number room : ℕ) (rest bytes : List ℕ) (status : Status) → RunsCalls unit row count number room rest bytes status → IsEnding status
calls_end unit row count number room rest bytes status (closed piece next other e s) = subst IsEnding (sym s) (closed_ends piece)
calls_end unit row count number room rest bytes status (faulty fault next asked e s) = inr (inr s)
calls_end unit row count number room rest bytes status (passed next asked later) = calls_end unit row count _ _ _ bytes status later
calls_end unit row count number room rest bytes status (taken call new more next asked effect later e) = calls_end unit new _ _ _ _ more status later
calls_end unit row count number room rest bytes status (overflow call next asked effect e s) = inr (inl s)

file_ends : (unit : CUnit) (calls bytes : List ℕ) (status : Status) → RunsFile unit (Some calls) bytes status → IsEnding status
file_ends unit calls bytes status a = calls_end unit (initial_objects unit) 0 1 SCRIPT_LIMIT calls a.0 status a.2

answers_end : (text calls bytes : List ℕ) (status : Status) (unit : CUnit) → length text ≤ C_LIMIT → Reads text unit → RunCAnswers (Some text) (Some calls) bytes status → IsEnding status
answers_end text calls bytes status unit within reads (too_long h e s) = absurd (both C_LIMIT (length text) h within)
answers_end text calls bytes status unit within reads (refused line h r e s) = absurd (one_outcome.apart text unit line reads r)
answers_end text calls bytes status unit within reads (read other h r a) = file_ends other calls bytes status a

-- the one unit of the text stands in for another
as_unit : (text : List ℕ) (unit other : CUnit) (tells : CUnit → List ℕ → Type 0) (bytes : List ℕ) → Reads text unit → Reads text other → tells other bytes → tells unit bytes
as_unit text unit other tells bytes reads also told = subst (λ u. tells u bytes) (one_outcome.once text other unit also reads) told

answers_done : (text calls bytes : List ℕ) (status : Status) → AreMade text calls → RunCAnswers (Some text) (Some calls) bytes status → status ≡ Done
answers_done text calls bytes status p answers = by_ending (answers_end text calls bytes status p.0 p.1 p.2 answers)
  where
    by_ending : IsEnding status → status ≡ Done
    by_ending (inl done) = done
    by_ending (inr (inl finding)) =
        let o = overflowed text calls bytes (subst (RunCAnswers (Some text) (Some calls) bytes) finding answers) in
        absurd (p.4 bytes (as_unit text p.0 o.0 (λ u. TellsOverflow u calls) bytes p.2 o.2 o.3))
    by_ending (inr (inr stopped)) =
        let f = front text calls bytes (subst (RunCAnswers (Some text) (Some calls) bytes) stopped answers) in
        absurd (p.3 bytes (as_unit text p.0 f.0 (λ u. TellsFault u calls) bytes p.2 f.2 f.3))

pub one_answer_of_calls : OneAnswerOfCalls
one_answer_of_calls = record {
  ends = answers_end;
  once = once;
  some = some_answer;
  file_once = file_once;
  file_some = file_some;
  one = answers_once;
  never_none = some_answers;
  run = run;
  front = front;
  overflow = overflowed;
  done = answers_done;
}

-- ---- of the command

-- the text of a unit makes this of the command
abbrev IsMade : Loaded → First CUnit → Type 0
IsMade file first = (held : Option (List ℕ)) → IsLoaded C_LIMIT held file → IsFirst (RunCAnswers held) (ReachesCalls held) RunsFile first

long_made : (first : First CUnit) → IsRefusal 0 first → IsMade TooLong first
long_made (Answer out status) (same, ends) = λ held loaded calls.
    subst (λ h. RunCAnswers h calls out.items status) (sym loaded.1) (too_long loaded.2 same ends)
long_made (Base unit) is = absurd is

pub long_first : (r : Result (First CUnit) NoMemory) → IfOk r (IsRefusal 0) → IfOk r (IsMade TooLong)
long_first (Ok first) is = long_made first is
long_first (Err e) is = tt

-- the file was read whole
abbrev pub IsWhole : List ℕ → Loaded → Type 0
IsWhole bytes (Whole text) = text.items ≡ bytes
IsWhole bytes TooLong = ⊥

refused_made : (file : Loaded) (bytes : List ℕ) (line : ℕ) (first : First CUnit) → IsWhole bytes file → Refuses bytes line → IsRefusal line first → IsMade file first
refused_made (Whole text) bytes line (Answer out status) whole refuses (same, ends) = λ held loaded calls.
    subst (λ h. RunCAnswers h calls out.items status) (sym loaded.0) (refused line loaded.1 (subst (λ t. Refuses t line) (sym whole) refuses) same ends)
refused_made (Whole text) bytes line (Base unit) whole refuses is = absurd is
refused_made TooLong bytes line first whole refuses is = absurd whole

pub refused_first : (file : Loaded) (bytes : List ℕ) (line : ℕ) (r : Result (First CUnit) NoMemory) → IsWhole bytes file → Refuses bytes line → IfOk r (IsRefusal line) → IfOk r (IsMade file)
refused_first file bytes line (Ok first) whole refuses is = refused_made file bytes line first whole refuses is
refused_first file bytes line (Err e) whole refuses is = tt

pub read_first : (file : Loaded) (bytes : List ℕ) (unit : CUnit) → IsWhole bytes file → Reads bytes unit → IsMade file (Base unit)
read_first (Whole text) bytes unit whole reads = λ held loaded.
    let mine : Reads text.items unit = subst (λ t. Reads t unit) (sym whole) reads in (
      subst ReachesCalls (sym loaded.0) (unit, loaded.1, mine),
      λ calls out status answers. subst (λ h. RunCAnswers h calls out status) (sym loaded.0) (read unit loaded.1 mine answers),
    )
read_first TooLong bytes unit whole reads = absurd whole

-- the answers of a machine that was not called yet
pub own_answers : (unit shown : CUnit) (machine : Running) (count : ℕ) → shown ≡ unit → machine ≡ record { unit = unit; objects = initial_objects unit } → count ≡ 0
    → (calls : Option (List ℕ)) (bytes : List ℕ) (status : Status)
    → FileAnswers (objects_text shown count machine.objects) (RunsCalls machine.unit machine.objects count) calls bytes status → RunsFile unit calls bytes status
own_answers unit shown machine count same started none calls bytes status h =
    subst (λ (u : CUnit). FileAnswers (objects_text u 0 (initial_objects unit)) (RunsCalls unit (initial_objects unit) 0) calls bytes status) same
    (subst (λ (m : Running). FileAnswers (objects_text shown 0 m.objects) (RunsCalls m.unit m.objects 0) calls bytes status) started
    (subst (λ (n : ℕ). FileAnswers (objects_text shown n machine.objects) (RunsCalls machine.unit machine.objects n) calls bytes status) none h))
