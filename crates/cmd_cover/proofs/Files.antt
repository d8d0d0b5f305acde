-- What `cover` answers for its files.
use Rattle.std.proofs.Common.{◌≡◌, ℕ, List, [], map, Option, None, Some, refl, sym, subst, ◌∙◌}
use Rattle.scr_spec.specs.Data.{Data}
use Rattle.scr_spec.specs.Meaning.{Codes}
use Rattle.scr_depend.specs.declared.order.Order.{Order}
use Rattle.scr_depend.specs.Passes.{PassesChecks}
use Rattle.run_step.specs.Runs.{IsInitial}
use Rattle.run_step.proofs.Runs.{one_next_state}
use Rattle.cmd_work.specs.declared.status.Status.{Status}
use Rattle.cmd_work.specs.declared.status.Status.TheVariants.{ReadFault}
use Rattle.cmd_work.specs.declared.walk.TheConstants.{SCRIPT_LIMIT}
use Rattle.cmd_work.specs.Ends.{IsFront, HasFront}
use Rattle.cmd_work.specs.Session.{FileAnswers}
use Rattle.cmd_checked.proofs.Scripts.{script_some, script_once as both_once}
use Rattle.run_cover.specs.declared.count.Count.{Count}
use Rattle.run_cover.specs.Cells.{cells_of}
use Rattle.run_cover.specs.Counts.{counted}
use Rattle.run_cover.specs.Tallies.{IsTally}
use Rattle.cmd_cover.specs.Covers.{Covers, CoversTally, CoversFile, CoverAnswers}
use Rattle.cmd_cover.specs.Laws.{OneCoverage}
use Rattle.cmd_cover.proofs.Existence.{some_answer}
use Rattle.cmd_cover.proofs.Once.{once}
use Rattle.cmd_cover.proofs.Run.{run}
use Rattle.cmd_cover.proofs.Front.{front}

-- ---- by the script

script_once : (spec : Data) (order : Order) (first : Codes) (script : Option (List ℕ)) (x y : List ℕ) (i j : Status) → PassesChecks spec order → IsInitial spec first
    → FileAnswers [] (Covers spec first [] first) script x i → FileAnswers [] (Covers spec first [] first) script y j → (x ≡ y) × (i ≡ j)
script_once spec order first None x y i j k initial a b = (a.0 ∙ sym b.0, a.1 ∙ sym b.1)
script_once spec order first (Some text) x y i j k initial a b =
    let o = once spec order k first [] first 1 SCRIPT_LIMIT text a.0 b.0 i j (one_next_state.starts spec first initial) a.2 b.2 in
    (a.1 ∙ o.0 ∙ sym b.1, o.1)

file_once : (spec : Data) (order : Order) (script : Option (List ℕ)) (x y : List ℕ) (i j : Status) → PassesChecks spec order → CoversFile spec script x i → CoversFile spec script y j
    → (x ≡ y) × (i ≡ j)
file_once spec order script x y i j k a b =
    let same : a.first ≡ b.first = one_next_state.one_initial spec order a.first b.first k a.initial b.initial in
    let moved : FileAnswers [] (Covers spec b.first [] b.first) script x i = subst (λ f. FileAnswers [] (Covers spec f [] f) script x i) same a.answers in
    script_once spec order b.first script x y i j k b.initial moved b.answers

-- a tally in which no cell has been counted
none_yet : (spec : Data) (first : Codes) → IsTally spec first [] (map (λ cell. counted cell 0) (cells_of spec)) first 0
none_yet spec first = record { each = refl; present = refl; many = refl }

pub file_some : (spec : Data) (order : Order) (script : Option (List ℕ)) → PassesChecks spec order → HasFront (CoversFile spec script) []
file_some spec order None all =
    let first = one_next_state.initial spec order all in
    ([], ReadFault, record { first = first.0; initial = first.1; answers = (refl, refl) })
file_some spec order (Some text) all =
    let first = one_next_state.initial spec order all in
    let counts = map (λ cell. counted cell 0) (cells_of spec) in
    let more = some_answer spec order counts first.0 0 all (one_next_state.starts spec first.0 first.1) 1 SCRIPT_LIMIT text in
    (more.0, more.1, record { first = first.0; initial = first.1; answers = (more.0, refl, more.2 first.0 [] (none_yet spec first.0)) })

-- ---- by both files

pub some_answers : (limit : ℕ) (held script : Option (List ℕ)) → IsFront (CoverAnswers limit held script) []
some_answers limit held script = script_some CoversFile limit held script (λ spec order. file_some spec order script)

pub one_coverage : OneCoverage
one_coverage = record {
  once = λ spec order first states at number room rest x y i j all. once spec order all first states at number room rest x y i j;
  file_once = file_once;
  file_some = file_some;
  one = λ limit held script x y i j. both_once CoversFile limit held script x y i j (λ spec order. file_once spec order script);
  never_none = some_answers;
  run = run;
  front = front;
}

-- ---- of the command

-- the answer of a tally in which no cell has been counted is that of the run
pub own_answers : (spec other : Data) (counts : List Count) (at present : Codes) (notes : ℕ) → other ≡ spec → IsInitial spec at → IsTally spec at [] counts present notes
    → (script : Option (List ℕ)) (bytes : List ℕ) (status : Status) → FileAnswers [] (CoversTally other counts present notes) script bytes status → CoversFile spec script bytes status
own_answers spec other counts at present notes same initial t None bytes status h = record { first = at; initial = initial; answers = h }
own_answers spec other counts at present notes same initial t (Some text) bytes status h =
    let moved : CoversTally spec counts present notes 1 SCRIPT_LIMIT text h.0 status = subst (λ s. CoversTally s counts present notes 1 SCRIPT_LIMIT text h.0 status) same h.2 in
    let answers : Covers spec at [] at 1 SCRIPT_LIMIT text h.0 status = subst (λ p. Covers spec at [] p 1 SCRIPT_LIMIT text h.0 status) t.present (moved at [] t) in
    record { first = at; initial = initial; answers = (h.0, h.1, answers) }
