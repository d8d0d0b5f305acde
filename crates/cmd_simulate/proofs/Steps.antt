-- What a line of a script does to a simulation.
use Rattle.std.proofs.Common.{◌≡◌, ℕ, ◌+◌, ◌-◌, length, Bool, true, false, List, [], ◌++◌, refl, sym, ap, subst, ◌∙◌}
use Rattle.std.proofs.lemmas.Bool.{false≢true}
use Rattle.std.proofs.lemmas.List.{append-nil}
use Rattle.base.specs.Ends.{line_with_end}
use Rattle.scr_spec.specs.Data.{Data}
use Rattle.scr_spec.specs.Meaning.{Codes}
use Rattle.run_script.specs.declared.fault.ScriptFault.{ScriptFault}
use Rattle.run_script.specs.Feeds.{Feeds, Refuses}
use Rattle.run_script.specs.Script.{read_line}
use Rattle.cmd_work.specs.declared.status.Status.TheVariants.{ScriptRefused}
use Rattle.cmd_work.specs.Session.{GoesOn, IsLast, IsAnswered, behind}
use Rattle.cmd_report.specs.Runs.{state_text}
use Rattle.base_script.specs.Faults.{script_fault}
use Rattle.run_script.specs.Faults.{kind_of}
use Rattle.cmd_simulate.specs.Simulates.{Simulates, faulty, passed, taken}

pub taken_line : (spec other : Data) (old new : Codes) (count next number : ℕ) (line before after : List ℕ) (held : Bool) → Feeds spec line old new held → held ≡ true → other ≡ spec → next ≡ count + 1
    → IsAnswered (Simulates other new next) → after ≡ before ++ state_text other next new → GoesOn (Simulates spec old count) (Simulates other new next) number line before after
taken_line spec other old new count next number line before after false fed is same up some said = absurd (false≢true is)
taken_line spec other old new count next number line before after true fed is same up some said = record {
  text = state_text other next new;
  appended = said;
  leads = λ room rest more status piece first h.
      taken fed.input new more piece (ap (read_line spec old) first ∙ fed.read) fed.step
      (subst (λ s. Simulates s new (count + 1) (number + 1) (room - length (line_with_end rest)) (behind rest) more status) same (subst (λ n. Simulates other new n (number + 1) (room - length (line_with_end rest)) (behind rest) more status) up h))
      (ap (λ n. state_text other n new ++ more) up ∙ ap (λ s. state_text s (count + 1) new ++ more) same);
  some = some;
}

pub passed_line : (spec other : Data) (old new : Codes) (count number : ℕ) (line before : List ℕ) (held : Bool) → Feeds spec line old new held → held ≡ false → other ≡ spec
    → IsAnswered (Simulates other new count) → GoesOn (Simulates spec old count) (Simulates other new count) number line before before
passed_line spec other old new count number line before true fed is same some = absurd (false≢true (sym is))
passed_line spec other old new count number line before false fed is same some = record {
  text = [];
  appended = sym (append-nil before);
  leads = λ room rest more status piece first h.
      passed piece (ap (read_line spec old) first ∙ fed.read)
      (subst (λ s. Simulates s old count (number + 1) (room - length (line_with_end rest)) (behind rest) more status) same (subst (λ a. Simulates other a count (number + 1) (room - length (line_with_end rest)) (behind rest) more status) fed.same h));
  some = some;
}

pub faulty_line : (spec : Data) (old new : Codes) (count number : ℕ) (line before after : List ℕ) (fault : ScriptFault) → Refuses spec line old new fault
    → after ≡ before ++ script_fault number (kind_of fault) → IsLast (Simulates spec old count) number line before after ScriptRefused
faulty_line spec old new count number line before after fault refused said = record {
  text = script_fault number (kind_of fault);
  appended = said;
  answers = λ room rest piece first. faulty fault piece (ap (read_line spec old) first ∙ refused.read) refl refl;
  own = refl;
}
