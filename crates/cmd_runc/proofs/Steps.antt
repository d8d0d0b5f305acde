-- What a line of calls does.
use Rattle.std.proofs.Common.{◌≡◌, ℕ, ℤ, ◌+◌, List, [], ◌++◌, Option, Some, None, Ok, Err, refl, sym, ap, subst, ◌∙◌}
use Rattle.std.proofs.lemmas.List.{append-nil}
use Rattle.std.specs.Option.{unwrap_or}
use Rattle.c_subset.specs.declared.unit.CUnit.{CUnit}
use Rattle.c_subset.specs.Meaning.{Objects}
use Rattle.c_subset.specs.Runs.{call_effect}
use Rattle.c_machine.specs.Running.{Running}
use Rattle.base_script.specs.declared.fault.ScriptKind.{ScriptKind}
use Rattle.base_script.specs.Faults.{script_fault}
use Rattle.cmd_work.specs.declared.status.Status.{Status}
use Rattle.cmd_work.specs.declared.status.Status.TheVariants.{ScriptRefused, Findings}
use Rattle.cmd_work.specs.Session.{GoesOn, IsLast}
use Rattle.cmd_runc.specs.declared.call.Taken.TheVariants.{Nothing, Called, Faulty, Overflow}
use Rattle.cmd_runc.specs.Lines.{Reading, read_line, taken_of, after_reading, made_by}
use Rattle.cmd_runc.specs.Texts.{objects_text, overflow_text}
use Rattle.cmd_runc.specs.Runs.{RunsCalls, faulty, passed, taken, overflow}
use Rattle.cmd_runc.proofs.Existence.{some_answer}

-- the answers of a machine behind so many calls
abbrev Here : Running → ℕ → ℕ → ℕ → List ℕ → List ℕ → Status → Type 0
Here m count = RunsCalls m.unit m.objects count

module _ (m : Running) (count number : ℕ) (line before : List ℕ) where
  -- ---- a call

  effect_called : (call : List ℕ × ℤ) (o : Option Objects) → read_line m.unit line ≡ Ok (Some call) → call_effect m.unit (call.0) (call.1) m.objects ≡ o → Called ≡ made_by o → (after : List ℕ)
      → after ≡ before ++ objects_text m.unit (count + 1) (unwrap_or o m.objects)
      → GoesOn (Here m count) (RunsCalls m.unit (unwrap_or o m.objects) (count + 1)) number line before after
  effect_called call None r k e after said = cc
  effect_called call (Some new) r k e after said = record {
    text = objects_text m.unit (count + 1) new;
    appended = said;
    leads = λ room rest more status piece first h. taken call new more piece (ap (read_line m.unit) first ∙ r) k h refl;
    some = some_answer m.unit new (count + 1);
  }

  reading_called : (r : Reading) → read_line m.unit line ≡ r → Called ≡ taken_of m r → (after : List ℕ) → after ≡ before ++ objects_text m.unit (count + 1) (after_reading m r).objects
      → GoesOn (Here m count) (Here (after_reading m r) (count + 1)) number line before after
  reading_called (Err fault) e t after said = cc
  reading_called (Ok None) e t after said = cc
  reading_called (Ok (Some (name, z))) e t after said = effect_called (name, z) (call_effect m.unit name z m.objects) e refl t after said

  pub called_line : (new : Running) (next : ℕ) (unit : CUnit) (after : List ℕ) → Called ≡ taken_of m (read_line m.unit line) → new ≡ after_reading m (read_line m.unit line) → next ≡ count + 1 → unit ≡ m.unit
      → after ≡ before ++ objects_text unit next new.objects → GoesOn (Here m count) (Here new next) number line before after
  called_line new next unit after t is up same said =
      let wanted : after ≡ before ++ objects_text m.unit (count + 1) (after_reading m (read_line m.unit line)).objects =
      said ∙ ap (λ (u : CUnit). before ++ objects_text u next new.objects) same ∙ ap (λ (n : ℕ). before ++ objects_text m.unit n new.objects) up
      ∙ ap (λ (q : Running). before ++ objects_text m.unit (count + 1) q.objects) is in
      subst (λ (n : ℕ). GoesOn (Here m count) (Here new n) number line before after) (sym up)
      (subst (λ (q : Running). GoesOn (Here m count) (Here q (count + 1)) number line before after) (sym is)
      (reading_called (read_line m.unit line) refl t after wanted))

  -- ---- nothing

  no_effect_nothing : (o : Option Objects) → Nothing ≡ made_by o → ⊥
  no_effect_nothing None e = cc
  no_effect_nothing (Some new) e = cc

  reading_passed : (r : Reading) → read_line m.unit line ≡ r → Nothing ≡ taken_of m r → GoesOn (Here m count) (Here (after_reading m r) count) number line before before
  reading_passed (Err fault) e t = cc
  reading_passed (Ok None) e t = record {
    text = [];
    appended = sym (append-nil before);
    leads = λ room rest more status piece first h. passed piece (ap (read_line m.unit) first ∙ e) h;
    some = some_answer m.unit m.objects count;
  }
  reading_passed (Ok (Some (name, z))) e t = absurd (no_effect_nothing (call_effect m.unit name z m.objects) t)

  pub passed_line : (new : Running) → Nothing ≡ taken_of m (read_line m.unit line) → new ≡ after_reading m (read_line m.unit line) → GoesOn (Here m count) (Here new count) number line before before
  passed_line new t is =
      subst (λ (q : Running). GoesOn (Here m count) (Here q count) number line before before) (sym is) (reading_passed (read_line m.unit line) refl t)

  -- ---- a fault

  no_effect_faulty : (fault : ScriptKind) (o : Option Objects) → Faulty fault ≡ made_by o → ⊥
  no_effect_faulty fault None e = cc
  no_effect_faulty fault (Some new) e = cc

  faulty_is : (fault : ScriptKind) (r : Reading) → Faulty fault ≡ taken_of m r → r ≡ Err fault
  faulty_is fault (Err other) t = cc
  faulty_is fault (Ok None) t = cc
  faulty_is fault (Ok (Some (name, z))) t = absurd (no_effect_faulty fault (call_effect m.unit name z m.objects) t)

  pub faulty_line : (fault : ScriptKind) (after : List ℕ) → Faulty fault ≡ taken_of m (read_line m.unit line) → after ≡ before ++ script_fault number fault
      → IsLast (Here m count) number line before after ScriptRefused
  faulty_line fault after t said = record {
    text = script_fault number fault;
    appended = said;
    answers = λ room rest piece first. faulty fault piece (ap (read_line m.unit) first ∙ faulty_is fault (read_line m.unit line) t) refl refl;
    own = refl;
  }

  -- ---- an overflow

  effect_none : (o : Option Objects) → Overflow ≡ made_by o → o ≡ None
  effect_none None e = refl
  effect_none (Some new) e = cc

  reading_overflow : (r : Reading) → read_line m.unit line ≡ r → Overflow ≡ taken_of m r → (after : List ℕ) → after ≡ before ++ overflow_text (count + 1)
      → IsLast (Here m count) number line before after Findings
  reading_overflow (Err fault) e t after said = cc
  reading_overflow (Ok None) e t after said = cc
  reading_overflow (Ok (Some (name, z))) e t after said = record {
    text = overflow_text (count + 1);
    appended = said;
    answers = λ room rest piece first. overflow (name, z) piece (ap (read_line m.unit) first ∙ e) (effect_none (call_effect m.unit name z m.objects) t) refl refl;
    own = refl;
  }

  pub overflow_line : (after : List ℕ) → Overflow ≡ taken_of m (read_line m.unit line) → after ≡ before ++ overflow_text (count + 1) → IsLast (Here m count) number line before after Findings
  overflow_line after t said = reading_overflow (read_line m.unit line) refl t after said

-- the unit of the machine stays
pub unit_stays : (m : Running) (r : Reading) (new : Running) → new ≡ after_reading m r → new.unit ≡ m.unit
unit_stays m (Err fault) new e = ap (λ (q : Running). q.unit) e
unit_stays m (Ok None) new e = ap (λ (q : Running). q.unit) e
unit_stays m (Ok (Some (name, z))) new e = ap (λ (q : Running). q.unit) e
