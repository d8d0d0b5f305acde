-- What the words of a line of calls are, one word at a time.
use Rattle.std.proofs.Common.{◌≡◌, ℕ, ℤ, Bool, true, false, List, [], ◌∷◌, Option, Some, refl, sym, ap, ◌∙◌}
use Rattle.std.specs.Prelude.{None, Ok, Err, cond, if◌then◌else◌}
use Rattle.std.specs.Option.{unwrap_or}
use Rattle.base_script.specs.declared.fault.ScriptKind.TheVariants as kind
use Rattle.c_subset.specs.declared.unit.CUnit.{CUnit}
use Rattle.c_subset.specs.Meaning.{Objects}
use Rattle.c_subset.specs.Runs.{takes_call, call_effect}
use Rattle.c_machine.specs.Running.{Running, call_answer, answer_to, after_call}
use Rattle.c_machine.specs.declared.machine.MachineFault.TheVariants as fault
use Rattle.cmd_runc.specs.declared.call.Taken.{Taken}
use Rattle.cmd_runc.specs.declared.call.Taken.TheVariants.{Nothing, Called, Faulty, Overflow}
use Rattle.cmd_runc.specs.Lines.{read_call, is_call, read_words, taken_of, after_reading, made, made_by, after_made}

module _ (unit : CUnit) where
  none : (words : List (List ℕ)) → words ≡ [] → read_words unit words ≡ Ok None
  none words e = ap (read_words unit) e

  one : (words rest : List (List ℕ)) (a : List ℕ) → words ≡ a ∷ rest → rest ≡ [] → read_words unit words ≡ Err kind.Syntax
  one words rest a e f = ap (read_words unit) (e ∙ ap (λ (ws : List (List ℕ)). a ∷ ws) f)

  two : (words rest more : List (List ℕ)) (a n : List ℕ) → words ≡ a ∷ rest → rest ≡ n ∷ more → words ≡ a ∷ n ∷ more
  two words rest more a n e f = e ∙ ap (λ (ws : List (List ℕ)). a ∷ ws) f

  more_words : (words rest more others : List (List ℕ)) (a n v : List ℕ) → words ≡ a ∷ rest → rest ≡ n ∷ more → more ≡ v ∷ others → read_words unit words ≡ Err kind.Syntax
  more_words words rest more others a n v e f g = ap (read_words unit) (two words rest more a n e f ∙ ap (λ (ws : List (List ℕ)). a ∷ n ∷ ws) g)

  whole : (words rest more : List (List ℕ)) (a n : List ℕ) (b : Bool) → words ≡ a ∷ rest → rest ≡ n ∷ more → more ≡ [] → b ≡ is_call a n
      → read_words unit words ≡ (if b then read_call unit a n else Err kind.Syntax)
  whole words rest more a n b e f g k =
      ap (read_words unit) (two words rest more a n e f ∙ ap (λ (ws : List (List ℕ)). a ∷ n ∷ ws) g) ∙ ap (λ t. if t then read_call unit a n else Err kind.Syntax) (sym k)

module _ (m : Running) where
  pub none_taken : (words : List (List ℕ)) → words ≡ [] → Nothing ≡ taken_of m (read_words m.unit words)
  none_taken words e = sym (ap (taken_of m) (none m.unit words e))

  pub none_after : (words : List (List ℕ)) → words ≡ [] → m ≡ after_reading m (read_words m.unit words)
  none_after words e = sym (ap (after_reading m) (none m.unit words e))

  pub one_taken : (words rest : List (List ℕ)) (a : List ℕ) → words ≡ a ∷ rest → rest ≡ [] → Faulty kind.Syntax ≡ taken_of m (read_words m.unit words)
  one_taken words rest a e f = sym (ap (taken_of m) (one m.unit words rest a e f))

  pub one_after : (words rest : List (List ℕ)) (a : List ℕ) → words ≡ a ∷ rest → rest ≡ [] → m ≡ after_reading m (read_words m.unit words)
  one_after words rest a e f = sym (ap (after_reading m) (one m.unit words rest a e f))

  pub more_taken : (words rest more others : List (List ℕ)) (a n v : List ℕ) → words ≡ a ∷ rest → rest ≡ n ∷ more → more ≡ v ∷ others
      → Faulty kind.Syntax ≡ taken_of m (read_words m.unit words)
  more_taken words rest more others a n v e f g = sym (ap (taken_of m) (more_words m.unit words rest more others a n v e f g))

  pub more_after : (words rest more others : List (List ℕ)) (a n v : List ℕ) → words ≡ a ∷ rest → rest ≡ n ∷ more → more ≡ v ∷ others
      → m ≡ after_reading m (read_words m.unit words)
  more_after words rest more others a n v e f g = sym (ap (after_reading m) (more_words m.unit words rest more others a n v e f g))

  pub other_taken : (words rest more : List (List ℕ)) (a n : List ℕ) → words ≡ a ∷ rest → rest ≡ n ∷ more → more ≡ [] → false ≡ is_call a n
      → Faulty kind.Syntax ≡ taken_of m (read_words m.unit words)
  other_taken words rest more a n e f g k = sym (ap (taken_of m) (whole m.unit words rest more a n false e f g k))

  pub other_after : (words rest more : List (List ℕ)) (a n : List ℕ) → words ≡ a ∷ rest → rest ≡ n ∷ more → more ≡ [] → false ≡ is_call a n
      → m ≡ after_reading m (read_words m.unit words)
  other_after words rest more a n e f g k = sym (ap (after_reading m) (whole m.unit words rest more a n false e f g k))

  pub call_taken : (words rest more : List (List ℕ)) (a n : List ℕ) (t : Taken) → words ≡ a ∷ rest → rest ≡ n ∷ more → more ≡ [] → true ≡ is_call a n
      → t ≡ taken_of m (read_call m.unit a n) → t ≡ taken_of m (read_words m.unit words)
  call_taken words rest more a n t e f g k s = s ∙ sym (ap (taken_of m) (whole m.unit words rest more a n true e f g k))

  pub call_after : (words rest more : List (List ℕ)) (a n : List ℕ) (new : Running) → words ≡ a ∷ rest → rest ≡ n ∷ more → more ≡ [] → true ≡ is_call a n
      → new ≡ after_reading m (read_call m.unit a n) → new ≡ after_reading m (read_words m.unit words)
  call_after words rest more a n new e f g k s = s ∙ sym (ap (after_reading m) (whole m.unit words rest more a n true e f g k))

pub ruleset form_laws = (none_taken, none_after, one_taken, one_after, more_taken, more_after, other_taken, other_after, call_taken, call_after)

-- ---- the call

module _ (m : Running) (name : List ℕ) (z : ℤ) (takes : takes_call m.unit name ≡ true) where
  answered : call_answer m name z ≡ answer_to (call_effect m.unit name z m.objects)
  answered = ap (λ t. cond t (answer_to (call_effect m.unit name z m.objects)) (Err fault.NoFunction)) takes

  by_effect : (o : Option Objects) → Ok tt ≡ answer_to o → Called ≡ made_by o
  by_effect None e = cc
  by_effect (Some row) e = refl

  no_effect : (o : Option Objects) → Err fault.Overflow ≡ answer_to o → Overflow ≡ made_by o
  no_effect None e = refl
  no_effect (Some row) e = cc

  never : (o : Option Objects) → Err fault.NoFunction ≡ answer_to o → ⊥
  never None e = cc
  never (Some row) e = cc

  pub made_called : Ok tt ≡ call_answer m name z → Called ≡ made m name z
  made_called e = by_effect (call_effect m.unit name z m.objects) (e ∙ answered)

  pub made_overflow : Err fault.Overflow ≡ call_answer m name z → Overflow ≡ made m name z
  made_overflow e = no_effect (call_effect m.unit name z m.objects) (e ∙ answered)

  pub made_never : Err fault.NoFunction ≡ call_answer m name z → Faulty kind.Unknown ≡ made m name z
  made_never e = absurd (never (call_effect m.unit name z m.objects) (e ∙ answered))

  pub made_after : (new : Running) → new ≡ after_call m name z → new ≡ after_made m name z
  made_after new e =
      e ∙ ap (λ t. record { unit = m.unit; objects = cond t (unwrap_or (call_effect m.unit name z m.objects) m.objects) m.objects }) takes

pub ruleset made_laws = (made_called, made_overflow, made_never, made_after)
