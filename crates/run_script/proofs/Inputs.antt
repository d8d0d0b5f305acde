-- What a line holds is an input that may come in the state.
use Rattle.std.proofs.Common.{◌≡◌, ℕ, ℤ, ◌-ℤ◌, neg_ℤ, Bool, true, false, List, [], ◌∷◌, refl, subst}
use Rattle.std.specs.Prelude.{Option, Some, None, Ok, Err, int_le, if◌then◌else◌}
use Rattle.std.specs.Option.{option_map_or, option_and_then}
use Rattle.std.specs.Ordering.{int_eq}
use Rattle.std.proofs.lemmas.Bool.{and_parts, both_ways}
use Rattle.std.proofs.lemmas.Bool.Decides.{Decides-int_eq}
use Rattle.base.specs.Lines.{body}
use Rattle.scr_spec.specs.Data.{Data}
use Rattle.scr_spec.specs.declared.state.Input.{Input}
use Rattle.scr_spec.specs.Meaning.{Codes, code_of}
use Rattle.scr_spec.specs.Names.{variable_named}
use Rattle.scr_spec.specs.Relations.{is_monitored}
use Rattle.scr_spec.specs.Sound.{IsSound}
use Rattle.scr_depend.specs.Related.{bound_of, IsBounded}
use Rattle.run_step.specs.Runs.{IsInput}
use Rattle.run_step.proofs.Order.{le_from}
use Rattle.run_script.specs.declared.fault.ScriptFault.{ScriptFault}
use Rattle.run_script.specs.declared.fault.ScriptFault.TheVariants as fault
use Rattle.base_script.specs.Words.{is_readable, words_of}
use Rattle.run_script.specs.Values.{value_of}
use Rattle.run_script.specs.Script.{Reading, monitored_named, is_bounded, read_code, read_value, read_set, is_set, read_words, read_line}
use Rattle.run_script.specs.Laws.{LinesHoldInputs}
use Rattle.run_script.proofs.Narrow.{value_within}

abbrev Reading-ok : Input → Reading
Reading-ok i = Ok (Some i)

-- a reading that is no fault comes from this branch
passed : (b : Bool) (r : Reading) (f : ScriptFault) (o : Option Input) → (if b then r else Err f) ≡ Ok o → (b ≡ true) × (r ≡ Ok o)
passed true r f o h = (refl, h)
passed false r f o h = cc

refused : (b : Bool) (r : Reading) (f : ScriptFault) (o : Option Input) → (if b then Err f else r) ≡ Ok o → (b ≡ false) × (r ≡ Ok o)
refused true r f o h = cc
refused false r f o h = (refl, h)

bounded_from : (o : Option ℤ) (change : ℤ) → is_bounded o change ≡ true → IsBounded o change
bounded_from None change h = tt
bounded_from (Some k) change h =
    let both = and_parts (int_le (neg_ℤ k) change) (int_le change k) h in
    record { falls = le_from (neg_ℤ k) change both.0; rises = le_from change k both.1 }

same_input : (a b : Input) → Reading-ok a ≡ Reading-ok b → a ≡ b
same_input a b h = cc

code_held : (spec : Data) (at : Codes) (v : ℕ) (code : ℤ) (word : List ℕ) (input : Input) → is_monitored spec v ≡ true → value_of spec v word ≡ Some code → read_code spec at v code ≡ Ok (Some input) → IsInput spec at input
code_held spec at v code word input monitored value h =
    let a = refused (int_eq code (code_of at v)) _ fault.NoChange (Some input) h in
    let b = passed (is_bounded (bound_of spec v) (code -ℤ code_of at v)) (Ok (Some (record { variable = v; code = code }))) fault.Nat (Some input) a.1 in
    let one : Input = record { variable = v; code = code } in
    let same : one ≡ input = same_input one input b.1 in
    let here : IsInput spec at one = record {
      freely = record {
        monitored = monitored;
        within = value_within spec v word code value;
        differs = λ e. both_ways (int_eq code (code_of at v)) a.0 ((Decides-int_eq code (code_of at v)).1 e);
      };
      bounded = bounded_from (bound_of spec v) (code -ℤ code_of at v) b.0;
    } in
    subst (IsInput spec at) same here

value_held : (spec : Data) (at : Codes) (v : ℕ) (word : List ℕ) (input : Input) (o : Option ℤ) → value_of spec v word ≡ o → is_monitored spec v ≡ true
    → option_map_or (read_code spec at v) o (Err fault.Value) ≡ Ok (Some input) → IsInput spec at input
value_held spec at v word input None e monitored h = cc
value_held spec at v word input (Some code) e monitored h = code_held spec at v code word input monitored e h

-- the variable that a name of a monitored one names
named_monitored : (spec : Data) (v : ℕ) (o : Option ℕ) → option_and_then (λ (u : ℕ). if is_monitored spec u then Some u else None) o ≡ Some v → is_monitored spec v ≡ true
named_monitored spec v None h = cc
named_monitored spec v (Some u) h =
    elim (is_monitored spec u) as (λ t. is_monitored spec u ≡ t → (if t then Some u else None) ≡ Some v → is_monitored spec v ≡ true) [
      | true ↦ λ e k. let same : u ≡ v = cc in subst (λ (w : ℕ). is_monitored spec w ≡ true) same e
      | false ↦ λ e k. cc
    ] refl h

set_held : (spec : Data) (at : Codes) (name word : List ℕ) (input : Input) (o : Option ℕ) → monitored_named spec name ≡ o
    → option_map_or (read_value spec at word) o (Err fault.Unknown) ≡ Ok (Some input) → IsInput spec at input
set_held spec at name word input None e h = cc
set_held spec at name word input (Some v) e h =
    value_held spec at v word input (value_of spec v word) refl (named_monitored spec v (variable_named spec name) e) h

words_held : (spec : Data) (at : Codes) (words : List (List ℕ)) (input : Input) → read_words spec at words ≡ Ok (Some input) → IsInput spec at input
words_held spec at [] input h = cc
words_held spec at (a ∷ []) input h = cc
words_held spec at (a ∷ n ∷ []) input h = cc
words_held spec at (a ∷ n ∷ w ∷ []) input h =
    set_held spec at n w input (monitored_named spec n) refl ((passed (is_set a n w) (read_set spec at n w) fault.Syntax (Some input) h).1)
words_held spec at (a ∷ n ∷ w ∷ m ∷ words) input h = cc

pub line_held : (spec : Data) (at : Codes) (line : List ℕ) (input : Input) → IsSound spec → read_line spec at line ≡ Ok (Some input) → IsInput spec at input
line_held spec at line input sound h = words_held spec at (words_of (body line)) input ((passed (is_readable line) (read_words spec at (words_of (body line))) fault.Syntax (Some input) h).1)

pub lines_hold_inputs : LinesHoldInputs
lines_hold_inputs = record { may_come = line_held }
