-- The lines of the script.
use Rattle.std.proofs.Common.{◌≡◌, ℕ, ℤ, Bool, true, false, List, [], ◌∷◌, Option, Some, None, Ok, Err, sym, subst}
use Rattle.std.specs.Prelude.{if◌then◌else◌, ◌-ℤ◌, codes}
use Rattle.std.specs.Option.{option_map_or}
use Rattle.std.specs.Ordering.{int_eq}
use Rattle.scr_spec.specs.Data.{Data}
use Rattle.scr_spec.specs.declared.state.Input.{Input}
use Rattle.scr_spec.specs.Meaning.{Codes, code_of}
use Rattle.scr_depend.specs.Related.{bound_of}
use Rattle.run_script.specs.declared.fault.ScriptFault.TheVariants as fault
use Rattle.run_script.specs.Values.{value_of}
use Rattle.run_script.specs.Script.{monitored_named, read_code, read_value, read_set, read_line, is_bounded, is_set}
use Rattle.run_script.specs.Feeds.{Accepts, Feeds}
use Rattle.run_script.specs.Scripts.{whole, taken, faulty}
use Rattle.cmd_large.specs.declared.run.FaultyLine.{FaultyLine}
use Rattle.cmd_large.specs.Script.{IsRefusedAt}
use Rattle.cmd_large.specs.Summaries.{TakesAll, FailsAt}

-- ---- a SET is no blank line

by_code : (b c : Bool) (i : Input) → (if b then Err fault.NoChange else (if c then Ok (Some i) else Err fault.Nat)) ≡ Ok None → ⊥
by_code true c i h = cc
by_code false true i h = cc
by_code false false i h = cc

by_value : (spec : Data) (at : Codes) (v : ℕ) (o : Option ℤ) → option_map_or (read_code spec at v) o (Err fault.Value) ≡ Ok None → ⊥
by_value spec at v None h = cc
by_value spec at v (Some code) h =
    by_code (int_eq code (code_of at v)) (is_bounded (bound_of spec v) (code -ℤ code_of at v)) (record { variable = v; code = code }) h

by_name : (spec : Data) (at : Codes) (word : List ℕ) (o : Option ℕ) → option_map_or (read_value spec at word) o (Err fault.Unknown) ≡ Ok None → ⊥
by_name spec at word None h = cc
by_name spec at word (Some v) h = by_value spec at v (value_of spec v word) h

by_form : (spec : Data) (at : Codes) (name word : List ℕ) (b : Bool) → (if b then read_set spec at name word else Err fault.Syntax) ≡ Ok None → ⊥
by_form spec at name word true h = by_name spec at word (monitored_named spec name) h
by_form spec at name word false h = cc

pub first_some : (spec : Data) (at : Codes) → read_line spec at (codes "SET Input 60") ≡ Ok None → ⊥
first_some spec at h = by_form spec at (codes "Input") (codes "60") (is_set (codes "SET") (codes "Input") (codes "60")) h

pub second_some : (spec : Data) (at : Codes) → read_line spec at (codes "SET Input 0") ≡ Ok None → ⊥
second_some spec at h = by_form spec at (codes "Input") (codes "0") (is_set (codes "SET") (codes "Input") (codes "0")) h

pub third_some : (spec : Data) (at : Codes) → read_line spec at (codes "SET Reset TRUE") ≡ Ok None → ⊥
third_some spec at h = by_form spec at (codes "Reset") (codes "TRUE") (is_set (codes "SET") (codes "Reset") (codes "TRUE")) h

-- so each of them that has no fault holds an input
accepted : (spec : Data) (line : List ℕ) (old new : Codes) (held : Bool) → (read_line spec old line ≡ Ok None → ⊥) → Feeds spec line old new held → Accepts spec line old new
accepted spec line old new true some fed = fed
accepted spec line old new false some fed = absurd (some fed.read)

-- ---- what comes of the script

module _ (spec : Data) (first : Codes) where
  pub first_fails : (new : Codes) (f : FaultyLine) → IsRefusedAt spec 1 (codes "SET Input 60") first new f → FailsAt spec first f.number f.fault
  first_fails new f r = subst (λ n. FailsAt spec first n f.fault) (sym r.number_is) (record { inputs = []; states = []; reads = faulty r.refuses.read })

  pub second_fails : (second : Codes) (other : Data) (held : Bool) (new : Codes) (f : FaultyLine) → other ≡ spec → Feeds spec (codes "SET Input 60") first second held
      → IsRefusedAt other 2 (codes "SET Input 0") second new f → FailsAt spec first f.number f.fault
  second_fails second other held new f same fed r =
      let a = accepted spec (codes "SET Input 60") first second held (first_some spec first) fed in
      let q = subst (λ s. IsRefusedAt s 2 (codes "SET Input 0") second new f) same r in
      subst (λ n. FailsAt spec first n f.fault) (sym r.number_is)
      (record { inputs = a.input ∷ []; states = second ∷ []; reads = taken a.read a.step (faulty q.refuses.read) })

  pub third_fails : (second third : Codes) (other later : Data) (held yet : Bool) (new : Codes) (f : FaultyLine) → other ≡ spec → later ≡ spec → Feeds spec (codes "SET Input 60") first second held
      → Feeds other (codes "SET Input 0") second third yet → IsRefusedAt later 3 (codes "SET Reset TRUE") third new f → FailsAt spec first f.number f.fault
  third_fails second third other later held yet new f same also fed follows r =
      let a = accepted spec (codes "SET Input 60") first second held (first_some spec first) fed in
      let b = accepted spec (codes "SET Input 0") second third yet (second_some spec second) (subst (λ s. Feeds s (codes "SET Input 0") second third yet) same follows) in
      let q = subst (λ s. IsRefusedAt s 3 (codes "SET Reset TRUE") third new f) also r in
      subst (λ n. FailsAt spec first n f.fault) (sym r.number_is)
      (record { inputs = a.input ∷ b.input ∷ []; states = second ∷ third ∷ []; reads = taken a.read a.step (taken b.read b.step (faulty q.refuses.read)) })

  pub all_taken : (second third : Codes) (other later : Data) (held yet still : Bool) (last : Codes) → other ≡ spec → later ≡ spec → Feeds spec (codes "SET Input 60") first second held
      → Feeds other (codes "SET Input 0") second third yet → Feeds later (codes "SET Reset TRUE") third last still → TakesAll spec first last
  all_taken second third other later held yet still last same also fed follows at_last =
      let a = accepted spec (codes "SET Input 60") first second held (first_some spec first) fed in
      let b = accepted spec (codes "SET Input 0") second third yet (second_some spec second) (subst (λ s. Feeds s (codes "SET Input 0") second third yet) same follows) in
      let d = accepted spec (codes "SET Reset TRUE") third last still (third_some spec third) (subst (λ s. Feeds s (codes "SET Reset TRUE") third last still) also at_last) in
      record { inputs = (a.input, b.input, d.input); between = (second, third); reads = taken a.read a.step (taken b.read b.step (taken d.read d.step whole)) }
