-- The lines on what was derived for classes.
use Rattle.std.specs.Prelude.{ℕ, List, ◌++◌, codes, decimal}
use Rattle.std.specs.List.{flat_map}
use Rattle.scr_spec.specs.Data.{Data}
use Rattle.prove_candidates.specs.declared.candidate.Candidate.{Candidate}
use Rattle.prove_invariants.specs.declared.derived.Found.{Found}
use Rattle.prove_invariants.specs.declared.derived.Derived.{Derived}
use Rattle.prove_invariants.specs.declared.derived.Derived.TheVariants.{All, Undecided}
use Rattle.scr_printer.specs.Names.{variable_name}
use Rattle.scr_printer.specs.Text.{value_text, cond_text}
use Rattle.cmd_invariants.specs.declared.derivation.Derivation.{Derivation}

-- the mode, the round and the condition of a candidate that is found
abbrev pub found_text : Data → ℕ → Found → List ℕ
found_text spec class f =
    value_text spec class f.candidate.mode ++ codes " " ++ decimal f.round ++ codes " " ++ cond_text spec f.candidate.cond ++ codes "\n"

-- the mode and the condition of a candidate
abbrev pub candidate_text : Data → ℕ → Candidate → List ℕ
candidate_text spec class c = value_text spec class c.mode ++ codes " " ++ cond_text spec c.cond ++ codes "\n"

unfoldable pub round_text : ℕ → List ℕ
round_text round = codes "undecided round " ++ decimal round ++ codes " "

-- the round and the candidate at whose test the limit is passed
abbrev pub undecided_text : Data → ℕ → ℕ → Candidate → List ℕ
undecided_text spec class round c = round_text round ++ candidate_text spec class c

abbrev pub lines_text : Data → ℕ → Derived → List ℕ
lines_text spec class (All list) = flat_map (found_text spec class) list
lines_text spec class (Undecided round c) = undecided_text spec class round c

-- the name of the class, and the lines below it
abbrev pub derived_text : Data → ℕ → Derived → List ℕ
derived_text spec class derived = codes "class " ++ variable_name spec class ++ codes "\n" ++ lines_text spec class derived

abbrev pub derivation_text : Data → Derivation → List ℕ
derivation_text spec d = derived_text spec d.class d.derived

-- the lines on each class
abbrev pub classes_text : Data → List Derivation → List ℕ
classes_text spec list = flat_map (derivation_text spec) list
