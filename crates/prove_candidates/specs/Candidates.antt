-- The candidates for invariants of the modes of a class. Which they are is this project's own.
use Rattle.std.specs.Prelude.{◌≡◌, IsTrue, ℕ, zero, suc, ℤ, pos, Bool, not, ◌&&◌, nat_le, Option, Some, None, List, [], ◌∷◌, ◌++◌, map, length, if◌then◌else◌}
use Rattle.std.specs.List.{list_all, list_any, flat_map}
use Rattle.scr_spec.specs.Data.{Data}
use Rattle.scr_spec.specs.Over.{modes_of, is_place, is_cond_over}
use Rattle.scr_spec.specs.Relations.{table_of}
use Rattle.scr_spec.specs.declared.cond.Cond.{Cond}
use Rattle.scr_spec.specs.declared.cond.Cond.TheVariants.{Or}
use Rattle.scr_spec.specs.declared.table.Primitive.{Primitive}
use Rattle.scr_spec.specs.declared.table.Table.{Table}
use Rattle.prove_candidates.specs.declared.candidate.Candidate.{Candidate}
use Rattle.prove_candidates.specs.New.{AddsNew}
use Rattle.prove_candidates.specs.Told.{exits, entries, exit_told, entry_told, entry_change, is_silent}

-- where no entry is silent, and they tell at least two different changes: that one of these is so
abbrev pub one_of : Bool → List Cond → List Cond
one_of silent changes = if not silent && nat_le 2 (length changes) then Or changes ∷ [] else []

-- the conditions of a mode with these exits and entries
pub record AreToldBy (left entered : List Primitive) (conditions : List Cond) : Type 0 where
  -- the different changes by which it is entered
  pub changes : List Cond
  pub different : AddsNew [] (flat_map entry_change entered) changes
  -- what its exits tell, what its entries tell, and what their changes tell together, each where it comes first
  pub listed : AddsNew [] (flat_map exit_told left ++ flat_map entry_told entered ++ one_of (list_any is_silent entered) changes) conditions

-- the conditions of a mode
abbrev pub AreConditionsOf : Table → ℤ → List Cond → Type 0
AreConditionsOf table mode conditions = AreToldBy (exits table mode) (entries table mode) conditions

abbrev pub candidate_in : ℤ → Cond → Candidate
candidate_in mode c = record { mode = mode; cond = c }

-- those of one mode more
pub record AreMore (table : Table) (mode : ℤ) (front all : List Candidate) : Type 0 where
  pub conditions : List Cond
  pub told : AreConditionsOf table mode conditions
  pub behind : all ≡ front ++ map (candidate_in mode) conditions

-- the candidates of the first modes, so many of them, in order of declaration
abbrev pub AreCandidatesBelow : Table → ℕ → List Candidate → Type 0
AreCandidatesBelow table zero all = all ≡ []
AreCandidatesBelow table (suc n) all = (front : List Candidate) × AreCandidatesBelow table n front × AreMore table (pos n) front all

-- those of all modes of a class with this table
abbrev pub AreInTable : ℕ → Option Table → List Candidate → Type 0
AreInTable modes None all = all ≡ []
AreInTable modes (Some table) all = AreCandidatesBelow table modes all

-- the candidates of a class
abbrev pub AreCandidates : Data → ℕ → List Candidate → Type 0
AreCandidates spec class all = AreInTable (length (modes_of spec class)) (table_of spec class) all

-- the mode is one of the class, and the condition is one over the specification
abbrev pub is_candidate_over : Data → ℕ → Candidate → Bool
is_candidate_over spec class c = is_place (modes_of spec class) c.mode && is_cond_over spec c.cond

-- all of them are
abbrev pub AreOver : Data → ℕ → List Candidate → Type 0
AreOver spec class cs = IsTrue (list_all (is_candidate_over spec class) cs)
