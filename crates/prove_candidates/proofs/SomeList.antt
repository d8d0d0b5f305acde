-- A class has a list of candidates.
use Rattle.std.proofs.Common.{ℕ, zero, suc, pos, List, [], ◌∷◌, ◌++◌, length, map, Option, Some, None, refl}
use Rattle.std.specs.Prelude.{Contains}
use Rattle.std.specs.List.{list_any, flat_map}
use Rattle.scr_spec.specs.Data.{Data}
use Rattle.scr_spec.specs.Over.{modes_of}
use Rattle.scr_spec.specs.Relations.{table_of}
use Rattle.scr_spec.specs.declared.cond.Cond.{Cond}
use Rattle.scr_spec.specs.declared.table.Primitive.{Primitive}
use Rattle.scr_spec.specs.declared.table.Table.{Table}
use Rattle.prove_candidates.specs.declared.candidate.Candidate.{Candidate}
use Rattle.prove_candidates.specs.New.{AddsNew, no_more, again, first}
use Rattle.prove_candidates.specs.Told.{exits, entries, exit_told, entry_told, entry_change, is_silent}
use Rattle.prove_candidates.specs.Candidates.{one_of, AreToldBy, candidate_in, AreCandidatesBelow, AreInTable, AreCandidates}

-- either it was listed before, or it was not
some_new : (before given : List Cond) → ((after : List Cond) → AddsNew before given after → ⊥) → ⊥
some_new before [] none = none before no_more
some_new before (c ∷ given) none =
    let absent : Contains before c → ⊥ = λ there. some_new before given (λ after h. none after (again there h)) in
    some_new (before ++ c ∷ []) given (λ after h. none after (first absent h))

some_told : (left entered : List Primitive) → ((conditions : List Cond) → AreToldBy left entered conditions → ⊥) → ⊥
some_told left entered none =
    some_new [] (flat_map entry_change entered) (λ changes different.
    some_new [] (flat_map exit_told left ++ flat_map entry_told entered ++ one_of (list_any is_silent entered) changes) (λ conditions listed.
    none conditions (record { changes = changes; different = different; listed = listed })))

some_below : (table : Table) (n : ℕ) → ((all : List Candidate) → AreCandidatesBelow table n all → ⊥) → ⊥
some_below table zero none = none [] refl
some_below table (suc n) none =
    some_below table n (λ front below.
    some_told (exits table (pos n)) (entries table (pos n)) (λ conditions told.
    none (front ++ map (candidate_in (pos n)) conditions) (front, below, record { conditions = conditions; told = told; behind = refl })))

some_in_table : (modes : ℕ) (o : Option Table) → ((all : List Candidate) → AreInTable modes o all → ⊥) → ⊥
some_in_table modes None none = none [] refl
some_in_table modes (Some table) none = some_below table modes none

pub some_list : (spec : Data) (class : ℕ) → ((all : List Candidate) → AreCandidates spec class all → ⊥) → ⊥
some_list spec class none = some_in_table (length (modes_of spec class)) (table_of spec class) none
