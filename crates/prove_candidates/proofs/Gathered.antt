-- The conditions of a mode, and the candidates of a class.
use Rattle.std.proofs.Common.{◌≡◌, ℕ, ◌+◌, ℤ, pos, false, List, [], ◌++◌, map, sym, subst, add-one}
use Rattle.std.specs.List.{flat_map, list_any}
use Rattle.scr_spec.specs.declared.cond.Cond.{Cond}
use Rattle.scr_spec.specs.declared.table.Primitive.{Primitive}
use Rattle.scr_spec.specs.declared.table.Table.{Table}
use Rattle.prove_candidates.specs.declared.candidate.Candidate.{Candidate}
use Rattle.prove_candidates.specs.declared.entry.Entered.{Entered}
use Rattle.prove_candidates.specs.New.{AddsNew}
use Rattle.prove_candidates.specs.Told.{exits, entries, exit_told, entry_told, is_silent}
use Rattle.prove_candidates.specs.Steps.{AddsExits, AddsEntries, AreGathered}
use Rattle.prove_candidates.specs.Candidates.{one_of, candidate_in, AreConditionsOf, AreMore, AreCandidatesBelow}
use Rattle.prove_candidates.proofs.Listing.{adds_append}

-- exits first, then entries
pub gathered : (left entered : List Primitive) (conditions : List Cond) (told : Entered) → AddsExits [] left conditions
    → AddsEntries (record { conditions = conditions; changes = []; silent = false }) entered told → AreGathered left entered told
gathered left entered conditions told h k = record {
  conditions = adds_append (flat_map exit_told left) (flat_map entry_told entered) h.adds k.conditions;
  changes = k.changes;
  silent = k.silent;
}

-- and last that one of the changes is so
pub conditions_told : (table : Table) (mode : ℤ) (told : Entered) (conditions : List Cond) → AreGathered (exits table mode) (entries table mode) told → AddsNew told.conditions (one_of told.silent told.changes) conditions
    → AreConditionsOf table mode conditions
conditions_told table mode told conditions h k = record {
  changes = told.changes;
  different = h.changes;
  listed = adds_append (flat_map exit_told (exits table mode) ++ flat_map entry_told (entries table mode)) (one_of (list_any is_silent (entries table mode)) told.changes) h.conditions
      (subst (λ b. AddsNew told.conditions (one_of b told.changes) conditions) h.silent k);
}

pub are_more : (table : Table) (mode : ℤ) (front all : List Candidate) (conditions : List Cond) → AreConditionsOf table mode conditions → all ≡ front ++ map (candidate_in mode) conditions → AreMore table mode front all
are_more table mode front all conditions h e = record { conditions = conditions; told = h; behind = e }

-- ---- mode by mode

pub below_none : (table : Table) (all : List Candidate) → all ≡ [] → AreCandidatesBelow table 0 all
below_none table all e = e

pub below_next : (table : Table) (n : ℕ) (front all : List Candidate) → AreCandidatesBelow table n front → AreMore table (pos n) front all → AreCandidatesBelow table (n + 1) all
below_next table n front all h k = subst (λ m. AreCandidatesBelow table m all) (sym (add-one n)) (front, h, k)

pub ruleset below_laws = (below_none, below_next)
