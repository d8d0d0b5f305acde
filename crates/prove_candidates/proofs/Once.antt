-- A class has one list of candidates.
use Rattle.std.proofs.Common.{◌≡◌, ℕ, zero, suc, pos, List, [], ◌++◌, length, map, Option, Some, None, refl, sym, ap₂, subst, ◌∙◌}
use Rattle.std.specs.List.{list_any, flat_map}
use Rattle.scr_spec.specs.Over.{modes_of}
use Rattle.scr_spec.specs.Relations.{table_of}
use Rattle.scr_spec.specs.declared.cond.Cond.{Cond}
use Rattle.scr_spec.specs.declared.table.Primitive.{Primitive}
use Rattle.scr_spec.specs.declared.table.Table.{Table}
use Rattle.prove_candidates.specs.declared.candidate.Candidate.{Candidate}
use Rattle.prove_candidates.specs.New.{AddsNew, no_more, again, first}
use Rattle.prove_candidates.specs.Told.{exits, entries, exit_told, entry_told, is_silent}
use Rattle.prove_candidates.specs.Candidates.{one_of, AreToldBy, candidate_in, AreCandidatesBelow, AreInTable}
use Rattle.prove_candidates.specs.Laws.{OneList}
use Rattle.prove_candidates.proofs.SomeList.{some_list}

one_new : {before given a b : List Cond} → AddsNew before given a → AddsNew before given b → a ≡ b
one_new no_more no_more = refl
one_new (again there h) (again too k) = one_new h k
one_new (again there h) (first absent k) = absurd (absent there)
one_new (first absent h) (again there k) = absurd (absent there)
one_new (first absent h) (first too k) = one_new h k

one_told : (left entered : List Primitive) (a b : List Cond) → AreToldBy left entered a → AreToldBy left entered b → a ≡ b
one_told left entered a b h k =
    let same = one_new h.different k.different in
    one_new
    (subst (λ changes. AddsNew [] (flat_map exit_told left ++ flat_map entry_told entered ++ one_of (list_any is_silent entered) changes) a) same h.listed)
    k.listed

one_below : (table : Table) (n : ℕ) (a b : List Candidate) → AreCandidatesBelow table n a → AreCandidatesBelow table n b → a ≡ b
one_below table zero a b h k = h ∙ sym k
one_below table (suc n) a b (front, below, more) (other, under, rest) =
    more.behind
    ∙ ap₂ (λ cs conditions. cs ++ map (candidate_in (pos n)) conditions) (one_below table n front other below under)
    (one_told (exits table (pos n)) (entries table (pos n)) more.conditions rest.conditions more.told rest.told)
    ∙ sym rest.behind

one_in_table : (modes : ℕ) (o : Option Table) (a b : List Candidate) → AreInTable modes o a → AreInTable modes o b → a ≡ b
one_in_table modes None a b h k = h ∙ sym k
one_in_table modes (Some table) a b h k = one_below table modes a b h k

pub one_list : OneList
one_list = record {
  once = λ spec class a b h k. one_in_table (length (modes_of spec class)) (table_of spec class) a b h k;
  some = some_list;
}
