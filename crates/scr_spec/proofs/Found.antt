-- What is found is one of the list.
use Rattle.std.proofs.Common.{◌≡◌, ℕ, Bool, true, false, List, [], ◌∷◌, Some, cond, subst, IsTrue}
use Rattle.std.specs.Prelude.{find, nat_eq}
use Rattle.std.specs.List.{list_all}
use Rattle.std.proofs.lemmas.Bool.{and_parts}
use Rattle.scr_spec.specs.declared.table.Table.{Table}
use Rattle.scr_spec.specs.Data.{Data}
use Rattle.scr_spec.specs.Cells.{is_table_over}
use Rattle.scr_spec.specs.Relations.{table_of}
use Rattle.scr_spec.specs.Sound.{IsSound}

-- a test of all members holds at the one that is found
pub all_find : {X : Type 0} (p q : X → Bool) (xs : List X) (x : X) → IsTrue (list_all p xs) → find q xs ≡ Some x → IsTrue (p x)
all_find p q [] x h e = cc
all_find p q (y ∷ ys) x h e =
    let both = and_parts (p y) (list_all p ys) h in
    let step : (b : Bool) → cond b (Some y) (find q ys) ≡ Some x → IsTrue (p x) = λ b.
    elim b as (λ c. cond c (Some y) (find q ys) ≡ Some x → IsTrue (p x)) [
      | true ↦ λ k. let same : y ≡ x = cc in subst (λ z. IsTrue (p z)) same (both.0)
      | false ↦ λ k. all_find p q ys x (both.1) k
    ] in
    step (q y) e

-- the table of a variable is within the limits
pub table_over : (spec : Data) (v : ℕ) (t : Table) → IsSound spec → table_of spec v ≡ Some t → IsTrue (is_table_over spec t)
table_over spec v t sound e = all_find (is_table_over spec) (λ t. nat_eq t.variable v) spec.tables t sound.tables e

pub ruleset found_laws = (all_find, table_over)
