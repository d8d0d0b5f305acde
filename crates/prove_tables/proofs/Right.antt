-- A table with the verdict yes is as it must be, and so is a specification each of whose tables has it.
use Rattle.std.proofs.Common.{◌≡◌, ℕ, Bool, true, false, not, ◌||◌, List, [], ◌∷◌, map, cond, Some, refl, ap, subst, ◌∙◌, IsTrue}
use Rattle.std.specs.Prelude.{nat_eq, find}
use Rattle.std.specs.List.{All, AllByRecursion as Each, list_all, list_any}
use Rattle.std.proofs.lemmas.Bool.{and_parts, false≢true, eq-eqb}
use Rattle.std.proofs.lemmas.List.Elements.{All-from_recursion}
use Rattle.scr_spec.specs.Data.{Data}
use Rattle.scr_spec.specs.declared.table.Table.{Table}
use Rattle.scr_spec.specs.Distinct.{are_distinct}
use Rattle.scr_spec.specs.Relations.{table_of}
use Rattle.scr_spec.specs.Sound.{IsSound}
use Rattle.scr_spec.proofs.Kept.{rules_kept}
use Rattle.scr_depend.specs.Dependencies.{graph_of}
use Rattle.scr_depend.specs.Orders.{IsOrder}
use Rattle.scr_depend.specs.Meets.{MeetsChecks, AreRight}
use Rattle.prove_goals.proofs.Decide.{goals_decide}
use Rattle.prove_tables.specs.declared.verdict.Verdict.{Verdict}
use Rattle.prove_tables.specs.declared.verdict.Verdict.TheVariants.{Yes, No, Undecided}
use Rattle.prove_tables.specs.Verdicts.{HasVerdict, HaveVerdicts, AreVerdicts}
use Rattle.prove_tables.specs.Outcomes.{is_yes}
use Rattle.prove_tables.proofs.Telling.{told_yes}

-- ---- one table

pub yes_right : (spec : Data) (order : List ℕ) (v limit : ℕ) (table : Table) → IsSound spec → IsOrder (graph_of spec) order → table_of spec v ≡ Some table → HasVerdict spec order v limit Yes
    → MeetsChecks spec table
yes_right spec order v limit table sound ordered found h =
    (goals_decide.decide spec order h.need v table sound ordered h.needed found).0 (told_yes spec order h.need v limit h.needed h)

-- ---- the table of a variable is the one that stands there

-- the table is that of the variable with this number
abbrev pub is_table_at : ℕ → Table → Bool
is_table_at v t = nat_eq t.variable v

-- the table that is found for its variable
abbrev pub IsOwn : List Table → Table → Type 0
IsOwn tables t = find (is_table_at t.variable) tables ≡ Some t

not_some : (b c : Bool) → not (b || c) ≡ true → (b ≡ false) × (not c ≡ true)
not_some true c h = absurd (false≢true h)
not_some false c h = (refl, h)

-- a table of another variable in front makes no difference
own_behind : (first : Table) (tables : List Table) (ts : List Table) → not (list_any (nat_eq first.variable) (map (λ (t : Table). t.variable) ts)) ≡ true → Each (IsOwn tables) ts → Each (IsOwn (first ∷ tables)) ts
own_behind first tables [] h each = tt
own_behind first tables (t ∷ ts) h each =
    let apart = not_some (nat_eq first.variable t.variable) (list_any (nat_eq first.variable) (map (λ (t : Table). t.variable) ts)) h in
    (ap (λ b. cond b (Some first) (find (is_table_at t.variable) tables)) apart.0 ∙ each.0, own_behind first tables ts apart.1 each.1)

pub own_tables : (tables : List Table) → IsTrue (are_distinct nat_eq (map (λ t. t.variable) tables)) → Each (IsOwn tables) tables
own_tables [] h = tt
own_tables (t ∷ ts) h =
    let both = and_parts (not (list_any (nat_eq t.variable) (map (λ (u : Table). u.variable) ts))) (are_distinct nat_eq (map (λ (u : Table). u.variable) ts)) h in
    (ap (λ b. cond b (Some t) (find (is_table_at t.variable) ts)) (eq-eqb t.variable t.variable refl), own_behind t ts ts both.0 (own_tables ts both.1))

-- ---- all tables

only_yes : (v : Verdict) → is_yes v ≡ true → v ≡ Yes
only_yes Yes h = refl
only_yes (No goal w) h = absurd (false≢true h)
only_yes Undecided h = absurd (false≢true h)

module _ (spec : Data) (order : List ℕ) (limit : ℕ) where
  -- each table has the verdict yes
  abbrev HasYes : Table → Type 0
  HasYes t = HasVerdict spec order t.variable limit Yes

  have_yes : (ts : List Table) (vs : List Verdict) → HaveVerdicts spec order limit ts vs → list_all is_yes vs ≡ true → Each HasYes ts
  have_yes [] [] h k = tt
  have_yes [] (v ∷ vs) h k = absurd h
  have_yes (t ∷ ts) [] h k = absurd h
  have_yes (t ∷ ts) (v ∷ vs) h k =
      let both = and_parts (is_yes v) (list_all is_yes vs) k in
      (subst (HasVerdict spec order t.variable limit) (only_yes v both.0) h.0, have_yes ts vs h.1 both.1)

  pub each_yes : (verdicts : List Verdict) → AreVerdicts spec order limit verdicts → list_all is_yes verdicts ≡ true → All HasYes spec.tables
  each_yes verdicts h k = All-from_recursion HasYes spec.tables (have_yes spec.tables verdicts h k)

  module _ (sound : IsSound spec) (ordered : IsOrder (graph_of spec) order) where
    have_right : (ts : List Table) → Each (IsOwn spec.tables) ts → Each HasYes ts → Each (MeetsChecks spec) ts
    have_right [] own each = tt
    have_right (t ∷ ts) own each = (yes_right spec order t.variable limit t sound ordered own.0 each.0, have_right ts own.1 each.1)

    pub all_right : (verdicts : List Verdict) → AreVerdicts spec order limit verdicts → list_all is_yes verdicts ≡ true → AreRight spec
    all_right verdicts h k =
        All-from_recursion (MeetsChecks spec) spec.tables
        (have_right spec.tables (own_tables spec.tables (rules_kept spec sound).tabled.one_table) (have_yes spec.tables verdicts h k))
