-- A sound slice passes all checks.
use Rattle.std.proofs.Common.{◌≡◌, ℕ, zero, suc, Bool, true, false, cond, not, ◌&&◌, List, [], ◌∷◌, map, get_or, refl, sym, ap, ◌∙◌}
use Rattle.std.specs.Prelude.{nat_eq, Some, slice_get, find}
use Rattle.std.specs.Option.{option_map}
use Rattle.std.specs.List.{list_any}
use Rattle.std.proofs.lemmas.Bool.{false≢true, and_parts, eq-eqb}
use Rattle.std.proofs.lemmas.Option.{slice_get-map, slice_get-get_or}
use Rattle.scr_spec.specs.Data.{Data}
use Rattle.scr_spec.specs.Distinct.{are_distinct}
use Rattle.scr_spec.specs.declared.table.Table.{Table}
use Rattle.scr_spec.specs.Sound.{IsSound}
use Rattle.scr_spec.proofs.Kept.{rules_kept}
use Rattle.scr_depend.specs.Meets.{IsRight, AreRight}
use Rattle.run_step.proofs.Lists.{any_there}

not_any : (b c : Bool) → not b && c ≡ true → b ≡ true → ⊥
not_any b c h e = false≢true (ap not (sym e) ∙ (and_parts (not b) c h).0)

pub found_self : (tables : List Table) → are_distinct nat_eq (map (λ t. t.variable) tables) ≡ true → (k : ℕ) (t : Table) → slice_get tables k ≡ Some t → find (λ u. nat_eq u.variable t.variable) tables ≡ Some t
found_self [] d k t e = cc
found_self (x ∷ xs) d zero t e =
    let same : x ≡ t = cc in
    ap (λ b. cond b (Some x) (find (λ u. nat_eq u.variable t.variable) xs)) (eq-eqb x.variable t.variable (ap (λ (u : Table). u.variable) same)) ∙ ap (λ (u : Table). Some u) same
found_self (x ∷ xs) d (suc k) t e =
    elim (nat_eq x.variable t.variable) as (λ b. nat_eq x.variable t.variable ≡ b → cond b (Some x) (find (λ u. nat_eq u.variable t.variable) xs) ≡ Some t) [
      | true ↦ λ same.
          absurd (not_any (list_any (nat_eq x.variable) (map (λ (u : Table). u.variable) xs)) (are_distinct nat_eq (map (λ (u : Table). u.variable) xs)) d
          (any_there (nat_eq x.variable) (map (λ (u : Table). u.variable) xs) k t.variable (slice_get-map (λ (u : Table). u.variable) xs k ∙ ap (option_map (λ (u : Table). u.variable)) e) same))
      | false ↦ λ other.
          found_self xs (and_parts (not (list_any (nat_eq x.variable) (map (λ (u : Table). u.variable) xs))) (are_distinct nat_eq (map (λ (u : Table). u.variable) xs)) d).1 k t e
    ] refl

pub all_right : (spec : Data) → IsSound spec → ((v : ℕ) → IsRight spec v) → AreRight spec
all_right spec sound right i d inside =
    let t = get_or spec.tables i d in
    right t.variable t (found_self spec.tables (rules_kept spec sound).tabled.one_table i t (slice_get-get_or spec.tables i d inside))
