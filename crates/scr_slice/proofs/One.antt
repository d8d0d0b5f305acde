-- Names keep one list, and a list has one slice.
use Rattle.std.proofs.Common.{◌≡◌, ℕ, suc, ◌≤◌, true, List, [], ◌∷◌, map, refl, sym, ap, ap₂, ◌∙◌, arith, inl, inr}
use Rattle.std.specs.Prelude.{nat_eq, Some}
use Rattle.std.proofs.lemmas.Bool.{false≢true, eq-eqb, eqb-true, or_left, or_right, or_cases}
use Rattle.scr_spec.specs.Data.{Data}
use Rattle.scr_spec.specs.declared.spec.TypeDef.{TypeDef}
use Rattle.scr_spec.specs.declared.spec.Constant.{Constant}
use Rattle.scr_spec.specs.declared.spec.Variable.{Variable}
use Rattle.scr_spec.specs.declared.table.Table.{Table}
use Rattle.scr_depend.specs.Graphs.{is_among}
use Rattle.scr_depend.proofs.OneNeed.{one_list}
use Rattle.scr_slice.specs.Slices.{AreKept, IsSlice}

pub one_kept : (spec : Data) (names keep other : List ℕ) → AreKept spec names keep → AreKept spec names other → keep ≡ other
one_kept spec names keep other a b = one_list keep other a.in_order b.in_order (a.least (is_among other) b.named b.closed) (b.least (is_among keep) a.named a.closed)

-- ---- slices

one_map : {X : Type 0} (xs ys : List X) → map (λ x. Some x) xs ≡ map (λ x. Some x) ys → xs ≡ ys
one_map [] [] e = refl
one_map [] (y ∷ ys) e = cc
one_map (x ∷ xs) [] e = cc
one_map (x ∷ xs) (y ∷ ys) e =
    let first : x ≡ y = cc in
    let rest : map (λ z. Some z) xs ≡ map (λ z. Some z) ys = cc in
    ap₂ (λ z zs. z ∷ zs) first (one_map xs ys rest)

abbrev made : List ℕ → List TypeDef → List Constant → List Variable → List Table → Data
made name types constants variables tables = record { name = name; types = types; constants = constants; variables = variables; tables = tables }

one_data : (a b : Data) → a.name ≡ b.name → a.types ≡ b.types → a.constants ≡ b.constants → a.variables ≡ b.variables → a.tables ≡ b.tables → a ≡ b
one_data a b name types constants variables tables =
    ap (λ x. made x a.types a.constants a.variables a.tables) name
    ∙ ap (λ x. made b.name x a.constants a.variables a.tables) types
    ∙ ap (λ x. made b.name b.types x a.variables a.tables) constants
    ∙ ap (λ x. made b.name b.types b.constants x a.tables) variables
    ∙ ap (λ x. made b.name b.types b.constants b.variables x) tables

pub one_slice : (spec : Data) (keep : List ℕ) (slice other : Data) → IsSlice spec keep slice → IsSlice spec keep other → slice ≡ other
one_slice spec keep slice other a b =
    one_data slice other (a.name ∙ sym b.name) (a.types ∙ sym b.types) (a.constants ∙ sym b.constants) (one_map slice.variables other.variables (a.variables ∙ sym b.variables)) (a.tables ∙ sym b.tables)
