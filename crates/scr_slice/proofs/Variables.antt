-- The variables of a slice keep the rules on variables.
use Rattle.std.proofs.Common.{◌≡◌, ℕ, zero, suc, ◌<◌, ◌≤◌, Bool, true, ◌&&◌, List, [], ◌∷◌, length, get_or, refl, sym, ap, subst, ◌∙◌, arith, inl, inr}
use Rattle.std.specs.Prelude.{nat_le, Some, slice_get}
use Rattle.std.specs.List.{list_all}
use Rattle.std.proofs.lemmas.Bool.{cases_lt, leb-true, le-leb}
use Rattle.std.proofs.lemmas.Option.{slice_get_within, slice_get-get_or}
use Rattle.scr_spec.specs.Data.{Data}
use Rattle.scr_spec.specs.declared.spec.TypeDef.{TypeDef}
use Rattle.scr_spec.specs.declared.spec.Constant.{Constant}
use Rattle.scr_spec.specs.declared.spec.Variable.{Variable}
use Rattle.scr_spec.specs.Types.{is_narrow, is_type_sound, is_kind_sound, is_bound_sound}
use Rattle.scr_spec.specs.Initial.{is_init_there, is_init_sound, is_kind_of_role}
use Rattle.scr_spec.specs.Sound.{IsDeclared, IsSound}
use Rattle.scr_spec.proofs.Lookup.{all_get}
use Rattle.scr_spec.proofs.Kept.{rules_kept}
use Rattle.scr_slice.specs.Slices.{IsKeepable, IsSlice}
use Rattle.scr_slice.proofs.Numbers.{among_at, variable_at, one_each}
use Rattle.scr_slice.proofs.Steps.{number_of}

-- the rules that speak of types, constants and variables alone
pub record AreVariablesSound (spec : Data) : Type 0 where
  pub few : nat_le (length spec.variables) 128 ≡ true
  pub types : list_all is_type_sound spec.types ≡ true
  pub kinds : list_all (λ x. is_kind_sound spec.types x.kind) spec.variables ≡ true
  pub bounds : list_all (is_bound_sound spec.types) spec.variables ≡ true
  pub declared : IsDeclared spec

all_each : {X : Type 0} (p : X → Bool) (xs : List X) → ((k : ℕ) (x : X) → slice_get xs k ≡ Some x → p x ≡ true) → list_all p xs ≡ true
all_each p [] h = refl
all_each p (x ∷ xs) h = ap (λ b. b && list_all p xs) (h zero x refl) ∙ all_each p xs (λ k y e. h (suc k) y e)

module _ (spec : Data) (keep : List ℕ) (slice : Data) (is : IsSlice spec keep slice) (can : IsKeepable spec keep) where
  pub all_kept : (p : Variable → Bool) → list_all p spec.variables ≡ true → list_all p slice.variables ≡ true
  all_kept p h =
      all_each p slice.variables
      (λ k x e.
      let n = number_of spec keep slice is can.in_order k (slice_get_within slice.variables k x e) in
      all_get p spec.variables n.old x h (sym (variable_at spec keep slice is n.old n.kept) ∙ ap (slice_get slice.variables) (sym n.number) ∙ e))

  rises : (i : ℕ) → i < length keep → i ≤ get_or keep i 0
  rises zero h = omega arith
  rises (suc i) h =
      let before : i ≤ get_or keep i 0 = rises i (omega arith) in
      let step : get_or keep i 0 < get_or keep (suc i) 0 = can.in_order i (suc i) 0 (omega arith) h in
      omega (arith, before, step)

  not_more : (i : ℕ) → i < length keep → i < length spec.variables
  not_more i h =
      let inside : get_or keep i 0 < length spec.variables = can.declared (get_or keep i 0) (among_at keep i (get_or keep i 0) (slice_get-get_or keep i 0 h)) in
      let least : i ≤ get_or keep i 0 = rises i h in
      omega (arith, inside, least)

  pub fewer : length slice.variables ≤ length spec.variables
  fewer =
      let same : length slice.variables ≡ length keep = one_each spec keep slice is in
      elim (cases_lt (length spec.variables) (length keep)) [
        | inl more ↦ let wrong : length spec.variables < length spec.variables = not_more (length spec.variables) more in absurd (omega (arith, wrong))
        | inr few ↦ omega (arith, same)
      ]

  pub variables_kept : IsSound spec → AreVariablesSound slice
  variables_kept sound =
      let declared = (rules_kept spec sound).declared in
      let few : length spec.variables ≤ 128 = leb-true _ _ sound.few in
      let less = fewer in
      record {
        few = le-leb (length slice.variables) 128 (omega (arith, few, less));
        types = ap (list_all is_type_sound) is.types ∙ sound.types;
        kinds = subst (λ (types : List TypeDef). list_all (λ (x : Variable). is_kind_sound types x.kind) slice.variables ≡ true) (sym is.types) (all_kept (λ x. is_kind_sound spec.types x.kind) sound.kinds);
        bounds = subst (λ (types : List TypeDef). list_all (is_bound_sound types) slice.variables ≡ true) (sym is.types) (all_kept (is_bound_sound spec.types) sound.bounds);
        declared = record {
          few_types = ap (λ (types : List TypeDef). nat_le (length types) 64) is.types ∙ declared.few_types;
          few_constants = ap (λ (cs : List Constant). nat_le (length cs) 256) is.constants ∙ declared.few_constants;
          constants = ap (list_all (λ (c : Constant). is_narrow c.value)) is.constants ∙ declared.constants;
          roles = all_kept (λ x. is_kind_of_role x.role x.kind) declared.roles;
          initial = all_kept is_init_there declared.initial;
          initial_within = subst (λ (types : List TypeDef). list_all (is_init_sound types) slice.variables ≡ true) (sym is.types) (all_kept (is_init_sound spec.types) declared.initial_within);
        };
      }
