-- Initial states and steps of the whole are those of the slice, on the kept variables.
use Rattle.std.proofs.Common.{◌≡◌, ◌≢◌, ℕ, ◌<◌, ℤ, ◌-ℤ◌, true, false, not, List, length, get_or, refl, sym, ap, subst, ◌∙◌, arith, inl, inr}
use Rattle.std.specs.Prelude.{Option, Some, None, slice_get}
use Rattle.std.specs.Option.{option_map_or, option_map}
use Rattle.std.specs.List.{AllPairs}
use Rattle.std.proofs.lemmas.Bool.{cases_lt}
use Rattle.std.proofs.lemmas.List.{length-map}
use Rattle.std.proofs.lemmas.Option.{slice_get_within, slice_get-get_or, get_or_from_slice_get}
use Rattle.scr_spec.specs.Data.{Data}
use Rattle.scr_spec.specs.declared.state.Input.{Input}
use Rattle.scr_spec.specs.declared.spec.Variable.{Variable}
use Rattle.dd_formula.specs.declared.domain.Domain.{Domain}
use Rattle.scr_spec.specs.declared.table.Table.{Table}
use Rattle.scr_spec.specs.Meaning.{Codes, code_of}
use Rattle.scr_spec.specs.Domains.{no_domain, kind_domain, domain_of, IsTyped, IsWithin}
use Rattle.scr_spec.specs.Roles.{is_monitored_role}
use Rattle.scr_spec.specs.Relations.{is_monitored, is_dependent, table_of, is_condition, has_condition_table, some_taken, table_relates, meets_own, meets_relation}
use Rattle.scr_depend.specs.Graphs.{is_among}
use Rattle.scr_depend.specs.Related.{bound_of, IsBounded}
use Rattle.run_step.specs.Runs.{init_of, IsConsistent, IsInitial, IsInput, IsStep}
use Rattle.run_step.proofs.Order.{table_variable, condition_table, dependent_within, monitored_within}
use Rattle.scr_slice.specs.Mentions.{table_mentions}
use Rattle.scr_slice.specs.Renumbered.{table_with}
use Rattle.scr_slice.specs.Slices.{IsClosed, IsSlice, number_in, kept_codes, kept_input}
use Rattle.scr_slice.proofs.Moved.{MovesBoth, MovesParts, moves_parts, relates_moved, some_taken_moved}
use Rattle.scr_slice.proofs.Numbers.{number_there, number_code, among_at, variable_at, one_each, table_at, IsNumber, tabled_kept}

not_rising : (n : ℕ) → n < n → ⊥
not_rising n h = omega (arith, h)

module _ (spec : Data) (keep : List ℕ) (slice : Data) (is : IsSlice spec keep slice) (in_order : AllPairs (λ v w. v < w) keep) where
  -- ---- each number of the slice is that of a kept variable

  apart : (i j v : ℕ) → slice_get keep i ≡ Some v → slice_get keep j ≡ Some v → i < j → ⊥
  apart i j v at_i at_j before =
      not_rising v (subst (λ (x : ℕ). x < v) (get_or_from_slice_get keep i v 0 at_i)
      (subst (λ (y : ℕ). get_or keep i 0 < y) (get_or_from_slice_get keep j v 0 at_j) (in_order i j 0 before (slice_get_within keep j v at_j))))

  place_once : (i j v : ℕ) → slice_get keep i ≡ Some v → slice_get keep j ≡ Some v → i ≡ j
  place_once i j v at_i at_j =
      elim (cases_lt i j) [
        | inl before ↦ absurd (apart i j v at_i at_j before)
        | inr late ↦ elim (cases_lt j i) [
          | inl after ↦ absurd (apart j i v at_j at_i after)
          | inr early ↦ omega arith
        ]
      ]

  pub number_of : (u : ℕ) → u < length slice.variables → IsNumber spec keep slice is u
  number_of u within =
      let there : slice_get keep u ≡ Some (get_or keep u 0) = slice_get-get_or keep u 0 (subst (λ (n : ℕ). u < n) (one_each spec keep slice is) within) in
      let kept : is_among keep (get_or keep u 0) ≡ true = among_at keep u (get_or keep u 0) there in
      record { old = get_or keep u 0; kept = kept; number = place_once u (number_in keep (get_or keep u 0)) (get_or keep u 0) there (number_there keep (get_or keep u 0) kept) }

  -- ---- what the slice says of a kept variable

  pub domain_at : (v : ℕ) → is_among keep v ≡ true → domain_of slice (number_in keep v) ≡ domain_of spec v
  domain_at v h =
      ap (λ types. option_map_or (λ (x : Variable). kind_domain types x.kind) (slice_get slice.variables (number_in keep v)) no_domain) is.types
      ∙ ap (λ (o : Option Variable). option_map_or (λ x. kind_domain spec.types x.kind) o no_domain) (variable_at spec keep slice is v h)

  pub monitored_at : (v : ℕ) → is_among keep v ≡ true → is_monitored slice (number_in keep v) ≡ is_monitored spec v
  monitored_at v h = ap (λ (o : Option Variable). option_map_or (λ x. is_monitored_role x.role) o false) (variable_at spec keep slice is v h)

  pub dependent_at : (v : ℕ) → is_among keep v ≡ true → is_dependent slice (number_in keep v) ≡ is_dependent spec v
  dependent_at v h = ap (λ (o : Option Variable). option_map_or (λ x. not (is_monitored_role x.role)) o false) (variable_at spec keep slice is v h)

  pub init_at : (v : ℕ) → is_among keep v ≡ true → init_of slice (number_in keep v) ≡ init_of spec v
  init_at v h = ap (λ (o : Option Variable). option_map_or (λ x. x.init) o None) (variable_at spec keep slice is v h)

  pub bound_at : (v : ℕ) → is_among keep v ≡ true → bound_of slice (number_in keep v) ≡ bound_of spec v
  bound_at v h = ap (λ (o : Option Variable). option_map_or (λ x. x.bound) o None) (variable_at spec keep slice is v h)

  pub condition_at : (v : ℕ) → is_among keep v ≡ true → has_condition_table slice (number_in keep v) ≡ has_condition_table spec v
  condition_at v h =
      ap (λ (o : Option Table). option_map_or (λ t. is_condition t.heading) o false) (table_at spec keep slice is v h)
      ∙ elim (table_of spec v) as (λ o. option_map_or (λ t. is_condition t.heading) (option_map (table_with (number_in keep)) o) false ≡ option_map_or (λ t. is_condition t.heading) o false) [
        | None ↦ refl
        | Some t ↦ refl
      ]

  -- ---- states

  pub typed_kept : (at : Codes) → IsTyped spec at → ((v : ℕ) → is_among keep v ≡ true → v < length spec.variables) → IsTyped slice (kept_codes keep at)
  typed_kept at typed declared = record {
    one_each = length-map keep (code_of at) ∙ sym (one_each spec keep slice is);
    within = λ u inside.
        let n = number_of u inside in
        subst (λ (w : ℕ). IsWithin (domain_of slice w) (code_of (kept_codes keep at) w)) (sym n.number)
        (subst (λ (d : Domain). IsWithin d (code_of (kept_codes keep at) (number_in keep n.old))) (sym (domain_at n.old n.kept))
        (subst (λ (code : ℤ). IsWithin (domain_of spec n.old) code) (sym (number_code keep at n.old n.kept)) (typed.within n.old (declared n.old n.kept))));
  }

  module _ (closed : IsClosed spec (is_among keep)) where
    both : (old new : Codes) (w : ℕ) → is_among keep w ≡ true → MovesBoth (number_in keep) old new (kept_codes keep old) (kept_codes keep new) w
    both old new w h = record { before = number_code keep old w h; after = number_code keep new w h }

    pub moved_parts : (old new : Codes) (v : ℕ) → is_among keep v ≡ true → (t : Table) → table_of spec v ≡ Some t
        → MovesParts (number_in keep) spec slice is.constants t old new (kept_codes keep old) (kept_codes keep new)
    moved_parts old new v h t found =
        moves_parts (number_in keep) spec slice is.constants t old new (kept_codes keep old) (kept_codes keep new)
        (λ w k. both old new w (closed v w h (ap (λ (o : Option Table). option_map_or (table_mentions w) o false) found ∙ k)))
        (both old new t.variable (subst (λ (u : ℕ). is_among keep u ≡ true) (sym (table_variable spec v t found)) h))

    pub relation_kept : (old new : Codes) (v : ℕ) → is_among keep v ≡ true → meets_relation slice (number_in keep v) (kept_codes keep old) (kept_codes keep new) ≡ meets_relation spec v old new
    relation_kept old new v h =
        ap (λ (o : Option Table). option_map_or (λ t. table_relates slice t (kept_codes keep old) (kept_codes keep new) t.heading) o false) (table_at spec keep slice is v h)
        ∙ elim (table_of spec v) as (λ o. table_of spec v ≡ o → option_map_or (λ t. table_relates slice t (kept_codes keep old) (kept_codes keep new) t.heading) (option_map (table_with (number_in keep)) o) false
        ≡ option_map_or (λ t. table_relates spec t old new t.heading) o false) [
          | None ↦ λ e. refl
          | Some t ↦ λ e. relates_moved (number_in keep) spec slice is.constants t t.heading old new (kept_codes keep old) (kept_codes keep new) (moved_parts old new v h t e)
        ] refl

    pub own_kept : (at : Codes) (v : ℕ) → is_among keep v ≡ true → meets_own slice (number_in keep v) (kept_codes keep at) ≡ meets_own spec v at
    own_kept at v h =
        ap (λ (o : Option Table). option_map_or (λ t. some_taken slice t (kept_codes keep at) (kept_codes keep at)) o false) (table_at spec keep slice is v h)
        ∙ elim (table_of spec v) as (λ o. table_of spec v ≡ o → option_map_or (λ t. some_taken slice t (kept_codes keep at) (kept_codes keep at)) (option_map (table_with (number_in keep)) o) false
        ≡ option_map_or (λ t. some_taken spec t at at) o false) [
          | None ↦ λ e. refl
          | Some t ↦ λ e. some_taken_moved (number_in keep) spec slice is.constants t at at (kept_codes keep at) (kept_codes keep at) (moved_parts at at v h t e)
        ] refl

    module _ (declared : (v : ℕ) → is_among keep v ≡ true → v < length spec.variables) where
      own_each : (at : Codes) → ((v : ℕ) → has_condition_table spec v ≡ true → meets_own spec v at ≡ true) → (u : ℕ) → has_condition_table slice u ≡ true → meets_own slice u (kept_codes keep at) ≡ true
      own_each at own u h =
          let t = condition_table slice u h in
          let n = tabled_kept spec keep slice is u t.0 t.1 in
          subst (λ (w : ℕ). meets_own slice w (kept_codes keep at) ≡ true) (sym n.number)
          (own_kept at n.old n.kept ∙ own n.old (sym (condition_at n.old n.kept) ∙ subst (λ (w : ℕ). has_condition_table slice w ≡ true) n.number h))

      pub consistent_kept : (at : Codes) → IsConsistent spec at → IsConsistent slice (kept_codes keep at)
      consistent_kept at c = record { typed = typed_kept at c.typed declared; own = own_each at c.own }

      init_there : (u : ℕ) (code : ℤ) → init_of slice u ≡ Some code → u < length slice.variables
      init_there u code e =
          elim (slice_get slice.variables u) as (λ o. slice_get slice.variables u ≡ o → option_map_or (λ (x : Variable). x.init) o None ≡ Some code → u < length slice.variables) [
            | None ↦ λ there k. cc
            | Some x ↦ λ there k. slice_get_within slice.variables u x there
          ] refl e

      pub initial_kept : (at : Codes) → IsInitial spec at → IsInitial slice (kept_codes keep at)
      initial_kept at initial = record {
        typed = typed_kept at initial.typed declared;
        written = λ u code e.
            let n = number_of u (init_there u code e) in
            ap (code_of (kept_codes keep at)) n.number ∙ number_code keep at n.old n.kept
            ∙ initial.written n.old code (sym (init_at n.old n.kept) ∙ ap (init_of slice) (sym n.number) ∙ e);
        own = own_each at initial.own;
      }

      -- ---- a step on an input to a kept variable

      module _ (old : Codes) (input : Input) (new : Codes) (kept : is_among keep input.variable ≡ true) where
        same_code : code_of (kept_codes keep old) (number_in keep input.variable) ≡ code_of old input.variable
        same_code = number_code keep old input.variable kept

        pub input_kept : IsInput spec old input → IsInput slice (kept_codes keep old) (kept_input keep input)
        input_kept may_come = record {
          freely = record {
            monitored = monitored_at input.variable kept ∙ may_come.freely.monitored;
            within = subst (λ (d : Domain). IsWithin d input.code) (sym (domain_at input.variable kept)) may_come.freely.within;
            differs = λ same. may_come.freely.differs (same ∙ same_code);
          };
          bounded = subst (λ (o : Option ℤ). IsBounded o (input.code -ℤ code_of (kept_codes keep old) (number_in keep input.variable))) (sym (bound_at input.variable kept))
              (subst (λ (z : ℤ). IsBounded (bound_of spec input.variable) (input.code -ℤ z)) (sym same_code) may_come.bounded);
        }

        others_kept : ((v : ℕ) → v ≢ input.variable → is_monitored spec v ≡ true → code_of new v ≡ code_of old v)
            → (u : ℕ) → u ≢ number_in keep input.variable → is_monitored slice u ≡ true → code_of (kept_codes keep new) u ≡ code_of (kept_codes keep old) u
        others_kept others u other monitored =
            let n = number_of u (monitored_within slice u monitored) in
            ap (code_of (kept_codes keep new)) n.number ∙ number_code keep new n.old n.kept
            ∙ others n.old (λ same. other (n.number ∙ ap (number_in keep) same)) (sym (monitored_at n.old n.kept) ∙ ap (is_monitored slice) (sym n.number) ∙ monitored)
            ∙ sym (number_code keep old n.old n.kept) ∙ ap (code_of (kept_codes keep old)) (sym n.number)

        related_kept : ((v : ℕ) → is_dependent spec v ≡ true → meets_relation spec v old new ≡ true) → (u : ℕ) → is_dependent slice u ≡ true
            → meets_relation slice u (kept_codes keep old) (kept_codes keep new) ≡ true
        related_kept related u depends =
            let n = number_of u (dependent_within slice u depends) in
            ap (λ (w : ℕ). meets_relation slice w (kept_codes keep old) (kept_codes keep new)) n.number
            ∙ relation_kept old new n.old n.kept ∙ related n.old (sym (dependent_at n.old n.kept) ∙ ap (is_dependent slice) (sym n.number) ∙ depends)

        pub step_kept : IsStep spec old input new → IsStep slice (kept_codes keep old) (kept_input keep input) (kept_codes keep new)
        step_kept step = record {
          may_come = input_kept step.may_come;
          follows = record {
            taken = number_code keep new input.variable kept ∙ step.follows.taken;
            others = others_kept step.follows.others;
            typed = typed_kept new step.follows.typed declared;
            related = related_kept step.follows.related;
          };
        }
