-- A related pair of the slice is part of one of the whole, so the tables of the slice meet their checks.
use Rattle.std.proofs.Common.{◌≡◌, ◌≢◌, ℕ, ◌+◌, ◌<◌, ℤ, pos, ◌-ℤ◌, true, false, cond, List, [], ◌∷◌, map, length, refl, sym, ap, subst, ◌∙◌, arith}
use Rattle.std.specs.Prelude.{Option, Some, None, slice_get}
use Rattle.std.specs.Option.{option_map_or, option_map}
use Rattle.std.specs.List.{range_with_len}
use Rattle.std.proofs.lemmas.List.{length-map, ext_get_or}
use Rattle.std.proofs.lemmas.List.FromFn.{get_or-map-range_with_len, length-map-range_with_len}
use Rattle.std.proofs.lemmas.Option.{slice_get-map, slice_get_within}
use Rattle.scr_spec.specs.Data.{Data}
use Rattle.dd_formula.specs.declared.domain.Domain.{Domain}
use Rattle.scr_spec.specs.declared.table.Row.{Row}
use Rattle.scr_spec.specs.declared.table.Heading.{Heading}
use Rattle.scr_spec.specs.declared.table.Heading.TheVariants.{Condition, Event, Modes}
use Rattle.scr_spec.specs.declared.table.Table.{Table}
use Rattle.scr_spec.specs.Meaning.{Codes, code_of}
use Rattle.scr_spec.specs.Domains.{domain_of, IsTyped, IsWithin}
use Rattle.scr_spec.specs.Cells.{holds_in}
use Rattle.scr_spec.specs.Relations.{is_monitored, table_of, cell_value, meets_own, meets_relation}
use Rattle.scr_spec.specs.Sound.{IsSound}
use Rattle.scr_depend.specs.Graphs.{is_among}
use Rattle.scr_depend.specs.Reads.{table_reads}
use Rattle.scr_depend.specs.Dependencies.{reads_in, graph_of}
use Rattle.scr_depend.specs.Walks.{Walk, Needs}
use Rattle.scr_depend.specs.Related.{bound_of, IsBounded, IsRelated}
use Rattle.scr_depend.specs.Meets.{IsJudgedAt, CoversAt, MeetsChecks, IsRight}
use Rattle.scr_depend.proofs.Dependent.{whole_graph}
use Rattle.run_step.proofs.Order.{table_variable, monitored_within}
use Rattle.scr_slice.specs.Mentions.{table_mentions, mentions_in}
use Rattle.scr_slice.specs.Renumbered.{row_with, table_with}
use Rattle.scr_slice.specs.Slices.{IsKeepable, IsSlice, number_in, kept_codes}
use Rattle.scr_slice.proofs.Moved.{MovesParts, holds_moved, value_moved, some_holds_moved}
use Rattle.scr_slice.proofs.Numbers.{number_there, number_once, number_code, one_each, table_at, tabled_kept}
use Rattle.scr_slice.proofs.Steps.{number_of, domain_at, monitored_at, dependent_at, bound_at, condition_at, moved_parts, relation_kept, own_kept}
use Rattle.scr_slice.proofs.Read.{table_read}
use Rattle.scr_slice.proofs.Graph.{reads_kept}

pub read_mentioned : (spec : Data) (v w : ℕ) → reads_in spec v w ≡ true → mentions_in spec v w ≡ true
read_mentioned spec v w =
    elim (table_of spec v) as (λ o. option_map_or (table_reads w) o false ≡ true → option_map_or (table_mentions w) o false ≡ true) [
      | None ↦ λ h. h
      | Some t ↦ λ h. table_read w t h
    ]

module _ (spec : Data) (keep : List ℕ) (slice : Data) (is : IsSlice spec keep slice) (can : IsKeepable spec keep) (sound : IsSound spec) (slice_sound : IsSound slice) where
  -- ---- what a kept variable needs

  pub walk_kept : (path : List ℕ) (v w : ℕ) → is_among keep v ≡ true → Walk (graph_of spec) v path w → (is_among keep w ≡ true) × Walk (graph_of slice) (number_in keep v) (map (number_in keep) path) (number_in keep w)
  walk_kept [] v w h walk = (subst (λ (u : ℕ). is_among keep u ≡ true) walk h, ap (number_in keep) walk)
  walk_kept (u ∷ rest) v w h walk =
      let read : reads_in spec v u ≡ true = ((whole_graph.whole spec sound).reading v u).0 walk.0 in
      let there : is_among keep u ≡ true = can.closed v u h (read_mentioned spec v u read) in
      let next = walk_kept rest u w there walk.1 in
      (next.0, (((whole_graph.whole slice slice_sound).reading (number_in keep v) (number_in keep u)).1 (reads_kept spec keep slice is u there can.closed v h ∙ read), next.1))

  pub needs_kept : (v w : ℕ) → is_among keep v ≡ true → Needs (graph_of spec) v w → (is_among keep w ≡ true) × Needs (graph_of slice) (number_in keep v) (number_in keep w)
  needs_kept v w h need =
      let walk = walk_kept need.1.0 v w h need.1.2 in (
        walk.0,
        (
          (whole_graph.whole slice slice_sound).dependents (number_in keep w) ∙ dependent_at spec keep slice is can.in_order w walk.0 ∙ sym ((whole_graph.whole spec sound).dependents w) ∙ need.0,
          (map (number_in keep) need.1.0, subst (λ (n : ℕ). 0 < n) (sym (length-map need.1.0 (number_in keep))) need.1.1, walk.1),
        ),
      )

  module _ (base : Codes) (base_typed : IsTyped spec base) where
    -- the codes of the slice, and those of some state at the dropped variables
    abbrev lifted_code : Codes → ℕ → ℤ
    lifted_code at v = cond (is_among keep v) (code_of at (number_in keep v)) (code_of base v)

    abbrev lifted : Codes → Codes
    lifted at = map (lifted_code at) (range_with_len 0 (length spec.variables))

    lifted_at : (at : Codes) (v : ℕ) → v < length spec.variables → code_of (lifted at) v ≡ lifted_code at v
    lifted_at at v h = let here : 0 + v ≡ v = omega arith in get_or-map-range_with_len (lifted_code at) 0 (length spec.variables) v v (pos 0) h here

    kept_code : (at : Codes) (v : ℕ) → is_among keep v ≡ true → code_of (lifted at) v ≡ code_of at (number_in keep v)
    kept_code at v h = lifted_at at v (can.declared v h) ∙ ap (λ b. cond b (code_of at (number_in keep v)) (code_of base v)) h

    dropped_code : (at : Codes) (v : ℕ) → v < length spec.variables → is_among keep v ≡ false → code_of (lifted at) v ≡ code_of base v
    dropped_code at v inside h = lifted_at at v inside ∙ ap (λ b. cond b (code_of at (number_in keep v)) (code_of base v)) h

    back : (at : Codes) → IsTyped slice at → kept_codes keep (lifted at) ≡ at
    back at typed =
        ext_get_or (pos 0) (kept_codes keep (lifted at)) at (length-map keep (code_of (lifted at)) ∙ sym (one_each spec keep slice is) ∙ sym typed.one_each)
        (λ i within.
        let n = number_of spec keep slice is can.in_order i (subst (λ (k : ℕ). i < k) (length-map keep (code_of (lifted at)) ∙ sym (one_each spec keep slice is)) within) in
        ap (code_of (kept_codes keep (lifted at))) n.number ∙ number_code keep (lifted at) n.old n.kept ∙ kept_code at n.old n.kept ∙ ap (code_of at) (sym n.number))

    inside : (v : ℕ) → is_among keep v ≡ true → number_in keep v < length slice.variables
    inside v h = subst (λ (n : ℕ). number_in keep v < n) (sym (one_each spec keep slice is)) (slice_get_within keep (number_in keep v) v (number_there keep v h))

    lifted_typed : (at : Codes) → IsTyped slice at → IsTyped spec (lifted at)
    lifted_typed at typed = record {
      one_each = length-map-range_with_len (lifted_code at) 0 (length spec.variables);
      within = λ v there.
          elim (is_among keep v) as (λ b. is_among keep v ≡ b → IsWithin (domain_of spec v) (code_of (lifted at) v)) [
            | true ↦ λ h. subst (IsWithin (domain_of spec v)) (sym (kept_code at v h))
                (subst (λ (d : Domain). IsWithin d (code_of at (number_in keep v))) (domain_at spec keep slice is can.in_order v h) (typed.within (number_in keep v) (inside v h)))
            | false ↦ λ h. subst (IsWithin (domain_of spec v)) (sym (dropped_code at v there h)) (base_typed.within v there)
          ] refl;
    }

    -- ---- related pairs

    lifted_relation : (old new : Codes) (w : ℕ) → IsTyped slice old → IsTyped slice new → is_among keep w ≡ true → meets_relation spec w (lifted old) (lifted new) ≡ meets_relation slice (number_in keep w) old new
    lifted_relation old new w a b h =
        sym (relation_kept spec keep slice is can.in_order can.closed (lifted old) (lifted new) w h)
        ∙ ap (λ (s : Codes). meets_relation slice (number_in keep w) s (kept_codes keep (lifted new))) (back old a) ∙ ap (meets_relation slice (number_in keep w) old) (back new b)

    lifted_own : (at : Codes) (w : ℕ) → IsTyped slice at → is_among keep w ≡ true → meets_own spec w (lifted at) ≡ meets_own slice (number_in keep w) at
    lifted_own at w a h = sym (own_kept spec keep slice is can.in_order can.closed (lifted at) w h) ∙ ap (meets_own slice (number_in keep w)) (back at a)

    lifted_others : (old new : Codes) (x : ℕ) → is_among keep x ≡ true
        → ((u : ℕ) → u ≢ number_in keep x → is_monitored slice u ≡ true → code_of new u ≡ code_of old u)
        → (v : ℕ) → v ≢ x → is_monitored spec v ≡ true → code_of (lifted new) v ≡ code_of (lifted old) v
    lifted_others old new x kept others v other m =
        elim (is_among keep v) as (λ b. is_among keep v ≡ b → code_of (lifted new) v ≡ code_of (lifted old) v) [
          | true ↦ λ h.
              kept_code new v h
              ∙ others (number_in keep v) (λ same. other (number_once keep v x h kept same)) (monitored_at spec keep slice is can.in_order v h ∙ m)
              ∙ sym (kept_code old v h)
          | false ↦ λ h. dropped_code new v (monitored_within spec v m) h ∙ sym (dropped_code old v (monitored_within spec v m) h)
        ] refl

    lifted_related : (v : ℕ) (old new : Codes) → is_among keep v ≡ true → IsRelated slice (number_in keep v) old new → IsRelated spec v (lifted old) (lifted new)
    lifted_related v old new h r =
        let x = number_of spec keep slice is can.in_order r.changed (monitored_within slice r.changed r.monitored) in
        let free = r.related.freely in
        let before : code_of (lifted old) x.old ≡ code_of old r.changed = kept_code old x.old x.kept ∙ ap (code_of old) (sym x.number) in
        let after : code_of (lifted new) x.old ≡ code_of new r.changed = kept_code new x.old x.kept ∙ ap (code_of new) (sym x.number) in
        let bounded : IsBounded (bound_of spec x.old) (code_of new r.changed -ℤ code_of old r.changed) =
        subst (λ (o : Option ℤ). IsBounded o (code_of new r.changed -ℤ code_of old r.changed)) (ap (bound_of slice) x.number ∙ bound_at spec keep slice is can.in_order x.old x.kept) r.related.bounded in
        record {
          changed = x.old;
          monitored = sym (monitored_at spec keep slice is can.in_order x.old x.kept) ∙ ap (is_monitored slice) (sym x.number) ∙ r.monitored;
          related = record {
            freely = record {
              old_typed = lifted_typed old free.old_typed;
              new_typed = lifted_typed new free.new_typed;
              differs = λ same. free.differs (sym after ∙ same ∙ before);
              others = lifted_others old new x.old x.kept (λ u other m. free.others u (λ same. other (same ∙ x.number)) m);
              needs = record {
                related = λ w need. let k = needs_kept v w h need in lifted_relation old new w free.old_typed free.new_typed k.0 ∙ free.needs.related (number_in keep w) k.1;
                own = λ w need has.
                    let k = needs_kept v w h need in
                    lifted_own old w free.old_typed k.0 ∙ free.needs.own (number_in keep w) k.1 (condition_at spec keep slice is can.in_order w k.0 ∙ has);
              };
            };
            bounded = subst (λ (z : ℤ). IsBounded (bound_of spec x.old) (z -ℤ code_of (lifted old) x.old)) (sym after)
                (subst (λ (z : ℤ). IsBounded (bound_of spec x.old) (code_of new r.changed -ℤ z)) (sym before) bounded);
          };
        }

    -- ---- checks

    pub record BothTyped (old new : Codes) : Type 0 where
      pub old_typed : IsTyped slice old
      pub new_typed : IsTyped slice new

    judged_typed : (u : ℕ) (old new : Codes) (h : Heading) → IsJudgedAt slice u old new h → BothTyped old new
    judged_typed u old new Condition j = record { old_typed = j.typed; new_typed = subst (IsTyped slice) (sym j.same) j.typed }
    judged_typed u old new Event j = record { old_typed = j.related.freely.old_typed; new_typed = j.related.freely.new_typed }
    judged_typed u old new Modes j = record { old_typed = j.related.freely.old_typed; new_typed = j.related.freely.new_typed }

    lifted_judged : (v : ℕ) (old new : Codes) (h : Heading) → is_among keep v ≡ true → IsJudgedAt slice (number_in keep v) old new h → IsJudgedAt spec v (lifted old) (lifted new) h
    lifted_judged v old new Condition kept j = record { typed = lifted_typed old j.typed; same = ap lifted j.same }
    lifted_judged v old new Event kept j = lifted_related v old new kept j
    lifted_judged v old new Modes kept j = lifted_related v old new kept j

    module _ (t : Table) (found : table_of spec t.variable ≡ Some t) (kept : is_among keep t.variable ≡ true) (m : MeetsChecks spec t) where
      parts : (old new : Codes) → BothTyped old new → MovesParts (number_in keep) spec slice is.constants t (lifted old) (lifted new) old new
      parts old new typed =
          subst (λ (s : Codes). MovesParts (number_in keep) spec slice is.constants t (lifted old) (lifted new) s new) (back old typed.old_typed)
          (subst (λ (s : Codes). MovesParts (number_in keep) spec slice is.constants t (lifted old) (lifted new) (kept_codes keep (lifted old)) s) (back new typed.new_typed)
          (moved_parts spec keep slice is can.in_order can.closed (lifted old) (lifted new) t.variable kept t found))

      holds_at : (old new : Codes) (row column : ℕ) → BothTyped old new → holds_in slice (table_with (number_in keep) t) row column old new ≡ true → holds_in spec t row column (lifted old) (lifted new) ≡ true
      holds_at old new row column typed h = sym (holds_moved (number_in keep) spec slice is.constants t (lifted old) (lifted new) old new row column (parts old new typed)) ∙ h

      covers_at : (h : Heading) → CoversAt spec t h → CoversAt slice (table_with (number_in keep) t) h
      covers_at Condition covers = λ at typed.
          some_holds_moved (number_in keep) spec slice is.constants t (lifted at) (lifted at) at at (parts at at (record { old_typed = typed; new_typed = typed })) ∙ covers (lifted at) (lifted_typed at typed)
      covers_at Event covers = tt
      covers_at Modes covers = tt

      value_within : (old new : Codes) (row column : ℕ) (r : Row) → IsJudgedAt slice (number_in keep t.variable) old new t.heading → slice_get t.rows row ≡ Some r
          → holds_in slice (table_with (number_in keep) t) row column old new ≡ true
          → IsWithin (domain_of slice (number_in keep t.variable)) (cell_value slice (table_with (number_in keep) t) (row_with (number_in keep) r) column t.heading old new)
      value_within old new row column r j there h =
          let typed = judged_typed (number_in keep t.variable) old new t.heading j in
          subst (λ (d : Domain). IsWithin d (cell_value slice (table_with (number_in keep) t) (row_with (number_in keep) r) column t.heading old new)) (sym (domain_at spec keep slice is can.in_order t.variable kept))
          (subst (IsWithin (domain_of spec t.variable)) (sym (value_moved (number_in keep) spec slice is.constants t t.heading (lifted old) (lifted new) old new r column (parts old new typed).values))
          (m.in_range (lifted old) (lifted new) (lifted_judged t.variable old new t.heading kept j) row column r there (holds_at old new row column typed h)))

      within_found : (old new : Codes) (row column : ℕ) (r : Row) (o : Option Row) → IsJudgedAt slice (number_in keep t.variable) old new t.heading → slice_get t.rows row ≡ o
          → option_map (row_with (number_in keep)) o ≡ Some r → holds_in slice (table_with (number_in keep) t) row column old new ≡ true
          → IsWithin (domain_of slice (number_in keep t.variable)) (cell_value slice (table_with (number_in keep) t) r column t.heading old new)
      within_found old new row column r None j there e h = cc
      within_found old new row column r (Some q) j there e h =
          let same : row_with (number_in keep) q ≡ r = cc in
          subst (λ (x : Row). IsWithin (domain_of slice (number_in keep t.variable)) (cell_value slice (table_with (number_in keep) t) x column t.heading old new)) same (value_within old new row column q j there h)

      pub meets_kept : MeetsChecks slice (table_with (number_in keep) t)
      meets_kept = record {
        disjoint = λ old new j row a b before x y.
            let typed = judged_typed (number_in keep t.variable) old new t.heading j in
            m.disjoint (lifted old) (lifted new) (lifted_judged t.variable old new t.heading kept j) row a b before (holds_at old new row a typed x) (holds_at old new row b typed y);
        covers = covers_at t.heading m.covers;
        in_range = λ old new j row column r there h.
            within_found old new row column r (slice_get t.rows row) j refl (sym (slice_get-map (row_with (number_in keep)) t.rows row) ∙ there) h;
      }

    -- each table that the slice has is right
    pub right_kept : ((v : ℕ) → IsRight spec v) → (u : ℕ) → IsRight slice u
    right_kept right u table found =
        let n = tabled_kept spec keep slice is u table found in
        let there : option_map (table_with (number_in keep)) (table_of spec n.old) ≡ Some table = sym (table_at spec keep slice is n.old n.kept) ∙ ap (table_of slice) (sym n.number) ∙ found in
        elim (table_of spec n.old) as (λ o. table_of spec n.old ≡ o → option_map (table_with (number_in keep)) o ≡ Some table → MeetsChecks slice table) [
          | None ↦ λ e k. cc
          | Some t ↦ λ e k.
              let same : table_with (number_in keep) t ≡ table = cc in
              let own : n.old ≡ t.variable = sym (table_variable spec n.old t e) in
              subst (MeetsChecks slice) same
              (meets_kept t (ap (table_of spec) (sym own) ∙ e) (ap (is_among keep) (sym own) ∙ n.kept) (right n.old t e))
        ] refl there
