-- The answer for the whole, from the answers to searches over the slice.
use Rattle.std.proofs.Common.{◌≡◌, ◌⊎◌, ℕ, zero, suc, ◌<◌, ◌≤◌, Bool, true, false, cond, List, [], ◌∷◌, ◌++◌, length, Some, None, refl, sym, ap, subst, ◌∙◌, arith, inl, inr}
use Rattle.std.specs.Prelude.{nat_lt}
use Rattle.std.proofs.lemmas.Bool.{both_ways, lt-ltb}
use Rattle.scr_spec.specs.Data.{Data}
use Rattle.scr_spec.specs.declared.cond.Cond.{Cond}
use Rattle.scr_spec.specs.declared.state.Input.{Input}
use Rattle.scr_spec.specs.Over.{is_cond_over}
use Rattle.scr_depend.specs.Graphs.{is_among}
use Rattle.scr_depend.specs.declared.order.Order.{Order}
use Rattle.scr_depend.specs.Passes.{PassesChecks}
use Rattle.run_step.specs.Runs.{EndsIn}
use Rattle.run_step.proofs.Runs.{ends_next}
use Rattle.run_step.proofs.Begin.{initial_state}
use Rattle.scr_slice.specs.Slices.{HoldsEach, IsKeepable, IsSlice, kept_inputs}
use Rattle.scr_slice.proofs.One.{one_kept, one_slice}
use Rattle.scr_slice.proofs.Existence.{some_kept, some_slice}
use Rattle.scr_slice.proofs.SliceLaws.{kept_is_keepable, slice_meets_checks}
use Rattle.run_reach.specs.declared.answer.Answer.{Answer}
use Rattle.run_reach.specs.declared.answer.Answer.TheVariants.{Never, Open, Least}
use Rattle.run_reach.specs.Scripts.{IsLesser, ComesBefore, IsWayTo}
use Rattle.run_reach.specs.Answers.{Sought, Meets, IsLeast, IsAnswer}
use Rattle.run_reach.specs.Targets.{broken_by}
use Rattle.run_reach.proofs.Order.{before_itself, before_on, before_total, before_both, lesser_last}
use Rattle.run_reach.proofs.Ways.{way_one, no_fewer}
use Rattle.run_reach.proofs.Existing as search
use Rattle.run_reach.specs.Inputs.{inputs_of}
use Rattle.run_broken.specs.Slices.{mentioned, IsSliceFor, whole_inputs}
use Rattle.run_broken.specs.Breaks.{IsFullAt, IsBreak, broken_still}
use Rattle.run_broken.specs.Orders.{is_before}
use Rattle.run_broken.specs.Dropped.{first_dropped, IsFirstOutside}
use Rattle.run_broken.specs.Laws.{OneBreak}
use Rattle.run_broken.specs.Joins.{whole_answer, sooner, joined}
use Rattle.run_broken.proofs.Projected.{AllKept, AllWithin, whole_kept, whole_back, ends_inputs}
use Rattle.run_broken.proofs.Ordered.{kept_before, before_true, before_false}
use Rattle.run_broken.proofs.Truths.{names_declared, keepable}
use Rattle.run_broken.proofs.Dropped.{input_at, ends_same, all_kept, IsOutside, outside, none_outside}
use Rattle.run_broken.proofs.Meeting.{part, down_one, up_one, up_two, up_still, ByOutside, down_two}

module _ (spec : Data) (keep : List ℕ) (slice : Data) (is : IsSlice spec keep slice) (can : IsKeepable spec keep) where
  -- ---- scripts of the slice

  way_within : (most : ℕ) (way : List Input) → IsWayTo slice most way → AllWithin spec keep slice is can way
  way_within zero way h = subst (AllWithin spec keep slice is can) (sym h) tt
  way_within (suc most) way h = ends_inputs spec keep slice is can way h.2.way.at h.2.way.ends

  meets_within : (sought : Sought) (script : List Input) → Meets slice sought script → AllWithin spec keep slice is can script
  meets_within sought script (inl m) = subst (AllWithin spec keep slice is can) (sym m.none) tt
  meets_within sought script (inr m) =
      ends_inputs spec keep slice is can script m.new (subst (λ (s : List Input). EndsIn slice s m.new) (sym m.whole) (ends_next slice m.front m.old m.last m.new m.ends m.step))

  before_down : (other script : List Input) → AllWithin spec keep slice is can script → ComesBefore other (whole_inputs keep script) → ComesBefore (kept_inputs keep other) script
  before_down other script within h =
      subst (ComesBefore (kept_inputs keep other)) (whole_back spec keep slice is can script within)
      (kept_before keep can.in_order other (whole_inputs keep script) (whole_kept spec keep slice is can script within) h)

  both_down : (a b : List Input) → AllWithin spec keep slice is can a → AllWithin spec keep slice is can b → ComesBefore (whole_inputs keep a) (whole_inputs keep b) → ComesBefore a b
  both_down a b in_a in_b h = subst (λ (s : List Input). ComesBefore s b) (whole_back spec keep slice is can a in_a) (before_down (whole_inputs keep a) b in_b h)

  behind_up : (way other : List Input) → AllWithin spec keep slice is can way → ComesBefore way (kept_inputs keep other) → ComesBefore (whole_inputs keep way) other
  behind_up way other within h =
      elim (before_total (whole_inputs keep way) other) [
        | inl less ↦ less
        | inr rest ↦
            elim rest [
              | inl same ↦
                  let e : way ≡ kept_inputs keep other = sym (whole_back spec keep slice is can way within) ∙ ap (kept_inputs keep) same in
                  absurd (before_itself way (subst (ComesBefore way) (sym e) h))
              | inr more ↦ absurd (before_itself way (before_on way (kept_inputs keep other) way h (before_down other way within more)))
            ]
      ]

-- ---- the way to the state for which there is no room

module _ (spec : Data) (c : Cond) (keep : List ℕ) (slice : Data) (need : IsSliceFor spec c keep slice) (most : ℕ) where
  pub full_at : (way : List Input) → IsWayTo slice most way → IsFullAt spec c most (whole_inputs keep way)
  full_at way h = record { keep = keep; slice = slice; needed = need; way = way; is_way = h; whole = refl }

  pub own_way : (script : List Input) → IsFullAt spec c most script → (way : List Input) × IsWayTo slice most way × (script ≡ whole_inputs keep way)
  own_way script f =
      let e : f.keep ≡ keep = one_kept spec (mentioned spec c) f.keep keep f.needed.kept need.kept in
      let s : f.slice ≡ slice = one_slice spec keep f.slice slice (subst (λ (k : List ℕ). IsSlice spec k f.slice) e f.needed.sliced) need.sliced in (
        f.way,
        subst (λ (d : Data). IsWayTo d most f.way) s f.is_way,
        f.whole ∙ ap (λ (k : List ℕ). whole_inputs k f.way) e,
      )

module _ (spec : Data) (two : Bool) (c : Cond) (keep : List ℕ) (slice : Data) (need : IsSliceFor spec c keep slice) (can : IsKeepable spec keep) (most : ℕ) where
  -- the kept inputs come behind the way to the state for which there is no room
  abbrev pub Late : List Input → Type 0
  Late other = (way : List Input) × IsWayTo slice most way × ComesBefore way (kept_inputs keep other)

  module _ (sought : Sought) (down : (other : List Input) → Meets spec (broken_by spec two c) other → Meets slice sought (kept_inputs keep other) ⊎ Late other)
      (up : (script : List Input) → Meets slice sought script → Meets spec (broken_by spec two c) (whole_inputs keep script)) where
    open_late : (way : List Input) → IsAnswer slice sought most (Open way) → (other : List Input) → Meets spec (broken_by spec two c) other → ComesBefore (whole_inputs keep way) other
    open_late way h other m =
        behind_up spec keep slice need.sliced can way other (way_within spec keep slice need.sliced can most way h.way)
        (elim (down other m) [
          | inl met ↦ (no_fewer slice sought most way (kept_inputs keep other) h met).0
          | inr late ↦ subst (λ (w : List Input). ComesBefore w (kept_inputs keep other)) (way_one slice most late.0 way late.1 h.way) late.2
        ])

    pub room_least : (script : List Input) → IsAnswer slice sought most (Least script) → (way : List Input) → IsFullAt spec c most way → ComesBefore way (whole_inputs keep script) → ⊥
    room_least script h way f less =
        let o = own_way spec c keep slice need most way f in
        h.1 o.0 o.1
        (both_down spec keep slice need.sliced can o.0 script (way_within spec keep slice need.sliced can most o.0 o.1) (meets_within spec keep slice need.sliced can sought script h.0.meets)
        (subst (λ (w : List Input). ComesBefore w (whole_inputs keep script)) o.2 less))

    pub plain : (a : Answer) → IsAnswer slice sought most a → IsBreak spec two c most (whole_answer keep a)
    plain Never h = (
      λ other m. elim (down other m) [ inl met ↦ h.0 (kept_inputs keep other) met | inr late ↦ h.1 late.0 late.1 ],
      λ way f. let o = own_way spec c keep slice need most way f in h.1 o.0 o.1,
    )
    plain (Open way) h = record { full = full_at spec c keep slice need most way h.way; behind = open_late way h }
    plain (Least script) h = (
      record {
        meets = up script h.0.meets;
        none_before = λ other m less.
            let before = before_down spec keep slice need.sliced can other script (meets_within spec keep slice need.sliced can sought script h.0.meets) less in
            elim (down other m) [
              | inl met ↦ h.0.none_before (kept_inputs keep other) met before
              | inr late ↦ h.1 late.0 late.1 (before_on late.0 (kept_inputs keep other) script late.2 before)
            ];
      },
      room_least script h,
    )

-- ---- over a specification that passes

module _ (spec : Data) (order : Order) (passes : PassesChecks spec order) (c : Cond) (over : is_cond_over spec c ≡ true) (keep : List ℕ) (slice : Data) (need : IsSliceFor spec c keep slice) (own_order : Order)
    (own : PassesChecks slice own_order) (most : ℕ) where
  abbrev can : IsKeepable spec keep
  can = keepable spec c keep slice need passes.sound

  abbrev own_part : Cond
  own_part = part spec order passes c over keep slice need own_order own

  abbrev Aside : List Input → Type 0
  Aside other = ByOutside spec order passes c over keep slice need own_order own other

  pub one_state : (a : Answer) → IsAnswer slice (broken_by slice false own_part) most a → IsBreak spec false c most (whole_answer keep a)
  one_state a h =
      plain spec false c keep slice need can most (broken_by slice false own_part) (λ other m. inl (down_one spec order passes c over keep slice need own_order own other m))
      (up_one spec order passes c over keep slice need own_order own) a h

  -- where what other inputs meet is late
  late_states : ((other : List Input) → Aside other → Late spec true c keep slice need can most other) → (a : Answer) → IsAnswer slice (broken_by slice true own_part) most a
      → IsBreak spec true c most (whole_answer keep a)
  late_states late a h =
      plain spec true c keep slice need can most (broken_by slice true own_part)
      (λ other m.
      elim (down_two spec order passes c over keep slice need own_order own other m) [
        | inl met ↦ inl met
        | inr aside ↦ inr (late other aside)
      ])
      (up_two spec order passes c over keep slice need own_order own) a h

  -- ---- where no other input may come

  aside_none : (f : IsFirstOutside spec keep None) (other : List Input) → Aside other → ⊥
  aside_none f other aside =
      let none = none_outside spec keep None f refl in
      let kept = all_kept spec keep order passes f.first f.initial none aside.front aside.old aside.ends in
      let same = ends_same spec keep order passes f.first f.initial aside.front aside.old aside.last.variable kept aside.ends aside.may_come.freely.monitored aside.dropped in
      both_ways (is_among keep aside.last.variable) aside.dropped (none aside.last (input_at spec aside.old f.first aside.last same aside.may_come))

  pub none_aside : IsFirstOutside spec keep None → (a : Answer) → IsAnswer slice (broken_by slice true own_part) most a → IsBreak spec true c most (whole_answer keep a)
  none_aside f a h = late_states (λ other aside. absurd (aside_none f other aside)) a h

  -- ---- where one may come behind each script of kept inputs

  abbrev Still : Sought
  Still = broken_still slice own_part

  module _ (x : Input) (f : IsFirstOutside spec keep (Some x)) where
    out : IsOutside spec keep f.first x
    out = outside spec keep (Some x) f x refl

    -- what breaks by it is the least of what breaks by others
    none_sooner : (script : List Input) → IsAnswer slice Still most (Least script) → (other : List Input) → Aside other → ComesBefore other (whole_inputs keep script ++ x ∷ []) → ⊥
    none_sooner script h other aside less =
        let whole = whole_inputs keep script in
        let within = meets_within spec keep slice need.sliced can Still script h.0.meets in
        let mine : ComesBefore (aside.front ++ aside.last ∷ []) (whole ++ x ∷ []) = subst (λ (s : List Input). ComesBefore s (whole ++ x ∷ [])) aside.whole less in
        elim (before_total aside.front whole) [
          | inl before ↦ h.0.none_before (kept_inputs keep aside.front) aside.met (before_down spec keep slice need.sliced can aside.front script within before)
          | inr rest ↦
              elim rest [
                | inl same ↦
                    let lesser : IsLesser aside.last x = lesser_last aside.front whole aside.last x (inl (sym same)) mine in
                    let kept : AllKept keep aside.front = subst (AllKept keep) (sym same) (whole_kept spec keep slice need.sliced can script within) in
                    let still = ends_same spec keep order passes f.first f.initial aside.front aside.old aside.last.variable kept aside.ends aside.may_come.freely.monitored aside.dropped in
                    out.least aside.last (input_at spec aside.old f.first aside.last still aside.may_come) aside.dropped lesser
                | inr later ↦
                    let end = whole ++ x ∷ [] in
                    before_itself end (before_on end (aside.front ++ aside.last ∷ []) end (before_both whole aside.front x aside.last later) mine)
              ]
        ]

    by_aside : (script : List Input) → IsAnswer slice Still most (Least script) → Meets spec (broken_by spec true c) (whole_inputs keep script ++ x ∷ [])
    by_aside script h = up_still spec order passes c over keep slice need own_order own f.first f.initial x out script h.0.meets

    down : (other : List Input) → Meets spec (broken_by spec true c) other → Meets slice (broken_by slice true own_part) (kept_inputs keep other) ⊎ Aside other
    down = down_two spec order passes c over keep slice need own_order own

    module _ (script : List Input) (h : IsAnswer slice Still most (Least script)) where
      abbrev end : List Input
      end = whole_inputs keep script ++ x ∷ []

      with_never : IsAnswer slice (broken_by slice true own_part) most Never → IsBreak spec true c most (Least end)
      with_never g = (
        record {
          meets = by_aside script h;
          none_before = λ other m less. elim (down other m) [ inl met ↦ g.0 (kept_inputs keep other) met | inr aside ↦ none_sooner script h other aside less ];
        },
        λ way full less. let o = own_way spec c keep slice need most way full in g.1 o.0 o.1,
      )

      -- what is met by kept inputs comes behind the way
      kept_behind : (way : List Input) → IsAnswer slice (broken_by slice true own_part) most (Open way) → (other : List Input) → Meets slice (broken_by slice true own_part) (kept_inputs keep other)
          → ComesBefore (whole_inputs keep way) other
      kept_behind way g other met =
          behind_up spec keep slice need.sliced can way other (way_within spec keep slice need.sliced can most way g.way) (no_fewer slice (broken_by slice true own_part) most way (kept_inputs keep other) g met).0

      -- what comes not before the end comes behind what comes before it
      then_behind : (a other : List Input) → ComesBefore a end → (ComesBefore other end → ⊥) → ComesBefore a other
      then_behind a other before late =
          elim (before_total end other) [
            | inl less ↦ before_on a end other before less
            | inr rest ↦ elim rest [ inl same ↦ subst (ComesBefore a) same before | inr sooner_one ↦ absurd (late sooner_one) ]
          ]

      open_first : (way : List Input) → IsAnswer slice (broken_by slice true own_part) most (Open way) → ComesBefore (whole_inputs keep way) end → IsBreak spec true c most (Open (whole_inputs keep way))
      open_first way g before = record {
        full = full_at spec c keep slice need most way g.way;
        behind = λ other m.
            elim (down other m) [
              | inl met ↦ kept_behind way g other met
              | inr aside ↦ then_behind (whole_inputs keep way) other before (none_sooner script h other aside)
            ];
      }

      end_first : (way : List Input) → IsAnswer slice (broken_by slice true own_part) most (Open way) → (ComesBefore (whole_inputs keep way) end → ⊥) → IsBreak spec true c most (Least end)
      end_first way g late = (
        record {
          meets = by_aside script h;
          none_before = λ other m less.
              elim (down other m) [
                | inl met ↦ late (before_on (whole_inputs keep way) other end (kept_behind way g other met) less)
                | inr aside ↦ none_sooner script h other aside less
              ];
        },
        λ v full less.
            let o = own_way spec c keep slice need most v full in
            late (subst (λ (w : List Input). ComesBefore (whole_inputs keep w) end) (way_one slice most o.0 way o.1 g.way) (subst (λ (w : List Input). ComesBefore w end) o.2 less)),
      )

      with_open : (way : List Input) → IsAnswer slice (broken_by slice true own_part) most (Open way) → IsBreak spec true c most (sooner (Open (whole_inputs keep way)) end)
      with_open way g =
          let first = whole_inputs keep way in
          elim (is_before first end) as (λ b. is_before first end ≡ b → IsBreak spec true c most (cond b (Open first) (Least end))) [
            | true ↦ λ e. open_first way g (before_true first end e)
            | false ↦ λ e. end_first way g (before_false first end e)
          ] refl

      abbrev Least_is : List Input → Type 0
      Least_is other = IsAnswer slice (broken_by slice true own_part) most (Least other)

      least_within : (other : List Input) → Least_is other → AllWithin spec keep slice need.sliced can other
      least_within other g = meets_within spec keep slice need.sliced can (broken_by slice true own_part) other g.0.meets

      kept_late : (other : List Input) → Least_is other → (third : List Input) → Meets slice (broken_by slice true own_part) (kept_inputs keep third) → ComesBefore third (whole_inputs keep other) → ⊥
      kept_late other g third met less = g.0.none_before (kept_inputs keep third) met (before_down spec keep slice need.sliced can third other (least_within other g) less)

      way_late : (other : List Input) → Least_is other → (way : List Input) → IsFullAt spec c most way → ComesBefore way (whole_inputs keep other) → ⊥
      way_late other g way full less =
          let o = own_way spec c keep slice need most way full in
          g.1 o.0 o.1
          (both_down spec keep slice need.sliced can o.0 other (way_within spec keep slice need.sliced can most o.0 o.1) (least_within other g)
          (subst (λ (w : List Input). ComesBefore w (whole_inputs keep other)) o.2 less))

      other_first : (other : List Input) → Least_is other → ComesBefore (whole_inputs keep other) end → IsBreak spec true c most (Least (whole_inputs keep other))
      other_first other g before = (
        record {
          meets = up_two spec order passes c over keep slice need own_order own other g.0.meets;
          none_before = λ third m less.
              elim (down third m) [
                | inl met ↦ kept_late other g third met less
                | inr aside ↦ none_sooner script h third aside (before_on third (whole_inputs keep other) end less before)
              ];
        },
        way_late other g,
      )

      -- what comes before the end comes before what does not
      not_before : (a third : List Input) → (ComesBefore a end → ⊥) → ComesBefore third end → ComesBefore third a
      not_before a third late less =
          elim (before_total a end) [
            | inl before ↦ absurd (late before)
            | inr rest ↦ elim rest [ inl same ↦ subst (ComesBefore third) (sym same) less | inr more ↦ before_on third end a less more ]
          ]

      other_late : (other : List Input) → Least_is other → (ComesBefore (whole_inputs keep other) end → ⊥) → IsBreak spec true c most (Least end)
      other_late other g late = (
        record {
          meets = by_aside script h;
          none_before = λ third m less.
              elim (down third m) [
                | inl met ↦ kept_late other g third met (not_before (whole_inputs keep other) third late less)
                | inr aside ↦ none_sooner script h third aside less
              ];
        },
        λ way full less. way_late other g way full (not_before (whole_inputs keep other) way late less),
      )

      with_least : (other : List Input) → Least_is other → IsBreak spec true c most (sooner (Least (whole_inputs keep other)) end)
      with_least other g =
          let first = whole_inputs keep other in
          elim (is_before first end) as (λ b. is_before first end ≡ b → IsBreak spec true c most (cond b (Least first) (Least end))) [
            | true ↦ λ e. other_first other g (before_true first end e)
            | false ↦ λ e. other_late other g (before_false first end e)
          ] refl

    some_aside : (a : Answer) → IsAnswer slice (broken_by slice true own_part) most a → (b : Answer) → IsAnswer slice Still most b → IsBreak spec true c most (joined x (whole_answer keep a) (whole_answer keep b))
    some_aside a g Never h = late_states (λ other aside. absurd (h.0 (kept_inputs keep aside.front) aside.met)) a g
    some_aside a g (Open way) h =
        late_states
        (λ other aside. (way, h.way, subst (ComesBefore way) (sym aside.same) (no_fewer slice Still most way (kept_inputs keep aside.front) h aside.met).0)) a g
    some_aside Never g (Least script) h = with_never script h g
    some_aside (Open way) g (Least script) h = with_open script h way g
    some_aside (Least other) g (Least script) h = with_least script h other g

  pub aside : (x : Input) → IsFirstOutside spec keep (Some x) → (a : Answer) → IsAnswer slice (broken_by slice true own_part) most a → (b : Answer) → IsAnswer slice Still most b
      → IsBreak spec true c most (joined x (whole_answer keep a) (whole_answer keep b))
  aside x f a g b h = some_aside x f a g b h

-- ---- an answer

module _ (spec : Data) (order : Order) (passes : PassesChecks spec order) (c : Cond) (over : is_cond_over spec c ≡ true) (keep : List ℕ) (slice : Data) (need : IsSliceFor spec c keep slice) (own_order : Order)
    (own : PassesChecks slice own_order) (most : ℕ) (some : 0 < most) where
  abbrev piece : Cond
  piece = part spec order passes c over keep slice need own_order own

  some_break : (two : Bool) → ((a : Answer) → IsBreak spec two c most a → ⊥) → ⊥
  some_break false none =
      let a = search.one_answer.some slice (broken_by slice false piece) most own_order own some in
      none (whole_answer keep a.0) (one_state spec order passes c over keep slice need own_order own most a.0 a.1)
  some_break true none =
      let a = search.one_answer.some slice (broken_by slice true piece) most own_order own some in
      let b = search.one_answer.some slice (broken_still slice piece) most own_order own some in
      let first = initial_state spec order passes in
      let found = first_dropped keep (inputs_of spec first.0) in
      elim found as (λ o. found ≡ o → ⊥) [
        | None ↦ λ e.
            let f : IsFirstOutside spec keep None = record { first = first.0; initial = first.1; found = sym e } in
            none (whole_answer keep a.0) (none_aside spec order passes c over keep slice need own_order own most f a.0 a.1)
        | Some x ↦ λ e.
            let f : IsFirstOutside spec keep (Some x) = record { first = first.0; initial = first.1; found = sym e } in
            none (joined x (whole_answer keep a.0) (whole_answer keep b.0)) (aside spec order passes c over keep slice need own_order own most x f a.0 a.1 b.0 b.1)
      ] refl

-- ---- one answer

module _ (spec : Data) (two : Bool) (c : Cond) (most : ℕ) where
  full_one : (a b : List Input) → IsFullAt spec c most a → IsFullAt spec c most b → a ≡ b
  full_one a b f g =
      let o = own_way spec c g.keep g.slice g.needed most a f in
      o.2 ∙ ap (whole_inputs g.keep) (way_one g.slice most o.0 g.way o.1 g.is_way) ∙ sym g.whole

  least_one : (a b : List Input) → IsLeast spec (broken_by spec two c) a → IsLeast spec (broken_by spec two c) b → a ≡ b
  least_one a b h g =
      elim (before_total a b) [
        | inl less ↦ absurd (g.none_before a h.meets less)
        | inr rest ↦ elim rest [ inl same ↦ same | inr more ↦ absurd (h.none_before b g.meets more) ]
      ]

  pub one : (a b : Answer) → IsBreak spec two c most a → IsBreak spec two c most b → a ≡ b
  one Never Never h g = refl
  one Never (Open v) h g = absurd (h.1 v g.full)
  one Never (Least t) h g = absurd (h.0 t g.0.meets)
  one (Open w) Never h g = absurd (g.1 w h.full)
  one (Open w) (Open v) h g = ap (λ (r : List Input). Open r) (full_one w v h.full g.full)
  one (Open w) (Least t) h g = absurd (g.1 w h.full (h.behind t g.0.meets))
  one (Least s) Never h g = absurd (g.0 s h.0.meets)
  one (Least s) (Open v) h g = absurd (h.1 v g.full (g.behind s h.0.meets))
  one (Least s) (Least t) h g = ap (λ (r : List Input). Least r) (least_one s t h.0 g.0)

  pub fewest : (way script : List Input) → IsBreak spec two c most (Open way) → Meets spec (broken_by spec two c) script → length way ≤ length script
  fewest way script h m =
      elim (h.behind script m) [
        | inl less ↦ omega (arith, less)
        | inr same ↦ let l = same.0 in omega (arith, l)
      ]

pub one_break : OneBreak
one_break = record {
  some = λ spec two c most order passes over some none.
      let declared : HoldsEach (mentioned spec c) (λ v. nat_lt v (length spec.variables)) = λ v h. lt-ltb v (length spec.variables) (names_declared spec c v h) in
      some_kept spec (mentioned spec c) passes.sound declared
      (λ keep kept.
      let can = kept_is_keepable.keepable spec (mentioned spec c) keep passes.sound declared kept in
      let slice = some_slice spec keep can in
      let need : IsSliceFor spec c keep slice.0 = record { kept = kept; sliced = slice.1 } in
      let own = slice_meets_checks.passes spec slice.0 order keep passes can slice.1 in
      some_break spec order passes c over keep slice.0 need own.0 own.1 most some two none);
  one = λ spec two c most a b h g. one spec two c most a b h g;
  no_fewer = λ spec two c most way script h m. fewest spec two c most way script h m;
}
