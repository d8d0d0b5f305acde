-- Exactly one state is initial.
use Rattle.std.proofs.Common.{◌≡◌, ℕ, zero, suc, ◌+◌, ◌<◌, ◌≤◌, ℤ, pos, true, false, List, length, get_or, set, refl, sym, ap, subst, ◌∙◌, arith, inl, inr}
use Rattle.std.specs.Prelude.{Some}
use Rattle.std.proofs.lemmas.Bool.{cases_lt, cases_Bool, both_ways}
use Rattle.std.proofs.lemmas.List.{get_or-set_same, ext_get_or}
use Rattle.std.proofs.lemmas.Option.{none-some}
use Rattle.scr_spec.specs.Data.{Data}
use Rattle.scr_spec.specs.declared.table.Heading.TheVariants.{Condition}
use Rattle.scr_spec.specs.declared.table.Table.{Table}
use Rattle.scr_spec.specs.Meaning.{Codes, code_of}
use Rattle.scr_spec.specs.Domains.{IsTyped, IsWithin, domain_of}
use Rattle.scr_spec.specs.Cells.{looked_at}
use Rattle.scr_spec.specs.Relations.{table_of, has_condition_table, meets_own}
use Rattle.scr_spec.specs.Sound.{IsSound}
use Rattle.scr_depend.specs.declared.order.Order.{Order}
use Rattle.scr_depend.specs.Reads.{table_reads}
use Rattle.scr_depend.specs.Meets.{AreRight, IsJudgedAt, MeetsChecks}
use Rattle.run_step.specs.Runs.{init_of, IsInitial}
use Rattle.run_step.specs.Given.{Gives, GivesOrKeeps}
use Rattle.run_step.specs.Settled.{IsBegun, start_codes}
use Rattle.scr_depend.specs.Passes.{PassesChecks}
use Rattle.run_step.proofs.Local.{Agree}
use Rattle.run_step.proofs.Cells.{IsJudged, given_or_kept, taken_gives, gives_taken, gives_looked, covered, code_once, code_within, code_local, gives_local}
use Rattle.run_step.proofs.Apart.{rows_apart}
use Rattle.run_step.proofs.Order.{Placed, placed, read_before, one_of, dependent_within, table_variable, tabled, condition_table, condition_at, monitored_init, event_init, condition_init, table_depends, checked}
use Rattle.run_step.proofs.Starts.{begun_first}
use Rattle.run_step.proofs.Settle.{own_at, reads_at, set_typed, set_other}

-- a condition table is judged at every typed state
judged_state : (spec : Data) (t : Table) (at : Codes) → t.heading ≡ Condition → IsTyped spec at → IsJudged spec t at at
judged_state spec t at e typed =
    let one : IsJudgedAt spec t.variable at at Condition = record { typed = typed; same = refl } in
    subst (λ h. IsJudgedAt spec t.variable (looked_at h at at) at h) (sym e) one

-- what a state says of a variable with its own value
own_gives : (spec : Data) (v : ℕ) (t : Table) (at : Codes) → table_of spec v ≡ Some t → meets_own spec v at ≡ true → GivesOrKeeps spec t at at (code_of at v)
own_gives spec v t at found own =
    subst (λ (u : ℕ). GivesOrKeeps spec t at at (code_of at u)) (table_variable spec v t found) (inl (taken_gives spec t at at (sym (own_at spec v t at found) ∙ own)))

gives_own : (spec : Data) (v : ℕ) (t : Table) (old at : Codes) → table_of spec v ≡ Some t → t.heading ≡ Condition → MeetsChecks spec t → IsTyped spec at → GivesOrKeeps spec t old at (code_of at v)
    → meets_own spec v at ≡ true
gives_own spec v t old at found e checks typed g =
    own_at spec v t at found
    ∙ gives_taken spec t at at (covered spec t old at e checks typed (subst (λ (u : ℕ). GivesOrKeeps spec t old at (code_of at u)) (sym (table_variable spec v t found)) g))

-- the codes of a condition table do not depend on an old state
gives_anew : (spec : Data) (t : Table) (old at : Codes) (code : ℤ) → t.heading ≡ Condition → Gives spec t old at code → Gives spec t at at code
gives_anew spec t old at code e g = gives_looked spec t old at at code (ap (λ h. looked_at h old at) e ∙ sym (ap (λ h. looked_at h at at) e)) g

module _ (spec : Data) (list : List ℕ) (sound : IsSound spec) (place : Placed spec list) (right : ∥ AreRight spec ∥₁) where
  -- a variable keeps its own value when a later one is set
  keeps_own : (i k : ℕ) (at : Codes) (code : ℤ) → i < length list → k < i → IsTyped spec (set at (get_or list i 0) code) → has_condition_table spec (get_or list k 0) ≡ true
      → meets_own spec (get_or list k 0) at ≡ true → meets_own spec (get_or list k 0) (set at (get_or list i 0) code) ≡ true
  keeps_own i k at code within below typed condition h =
      let v = get_or list k 0 in
      let u = get_or list i 0 in
      let t = condition_table spec v condition in
      let agree : Agree (λ w. table_reads w t.0) at (set at u code) =
      λ w read. sym (set_other at u w code (read_before spec list place i k w within (omega arith) (reads_at spec v w t.0 t.1 ∙ read))) in
      let g = code_local spec t.0 at at (set at u code) (code_of at v) agree (own_gives spec v t.0 at t.1 h) in
      let same : code_of (set at u code) v ≡ code_of at v = set_other at u v code (λ e. place.once i k within below e) in
      gives_own spec v t.0 at (set at u code) t.1 t.2 (checked spec v t.0 right t.1) typed (subst (GivesOrKeeps spec t.0 at (set at u code)) (sym same) g)

  pub begun_set : (i : ℕ) (t : Table) (at : Codes) (code : ℤ) → i < length list → table_of spec (get_or list i 0) ≡ Some t → t.heading ≡ Condition → GivesOrKeeps spec t at at code
      → IsBegun spec list i at → IsBegun spec list (i + 1) (set at (get_or list i 0) code)
  begun_set i t at code within found e g s =
      let v = get_or list i 0 in
      let checks : MeetsChecks spec t = checked spec v t right found in
      let there : v < length spec.variables = dependent_within spec v (place.dependent i within) in
      let here : v < length at = omega (arith, there, s.typed.one_each) in
      let variable : t.variable ≡ v = table_variable spec v t found in
      let inside : IsWithin (domain_of spec v) code =
      subst (λ (u : ℕ). IsWithin (domain_of spec u) code) variable
      (code_within spec t at at code checks (judged_state spec t at e s.typed) s.typed (subst (λ (u : ℕ). u < length spec.variables) (sym variable) there) g) in
      let typed : IsTyped spec (set at v code) = set_typed spec at v code s.typed inside in
      let set_here : code_of (set at v code) v ≡ code = get_or-set_same at v code (pos 0) here in
      let agree : Agree (λ w. table_reads w t) at (set at v code) =
      λ w read. sym (set_other at v w code (read_before spec list place i i w within (omega arith) (reads_at spec v w t found ∙ read))) in
      let last : meets_own spec v (set at v code) ≡ true =
      gives_own spec v t at (set at v code) found e checks typed (subst (GivesOrKeeps spec t at (set at v code)) (sym set_here) (code_local spec t at at (set at v code) code agree g)) in
      let unwritten : (u : ℕ) (c : ℤ) → init_of spec u ≡ Some c → u ≡ v → ⊥ =
      λ u c init same. none-some c (sym (condition_init spec v t sound found e) ∙ subst (λ (w : ℕ). init_of spec w ≡ Some c) same init) in
      record {
        typed = typed;
        written = λ u c init. set_other at v u code (unwritten u c init) ∙ s.written u c init;
        own = λ j below condition.
            elim (cases_lt j i) [
              | inl before ↦ keeps_own i j at code within before typed condition (s.own j before condition)
              | inr past ↦ let same : j ≡ i = omega arith in subst (λ (k : ℕ). meets_own spec (get_or list k 0) (set at v code) ≡ true) (sym same) last
            ];
      }

  -- the value of an event or mode table is written
  pub begun_still : (i : ℕ) (at : Codes) → has_condition_table spec (get_or list i 0) ≡ false → IsBegun spec list i at → IsBegun spec list (i + 1) at
  begun_still i at event s = record {
    typed = s.typed;
    written = s.written;
    own = λ j below condition.
        elim (cases_lt j i) [
          | inl before ↦ s.own j before condition
          | inr past ↦ let same : j ≡ i = omega arith in absurd (both_ways _ event (subst (λ (k : ℕ). has_condition_table spec (get_or list k 0) ≡ true) same condition))
        ];
  }

  pub begun_all : (at : Codes) → IsBegun spec list (length list) at → IsInitial spec at
  begun_all at s = record {
    typed = s.typed;
    written = s.written;
    own = λ v own.
        let t = condition_table spec v own in
        let p = place.place_of v (table_depends spec v t.0 sound t.1) in
        subst (λ (u : ℕ). meets_own spec u at ≡ true) p.2 (s.own p.0 p.1 (subst (λ (u : ℕ). has_condition_table spec u ≡ true) (sym p.2) own));
  }

  begin : (first : Codes) → IsBegun spec list 0 first → (n : ℕ) → n ≤ length list → (at : Codes) × IsBegun spec list n at
  begin first start zero h = (first, start)
  begin first start (suc n) h =
      let before = begin first start n (omega arith) in
      let v = get_or list n 0 in
      let one : n + 1 ≡ suc n = omega arith in
      elim (cases_Bool (has_condition_table spec v)) [
        | inl condition ↦
            let t = condition_table spec v condition in
            let g = given_or_kept spec t.0 before.0 before.0 in
            (set before.0 v g.0, subst (λ (k : ℕ). IsBegun spec list k (set before.0 v g.0)) one (begun_set n t.0 before.0 g.0 (omega arith) t.1 t.2 g.1 before.1))
        | inr event ↦ (before.0, subst (λ (k : ℕ). IsBegun spec list k before.0) one (begun_still n before.0 event before.1))
      ]

  -- ---- it is only one

  same_at : (a b : Codes) → IsInitial spec a → IsInitial spec b → (i : ℕ) → i < length list → ((j : ℕ) → j < i → code_of a (get_or list j 0) ≡ code_of b (get_or list j 0))
      → code_of a (get_or list i 0) ≡ code_of b (get_or list i 0)
  same_at a b x y i within before =
      let v = get_or list i 0 in
      elim (cases_Bool (has_condition_table spec v)) [
        | inl condition ↦
            let t = condition_table spec v condition in
            let agree : Agree (λ w. table_reads w t.0) a b =
            λ w read.
            elim (place.before i w within (reads_at spec v w t.0 t.1 ∙ read)) [
              | inl monitored ↦ let m = monitored_init spec w sound monitored in x.written w m.0 m.1 ∙ sym (y.written w m.0 m.1)
              | inr p ↦ subst (λ (u : ℕ). code_of a u ≡ code_of b u) p.2 (before p.0 p.1)
            ] in
            let ga = taken_gives spec t.0 a a (sym (own_at spec v t.0 a t.1) ∙ x.own v condition) in
            let gb = own_gives spec v t.0 b t.1 (y.own v condition) in
            let here : Gives spec t.0 a a (code_of a v) = subst (λ (u : ℕ). Gives spec t.0 a a (code_of a u)) (table_variable spec v t.0 t.1) ga in
            let there : Gives spec t.0 b b (code_of a v) = gives_anew spec t.0 a b (code_of a v) t.2 (gives_local spec t.0 a a b (code_of a v) agree here) in
            code_once spec t.0 b b (code_of a v) (code_of b v) (checked spec v t.0 right t.1) (rows_apart spec v t.0 sound t.1 _) (judged_state spec t.0 b t.2 y.typed) (inl there) gb
        | inr event ↦
            let t = tabled spec v sound (place.dependent i within) in
            let m = event_init spec v t.0 sound t.1 (sym (condition_at spec v t.0 t.1) ∙ event) in
            x.written v m.0 m.1 ∙ sym (y.written v m.0 m.1)
      ]

  same_until : (a b : Codes) → IsInitial spec a → IsInitial spec b → (n : ℕ) → n ≤ length list → (j : ℕ) → j < n → code_of a (get_or list j 0) ≡ code_of b (get_or list j 0)
  same_until a b x y zero h j below = absurd (omega arith)
  same_until a b x y (suc n) h j below =
      elim (cases_lt j n) [
        | inl before ↦ same_until a b x y n (omega arith) j before
        | inr last ↦ let same : j ≡ n = omega arith in
            subst (λ (k : ℕ). code_of a (get_or list k 0) ≡ code_of b (get_or list k 0)) (sym same) (same_at a b x y n (omega arith) (same_until a b x y n (omega arith)))
      ]

  same_initial : (a b : Codes) → IsInitial spec a → IsInitial spec b → a ≡ b
  same_initial a b x y =
      ext_get_or (pos 0) a b (x.typed.one_each ∙ sym y.typed.one_each)
      (λ u inside.
      let there : u < length spec.variables = omega (arith, inside, x.typed.one_each) in
      elim (one_of spec u there) [
        | inl monitored ↦ let m = monitored_init spec u sound monitored in x.written u m.0 m.1 ∙ sym (y.written u m.0 m.1)
        | inr depends ↦ let p = place.place_of u depends in subst (λ (w : ℕ). code_of a w ≡ code_of b w) p.2 (same_until a b x y (length list) (omega arith) p.0 p.1)
      ])

pub initial_state : (spec : Data) (order : Order) → PassesChecks spec order → (first : Codes) × IsInitial spec first
initial_state spec order passes =
    let place = placed spec order.list passes.sound passes.ordered.ordered in
    let s = begin spec order.list passes.sound place passes.right (start_codes spec) (begun_first spec order.list passes.sound) (length order.list) (omega arith) in
    (s.0, begun_all spec order.list passes.sound place passes.right s.0 s.1)

pub one_initial : (spec : Data) (order : Order) (a b : Codes) → PassesChecks spec order → IsInitial spec a → IsInitial spec b → a ≡ b
one_initial spec order a b passes x y = same_initial spec order.list passes.sound (placed spec order.list passes.sound passes.ordered.ordered) passes.right a b x y
