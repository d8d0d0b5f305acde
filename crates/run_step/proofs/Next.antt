-- Exactly one state follows on an input, and it is related to the old one for every variable.
use Rattle.std.proofs.Common.{◌≡◌, ℕ, zero, suc, ◌+◌, ◌<◌, ◌≤◌, ℤ, pos, ◌-ℤ◌, true, List, length, get_or, set, sym, ap, subst, ◌∙◌, arith, inl, inr}
use Rattle.std.proofs.lemmas.Bool.{cases_lt, cases_eq}
use Rattle.std.proofs.lemmas.List.{ext_get_or}
use Rattle.scr_spec.specs.Data.{Data}
use Rattle.scr_spec.specs.declared.state.Input.{Input}
use Rattle.scr_spec.specs.Meaning.{Codes, code_of}
use Rattle.scr_spec.specs.Relations.{is_monitored, is_dependent, table_relates}
use Rattle.scr_spec.specs.Sound.{IsSound}
use Rattle.scr_depend.specs.declared.order.Order.{Order}
use Rattle.scr_depend.specs.Reads.{table_reads}
use Rattle.scr_depend.specs.Related.{bound_of, IsBounded, IsRelatedBy, IsRelated}
use Rattle.scr_depend.specs.Dependencies.{graph_of}
use Rattle.scr_depend.specs.Walks.{Needs}
use Rattle.scr_depend.specs.Meets.{AreRight}
use Rattle.scr_depend.proofs.Dependent.{whole_graph}
use Rattle.run_step.specs.Runs.{IsConsistent, IsInput, Follows, IsStep}
use Rattle.run_step.specs.Settled.{IsSettled}
use Rattle.scr_depend.specs.Passes.{PassesChecks}
use Rattle.run_step.proofs.Local.{Agree}
use Rattle.run_step.proofs.Cells.{given_or_kept, code_once, code_local}
use Rattle.run_step.proofs.Apart.{rows_apart}
use Rattle.run_step.proofs.Order.{Placed, placed, one_of, tabled, table_depends, condition_table, checked}
use Rattle.run_step.proofs.Settle.{reads_at, related_gives, judged, relation_at, own_at, settled_set, settled_first, settled_all}

-- ---- it is related to the old one

-- what is needed is dependent
needed_depends : (spec : Data) (v w : ℕ) → IsSound spec → Needs (graph_of spec) v w → is_dependent spec w ≡ true
needed_depends spec v w sound need = sym ((whole_graph.whole spec sound).dependents w) ∙ need.0

pub follows_related : (spec : Data) (v : ℕ) (old : Codes) (input : Input) (new : Codes) → IsSound spec → IsConsistent spec old → IsInput spec old input → Follows spec old input new
    → IsRelatedBy spec v input.variable old new
follows_related spec v old input new sound consistent may_come follows = record {
  freely = record {
    old_typed = consistent.typed;
    new_typed = follows.typed;
    differs = λ same. may_come.freely.differs (sym follows.taken ∙ same);
    others = follows.others;
    needs = record {
      related = λ w need. follows.related w (needed_depends spec v w sound need);
      own = λ w need own. consistent.own w own;
    };
  };
  bounded = subst (λ (z : ℤ). IsBounded (bound_of spec input.variable) (z -ℤ code_of old input.variable)) (sym follows.taken) may_come.bounded;
}

pub related_pair : (spec : Data) (v : ℕ) (old : Codes) (input : Input) (new : Codes) → IsSound spec → IsConsistent spec old → IsInput spec old input → Follows spec old input new
    → IsRelated spec v old new
related_pair spec v old input new sound consistent may_come follows = record {
  changed = input.variable;
  monitored = may_come.freely.monitored;
  related = follows_related spec v old input new sound consistent may_come follows;
}

-- ---- it is only one

module _ (spec : Data) (list : List ℕ) (old : Codes) (input : Input) (sound : IsSound spec) (place : Placed spec list) (right : ∥ AreRight spec ∥₁)
    (consistent : IsConsistent spec old) (may_come : IsInput spec old input) (a b : Codes) (fa : Follows spec old input a) (fb : Follows spec old input b) where
  same_monitored : (u : ℕ) → is_monitored spec u ≡ true → code_of a u ≡ code_of b u
  same_monitored u m =
      elim (cases_eq u input.variable) [
        | inl same ↦ subst (λ (w : ℕ). code_of a w ≡ code_of b w) (sym same) (fa.taken ∙ sym fb.taken)
        | inr other ↦ fa.others u other m ∙ sym (fb.others u other m)
      ]

  same_next : (i : ℕ) → i < length list → ((j : ℕ) → j < i → code_of a (get_or list j 0) ≡ code_of b (get_or list j 0)) → code_of a (get_or list i 0) ≡ code_of b (get_or list i 0)
  same_next i within before =
      let v = get_or list i 0 in
      let depends : is_dependent spec v ≡ true = place.dependent i within in
      let t = tabled spec v sound depends in
      let agree : Agree (λ w. table_reads w t.0) a b =
      λ w read.
      elim (place.before i w within (reads_at spec v w t.0 t.1 ∙ read)) [
        | inl monitored ↦ same_monitored w monitored
        | inr p ↦ subst (λ (u : ℕ). code_of a u ≡ code_of b u) p.2 (before p.0 p.1)
      ] in
      let ga = code_local spec t.0 old a b (code_of a v) agree (related_gives spec v t.0 old a t.1 (fa.related v depends)) in
      let gb = related_gives spec v t.0 old b t.1 (fb.related v depends) in
      code_once spec t.0 old b (code_of a v) (code_of b v) (checked spec v t.0 right t.1) (rows_apart spec v t.0 sound t.1 _)
      (judged spec v t.0 old b t.1 fb.typed (related_pair spec v old input b sound consistent may_come fb)) ga gb

  same_before : (n : ℕ) → n ≤ length list → (j : ℕ) → j < n → code_of a (get_or list j 0) ≡ code_of b (get_or list j 0)
  same_before zero h j below = absurd (omega arith)
  same_before (suc n) h j below =
      elim (cases_lt j n) [
        | inl before ↦ same_before n (omega arith) j before
        | inr last ↦ let same : j ≡ n = omega arith in
            subst (λ (k : ℕ). code_of a (get_or list k 0) ≡ code_of b (get_or list k 0)) (sym same) (same_next n (omega arith) (same_before n (omega arith)))
      ]

  pub same_states : a ≡ b
  same_states =
      ext_get_or (pos 0) a b (fa.typed.one_each ∙ sym fb.typed.one_each)
      (λ u inside.
      let there : u < length spec.variables = omega (arith, inside, fa.typed.one_each) in
      elim (one_of spec u there) [
        | inl monitored ↦ same_monitored u monitored
        | inr depends ↦ let p = place.place_of u depends in subst (λ (w : ℕ). code_of a w ≡ code_of b w) p.2 (same_before (length list) (omega arith) p.0 p.1)
      ])

-- ---- and there is one

settle : (spec : Data) (list : List ℕ) (old : Codes) (input : Input) → IsSound spec → Placed spec list → ∥ AreRight spec ∥₁ → IsConsistent spec old → IsInput spec old input
    → (n : ℕ) → n ≤ length list → (new : Codes) × IsSettled spec list old input n new
settle spec list old input sound place right consistent may_come zero h =
    (set old input.variable input.code, settled_first spec list old input sound place right consistent may_come)
settle spec list old input sound place right consistent may_come (suc n) h =
    let before = settle spec list old input sound place right consistent may_come n (omega arith) in
    let v = get_or list n 0 in
    let t = tabled spec v sound (place.dependent n (omega arith)) in
    let g = given_or_kept spec t.0 old before.0 in
    let one : n + 1 ≡ suc n = omega arith in (
      set before.0 v g.0,
      subst (λ (k : ℕ). IsSettled spec list old input k (set before.0 v g.0)) one
          (settled_set spec list old input sound place right consistent may_come n t.0 before.0 g.0 (omega arith) t.1 g.1 before.1),
    )

pub next_state : (spec : Data) (order : Order) (old : Codes) (input : Input) → PassesChecks spec order → IsConsistent spec old → IsInput spec old input → (new : Codes) × IsStep spec old input new
next_state spec order old input passes consistent may_come =
    let place = placed spec order.list passes.sound passes.ordered.ordered in
    let s = settle spec order.list old input passes.sound place passes.right consistent may_come (length order.list) (omega arith) in
    (s.0, record { may_come = may_come; follows = settled_all spec order.list old input passes.sound place passes.right consistent may_come s.0 s.1 })

pub one_next : (spec : Data) (order : Order) (old : Codes) (input : Input) (a b : Codes) → PassesChecks spec order → IsConsistent spec old → IsStep spec old input a → IsStep spec old input b → a ≡ b
one_next spec order old input a b passes consistent x y =
    same_states spec order.list old input passes.sound (placed spec order.list passes.sound passes.ordered.ordered) passes.right consistent x.may_come a b x.follows y.follows

-- ---- what follows a consistent state is consistent

pub step_consistent : (spec : Data) (old : Codes) (input : Input) (new : Codes) → IsSound spec → IsStep spec old input new → IsConsistent spec new
step_consistent spec old input new sound step = record {
  typed = step.follows.typed;
  own = λ v own.
      let t = condition_table spec v own in
      own_at spec v t.0 new t.1
      ∙ sym (ap (table_relates spec t.0 old new) t.2)
      ∙ sym (relation_at spec v t.0 old new t.1) ∙ step.follows.related v (table_depends spec v t.0 sound t.1);
}
