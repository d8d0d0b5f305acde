-- A next state settles variable by variable along the order.
use Rattle.std.proofs.Common.{◌≡◌, ℕ, ◌+◌, ◌<◌, ℤ, pos, ◌-ℤ◌, true, false, List, length, get_or, set, refl, sym, ap, subst, ◌∙◌, arith, inl, inr}
use Rattle.std.specs.Prelude.{Option, Some}
use Rattle.std.specs.Option.{option_map_or}
use Rattle.std.proofs.lemmas.Bool.{cases_lt, cases_eq}
use Rattle.std.proofs.lemmas.List.{get_or-set_same, get_or-set_other, length-set, set-get_or}
use Rattle.scr_spec.specs.Data.{Data}
use Rattle.scr_spec.specs.declared.state.Input.{Input}
use Rattle.scr_spec.specs.declared.table.Heading.{Heading}
use Rattle.scr_spec.specs.declared.table.Heading.TheVariants.{Condition, Event, Modes}
use Rattle.scr_spec.specs.declared.table.Table.{Table}
use Rattle.scr_spec.specs.Meaning.{Codes, code_of}
use Rattle.scr_spec.specs.Domains.{IsTyped, IsWithin, domain_of}
use Rattle.scr_spec.specs.Cells.{looked_at}
use Rattle.scr_spec.specs.Relations.{is_monitored, is_dependent, table_of, is_condition, some_taken, table_relates, meets_own, meets_relation}
use Rattle.scr_spec.specs.Sound.{IsSound}
use Rattle.scr_depend.specs.Reads.{table_reads}
use Rattle.scr_depend.specs.Dependencies.{reads_in}
use Rattle.scr_depend.specs.Related.{bound_of, IsBounded, IsRelated}
use Rattle.scr_depend.specs.Meets.{IsJudgedAt, AreRight, MeetsChecks}
use Rattle.run_step.specs.Runs.{IsConsistent, IsInput, Follows}
use Rattle.run_step.specs.Given.{GivesOrKeeps}
use Rattle.run_step.specs.Settled.{IsSettled}
use Rattle.run_step.proofs.Local.{Agree}
use Rattle.run_step.proofs.Cells.{IsJudged, relation_gives, gives_relation, code_within, code_local, still_gives}
use Rattle.run_step.proofs.Order.{Placed, read_before, not_both, dependent_within, monitored_within, table_variable, tabled, checked}

-- ---- tables of variables

pub relation_at : (spec : Data) (v : ℕ) (t : Table) (old new : Codes) → table_of spec v ≡ Some t → meets_relation spec v old new ≡ table_relates spec t old new t.heading
relation_at spec v t old new found = ap (λ (o : Option Table). option_map_or (λ (u : Table). table_relates spec u old new u.heading) o false) found

pub own_at : (spec : Data) (v : ℕ) (t : Table) (at : Codes) → table_of spec v ≡ Some t → meets_own spec v at ≡ some_taken spec t at at
own_at spec v t at found = ap (λ (o : Option Table). option_map_or (λ (u : Table). some_taken spec u at at) o false) found

pub reads_at : (spec : Data) (v w : ℕ) (t : Table) → table_of spec v ≡ Some t → reads_in spec v w ≡ table_reads w t
reads_at spec v w t found = ap (λ (o : Option Table). option_map_or (table_reads w) o false) found

-- what a state says of the code of a variable that meets its relation
pub related_gives : (spec : Data) (v : ℕ) (t : Table) (old new : Codes) → table_of spec v ≡ Some t → meets_relation spec v old new ≡ true → GivesOrKeeps spec t old new (code_of new v)
related_gives spec v t old new found h =
    subst (λ (u : ℕ). GivesOrKeeps spec t old new (code_of new u)) (table_variable spec v t found)
    (relation_gives spec t old new t.heading refl (sym (relation_at spec v t old new found) ∙ h))

gives_related : (spec : Data) (v : ℕ) (t : Table) (old new : Codes) → table_of spec v ≡ Some t → MeetsChecks spec t → IsTyped spec new → GivesOrKeeps spec t old new (code_of new v) → meets_relation spec v old new ≡ true
gives_related spec v t old new found checks typed g =
    relation_at spec v t old new found
    ∙ gives_relation spec t old new t.heading refl checks typed (subst (λ (u : ℕ). GivesOrKeeps spec t old new (code_of new u)) (sym (table_variable spec v t found)) g)

judged_at : (spec : Data) (v : ℕ) (old new : Codes) (h : Heading) → IsTyped spec new → IsRelated spec v old new → IsJudgedAt spec v (looked_at h old new) new h
judged_at spec v old new Condition typed related = record { typed = typed; same = refl }
judged_at spec v old new Event typed related = related
judged_at spec v old new Modes typed related = related

pub judged : (spec : Data) (v : ℕ) (t : Table) (old new : Codes) → table_of spec v ≡ Some t → IsTyped spec new → IsRelated spec v old new → IsJudged spec t old new
judged spec v t old new found typed related =
    subst (λ (u : ℕ). IsJudgedAt spec u (looked_at t.heading old new) new t.heading) (sym (table_variable spec v t found)) (judged_at spec v old new t.heading typed related)

-- ---- one code of a state is set

pub set_typed : (spec : Data) (at : Codes) (v : ℕ) (code : ℤ) → IsTyped spec at → IsWithin (domain_of spec v) code → IsTyped spec (set at v code)
set_typed spec at v code typed within = record {
  one_each = length-set at v code ∙ typed.one_each;
  within = λ u there.
      elim (cases_eq u v) [
        | inl same ↦
            let here : v < length at = omega (arith, there, typed.one_each) in
            subst (λ (w : ℕ). IsWithin (domain_of spec w) (code_of (set at v code) w)) (sym same) (subst (IsWithin (domain_of spec v)) (sym (get_or-set_same at v code (pos 0) here)) within)
        | inr other ↦ subst (IsWithin (domain_of spec u)) (sym (get_or-set_other at v u code (pos 0) other)) (typed.within u there)
      ];
}

pub set_other : (at : Codes) (v u : ℕ) (code : ℤ) → (u ≡ v → ⊥) → code_of (set at v code) u ≡ code_of at u
set_other at v u code other = get_or-set_other at v u code (pos 0) other

-- ---- the way along the order

module _ (spec : Data) (list : List ℕ) (old : Codes) (input : Input) (sound : IsSound spec) (place : Placed spec list) (right : ∥ AreRight spec ∥₁)
    (consistent : IsConsistent spec old) (may_come : IsInput spec old input) where
  -- all that is needed by the next variable is settled
  settled_related : (i : ℕ) (new : Codes) → i < length list → IsSettled spec list old input i new → IsRelated spec (get_or list i 0) old new
  settled_related i new within s = record {
    changed = input.variable;
    monitored = may_come.freely.monitored;
    related = record {
      freely = record {
        old_typed = consistent.typed;
        new_typed = s.typed;
        differs = λ same. may_come.freely.differs (sym s.taken ∙ same);
        others = s.others;
        needs = record {
          related = λ w need. let p = place.needed i w within need in subst (λ (u : ℕ). meets_relation spec u old new ≡ true) p.2 (s.related p.0 p.1);
          own = λ w need own. consistent.own w own;
        };
      };
      bounded = subst (λ (z : ℤ). IsBounded (bound_of spec input.variable) (z -ℤ code_of old input.variable)) (sym s.taken) may_come.bounded;
    };
  }

  -- a relation that is met stays so when a later variable is set
  stays_related : (i k : ℕ) (new : Codes) (code : ℤ) → i < length list → k < i → IsTyped spec (set new (get_or list i 0) code)
      → meets_relation spec (get_or list k 0) old new ≡ true → meets_relation spec (get_or list k 0) old (set new (get_or list i 0) code) ≡ true
  stays_related i k new code within below typed h =
      let v = get_or list k 0 in
      let u = get_or list i 0 in
      let t = tabled spec v sound (place.dependent k (omega arith)) in
      let agree : Agree (λ w. table_reads w t.0) new (set new u code) =
      λ w read. sym (set_other new u w code (read_before spec list place i k w within (omega arith) (reads_at spec v w t.0 t.1 ∙ read))) in
      let g = code_local spec t.0 old new (set new u code) (code_of new v) agree (related_gives spec v t.0 old new t.1 h) in
      let same : code_of (set new u code) v ≡ code_of new v = set_other new u v code (λ e. place.once i k within below e) in
      gives_related spec v t.0 old (set new u code) t.1 (checked spec v t.0 right t.1) typed (subst (GivesOrKeeps spec t.0 old (set new u code)) (sym same) g)

  pub settled_set : (i : ℕ) (t : Table) (new : Codes) (code : ℤ) → i < length list → table_of spec (get_or list i 0) ≡ Some t → GivesOrKeeps spec t old new code
      → IsSettled spec list old input i new → IsSettled spec list old input (i + 1) (set new (get_or list i 0) code)
  settled_set i t new code within found g s =
      let v = get_or list i 0 in
      let checks : MeetsChecks spec t = checked spec v t right found in
      let depends : is_dependent spec v ≡ true = place.dependent i within in
      let there : v < length spec.variables = dependent_within spec v depends in
      let here : v < length new = omega (arith, there, s.typed.one_each) in
      let variable : t.variable ≡ v = table_variable spec v t found in
      let inside : IsWithin (domain_of spec v) code =
      subst (λ (u : ℕ). IsWithin (domain_of spec u) code) variable
      (code_within spec t old new code checks (judged spec v t old new found s.typed (settled_related i new within s)) consistent.typed (subst (λ (u : ℕ). u < length spec.variables) (sym variable) there) g) in
      let typed : IsTyped spec (set new v code) = set_typed spec new v code s.typed inside in
      let unmonitored : (u : ℕ) → is_monitored spec u ≡ true → u ≡ v → ⊥ = λ u m e. not_both spec v depends (subst (λ (w : ℕ). is_monitored spec w ≡ true) e m) in
      let set_here : code_of (set new v code) v ≡ code = get_or-set_same new v code (pos 0) here in
      let agree : Agree (λ w. table_reads w t) new (set new v code) =
      λ w read. sym (set_other new v w code (read_before spec list place i i w within (omega arith) (reads_at spec v w t found ∙ read))) in
      let last : meets_relation spec v old (set new v code) ≡ true =
      gives_related spec v t old (set new v code) found checks typed (subst (GivesOrKeeps spec t old (set new v code)) (sym set_here) (code_local spec t old new (set new v code) code agree g)) in
      record {
        taken = set_other new v input.variable code (unmonitored input.variable may_come.freely.monitored) ∙ s.taken;
        others = λ u other m. set_other new v u code (unmonitored u m) ∙ s.others u other m;
        typed = typed;
        related = λ j below.
            elim (cases_lt j i) [
              | inl before ↦ stays_related i j new code within before typed (s.related j before)
              | inr past ↦ let same : j ≡ i = omega arith in subst (λ (k : ℕ). meets_relation spec (get_or list k 0) old (set new v code) ≡ true) (sym same) last
            ];
        kept = λ j above inside. set_other new v (get_or list j 0) code (λ e. place.once j i inside (omega arith) (sym e)) ∙ s.kept j (omega arith) inside;
      }

  -- where nothing that it reads has changed, the old code is right
  pub settled_still : (i : ℕ) (t : Table) (new : Codes) → i < length list → table_of spec (get_or list i 0) ≡ Some t → Agree (λ w. table_reads w t) old new
      → IsSettled spec list old input i new → IsSettled spec list old input (i + 1) new
  settled_still i t new within found agree s =
      let v = get_or list i 0 in
      let own : t.heading ≡ Condition → some_taken spec t old old ≡ true =
      λ e. sym (own_at spec v t old found) ∙ consistent.own v (ap (λ (o : Option Table). option_map_or (λ (u : Table). is_condition u.heading) o false) found ∙ ap is_condition e) in
      let g : GivesOrKeeps spec t old new (code_of old v) = subst (λ (u : ℕ). GivesOrKeeps spec t old new (code_of old u)) (table_variable spec v t found) (still_gives spec t old new t.heading refl agree own) in
      let kept : code_of new v ≡ code_of old v = s.kept i (omega arith) within in
      let same : set new v (code_of new v) ≡ new = set-get_or new v (pos 0) in
      subst (IsSettled spec list old input (i + 1)) same (settled_set i t new (code_of new v) within found (subst (GivesOrKeeps spec t old new) (sym kept) g) s)

  pub settled_first : IsSettled spec list old input 0 (set old input.variable input.code)
  settled_first =
      let x = input.variable in
      let monitored : is_monitored spec x ≡ true = may_come.freely.monitored in
      let there : x < length spec.variables = monitored_within spec x monitored in
      let here : x < length old = omega (arith, there, consistent.typed.one_each) in
      record {
        taken = get_or-set_same old x input.code (pos 0) here;
        others = λ u other m. set_other old x u input.code other;
        typed = set_typed spec old x input.code consistent.typed may_come.freely.within;
        related = λ j below. absurd (omega arith);
        kept = λ j above inside. set_other old x (get_or list j 0) input.code (λ e. not_both spec x (subst (λ (u : ℕ). is_dependent spec u ≡ true) e (place.dependent j inside)) monitored);
      }

  pub settled_all : (new : Codes) → IsSettled spec list old input (length list) new → Follows spec old input new
  settled_all new s = record {
    taken = s.taken;
    others = s.others;
    typed = s.typed;
    related = λ v depends. let p = place.place_of v depends in subst (λ (u : ℕ). meets_relation spec u old new ≡ true) p.2 (s.related p.0 p.1);
  }
