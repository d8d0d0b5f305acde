-- What is derived may be taken for granted.
use Rattle.std.proofs.Common.{◌≡◌, ℕ, ◌+◌, ◌<◌, ◌≤◌, Bool, true, List, [], ◌∷◌, ◌++◌, map, length, get_or, take, refl, sym, ap, ap₂, subst, ◌∙◌, IsTrue}
use Rattle.std.specs.List.{AllByRecursion as Each, list_all}
use Rattle.std.proofs.lemmas.Bool.{and_parts, and_from}
use Rattle.std.proofs.lemmas.List.{take_more, take_all, map-append}
use Rattle.std.proofs.lemmas.List.Folds.{list_all-append}
use Rattle.scr_spec.specs.Data.{Data}
use Rattle.scr_spec.specs.Meaning.{Codes}
use Rattle.scr_spec.specs.Tables.{is_class_at}
use Rattle.scr_spec.specs.declared.state.Input.{Input}
use Rattle.scr_depend.specs.declared.order.Order.{Order}
use Rattle.scr_depend.specs.Passes.{PassesChecks}
use Rattle.run_step.specs.Runs.{IsRun}
use Rattle.prove_invariants.specs.declared.derived.Found.{Found}
use Rattle.prove_invariants.specs.declared.derived.Derived.{Derived}
use Rattle.prove_invariants.specs.declared.derived.Derived.TheVariants.{All, Undecided}
use Rattle.prove_invariants.specs.Holds.{holds_in}
use Rattle.prove_invariants.specs.Derivations.{classes_of, HasDerived}
use Rattle.prove_invariants.proofs.Sound.{invariants_hold}
use Rattle.prove_invariants.proofs.Once.{one_derived}
use Rattle.prove_invariants.proofs.Testing.{classes_are}
use Rattle.prove_asserts.specs.declared.lemma.Lemma.{Lemma}
use Rattle.prove_asserts.specs.Claims.{lemma_holds, is_lemma_over, AreLemmasOver}
use Rattle.prove_asserts.specs.Derived.{found_in, IsDerivedLemma, AreDerivedLemmas}
use Rattle.prove_asserts.specs.Laws.{HoldInRuns, DerivedLemmas}
use Rattle.prove_asserts.proofs.Lists.{each_snoc}

-- ---- what is derived for one class holds

-- from each candidate in all states to all candidates in each state
module _ {X : Type 0} (holds : Codes → X → Bool) where
  heads : (xs : List X) (at : Codes) (states : List Codes) → Each (λ x. Each (λ s. IsTrue (holds s x)) (at ∷ states)) xs → IsTrue (list_all (holds at) xs)
  heads [] at states h = refl
  heads (x ∷ xs) at states h = and_from _ _ h.0.0 (heads xs at states h.1)

  tails : (xs : List X) (at : Codes) (states : List Codes) → Each (λ x. Each (λ s. IsTrue (holds s x)) (at ∷ states)) xs → Each (λ x. Each (λ s. IsTrue (holds s x)) states) xs
  tails [] at states h = tt
  tails (x ∷ xs) at states h = (h.0.1, tails xs at states h.1)

  turned : (xs : List X) (states : List Codes) → Each (λ x. Each (λ s. IsTrue (holds s x)) states) xs → Each (λ s. IsTrue (list_all (holds s) xs)) states
  turned xs [] h = tt
  turned xs (at ∷ states) h = (heads xs at states h, turned xs states (tails xs at states h))

module _ (spec : Data) (order : Order) (limit : ℕ) (passes : PassesChecks spec order) where
  module _ (inputs : List Input) (states : List Codes) (run : IsRun spec inputs states) where
    found_hold : (class : ℕ) → IsTrue (is_class_at spec class) → (d : Derived) → HasDerived spec order.list class limit d
        → Each (λ (f : Found). Each (λ s. IsTrue (holds_in spec class s f.candidate)) states) (found_in d)
    found_hold class is (All found) h = invariants_hold.hold spec order class limit found passes is h inputs states run
    found_hold class is (Undecided round c) h = tt

    lemma_along : (l : Lemma) → IsTrue (is_class_at spec l.class) → IsDerivedLemma spec order.list limit l → Each (λ s. IsTrue (lemma_holds spec s l)) states
    lemma_along l is h =
        turned (λ s (f : Found). holds_in spec l.class s f.candidate) l.found states
        (subst (Each (λ (f : Found). Each (λ s. IsTrue (holds_in spec l.class s f.candidate)) states)) (sym h.found_are) (found_hold l.class is h.derived h.derived_is))

    each_along : (lemmas : List Lemma) → IsTrue (list_all (is_class_at spec) (map (λ l. l.class) lemmas)) → Each (IsDerivedLemma spec order.list limit) lemmas
        → Each (λ l. Each (λ s. IsTrue (lemma_holds spec s l)) states) lemmas
    each_along [] are h = tt
    each_along (l ∷ ls) are h =
        let both = and_parts (is_class_at spec l.class) (list_all (is_class_at spec) (map (λ l. l.class) ls)) are in
        (lemma_along l both.0 h.0, each_along ls both.1 h.1)

  hold_in_runs : (lemmas : List Lemma) → AreDerivedLemmas spec order.list limit lemmas → HoldInRuns spec lemmas
  hold_in_runs lemmas h inputs states run =
      turned (λ s l. lemma_holds spec s l) lemmas states (each_along inputs states run lemmas (ap (list_all (is_class_at spec)) h.classes ∙ classes_are spec) h.each)

  -- ---- it is one

  one_lemma : (l m : Lemma) → l.class ≡ m.class → IsDerivedLemma spec order.list limit l → IsDerivedLemma spec order.list limit m → l ≡ m
  one_lemma l m same h k =
      let derived = one_derived.once spec order m.class limit h.derived k.derived passes (subst (λ n. HasDerived spec order.list n limit h.derived) same h.derived_is) k.derived_is in
      ap₂ (λ n found. record { class = n; found = found }) same (h.found_are ∙ ap found_in derived ∙ sym k.found_are)

  one_list : (ls ms : List Lemma) → map (λ l. l.class) ls ≡ map (λ l. l.class) ms → Each (IsDerivedLemma spec order.list limit) ls → Each (IsDerivedLemma spec order.list limit) ms → ls ≡ ms
  one_list [] [] e h k = refl
  one_list [] (m ∷ ms) e h k = cc
  one_list (l ∷ ls) [] e h k = cc
  one_list (l ∷ ls) (m ∷ ms) e h k =
      let first : l.class ≡ m.class = cc in
      let rest : map (λ (n : Lemma). n.class) ls ≡ map (λ (n : Lemma). n.class) ms = cc in
      ap₂ (λ (n : Lemma) ns. n ∷ ns) (one_lemma l m first h.0 k.0) (one_list ls ms rest h.1 k.1)

  -- ---- and never none

  some_list : (classes : List ℕ) → ((ls : List Lemma) → map (λ l. l.class) ls ≡ classes → Each (IsDerivedLemma spec order.list limit) ls → ⊥) → ⊥
  some_list [] none = none [] refl tt
  some_list (c ∷ cs) none =
      one_derived.some spec order c limit passes (λ d h.
      some_list cs (λ ls same each.
      none (record { class = c; found = found_in d } ∷ ls) (ap (λ ns. c ∷ ns) same) (record { derived = d; derived_is = h; found_are = refl }, each)))

pub derived_lemmas : DerivedLemmas
derived_lemmas = record {
  hold = λ spec order limit lemmas passes h. hold_in_runs spec order limit passes lemmas h;
  some = λ spec order limit passes none. some_list spec order limit passes (classes_of spec) (λ ls same each. none ls (record { classes = same; each = each }));
  once = λ spec order limit a b passes h k. one_list spec order limit passes a b (h.classes ∙ sym k.classes) h.each k.each;
}

-- ---- one class after another

pub record IsDeriving (spec : Data) (order : List ℕ) (limit : ℕ) (classes : List ℕ) (i : ℕ) (out : List Lemma) : Type 0 where
  pub classes_are : map (λ l. l.class) out ≡ take i classes
  pub each : Each (IsDerivedLemma spec order limit) out
  pub over : AreLemmasOver spec out

module _ (spec : Data) (order : List ℕ) (limit : ℕ) (classes : List ℕ) where
  pub deriving_start : (out : List Lemma) → out ≡ [] → IsDeriving spec order limit classes 0 out
  deriving_start out e = subst (IsDeriving spec order limit classes 0) (sym e) (record { classes_are = refl; each = tt; over = refl })

  module _ (i : ℕ) (out : List Lemma) (h : IsDeriving spec order limit classes i out) where
    pub deriving_next : (l : Lemma) (now : List Lemma) → i < length classes → l.class ≡ get_or classes i 0 → IsDerivedLemma spec order limit l → IsTrue (is_lemma_over spec l) → now ≡ out ++ l ∷ []
        → IsDeriving spec order limit classes (i + 1) now
    deriving_next l now lt at is over e = subst (IsDeriving spec order limit classes (i + 1)) (sym e) (record {
      classes_are = map-append (λ (l : Lemma). l.class) out (l ∷ []) ∙ ap₂ (λ ns n. ns ++ n ∷ []) h.classes_are at ∙ sym (take_more classes i 0 lt);
      each = each_snoc (IsDerivedLemma spec order limit) out l h.each is;
      over = list_all-append (is_lemma_over spec) out (l ∷ []) ∙ and_from _ _ h.over (and_from _ true over refl);
    })

    pub deriving_done : length classes ≤ i → classes ≡ classes_of spec → AreDerivedLemmas spec order limit out
    deriving_done le e = record { classes = h.classes_are ∙ take_all i classes le ∙ e; each = h.each }
