-- What `invariants` answers.
use Rattle.std.proofs.Common.{◌≡◌, ℕ, Bool, true, false, List, [], ◌∷◌, map, Option, Some, Result, Ok, Err, refl, sym, ap, ap₂, subst, ◌∙◌, IsTrue}
use Rattle.std.specs.Prelude.{◌&&◌, ◌||◌, if◌then◌else◌, IfOk}
use Rattle.std.proofs.lemmas.Bool.{false≢true}
use Rattle.std.specs.List.{list_all, list_any, AllByRecursion}
use Rattle.scr_spec.specs.Data.{Data}
use Rattle.scr_spec.specs.Shown.{data_of}
use Rattle.scr_spec.specs.Meaning.{Codes}
use Rattle.scr_spec.specs.Tables.{is_class_at}
use Rattle.scr_spec.specs.declared.state.Input.{Input}
use Rattle.scr_resolve.specs.Texts.{Spells}
use Rattle.scr_resolve.proofs.Readings.{one_reading}
use Rattle.scr_parse.specs.declared.text.TheConstants.{TEXT_LIMIT}
use Rattle.scr_depend.specs.declared.order.Order.{Order}
use Rattle.scr_depend.specs.declared.checked.Checked.{Checked}
use Rattle.scr_depend.specs.Dependencies.{graph_of}
use Rattle.scr_depend.specs.Orders.{IsOrder}
use Rattle.scr_depend.proofs.Dependent.{one_order}
use Rattle.scr_depend.specs.Passes.{PassesChecks}
use Rattle.run_step.specs.Runs.{IsRun}
use Rattle.prove_invariants.specs.declared.derived.Derived.{Derived}
use Rattle.prove_invariants.specs.declared.derived.Derived.TheVariants as derived
use Rattle.prove_invariants.specs.Derivations.{classes_of, HasDerived}
use Rattle.prove_invariants.proofs.Testing.{classes_are}
use Rattle.prove_invariants.proofs.Once.{one_derived}
use Rattle.prove_invariants.proofs.Sound.{invariants_hold}
use Rattle.cmd_work.specs.declared.status.Status.{Status}
use Rattle.cmd_work.specs.declared.status.Status.TheVariants.{Done, Undecided}
use Rattle.cmd_work.specs.declared.whole.Loaded.{Loaded}
use Rattle.cmd_work.specs.Load.{IsLoaded}
use Rattle.cmd_work.specs.Ends.{IsFront}
use Rattle.cmd_work.proofs.TwoFilesLemmas.{loaded_file}
use Rattle.cmd_work.proofs.EndsLemmas.{by_file_once, by_file_some}
use Rattle.cmd_checked.specs.declared.checking.Checking.TheVariants.{Passed}
use Rattle.cmd_checked.specs.Reports.{ChecksText, passed_text}
use Rattle.cmd_checked.specs.Checking.{Passes, EndsCommand, IsChecking, finished, passed}
use Rattle.cmd_checked.proofs.Checks.{one_checking, passes_checks}
use Rattle.cmd_checked.proofs.First.{first_own, first_once, first_some}
use Rattle.cmd_invariants.specs.declared.derivation.Derivation.{Derivation}
use Rattle.cmd_invariants.specs.Texts.{classes_text}
use Rattle.cmd_invariants.specs.Derives.{HaveDerived, is_undecided, status_of, Derives, DerivesText, DerivesFile}
use Rattle.cmd_invariants.specs.Laws.{HoldThroughout, PrintsWhatHolds, IsDecided, AreDecided, OneDerivation}

-- ---- one answer

module _ (spec : Data) (order : Order) (limit : ℕ) (k : PassesChecks spec order) where
  each_once : (cs : List ℕ) (a b : List Derivation) → HaveDerived spec order.list limit cs a → HaveDerived spec order.list limit cs b → a ≡ b
  each_once [] [] [] h g = refl
  each_once [] [] (e ∷ es) h g = absurd g
  each_once [] (d ∷ ds) es h g = absurd h
  each_once (c ∷ cs) [] es h g = absurd h
  each_once (c ∷ cs) (d ∷ ds) [] h g = absurd g
  each_once (c ∷ cs) (d ∷ ds) (e ∷ es) h g =
      let same : d.class ≡ e.class = h.0 ∙ sym g.0 in
      let derived = one_derived.once spec order e.class limit d.derived e.derived k (subst (λ n. HasDerived spec order.list n limit d.derived) same h.1) g.1 in
      ap₂ (λ (x : Derivation) xs. x ∷ xs) (ap₂ (λ n w. record { class = n; derived = w }) same derived) (each_once cs ds es h.2 g.2)

  each_some : (cs : List ℕ) → ((ds : List Derivation) → HaveDerived spec order.list limit cs ds → ⊥) → ⊥
  each_some [] none = none [] tt
  each_some (c ∷ cs) none =
      one_derived.some spec order c limit k (λ w derived. each_some cs (λ ds more. none (record { class = c; derived = w } ∷ ds) (refl, derived, more)))

  -- by the order of what passes
  by_order : (list : List ℕ) → IsOrder (graph_of spec) list → (cs : List ℕ) (ds : List Derivation) → HaveDerived spec list limit cs ds → HaveDerived spec order.list limit cs ds
  by_order list is cs ds h = subst (λ l. HaveDerived spec l limit cs ds) (one_order.once spec list order.list is k.ordered.ordered) h

  own_once : (x y : List ℕ) (i j : Status) → Derives limit spec x i → Derives limit spec y j → (x ≡ y) × (i ≡ j)
  own_once x y i j a b =
      let same = each_once (classes_of spec) a.list b.list (by_order a.order a.ordered (classes_of spec) a.list a.each) (by_order b.order b.ordered (classes_of spec) b.list b.each) in
      (a.text ∙ ap (classes_text spec) same ∙ sym b.text, a.ending ∙ ap status_of same ∙ sym b.ending)

  own_some : IsFront (Derives limit spec) []
  own_some none =
      each_some (classes_of spec)
      (λ ds each. none (classes_text spec ds) (status_of ds) (record { order = order.list; ordered = k.ordered.ordered; list = ds; each = each; text = refl; ending = refl }))

file_once : (limit : ℕ) (held : Option (List ℕ)) (x y : List ℕ) (i j : Status) → DerivesFile limit held x i → DerivesFile limit held y j → (x ≡ y) × (i ≡ j)
file_once limit held x y i j a b =
    by_file_once (DerivesText limit) held x y i j
    (λ text. first_once (Derives limit) limit text x y i j (λ spec order v w k l p. own_once spec order limit (passes_checks limit text spec order p) v w k l)) a b

pub file_some : (limit : ℕ) (held : Option (List ℕ)) → IsFront (DerivesFile limit held) []
file_some limit held =
    by_file_some (DerivesText limit) held (λ text. first_some (Derives limit) limit text (λ spec order p. own_some spec order limit (passes_checks limit text spec order p)))

-- ---- what is printed holds

first_of : (x y : Bool) → (x && y) ≡ true → x ≡ true
first_of true y h = refl
first_of false y h = absurd (false≢true h)

rest_of : (x y : Bool) → (x && y) ≡ true → y ≡ true
rest_of true y h = h
rest_of false y h = absurd (false≢true h)

the_classes : (spec : Data) (order : List ℕ) (limit : ℕ) (cs : List ℕ) (ds : List Derivation) → HaveDerived spec order limit cs ds → map (λ d. d.class) ds ≡ cs
the_classes spec order limit [] [] h = refl
the_classes spec order limit [] (d ∷ ds) h = absurd h
the_classes spec order limit (c ∷ cs) [] h = absurd h
the_classes spec order limit (c ∷ cs) (d ∷ ds) h = ap₂ (λ n ns. n ∷ ns) h.0 (the_classes spec order limit cs ds h.2)

module _ (spec : Data) (order : Order) (limit : ℕ) (k : PassesChecks spec order) (inputs : List Input) (states : List Codes) (run : IsRun spec inputs states) where
  one_holds : (class : ℕ) (w : Derived) → IsTrue (is_class_at spec class) → HasDerived spec order.list class limit w → HoldThroughout spec states class w
  one_holds class (derived.All list) is h = invariants_hold.hold spec order class limit list k is h inputs states run
  one_holds class (derived.Undecided round c) is h = tt

  each_holds : (cs : List ℕ) (ds : List Derivation) → IsTrue (list_all (is_class_at spec) cs) → HaveDerived spec order.list limit cs ds
      → AllByRecursion (λ (d : Derivation). HoldThroughout spec states d.class d.derived) ds
  each_holds [] [] are h = tt
  each_holds [] (d ∷ ds) are h = absurd h
  each_holds (c ∷ cs) [] are h = absurd h
  each_holds (c ∷ cs) (d ∷ ds) are h = (
    one_holds d.class d.derived (subst (λ n. IsTrue (is_class_at spec n)) (sym h.0) (first_of (is_class_at spec c) (list_all (is_class_at spec) cs) are)) h.1,
    each_holds cs ds (rest_of (is_class_at spec c) (list_all (is_class_at spec) cs) are) h.2,
  )

own_holds : (limit : ℕ) (spec : Data) (order : Order) (bytes : List ℕ) (status : Status) → PassesChecks spec order → Derives limit spec bytes status → PrintsWhatHolds spec bytes
own_holds limit spec order bytes status k a =
    let each = by_order spec order limit k a.order a.ordered (classes_of spec) a.list a.each in
    record {
      list = a.list;
      classes = the_classes spec order.list limit (classes_of spec) a.list each;
      printed = a.text;
      hold = λ inputs states run. each_holds spec order limit k inputs states run (classes_of spec) a.list (classes_are spec) each;
    }

text_holds : (limit : ℕ) (text bytes : List ℕ) (status : Status) (spec : Data) (order : Order) → Passes limit text spec order → DerivesText limit text bytes status → PrintsWhatHolds spec bytes
text_holds limit text bytes status spec order p (finished report other) =
    absurd (other (sym (one_checking.once limit text (passed_text spec order.list) bytes Done status (one_checking.done limit text spec order p) report).1))
text_holds limit text bytes status spec order p (passed second later q mine) =
    let same : second ≡ spec = one_checking.one_spec limit text second spec later order q p in
    own_holds limit spec order bytes status (passes_checks limit text spec order p) (subst (λ s. Derives limit s bytes status) same mine)

done_holds : (limit : ℕ) (text bytes : List ℕ) (status : Status) → DerivesText limit text bytes status → status ≡ Done → (spec : Data) → Spells text spec → PrintsWhatHolds spec bytes
done_holds limit text bytes status (finished report other) done spec spelled = absurd (other done)
done_holds limit text bytes status (passed second order p mine) done spec spelled =
    subst (λ s. PrintsWhatHolds s bytes) (one_reading.once text second spec p.spells spelled) (own_holds limit second order bytes status (passes_checks limit text second order p) mine)

-- ---- decided classes

none_undecided : (spec : Data) (order : List ℕ) (limit : ℕ) (cs : List ℕ) (ds : List Derivation) → AllByRecursion (IsDecided spec order limit) cs → HaveDerived spec order limit cs ds → list_any (λ d. is_undecided d.derived) ds ≡ false
none_undecided spec order limit [] [] are h = refl
none_undecided spec order limit [] (d ∷ ds) are h = absurd h
none_undecided spec order limit (c ∷ cs) [] are h = absurd h
none_undecided spec order limit (c ∷ cs) (d ∷ ds) are h =
    ap₂ (λ a b. a || b) (by d.derived (subst (λ n. HasDerived spec order n limit d.derived) h.0 h.1)) (none_undecided spec order limit cs ds are.1 h.2)
  where
    by : (w : Derived) → HasDerived spec order c limit w → is_undecided w ≡ false
    by (derived.All list) g = refl
    by (derived.Undecided round candidate) g = absurd (are.0 round candidate g)

text_done : (limit : ℕ) (text bytes : List ℕ) (status : Status) (spec : Data) (order : Order) → Passes limit text spec order → AreDecided spec order.list limit → DerivesText limit text bytes status → status ≡ Done
text_done limit text bytes status spec order p are answer =
    let a = first_own (Derives limit) limit text spec order bytes status p answer in
    let each = by_order spec order limit (passes_checks limit text spec order p) a.order a.ordered (classes_of spec) a.list a.each in
    a.ending ∙ ap (λ b. if b then Undecided else Done) (none_undecided spec order.list limit (classes_of spec) a.list are each)

pub one_derivation : OneDerivation
one_derivation = record {
  once = file_once;
  some = file_some;
  decided = text_done;
  hold = text_holds;
  done = λ limit text bytes h spec spelled. done_holds limit text bytes Done h refl spec spelled;
}

-- ---- of the command

pub passed_file : (limit : ℕ) (file : Loaded) (checked : Checked) (out : List ℕ) (status : Status) → ((text : List ℕ) → IsLoaded TEXT_LIMIT (Some text) file → IsChecking limit text (Passed checked))
    → Derives limit (data_of checked.spec) out status → (held : Option (List ℕ)) → IsLoaded TEXT_LIMIT held file → DerivesFile limit held out status
passed_file limit file checked out status is mine held loaded =
    loaded_file TEXT_LIMIT (λ h. DerivesFile limit h out status) held file loaded (λ text l. passed (data_of checked.spec) checked.order (is text l) mine)

pub if_ok_then : {A E : Type 0} (P Q : A → Type 0) (r : Result A E) → ((a : A) → P a → Q a) → IfOk r P → IfOk r Q
if_ok_then P Q (Ok a) f h = f a h
if_ok_then P Q (Err e) f h = tt

-- a report that ends the command
pub finished_file : (limit : ℕ) (file : Loaded) (out : List ℕ) (status : Status) → ((text : List ℕ) → IsLoaded TEXT_LIMIT (Some text) file → ChecksText limit text out status) → EndsCommand status
    → (held : Option (List ℕ)) → IsLoaded TEXT_LIMIT held file → DerivesFile limit held out status
finished_file limit file out status is ends held loaded =
    loaded_file TEXT_LIMIT (λ h. DerivesFile limit h out status) held file loaded (λ text l. finished (is text l) ends.other)
