-- Files have one answer of `slice`, which is right.
use Rattle.std.proofs.Common.{◌≡◌, ℕ, List, [], Option, Some, refl, sym, ap, subst, ◌∙◌, inl, inr}
use Rattle.std.proofs.Common.{Result, Ok, Err, Vec, Global}
use Rattle.std.specs.Prelude.{IfOk}
use Rattle.base.specs.declared.memory.NoMemory.{NoMemory}
use Rattle.scr_spec.specs.Data.{Data}
use Rattle.scr_spec.specs.Shown.{data_of}
use Rattle.scr_parse.specs.declared.text.TheConstants.{TEXT_LIMIT}
use Rattle.scr_printer.specs.Text.{canonical}
use Rattle.scr_roundtrip.specs.Laws.{PassesNoLimit, IsCanonical}
use Rattle.scr_roundtrip.proofs.Laws.{canonical_spells}
use Rattle.scr_depend.specs.declared.checked.Checked.{Checked}
use Rattle.scr_depend.specs.declared.order.Order.{Order}
use Rattle.scr_depend.specs.Passes.{PassesChecks}
use Rattle.cmd_work.specs.declared.status.Status.{Status}
use Rattle.cmd_work.specs.declared.status.Status.TheVariants.{Done, NameRefused}
use Rattle.cmd_work.specs.declared.whole.Loaded.{Loaded}
use Rattle.cmd_work.specs.Load.{IsLoaded}
use Rattle.cmd_work.specs.Ends.{IsFront}
use Rattle.cmd_work.proofs.TwoFilesLemmas.{loaded_file}
use Rattle.cmd_work.proofs.EndsLemmas.{by_file_once, by_file_some}
use Rattle.cmd_checked.specs.declared.checking.Checking.TheVariants.{Passed}
use Rattle.cmd_checked.specs.Reports.{ChecksText}
use Rattle.cmd_checked.specs.Checking.{Passes, EndsCommand, IsChecking, ChecksFirst, finished, passed}
use Rattle.cmd_checked.proofs.Checks.{passes_checks}
use Rattle.cmd_checked.proofs.First.{first_once, first_some}
use Rattle.scr_slice.specs.Slices.{AreKept, IsKeepable, IsSlice}
use Rattle.scr_slice.proofs.Existence.{some_kept, some_slice}
use Rattle.scr_slice.proofs.One.{one_kept, one_slice}
use Rattle.scr_slice.proofs.SliceLaws.{kept_is_keepable, same_runs, slice_meets_checks}
use Rattle.scr_slice.proofs.Sounds.{slice_sound}
use Rattle.cmd_slice.specs.Names.{first_unknown, AreNumbers, unknown_text}
use Rattle.cmd_slice.specs.Slicing.{IsSliceText, SlicesSpec, unknown, sliced, SlicesFile}
use Rattle.cmd_slice.specs.Laws.{IsRightSlice, OneSlicing}
use Rattle.cmd_slice.proofs.Naming.{none_unknown, numbers_within, one_numbers, either}

-- ---- of a specification

text_once : (spec : Data) (numbers x y : List ℕ) → IsSliceText spec numbers x → IsSliceText spec numbers y → x ≡ y
text_once spec numbers x y a b =
    let keep : a.keep ≡ b.keep = one_kept spec numbers a.keep b.keep a.kept b.kept in
    let same : a.slice ≡ b.slice = one_slice spec b.keep a.slice b.slice (subst (λ k. IsSlice spec k a.slice) keep a.sliced) b.sliced in
    a.text ∙ ap canonical same ∙ sym b.text

one_word : (o : Option (List ℕ)) (a b : List ℕ) → o ≡ Some a → o ≡ Some b → a ≡ b
one_word o a b h k = cc

spec_once : (words : List (List ℕ)) (spec : Data) (x y : List ℕ) (i j : Status) → SlicesSpec words spec x i → SlicesSpec words spec y j → (x ≡ y) × (i ≡ j)
spec_once words spec x y i j (unknown v h e s) (unknown w k f t) = (e ∙ ap unknown_text (one_word (first_unknown spec words) v w h k) ∙ sym f, s ∙ sym t)
spec_once words spec x y i j (unknown v h e s) (sliced m n b t) = absurd (none_unknown spec words m v n h)
spec_once words spec x y i j (sliced m n a s) (unknown w k f t) = absurd (none_unknown spec words m w n k)
spec_once words spec x y i j (sliced l m a s) (sliced p q b t) =
    (text_once spec p x y (subst (λ numbers. IsSliceText spec numbers x) (one_numbers spec words l p m q) a) b, s ∙ sym t)

-- what is kept for these numbers is keepable
keepable : (spec : Data) (order : Order) (words : List (List ℕ)) (numbers keep : List ℕ) → PassesChecks spec order → AreNumbers spec words numbers → AreKept spec numbers keep → IsKeepable spec keep
keepable spec order words numbers keep k named kept = kept_is_keepable.keepable spec numbers keep k.sound (numbers_within spec words numbers named) kept

some_spec : (words : List (List ℕ)) (spec : Data) (order : Order) → PassesChecks spec order → IsFront (SlicesSpec words spec) []
some_spec words spec order k none =
    elim (either spec words) [
      | inl word ↦ none (unknown_text word.0) NameRefused (unknown word.0 word.1 refl refl)
      | inr known ↦
          some_kept spec known.0 k.sound (numbers_within spec words known.0 known.1)
          (λ keep kept.
          let slice = some_slice spec keep (keepable spec order words known.0 keep k known.1 kept) in
          none (canonical slice.0) Done (sliced known.0 known.1 (record { keep = keep; slice = slice.0; kept = kept; sliced = slice.1; text = refl }) refl))
    ]

-- ---- of a file

pub passed_file : (words : List (List ℕ)) (limit : ℕ) (file : Loaded) (checked : Checked) (out : List ℕ) (status : Status)
    → ((text : List ℕ) → IsLoaded TEXT_LIMIT (Some text) file → IsChecking limit text (Passed checked)) → SlicesSpec words (data_of checked.spec) out status
    → (held : Option (List ℕ)) → IsLoaded TEXT_LIMIT held file → SlicesFile words limit held out status
passed_file words limit file checked out status is made held loaded =
    loaded_file TEXT_LIMIT (λ h. SlicesFile words limit h out status) held file loaded (λ text l. passed (data_of checked.spec) checked.order (is text l) made)

pub passed_result : (words : List (List ℕ)) (limit : ℕ) (file : Loaded) (checked : Checked) (r : Result (Vec ℕ Global × Status) NoMemory)
    → ((text : List ℕ) → IsLoaded TEXT_LIMIT (Some text) file → IsChecking limit text (Passed checked)) → IfOk r (λ x. SlicesSpec words (data_of checked.spec) x.0.items x.1)
    → IfOk r (λ x. (held : Option (List ℕ)) → IsLoaded TEXT_LIMIT held file → SlicesFile words limit held x.0.items x.1)
passed_result words limit file checked (Err e) is made = tt
passed_result words limit file checked (Ok x) is made = passed_file words limit file checked x.0.items x.1 is made

pub finished_file : (words : List (List ℕ)) (limit : ℕ) (file : Loaded) (out : List ℕ) (status : Status)
    → ((text : List ℕ) → IsLoaded TEXT_LIMIT (Some text) file → ChecksText limit text out status) → EndsCommand status
    → (held : Option (List ℕ)) → IsLoaded TEXT_LIMIT held file → SlicesFile words limit held out status
finished_file words limit file out status is ends held loaded =
    loaded_file TEXT_LIMIT (λ h. SlicesFile words limit h out status) held file loaded (λ text l. finished (is text l) ends.other)

slices_once : (words : List (List ℕ)) (limit : ℕ) (held : Option (List ℕ)) (x y : List ℕ) (i j : Status) → SlicesFile words limit held x i → SlicesFile words limit held y j → (x ≡ y) × (i ≡ j)
slices_once words limit held x y i j a b =
    by_file_once (ChecksFirst (SlicesSpec words) limit) held x y i j
    (λ text. first_once (SlicesSpec words) limit text x y i j (λ spec order v w k l p. spec_once words spec v w k l)) a b

pub some_slices : (words : List (List ℕ)) (limit : ℕ) (held : Option (List ℕ)) → IsFront (SlicesFile words limit held) []
some_slices words limit held =
    by_file_some (ChecksFirst (SlicesSpec words) limit) held
    (λ text. first_some (SlicesSpec words) limit text (λ spec order p. some_spec words spec order (passes_checks limit text spec order p)))

-- ---- right

right_text : (words : List (List ℕ)) (spec : Data) (order : Order) (numbers bytes : List ℕ) → PassesChecks spec order → AreNumbers spec words numbers → IsSliceText spec numbers bytes → IsRightSlice spec numbers bytes
right_text words spec order numbers bytes k named t =
    let can = keepable spec order words numbers t.keep k named t.kept in
    let sound = slice_sound spec t.keep t.slice t.sliced can k.sound in
    let checks = slice_meets_checks.passes spec t.slice order t.keep k can t.sliced in
    record {
      keep = t.keep;
      slice = t.slice;
      kept = t.kept;
      sliced = t.sliced;
      printed = t.text;
      text = λ passes. subst (λ b. IsCanonical b t.slice) (sym t.text) (canonical_spells t.slice sound (subst PassesNoLimit t.text passes));
      own_order = checks.0;
      passes = checks.1;
      valid = λ inputs valid. same_runs.valid spec t.slice t.keep inputs can t.sliced valid;
      runs = λ inputs states run. same_runs.runs spec t.slice order t.keep inputs states k can t.sliced run;
      still = λ old input new consistent step dropped. same_runs.still spec order t.keep old input new k can consistent step dropped;
    }

right_by : (words : List (List ℕ)) (spec : Data) (order : Order) (bytes : List ℕ) (status : Status) → PassesChecks spec order → SlicesSpec words spec bytes status → status ≡ Done
    → (numbers : List ℕ) × AreNumbers spec words numbers × IsRightSlice spec numbers bytes
right_by words spec order bytes status k (unknown word h e s) done = absurd (other (sym s ∙ done))
  where
    other : NameRefused ≡ Done → ⊥
    other e = cc
right_by words spec order bytes status k (sliced numbers named text s) done = (numbers, named, right_text words spec order numbers bytes k named text)

done_by : (words : List (List ℕ)) (limit : ℕ) (text bytes : List ℕ) (status : Status) → ChecksFirst (SlicesSpec words) limit text bytes status → status ≡ Done
    → (spec : Data) × (order : Order) × Passes limit text spec order × (numbers : List ℕ) × AreNumbers spec words numbers × IsRightSlice spec numbers bytes
done_by words limit text bytes status (finished is other) done = absurd (other done)
done_by words limit text bytes status (passed spec order p made) done =
    let right = right_by words spec order bytes status (passes_checks limit text spec order p) made done in
    (spec, order, p, right.0, right.1, right.2)

pub one_slicing : OneSlicing
one_slicing = record {
  once = slices_once;
  some = some_slices;
  done = λ words limit text bytes made. done_by words limit text bytes Done made refl;
}
