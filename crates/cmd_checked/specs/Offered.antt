-- What is asked of a command that checks its first file.
use Rattle.std.specs.Prelude.{ℕ, Bool, true, false, List, Option, None, Some, IsSome}
use Rattle.scr_spec.specs.Data.{Data}
use Rattle.scr_depend.specs.declared.order.Order.{Order}
use Rattle.cmd_work.specs.declared.status.Status.{Status}
use Rattle.cmd_work.specs.declared.status.Status.TheVariants.{Done, ScriptRefused}
use Rattle.cmd_work.specs.Stops.{StopsNowhere}
use Rattle.cmd_work.specs.Work.{Task, by_one, by_two}
use Rattle.cmd_checked.specs.Checking.{Passes, ReachesScript}

-- ---- files without a fault

-- the file is there, and this is so of its text
abbrev pub IsThereWith : (List ℕ → Type 0) → Option (List ℕ) → Type 0
IsThereWith is None = ⊥
IsThereWith is (Some text) = is text

-- the text passes its checks, and this is so of the specification and its order
abbrev pub PassesWith : ℕ → (Data → Order → Type 0) → List ℕ → Type 0
PassesWith limit is text = (spec : Data) × (order : Order) × Passes limit text spec order × is spec order

-- both are there, and the script stops nowhere
abbrev pub GoThrough : (Data → List ℕ → List ℕ → Type 0) → ℕ → Option (List ℕ) → Option (List ℕ) → Type 0
GoThrough tells limit held script = IsThereWith (PassesWith limit (λ spec order. IsThereWith (λ text. StopsNowhere (tells spec text)) script)) held

-- ---- endings

-- a line of the script may be faulty
abbrev pub done_or_refused : Status → Bool
done_or_refused Done = true
done_or_refused ScriptRefused = true
done_or_refused status = false

-- ---- tasks

-- with one file: what is answered, when it is without a fault, and how it may end; each by the limit
abbrev pub one_checked : (ℕ → Option (List ℕ) → List ℕ → Status → Type 0) → (ℕ → Option (List ℕ) → Type 0) → (Status → Bool) → List ℕ × ℕ → Task
one_checked answers is_faultless may_end (name, limit) = record {
  work = by_one name (answers limit);
  IsAccepted = λ files. ReachesScript limit (files name);
  IsFaultless = λ files. is_faultless limit (files name);
  may_end = may_end;
}

-- with two files, which are both read before a byte is written, or not
abbrev pub two_checked : Bool → (ℕ → Option (List ℕ) → Option (List ℕ) → List ℕ → Status → Type 0) → (ℕ → Option (List ℕ) → Option (List ℕ) → Type 0) → (Status → Bool)
    → List ℕ × List ℕ × ℕ → Task
two_checked reads answers is_faultless may_end (name, second, limit) = record {
  work = by_two reads name second (answers limit) (ReachesScript limit);
  IsAccepted = λ files. ReachesScript limit (files name) × IsSome (files second);
  IsFaultless = λ files. is_faultless limit (files name) (files second);
  may_end = may_end;
}
