-- What words ask of `slice`.
use Rattle.std.specs.Prelude.{◌≡◌, ℕ, ◌-◌, Bool, true, false, nat_lt, nat_le, ◌&&◌, List, [], ◌∷◌, length, take, slice_get, Option, None, Some, codes, if◌then◌else◌}
use Rattle.std.specs.Option.{option_and_then}
use Rattle.dd_store.specs.declared.store.TheConstants.{SPLIT_LIMIT}
use Rattle.scr_spec.specs.declared.limits.TheConstants.{VARIABLE_LIMIT}
use Rattle.cmd_work.specs.declared.status.Status.{Status}
use Rattle.cmd_work.specs.declared.status.Status.TheVariants.{Done, NameRefused}
use Rattle.cmd_work.specs.Words.{behind, number_in}
use Rattle.cmd_work.specs.Work.{Task, by_one, Asked, asked_by}
use Rattle.cmd_checked.specs.Checking.{ReachesScript}
use Rattle.cmd_checked.specs.Offered.{IsThereWith, PassesWith}
use Rattle.cmd_slice.specs.Names.{first_unknown}
use Rattle.cmd_slice.specs.Slicing.{SlicesFile}

-- ---- words

-- the limit that the last of these words gives, where a word stands before it
abbrev pub last_limit : List (List ℕ) → Option ℕ
last_limit words = if nat_lt (length words) 2 then None else option_and_then (number_in 1 SPLIT_LIMIT) (slice_get words (length words - 1))

-- a file, names, if there may be so many, and the limit
abbrev pub named : List ℕ → List (List ℕ) → ℕ → Option (List ℕ × List (List ℕ) × ℕ)
named file names limit = if nat_le 1 (length names) && nat_le (length names) VARIABLE_LIMIT then Some (file, names, limit) else None

-- names, and behind them the limit, if the last word gives one
abbrev pub names_and_limit : List ℕ → List (List ℕ) → Option ℕ → Option (List ℕ × List (List ℕ) × ℕ)
names_and_limit file words None = named file words SPLIT_LIMIT
names_and_limit file words (Some limit) = named file (take (length words - 1) words) limit

-- a file, names, and the limit
abbrev pub slice_words : Option (List (List ℕ)) → Option (List ℕ × List (List ℕ) × ℕ)
slice_words None = None
slice_words (Some []) = None
slice_words (Some (file ∷ words)) = names_and_limit file words (last_limit words)

-- ---- the task

-- the text passes its checks, and each name is a variable's
abbrev pub AreNamed : List (List ℕ) → ℕ → Option (List ℕ) → Type 0
AreNamed names limit held = IsThereWith (PassesWith limit (λ spec order. first_unknown spec names ≡ None)) held

abbrev pub may_end : Status → Bool
may_end Done = true
may_end NameRefused = true
may_end status = false

abbrev pub task_of : List ℕ × List (List ℕ) × ℕ → Task
task_of (name, names, limit) = record {
  work = by_one name (SlicesFile names limit);
  IsAccepted = λ files. ReachesScript limit (files name);
  IsFaultless = λ files. AreNamed names limit (files name);
  may_end = may_end;
}

abbrev pub asked_of : List (List ℕ) → Asked
asked_of words = asked_by task_of (slice_words (behind (codes "slice") words))
