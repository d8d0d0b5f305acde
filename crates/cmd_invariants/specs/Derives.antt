-- What `invariants` answers.
use Rattle.std.specs.Prelude.{◌≡◌, ℕ, Bool, true, false, List, [], ◌∷◌, Option, if◌then◌else◌}
use Rattle.std.specs.List.{list_any}
use Rattle.scr_spec.specs.Data.{Data}
use Rattle.scr_depend.specs.Dependencies.{graph_of}
use Rattle.scr_depend.specs.Orders.{IsOrder}
use Rattle.prove_invariants.specs.declared.derived.Derived.{Derived}
use Rattle.prove_invariants.specs.declared.derived.Derived.TheVariants as derived
use Rattle.prove_invariants.specs.Derivations.{classes_of, HasDerived}
use Rattle.cmd_work.specs.declared.status.Status.{Status}
use Rattle.cmd_work.specs.declared.status.Status.TheVariants.{Done, Undecided}
use Rattle.cmd_work.specs.Ends.{ByFile}
use Rattle.cmd_checked.specs.Checking.{ChecksFirst}
use Rattle.cmd_invariants.specs.declared.derivation.Derivation.{Derivation}
use Rattle.cmd_invariants.specs.Texts.{classes_text}

-- what is derived for each of the classes, each by itself
abbrev pub HaveDerived : Data → List ℕ → ℕ → List ℕ → List Derivation → Type 0
HaveDerived spec order limit [] [] = Unit {0}
HaveDerived spec order limit [] (d ∷ ds) = ⊥
HaveDerived spec order limit (class ∷ classes) [] = ⊥
HaveDerived spec order limit (class ∷ classes) (d ∷ ds) = (d.class ≡ class) × HasDerived spec order d.class limit d.derived × HaveDerived spec order limit classes ds

abbrev pub is_undecided : Derived → Bool
is_undecided (derived.All list) = false
is_undecided (derived.Undecided round c) = true

-- how a run ends that derived this
abbrev pub status_of : List Derivation → Status
status_of list = if list_any (λ d. is_undecided d.derived) list then Undecided else Done

-- the lines on each class of a specification that passes, in order of declaration
pub record Derives (limit : ℕ) (spec : Data) (bytes : List ℕ) (status : Status) : Type 0 where
  pub order : List ℕ
  pub ordered : IsOrder (graph_of spec) order
  pub list : List Derivation
  pub each : HaveDerived spec order limit (classes_of spec) list
  pub text : bytes ≡ classes_text spec list
  pub ending : status ≡ status_of list

-- for a text: the report of `check` where that ends with another status than `Done`, and else these lines
abbrev pub DerivesText : ℕ → List ℕ → List ℕ → Status → Type 0
DerivesText limit = ChecksFirst (Derives limit) limit

-- for a file, if it is there
abbrev pub DerivesFile : ℕ → Option (List ℕ) → List ℕ → Status → Type 0
DerivesFile limit = ByFile (DerivesText limit)
