-- Laws of derived invariants.
use Rattle.std.specs.Prelude.{◌≡◌, ℕ, List, IsTrue}
use Rattle.std.specs.List.{AllByRecursion}
use Rattle.scr_spec.specs.Data.{Data}
use Rattle.scr_spec.specs.Meaning.{Codes}
use Rattle.scr_spec.specs.declared.state.Input.{Input}
use Rattle.scr_spec.specs.Tables.{is_class_at}
use Rattle.scr_depend.specs.declared.order.Order.{Order}
use Rattle.scr_depend.specs.Passes.{PassesChecks}
use Rattle.run_step.specs.Runs.{IsRun}
use Rattle.prove_invariants.specs.declared.derived.Found.{Found}
use Rattle.prove_invariants.specs.declared.derived.Derived.{Derived}
use Rattle.prove_invariants.specs.declared.derived.Derived.TheVariants.{All}
use Rattle.prove_invariants.specs.Holds.{holds_in}
use Rattle.prove_invariants.specs.Derivations.{HasDerived}

-- in a specification that passed its checks each candidate that is found holds in every state of every run
pub record InvariantsHold : Type 0 where
  pub hold : (spec : Data) (order : Order) (class limit : ℕ) (found : List Found) → PassesChecks spec order → IsTrue (is_class_at spec class) → HasDerived spec order.list class limit (All found)
      → (inputs : List Input) (states : List Codes) → IsRun spec inputs states → AllByRecursion (λ f. AllByRecursion (λ at. IsTrue (holds_in spec class at f.candidate)) states) found

-- and one thing is derived for a class, and never none
pub record OneDerived : Type 0 where
  pub once : (spec : Data) (order : Order) (class limit : ℕ) (a b : Derived) → PassesChecks spec order → HasDerived spec order.list class limit a → HasDerived spec order.list class limit b → a ≡ b
  pub some : (spec : Data) (order : Order) (class limit : ℕ) → PassesChecks spec order → ((derived : Derived) → HasDerived spec order.list class limit derived → ⊥) → ⊥
