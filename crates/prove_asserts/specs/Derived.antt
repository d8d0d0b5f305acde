-- What is derived for the mode classes, to be taken for granted.
use Rattle.std.specs.Prelude.{◌≡◌, ℕ, List, [], map}
use Rattle.std.specs.List.{AllByRecursion}
use Rattle.scr_spec.specs.Data.{Data}
use Rattle.prove_invariants.specs.declared.derived.Found.{Found}
use Rattle.prove_invariants.specs.declared.derived.Derived.{Derived}
use Rattle.prove_invariants.specs.declared.derived.Derived.TheVariants.{All, Undecided}
use Rattle.prove_invariants.specs.Derivations.{classes_of, HasDerived}
use Rattle.prove_asserts.specs.declared.lemma.Lemma.{Lemma}

-- the candidates that passed; none of a class that is undecided
abbrev pub found_in : Derived → List Found
found_in (All found) = found
found_in (Undecided round c) = []

-- those of its class
pub record IsDerivedLemma (spec : Data) (order : List ℕ) (limit : ℕ) (l : Lemma) : Type 0 where
  pub derived : Derived
  pub derived_is : HasDerived spec order l.class limit derived
  pub found_are : l.found ≡ found_in derived

-- one for each class, in order of declaration
pub record AreDerivedLemmas (spec : Data) (order : List ℕ) (limit : ℕ) (lemmas : List Lemma) : Type 0 where
  pub classes : map (λ l. l.class) lemmas ≡ classes_of spec
  pub each : AllByRecursion (IsDerivedLemma spec order limit) lemmas
