-- The trees of atoms that are kept.
use Rattle.std.specs.Prelude.{ℕ, List, slice_index}
use Rattle.std.specs.List.{AllByRecursion}
use Rattle.dd_formula.specs.declared.domain.Domain.{Domain}
use Rattle.dd_formula.specs.declared.formula.Linear.{Linear}
use Rattle.dd_formula.specs.Truth.{Valuation, atom_holds}
use Rattle.dd_tree.specs.Tree.{Tree}
use Rattle.dd_tree.specs.Function.{tree_of}
use Rattle.dd_store.specs.declared.atoms.AtomKey.{AtomKey}
use Rattle.dd_store.specs.Domains.{code_at}
use Rattle.dd_store.specs.Held.{Held, sizes, Has}

-- each level has the code at its position
abbrev pub codes_at : List Domain → List ℕ → Valuation
codes_at ds v level = code_at ds level (slice_index v level)

-- the tree that is true where the atom holds
abbrev pub atom_of : Held → Linear → Tree
atom_of held a = tree_of (sizes held) (λ v. atom_holds (codes_at held.domains v) a)

-- the atom of a key
abbrev pub linear_of : AtomKey → Linear
linear_of k = record { terms = k.terms.items; constant = k.constant; op = k.op }

-- the number has the tree of the key's atom
abbrev pub IsAtomOf : Held → AtomKey → ℕ → Type 0
IsAtomOf held key id = Has held id (atom_of held (linear_of key))

-- each entry has the tree of its key's atom
abbrev pub AreAtoms : Held → List (AtomKey × ℕ) → Type 0
AreAtoms held es = AllByRecursion (λ e. IsAtomOf held e.0 e.1) es

-- where all entries have the trees of their keys' atoms, the number has that of this key's
pub record IsFoundAtom (es : List (AtomKey × ℕ)) (key : AtomKey) (id : ℕ) : Type 0 where
  pub is : (held : Held) → AreAtoms held es → IsAtomOf held key id

-- with the tree of a key's atom they are still such entries
pub record AreKeptAtoms (old : List (AtomKey × ℕ)) (key : AtomKey) (id : ℕ) (new : List (AtomKey × ℕ)) : Type 0 where
  pub are : (held : Held) → AreAtoms held old → IsAtomOf held key id → AreAtoms held new
