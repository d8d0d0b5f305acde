-- The trees of atoms that are kept.
use Rattle.std.proofs.Common.{◌≡◌, ℕ, ℤ, pos, negsuc, ◌<◌, ◌≤◌, Bool, true, false, cond, ◌&&◌, eqb, List, [], ◌∷◌, length, Option, None, Some, IfSome, refl, sym, ap, ap₂, subst, ◌∙◌, arith}
use Rattle.std.proofs.lemmas.Bool.{and_parts, eqb-true, false≢true}
use Rattle.std.proofs.lemmas.Bool.Decides.{Decides-int_eq}
use Rattle.std.specs.Map.{lookup}
use Rattle.std.specs.List.{AllByRecursion}
use Rattle.std.specs.Ordering.{int_eq}
use Rattle.indexmap.specs.IndexMap.{insert_entry}
use lib.Pointwise.{pointwise}
use Rattle.dd_formula.specs.declared.formula.Op.{Op}
use Rattle.dd_formula.specs.declared.formula.Op.TheVariants.{Eq, Le}
use Rattle.dd_formula.specs.declared.formula.Term.{Term}
use Rattle.dd_formula.specs.declared.formula.Linear.{Linear}
use Rattle.dd_formula.specs.contracts.formula.OpPartialEq.TheImpl as op
use Rattle.dd_tree.specs.Function.{tree_of}
use Rattle.dd_formula.specs.Truth.{atom_holds}
use Rattle.dd_store.specs.declared.atoms.AtomKey.{AtomKey}
use Rattle.dd_store.specs.declared.memo.MemoKey.{MemoKey}
use Rattle.dd_store.specs.contracts.atoms.AtomKeyPartialEq.TheImpl as key
use Rattle.dd_store.specs.Domains.{sizes_of}
use Rattle.dd_store.specs.Held.{Held, trees, at, Has}
use Rattle.dd_store.specs.Atoms.{codes_at, atom_of, linear_of, IsAtomOf, AreAtoms, IsFoundAtom, AreKeptAtoms}
use Rattle.dd_store.proofs.Recalled.{with_entries}

-- whether two keys are equal
abbrev pub atom_eq : AtomKey → AtomKey → Bool
atom_eq = key.eq-value.it

-- what the derived `==` of terms computes to
abbrev pub term_eq : Term → Term → Bool
term_eq a b = int_eq a.factor b.factor && eqb a.level b.level

-- equal numbers are one
same_int : (a b : ℤ) → int_eq a b ≡ true → a ≡ b
same_int a b = (Decides-int_eq a b).0

-- equal operations are one
same_op : (a b : Op) → op.eq-value.it a b ≡ true → a ≡ b
same_op Eq Eq h = refl
same_op Eq Le h = absurd (false≢true h)
same_op Le Eq h = absurd (false≢true h)
same_op Le Le h = refl

-- equal terms are one
same_term : (a b : Term) → term_eq a b ≡ true → a ≡ b
same_term a b h = let p = and_parts _ _ h in ap₂ (λ (f : ℤ) (l : ℕ). let t : Term = record { factor = f; level = l } in t) (same_int a.factor b.factor p.0) (eqb-true a.level b.level p.1)

-- and so are equal lists of them
same_terms : (xs ys : List Term) → pointwise term_eq xs ys ≡ true → xs ≡ ys
same_terms [] [] h = refl
same_terms [] (y ∷ ys) h = absurd (false≢true h)
same_terms (x ∷ xs) [] h = absurd (false≢true h)
same_terms (x ∷ xs) (y ∷ ys) h = let p = and_parts _ _ h in ap₂ (λ a as'. a ∷ as') (same_term x y p.0) (same_terms xs ys p.1)

-- equal keys have one atom
pub same_atom : (a b : AtomKey) → atom_eq a b ≡ true → linear_of a ≡ linear_of b
same_atom a b h =
    let p = and_parts _ _ h in
    let q = and_parts _ _ p.1 in
    ap₂ (λ (ts : List Term) (n : ℤ). let l : Linear = record { terms = ts; constant = n; op = a.op } in l) (same_terms a.terms.items b.terms.items p.0) (same_int a.constant b.constant q.0)
    ∙ ap (λ (o : Op). let l : Linear = record { terms = b.terms.items; constant = b.constant; op = o } in l) (same_op a.op b.op q.1)

-- what a look-up finds is the tree of its key's atom
found : (held : Held) (es : List (AtomKey × ℕ)) (k : AtomKey) (r : ℕ) → AreAtoms held es → lookup (atom_eq k) es ≡ Some r → IsAtomOf held k r
found held [] k r h e = cc
found held (x ∷ xs) k r h e = by (found held xs k r h.1) (atom_eq k x.0) refl
  where
    by : (lookup (atom_eq k) xs ≡ Some r → IsAtomOf held k r) → (b : Bool) → atom_eq k x.0 ≡ b → IsAtomOf held k r
    by rest true p =
        let there : Some x.1 ≡ Some r = sym (ap (λ c. cond c (Some x.1) (lookup (atom_eq k) xs)) p) ∙ e in
        let same : x.1 ≡ r = cc in
        subst (λ i. IsAtomOf held k i) same (subst (λ a. Has held x.1 (atom_of held a)) (sym (same_atom k x.0 p)) h.0)
    by rest false p = rest (sym (ap (λ c. cond c (Some x.1) (lookup (atom_eq k) xs)) p) ∙ e)

-- so for each look-up
pub IsFoundAtom-lookup : (es : List (AtomKey × ℕ)) (k : AtomKey) (o : Option ℕ) → o ≡ lookup (atom_eq k) es → IfSome o (IsFoundAtom es k)
IsFoundAtom-lookup es k None e = tt
IsFoundAtom-lookup es k (Some r) e = record { is = λ held h. found held es k r h (sym e) }

-- a tree put in
put_in : (held : Held) (es : List (AtomKey × ℕ)) (k : AtomKey) (r : ℕ) → AreAtoms held es → IsAtomOf held k r → AreAtoms held (insert_entry atom_eq es k r)
put_in held [] k r h new = (new, tt)
put_in held (x ∷ xs) k r h new = by (put_in held xs k r h.1 new) (atom_eq k x.0) refl
  where
    by : AreAtoms held (insert_entry atom_eq xs k r) → (b : Bool) → atom_eq k x.0 ≡ b → AreAtoms held (insert_entry atom_eq (x ∷ xs) k r)
    by rest true p =
        subst (AreAtoms held) (sym (ap (λ c. cond c ((x.0, r) ∷ xs) (x ∷ insert_entry atom_eq xs k r)) p))
        (subst (λ a. Has held r (atom_of held a)) (same_atom k x.0 p) new, h.1)
    by rest false p =
        subst (AreAtoms held) (sym (ap (λ c. cond c ((x.0, r) ∷ xs) (x ∷ insert_entry atom_eq xs k r)) p))
        (h.0, rest)

-- so the entries stay right
pub AreKeptAtoms-insert : (old new : List (AtomKey × ℕ)) (k : AtomKey) (r : ℕ) → new ≡ insert_entry atom_eq old k r → AreKeptAtoms old k r new
AreKeptAtoms-insert old new k r e = record { are = λ held h one. subst (AreAtoms held) (sym e) (put_in held old k r h one) }

-- and where nothing was put in
pub AreKeptAtoms-same : (old new : List (AtomKey × ℕ)) (k : AtomKey) (r : ℕ) → new ≡ old → AreKeptAtoms old k r new
AreKeptAtoms-same old new k r e = record { are = λ held h one. subst (AreAtoms held) (sym e) h }

-- a tree stays one where the trees stay in front
pub IsAtomOf-kept : (old new : Held) → new.domains ≡ old.domains → length (trees old) ≤ length (trees new) → ((i : ℕ) → i < length (trees old) → at (trees new) i ≡ at (trees old) i) → (k : AtomKey) (r : ℕ) → IsAtomOf old k r → IsAtomOf new k r
IsAtomOf-kept old new domains longer same k r h = record {
  known = omega (arith, h.known);
  tree = same r h.known ∙ h.tree ∙ sym (ap (λ ds. tree_of (sizes_of ds) (λ v. atom_holds (codes_at ds v) (linear_of k))) domains);
}

-- trees stay ones where each does
pub AreAtoms-kept : (old new : Held) → ((k : AtomKey) (r : ℕ) → IsAtomOf old k r → IsAtomOf new k r) → (es : List (AtomKey × ℕ)) → AreAtoms old es → AreAtoms new es
AreAtoms-kept old new each [] h = tt
AreAtoms-kept old new each (e ∷ es) h = (each e.0 e.1 h.0, AreAtoms-kept old new each es h.1)

-- a tree stays one beside other entries of the memo
one_with_entries : (held : Held) (ms : List (MemoKey × ℕ)) (k : AtomKey) (r : ℕ) → IsAtomOf held k r → IsAtomOf (with_entries held ms) k r
unfolding trees
one_with_entries held ms k r h = record { known = h.known; tree = h.tree }

-- and so do all
pub AreAtoms-with_entries : (held : Held) (ms : List (MemoKey × ℕ)) (es : List (AtomKey × ℕ)) → AreAtoms held es → AreAtoms (with_entries held ms) es
AreAtoms-with_entries held ms es h = AreAtoms-kept held (with_entries held ms) (one_with_entries held ms) es h
