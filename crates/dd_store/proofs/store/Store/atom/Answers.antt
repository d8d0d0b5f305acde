use Rattle.std.proofs.Common.{ℕ, List, Option, None, Some, IfSome, subst}
use Rattle.dd_store.specs.declared.atoms.AtomKey.{AtomKey}
use Rattle.dd_store.specs.Held.{Held}
use Rattle.dd_store.specs.Atoms.{IsAtomOf, AreAtoms, IsFoundAtom}
use Rattle.dd_store.specs.Inner.{held_by}
use Rattle.dd_store.proofs.store.Store.atom.Goals as goal

-- whatever is found is right
right : (held : Held) (es : List (AtomKey × ℕ)) (k : AtomKey) (o : Option ℕ) → AreAtoms held es → IfSome o (IsFoundAtom es k) → IfSome o (IsAtomOf held k)
right held es k None h f = tt
right held es k (Some r) h f = f.is held h

pub returns-clause-right : goal.returns-clause-right
returns-clause-right c =
    subst (λ h. IfSome c.find_atom.result (IsAtomOf h c.args.key.now)) c.self.view_is
    (right (held_by c.self.inside) c.self.inside.atoms.entries c.args.key.now c.find_atom.result c.self.invariant.atoms c.find_atom.ensures)
