use Rattle.std.proofs.Common.{sym, subst}
use Rattle.dd_store.specs.Atoms.{IsAtomOf}
use Rattle.dd_store.specs.Inner.{held_by}
use Rattle.dd_store.proofs.store.Store.note_atom.Goals as goal

pub invariant_of-self : goal.invariant_of-self
invariant_of-self c = record {
  held = c.self.invariant.held;
  joined = c.self.invariant.joined;
  cap = c.self.invariant.cap;
  results = c.self.invariant.results;
  atoms = c.keep_atom.ensures.are (held_by c.self.inside) c.self.invariant.atoms (subst (λ h. IsAtomOf h c.args.key c.args.answer) (sym c.self.view_is) c.requires);
}
