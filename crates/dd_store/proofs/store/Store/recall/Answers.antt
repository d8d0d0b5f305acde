use Rattle.std.proofs.Common.{ap, sym, subst, ◌∙◌}
use Rattle.dd_store.specs.Held.{IsSameButMemo}
use Rattle.dd_store.specs.Memo.{key_of}
use Rattle.dd_store.specs.Kept.{IsHeld}
use Rattle.dd_store.specs.Inner.{held_by}
use Rattle.dd_store.proofs.Recalled.{with_entries, IsHeld-promoted, IsResult-found, IsSameButMemo-with_entries}
use Rattle.dd_store.proofs.ResultLemmas.{AreResults-with_entries}
use Rattle.dd_store.proofs.AtomLemmas.{AreAtoms-with_entries}
use Rattle.dd_store.proofs.store.Store.recall.Goals as goal

-- the store with the entry in front keeps what every store keeps
still_held : (c : goal.After-self-2-1) → IsHeld (with_entries (held_by c.self.inside) c.get.follows.lender-at-none.entries)
still_held c =
    subst (λ m. IsHeld (with_entries (held_by c.self.inside) m.entries)) (sym c.get.follows.holds-at-none)
    (IsHeld-promoted (held_by c.self.inside) (key_of c.args.join c.args.f c.args.g) c.self.invariant.held)

pub invariant_of-self : goal.invariant_of-self
invariant_of-self c = record {
  held = still_held c;
  joined = c.self.invariant.joined;
  cap = ap (λ m. m.cap) c.get.follows.holds-at-none ∙ c.self.invariant.cap;
  results = AreResults-with_entries (held_by c.self.inside) c.get.follows.lender-at-none.entries c.self.inside.results.entries c.self.invariant.results;
  atoms = AreAtoms-with_entries (held_by c.self.inside) c.get.follows.lender-at-none.entries c.self.inside.atoms.entries c.self.invariant.atoms;
}

pub returns-clause-right : goal.returns-clause-right
returns-clause-right c =
    IsResult-found (held_by c.self.inside) c.get.follows.lender-at-none.entries (key_of c.args.join c.args.f c.args.g) c.copied.result c.self.invariant.held (c.copied.ensures ∙ c.get.ensures.value)

pub returns-clause-same : goal.returns-clause-same
returns-clause-same c =
    subst (λ h. IsSameButMemo h (with_entries (held_by c.self.inside) c.get.follows.lender-at-none.entries)) c.self.view_is (IsSameButMemo-with_entries (held_by c.self.inside) c.get.follows.lender-at-none.entries)

pub returns-clause-held : goal.returns-clause-held
returns-clause-held c = still_held c
