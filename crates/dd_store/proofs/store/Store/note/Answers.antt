use Rattle.std.proofs.Common.{ℕ, List, ap, ap₂, sym, subst, ◌∙◌}
use Rattle.lru.specs.LruCache.{put_entries, lru_cache}
use Rattle.dd_store.specs.declared.memo.MemoKey.{MemoKey}
use Rattle.dd_store.specs.Held.{Held, IsSameButMemo}
use Rattle.dd_store.specs.Memo.{IsResult, key_eq, key_of}
use Rattle.dd_store.specs.Kept.{IsHeld}
use Rattle.dd_store.specs.Inner.{held_by}
use Rattle.dd_store.proofs.Recalled.{with_entries, IsHeld-noted, IsSameButMemo-with_entries}
use Rattle.dd_store.proofs.ResultLemmas.{AreResults-with_entries}
use Rattle.dd_store.proofs.AtomLemmas.{AreAtoms-with_entries}
use Rattle.dd_store.proofs.store.Store.note.Goals as goal

-- the store with the entry keeps what every store keeps
still_held : (c : goal.In_ok-put) → IsHeld (with_entries (held_by c.self.inside) c.put.new.self.entries)
still_held c =
    subst (λ m. IsHeld (with_entries (held_by c.self.inside) m.entries)) (sym c.in_ok-put.ensures.entries)
    (IsHeld-noted (held_by c.self.inside) c.self.inside.memo.cap (key_of c.args.join c.args.f c.args.g) c.args.answer c.self.invariant.held
    (subst (λ h. IsResult h (key_of c.args.join c.args.f c.args.g) c.args.answer) (sym c.self.view_is) c.requires))

pub invariant_of-self-2 : goal.invariant_of-self-2
invariant_of-self-2 c = record {
  held = still_held c;
  joined = c.self.invariant.joined;
  cap = ap (λ m. m.cap) c.in_ok-put.ensures.entries ∙ c.self.invariant.cap;
  results =
      AreResults-with_entries (held_by c.self.inside) c.put.new.self.entries c.keep.new.results.entries
      (c.keep.ensures.are (held_by c.self.inside) c.self.invariant.results
      (subst (λ h. IsResult h (key_of c.args.join c.args.f c.args.g) c.args.answer) (sym c.self.view_is) c.requires));
  atoms = AreAtoms-with_entries (held_by c.self.inside) c.put.new.self.entries c.self.inside.atoms.entries c.self.invariant.atoms;
}

pub returns-clause-memo : goal.returns-clause-memo
returns-clause-memo c =
    ap (λ m. m.entries) c.in_ok-put.ensures.entries
    ∙ ap₂ (λ (es : List (MemoKey × ℕ)) (cap : ℕ). put_entries key_eq (lru_cache es cap) (key_of c.args.join c.args.f c.args.g) c.args.answer) (ap (λ (h : Held). h.entries) c.self.view_is) c.self.invariant.cap

pub returns-clause-same : goal.returns-clause-same
returns-clause-same c =
    subst (λ h. IsSameButMemo h (with_entries (held_by c.self.inside) c.put.new.self.entries)) c.self.view_is (IsSameButMemo-with_entries (held_by c.self.inside) c.put.new.self.entries)

pub returns-clause-held : goal.returns-clause-held
returns-clause-held c = still_held c
