use Rattle.std.proofs.Common.{◌≡◌, ap, sym, ◌∙◌, subst}
use Rattle.std.specs.List.{AllByRecursion}
use Rattle.dd_store.specs.Held.{trees}
use Rattle.dd_store.specs.Results.{AreResults}
use Rattle.dd_store.specs.Atoms.{AreAtoms}
use Rattle.dd_store.specs.Kept.{IsHeld}
use Rattle.dd_store.specs.Keys.{nodes_of, IsJoinedKey}
use Rattle.dd_store.specs.Inner.{held_by}
use Rattle.dd_store.proofs.NewStore.{bare, bare_is, IsHeld-bare, trees-bare}
use Rattle.dd_store.proofs.store.Store.new.Goals as goal

-- the fields hold a store without nodes and entries
is_bare : (c : goal.After-new-5) → held_by (record { domains = c.args.domains; limit = c.args.limit; nodes = c.new-3.result; memo = c.in_ok-memo.memo; results = c.new-4.result; atoms = c.new-5.result }) ≡ bare c.args.domains.items c.args.limit
is_bare c = bare_is c.args.domains.items c.args.limit (nodes_of c.new-3.result.keys) c.in_ok-memo.memo.entries (ap nodes_of c.new-3.ensures.empty) (ap (λ m. m.entries) c.in_ok-memo.ensures)

pub invariant_of-result : goal.invariant_of-result
invariant_of-result c = record {
  held = subst IsHeld (sym (is_bare c)) (IsHeld-bare c.args.domains.items c.args.limit c.requires.codes c.requires.limit);
  joined = subst (AllByRecursion IsJoinedKey) (sym c.new-3.ensures.empty) tt;
  cap = ap (λ m. m.cap) c.in_ok-memo.ensures ∙ c.in-Some.ensures;
  results = subst (AreResults (held_by (record { domains = c.args.domains; limit = c.args.limit; nodes = c.new-3.result; memo = c.in_ok-memo.memo; results = c.new-4.result; atoms = c.new-5.result }))) (sym c.new-4.ensures.empty) tt;
  atoms = subst (AreAtoms (held_by (record { domains = c.args.domains; limit = c.args.limit; nodes = c.new-3.result; memo = c.in_ok-memo.memo; results = c.new-4.result; atoms = c.new-5.result }))) (sym c.new-5.ensures.empty) tt;
}

pub returns-clause-trees : goal.returns-clause-trees
returns-clause-trees c = ap trees (is_bare c) ∙ trees-bare c.args.domains.items c.args.limit

pub returns-clause-held : goal.returns-clause-held
returns-clause-held c = subst IsHeld (sym (is_bare c)) (IsHeld-bare c.args.domains.items c.args.limit c.requires.codes c.requires.limit)
