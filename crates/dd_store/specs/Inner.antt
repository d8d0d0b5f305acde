-- The fields of a store, as what a contract sees of it.
use Rattle.std.specs.Prelude.{◌≡◌}
use Rattle.std.specs.List.{AllByRecursion}
use Rattle.dd_store.specs.declared.store.Store.TheInside.{Inside}
use Rattle.dd_store.specs.declared.store.TheConstants.{MEMO_ENTRIES}
use Rattle.dd_store.specs.Held.{Held}
use Rattle.dd_store.specs.Kept.{IsHeld}
use Rattle.dd_store.specs.Results.{AreResults}
use Rattle.dd_store.specs.Atoms.{AreAtoms}
use Rattle.dd_store.specs.Keys.{nodes_of, IsJoinedKey}

-- what the fields hold
abbrev pub held_by : Inside → Held
held_by s = record { domains = s.domains.items; limit = s.limit; nodes = nodes_of s.nodes.keys; entries = s.memo.entries }

-- what they keep
pub record IsInside (s : Inside) : Type 0 where
  pub held : IsHeld (held_by s)
  pub joined : AllByRecursion IsJoinedKey s.nodes.keys
  pub cap : s.memo.cap ≡ MEMO_ENTRIES
  pub results : AreResults (held_by s) s.results.entries
  pub atoms : AreAtoms (held_by s) s.atoms.entries
