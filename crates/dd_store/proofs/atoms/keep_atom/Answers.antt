use Rattle.std.proofs.Common.{◌≡◌, ℕ, List, Result, Ok, Err, OnOk, OnErr}
use Rattle.indexmap.specs.IndexMap.{insert_entry}
use Rattle.dd_store.specs.declared.atoms.AtomKey.{AtomKey}
use Rattle.dd_store.specs.Atoms.{AreKeptAtoms}
use Rattle.dd_store.proofs.AtomLemmas.{atom_eq, AreKeptAtoms-insert, AreKeptAtoms-same}
use Rattle.dd_store.proofs.atoms.keep_atom.Goals as goal

-- whether there was memory or not
either : {A E : Type 0} (r : Result A E) (old new : List (AtomKey × ℕ)) (k : AtomKey) (v : ℕ) → OnOk r (new ≡ insert_entry atom_eq old k v) → OnErr r (new ≡ old) → AreKeptAtoms old k v new
either (Ok x) old new k v put same = AreKeptAtoms-insert old new k v put
either (Err y) old new k v put same = AreKeptAtoms-same old new k v same

pub returns-then-len-lt-ATOM_ENTRIES : goal.returns-then-len-lt-ATOM_ENTRIES
returns-then-len-lt-ATOM_ENTRIES c = either c.insert-kept.result c.args.atoms.now.entries c.insert-kept.new.self.entries c.args.key c.args.answer c.insert-kept.ensures.entries c.insert-kept.ensures.err
