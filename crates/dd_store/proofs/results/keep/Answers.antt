use Rattle.std.proofs.Common.{◌≡◌, ℕ, List, Result, Ok, Err, OnOk, OnErr}
use Rattle.indexmap.specs.IndexMap.{insert_entry}
use Rattle.dd_store.specs.declared.memo.MemoKey.{MemoKey}
use Rattle.dd_store.specs.Memo.{key_eq}
use Rattle.dd_store.specs.Results.{AreKept}
use Rattle.dd_store.proofs.ResultLemmas.{AreKept-insert, AreKept-same}
use Rattle.dd_store.proofs.results.keep.Goals as goal

-- whether there was memory or not
either : {A E : Type 0} (r : Result A E) (old new : List (MemoKey × ℕ)) (k : MemoKey) (v : ℕ) → OnOk r (new ≡ insert_entry key_eq old k v) → OnErr r (new ≡ old) → AreKept old k v new
either (Ok x) old new k v put same = AreKept-insert old new k v put
either (Err y) old new k v put same = AreKept-same old new k v same

pub returns-then-len-lt-RESULT_ENTRIES : goal.returns-then-len-lt-RESULT_ENTRIES
returns-then-len-lt-RESULT_ENTRIES c = either c.insert-kept.result c.args.results.now.entries c.insert-kept.new.self.entries c.args.key.now c.args.answer c.insert-kept.ensures.entries c.insert-kept.ensures.err
