-- The results that are kept beside the memo.
use Rattle.std.specs.Prelude.{ℕ, List}
use Rattle.std.specs.List.{AllByRecursion}
use Rattle.dd_store.specs.declared.memo.MemoKey.{MemoKey}
use Rattle.dd_store.specs.Held.{Held}
use Rattle.dd_store.specs.Memo.{IsResult}

-- each entry has the result of its key
abbrev pub AreResults : Held → List (MemoKey × ℕ) → Type 0
AreResults held es = AllByRecursion (λ e. IsResult held e.0 e.1) es

-- where all entries have the results of their keys, the number has that of this key
pub record IsFound (es : List (MemoKey × ℕ)) (key : MemoKey) (id : ℕ) : Type 0 where
  pub is : (held : Held) → AreResults held es → IsResult held key id

-- with the result of a key they are still such entries
pub record AreKept (old : List (MemoKey × ℕ)) (key : MemoKey) (id : ℕ) (new : List (MemoKey × ℕ)) : Type 0 where
  pub are : (held : Held) → AreResults held old → IsResult held key id → AreResults held new
