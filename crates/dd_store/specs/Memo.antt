-- The memo of operations.
use Rattle.std.specs.Prelude.{◌≡◌, ℕ, Bool, not, ◌&&◌, ◌||◌, List}
use Rattle.lru.specs.LruCache.{put_entries, lru_cache}
use Rattle.dd_tree.specs.Tree.{Tree}
use Rattle.dd_tree.specs.Function.{joined}
use Rattle.dd_store.specs.contracts.memo.MemoKeyPartialEq.TheImpl.{eq-value}
use Rattle.dd_store.specs.declared.memo.Join.{Join}
use Rattle.dd_store.specs.declared.memo.Join.TheVariants.{And, Or, Not}
use Rattle.dd_store.specs.declared.memo.MemoKey.{MemoKey}
use Rattle.dd_store.specs.declared.store.TheConstants.{MEMO_ENTRIES}
use Rattle.dd_store.specs.Held.{Held, sizes, trees, at, IsKnown, Has}

-- what an operation answers for the truths of two sides; Not reads the left one
abbrev pub op_of : Join → Bool → Bool → Bool
op_of And a b = a && b
op_of Or a b = a || b
op_of Not a b = not a

-- the tree of an operation on the trees of two numbers
abbrev pub result_of : Held → Join → ℕ → ℕ → Tree
result_of held join f g = joined (op_of join) (sizes held) (at (trees held) f) (at (trees held) g)

-- the number has the tree of the key's operation on the trees of its sides, which for Not are one
pub record IsResult (held : Held) (key : MemoKey) (id : ℕ) : Type 0 where
  pub left : IsKnown held key.left
  pub right : IsKnown held key.right
  pub same : key.join ≡ Not → key.left ≡ key.right
  pub has : Has held id (result_of held key.join key.left key.right)

-- whether two keys are equal
abbrev pub key_eq : MemoKey → MemoKey → Bool
key_eq = eq-value.it

-- the key of an operation on two numbers
abbrev pub key_of : Join → ℕ → ℕ → MemoKey
key_of join f g = record { join = join; left = f; right = g }

-- the entries with one more in front, in place of an earlier one for its key, and without the last where there would be more than the memo keeps
abbrev pub noted : List (MemoKey × ℕ) → MemoKey → ℕ → List (MemoKey × ℕ)
noted es key id = put_entries key_eq (lru_cache es MEMO_ENTRIES) key id
