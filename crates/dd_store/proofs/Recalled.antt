-- The memo's answers stay right after a look-up, a note and a new node.
use Rattle.std.proofs.Common.{◌≡◌, ℕ, ◌<◌, ◌≤◌, true, List, length, Contains, Option, Some, None, IfSome, refl, sym, ap, ap₂, subst, ◌∙◌, ⊎_elim, arith}
use Rattle.std.proofs.lemmas.Bool.{and_parts, eqb-true, false≢true}
use Rattle.std.specs.Map.{lookup}
use Rattle.lru.specs.LruCache.{promoted, put_entries, lru_cache}
use Rattle.lru.proofs.CallerLemmas.{Contains-promoted, Contains-put_entries, Contains-lookup}
use Rattle.dd_tree.specs.Function.{joined}
use Rattle.dd_store.specs.declared.memo.MemoKey.{MemoKey}
use Rattle.dd_store.specs.declared.memo.Join.{Join}
use Rattle.dd_store.specs.declared.memo.Join.TheVariants.{And, Or, Not}
use Rattle.dd_store.specs.contracts.memo.JoinPartialEq.TheImpl.{eq-value}
use Rattle.dd_store.specs.Domains.{sizes_of}
use Rattle.dd_store.specs.Held.{Held, sizes, trees, at, IsSameButMemo}
use Rattle.dd_store.specs.Memo.{key_eq, key_of, op_of, IsResult}
use Rattle.dd_store.specs.Kept.{IsHeld}

-- equal operations are one
joins : (a b : Join) → eq-value.it a b ≡ true → a ≡ b
joins And And h = refl
joins And Or h = absurd (false≢true h)
joins And Not h = absurd (false≢true h)
joins Or And h = absurd (false≢true h)
joins Or Or h = refl
joins Or Not h = absurd (false≢true h)
joins Not And h = absurd (false≢true h)
joins Not Or h = absurd (false≢true h)
joins Not Not h = refl

-- equal keys are one
pub same_key : (a b : MemoKey) → key_eq a b ≡ true → a ≡ b
same_key a b h =
    let p = and_parts _ _ h in
    let q = and_parts _ _ p.1 in
    ap₂ (λ (j : Join) (l : ℕ). key_of j l a.right) (joins a.join b.join p.0) (eqb-true a.left b.left q.0) ∙ ap (λ (r : ℕ). key_of b.join b.left r) (eqb-true a.right b.right q.1)

-- a result stays one where the trees stay in front
pub IsResult-kept : (old new : Held) → sizes_of new.domains ≡ sizes_of old.domains → length (trees old) ≤ length (trees new) → ((i : ℕ) → i < length (trees old) → at (trees new) i ≡ at (trees old) i)
    → (k : MemoKey) (r : ℕ) → IsResult old k r → IsResult new k r
IsResult-kept old new levels longer same k r h = record {
  left = omega (arith, h.left);
  right = omega (arith, h.right);
  same = h.same;
  has = record {
    known = omega (arith, h.has.known);
    tree = same r h.has.known ∙ h.has.tree
        ∙ sym (ap (λ s. joined (op_of k.join) s (at (trees new) k.left) (at (trees new) k.right)) levels
        ∙ ap₂ (λ t u. joined (op_of k.join) (sizes old) t u) (same k.left h.left) (same k.right h.right));
  };
}

-- a store with other entries
abbrev pub with_entries : Held → List (MemoKey × ℕ) → Held
with_entries held es = record { domains = held.domains; limit = held.limit; nodes = held.nodes; entries = es }

-- other entries change nothing else
pub IsSameButMemo-with_entries : (held : Held) (es : List (MemoKey × ℕ)) → IsSameButMemo held (with_entries held es)
unfolding trees
IsSameButMemo-with_entries held es = record { domains = refl; limit = refl; trees = refl }

-- a result stays one beside other entries
pub IsResult-with_entries : (held : Held) (es : List (MemoKey × ℕ)) (k : MemoKey) (r : ℕ) → IsResult held k r → IsResult (with_entries held es) k r
unfolding trees
IsResult-with_entries held es k r h = record { left = h.left; right = h.right; same = h.same; has = record { known = h.has.known; tree = h.has.tree } }

-- entries that are all right may take their place
IsHeld-with_entries : (held : Held) (es : List (MemoKey × ℕ)) → IsHeld held → ((e : MemoKey × ℕ) → Contains es e → IsResult held e.0 e.1) → IsHeld (with_entries held es)
IsHeld-with_entries held es h all = record {
  domains = h.domains;
  codes = h.codes;
  narrow = h.narrow;
  few = h.few;
  room = h.room;
  nodes = h.nodes;
  right = λ e c. IsResult-with_entries held es e.0 e.1 (all e c);
}

-- a look-up finds a right answer
pub IsResult-found : (held : Held) (es : List (MemoKey × ℕ)) (k : MemoKey) (o : Option ℕ) → IsHeld held → o ≡ lookup (key_eq k) held.entries → IfSome o (IsResult (with_entries held es) k)
IsResult-found held es k None h e = tt
IsResult-found held es k (Some r) h e =
    let there = Contains-lookup (key_eq k) held.entries r (sym e) in
    IsResult-with_entries held es k r (subst (λ x. IsResult held x r) (sym (same_key k there.0 there.2)) (h.right (there.0, r) there.1))

-- a look-up leaves right answers
pub IsHeld-promoted : (held : Held) (k : MemoKey) → IsHeld held → IsHeld (with_entries held (promoted (key_eq k) held.entries))
IsHeld-promoted held k h = IsHeld-with_entries held (promoted (key_eq k) held.entries) h (λ e c. h.right e (Contains-promoted (key_eq k) held.entries e c))

-- and so does a note of a right answer
pub IsHeld-noted : (held : Held) (cap : ℕ) (k : MemoKey) (v : ℕ) → IsHeld held → IsResult held k v → IsHeld (with_entries held (put_entries key_eq (lru_cache held.entries cap) k v))
IsHeld-noted held cap k v h new = IsHeld-with_entries held (put_entries key_eq (lru_cache held.entries cap) k v) h all
  where
    all : (e : MemoKey × ℕ) → Contains (put_entries key_eq (lru_cache held.entries cap) k v) e → IsResult held e.0 e.1
    all e c =
        ⊎_elim (h.right e) (λ p. subst (λ r. IsResult held e.0 r) (sym p.0)
        (⊎_elim (λ same. subst (λ x. IsResult held x v) (sym same) new) (λ q. subst (λ x. IsResult held x v) (same_key k e.0 q.2) new) p.1))
        (Contains-put_entries key_eq (lru_cache held.entries cap) k v e c)
