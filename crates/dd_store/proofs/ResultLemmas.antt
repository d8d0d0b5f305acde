-- The results that are kept beside the memo.
use Rattle.std.proofs.Common.{◌≡◌, ℕ, Bool, true, false, cond, List, [], ◌∷◌, Some, refl, sym, ap, subst, ◌∙◌}
use Rattle.std.specs.Map.{lookup}
use Rattle.indexmap.specs.IndexMap.{insert_entry}
use Rattle.dd_store.specs.declared.memo.MemoKey.{MemoKey}
use Rattle.dd_store.specs.Held.{Held}
use Rattle.dd_store.specs.Memo.{key_eq, IsResult}
use Rattle.dd_store.specs.Results.{AreResults, IsFound, AreKept}
use Rattle.dd_store.proofs.Recalled.{same_key, with_entries, IsResult-with_entries}

-- what a look-up finds is the result of its key
found : (held : Held) (es : List (MemoKey × ℕ)) (k : MemoKey) (r : ℕ) → AreResults held es → lookup (key_eq k) es ≡ Some r → IsResult held k r
found held [] k r h e = cc
found held (x ∷ xs) k r h e = by (found held xs k r h.1) (key_eq k x.0) refl
  where
    by : (lookup (key_eq k) xs ≡ Some r → IsResult held k r) → (b : Bool) → key_eq k x.0 ≡ b → IsResult held k r
    by rest true p =
        let there : Some x.1 ≡ Some r = sym (ap (λ c. cond c (Some x.1) (lookup (key_eq k) xs)) p) ∙ e in
        let same : x.1 ≡ r = cc in
        subst (λ i. IsResult held k i) same (subst (λ q. IsResult held q x.1) (sym (same_key k x.0 p)) h.0)
    by rest false p = rest (sym (ap (λ c. cond c (Some x.1) (lookup (key_eq k) xs)) p) ∙ e)

-- so for each look-up
pub IsFound-lookup : (es : List (MemoKey × ℕ)) (k : MemoKey) (r : ℕ) → lookup (key_eq k) es ≡ Some r → IsFound es k r
IsFound-lookup es k r e = record { is = λ held h. found held es k r h e }

-- a result put in
put_in : (held : Held) (es : List (MemoKey × ℕ)) (k : MemoKey) (r : ℕ) → AreResults held es → IsResult held k r → AreResults held (insert_entry key_eq es k r)
put_in held [] k r h new = (new, tt)
put_in held (x ∷ xs) k r h new = by (put_in held xs k r h.1 new) (key_eq k x.0) refl
  where
    by : AreResults held (insert_entry key_eq xs k r) → (b : Bool) → key_eq k x.0 ≡ b → AreResults held (insert_entry key_eq (x ∷ xs) k r)
    by rest true p =
        subst (AreResults held) (sym (ap (λ c. cond c ((x.0, r) ∷ xs) (x ∷ insert_entry key_eq xs k r)) p))
        (subst (λ q. IsResult held q r) (same_key k x.0 p) new, h.1)
    by rest false p =
        subst (AreResults held) (sym (ap (λ c. cond c ((x.0, r) ∷ xs) (x ∷ insert_entry key_eq xs k r)) p))
        (h.0, rest)

-- so the entries stay right
pub AreKept-insert : (old new : List (MemoKey × ℕ)) (k : MemoKey) (r : ℕ) → new ≡ insert_entry key_eq old k r → AreKept old k r new
AreKept-insert old new k r e = record { are = λ held h one. subst (AreResults held) (sym e) (put_in held old k r h one) }

-- and where nothing was put in
pub AreKept-same : (old new : List (MemoKey × ℕ)) (k : MemoKey) (r : ℕ) → new ≡ old → AreKept old k r new
AreKept-same old new k r e = record { are = λ held h one. subst (AreResults held) (sym e) h }

-- results stay ones where each does
pub AreResults-kept : (old new : Held) → ((k : MemoKey) (r : ℕ) → IsResult old k r → IsResult new k r) → (es : List (MemoKey × ℕ)) → AreResults old es → AreResults new es
AreResults-kept old new each [] h = tt
AreResults-kept old new each (e ∷ es) h = (each e.0 e.1 h.0, AreResults-kept old new each es h.1)

-- so beside other entries of the memo
pub AreResults-with_entries : (held : Held) (ms es : List (MemoKey × ℕ)) → AreResults held es → AreResults (with_entries held ms) es
AreResults-with_entries held ms es h = AreResults-kept held (with_entries held ms) (IsResult-with_entries held ms) es h
