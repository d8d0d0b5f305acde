-- A new store.
use Rattle.std.proofs.Common.{◌≡◌, ℕ, zero, suc, ◌<◌, ◌≤◌, List, [], ◌∷◌, length, get_or, refl, ap₂, arith}
use Rattle.std.specs.List.{All}
use Rattle.dd_formula.specs.declared.domain.Domain.{Domain}
use Rattle.dd_store.specs.Domains.{sizes_of, IsDomain}
use Rattle.dd_store.specs.declared.memo.MemoKey.{MemoKey}
use Rattle.dd_store.specs.declared.store.TheConstants.{SPLIT_LIMIT}
use Rattle.dd_store.specs.Held.{Node, Held, leaves, trees}
use Rattle.dd_store.specs.Kept.{IsHeld}

-- a level has at most 8,192 codes
size_at : (ds : List Domain) (l : ℕ) → All IsDomain ds → get_or (sizes_of ds) l 0 ≤ 8192
size_at [] l h = omega arith
size_at (d ∷ ds) zero h = let one : IsDomain d = h 0 d (omega arith) in omega (arith, one.few)
size_at (d ∷ ds) (suc l) h = size_at ds l (λ k x lt. h (suc k) x (omega arith))

-- and at least one
codes_at : (ds : List Domain) (l : ℕ) → l < length (sizes_of ds) → 0 < get_or (sizes_of ds) l 0
codes_at [] l h = absurd (omega arith)
codes_at (d ∷ ds) zero h = omega arith
codes_at (d ∷ ds) (suc l) h = codes_at ds l (omega arith)

-- a store without nodes and with an empty memo
abbrev pub bare : List Domain → ℕ → Held
bare ds limit = record { domains = ds; limit = limit; nodes = []; entries = [] }

-- it keeps what every store keeps
pub IsHeld-bare : (ds : List Domain) (limit : ℕ) → All IsDomain ds → limit ≤ SPLIT_LIMIT → IsHeld (bare ds limit)
IsHeld-bare ds limit h few = record {
  domains = h;
  codes = codes_at ds;
  narrow = λ l. size_at ds l h;
  few = few;
  room = omega arith;
  nodes = tt;
  right = λ e c. absurd (omega (arith, c.1));
}

-- and holds the two leaves
pub trees-bare : (ds : List Domain) (limit : ℕ) → trees (bare ds limit) ≡ leaves
unfolding trees
trees-bare ds limit = refl

-- a store without nodes and entries is such a one
pub bare_is : (ds : List Domain) (limit : ℕ) (ns : List Node) (es : List (MemoKey × ℕ)) → ns ≡ [] → es ≡ [] → record { domains = ds; limit = limit; nodes = ns; entries = es } ≡ bare ds limit
bare_is ds limit ns es n e = ap₂ (λ (xs : List Node) (ys : List (MemoKey × ℕ)). let h : Held = record { domains = ds; limit = limit; nodes = xs; entries = ys } in h) n e
