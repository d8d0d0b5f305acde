-- Faults that are passed on.
use Rattle.std.proofs.Common.{◌≡◌, Result, Ok, Err, OnErr, IsErrAnd, sym, ◌∙◌}
use Rattle.dd_store.specs.declared.store.StoreFault.{StoreFault}

-- a fault that `?` passes on is the one that it was
pub same_fault : {A : Type 0} (r : Result A StoreFault) (a b : StoreFault) → IsErrAnd r (λ y. y ≡ a) → r ≡ Err b → a ≡ b
same_fault (Ok x) a b h e = absurd h
same_fault (Err y) a b h e = let there : y ≡ b = cc in sym h ∙ there

-- what holds anyway holds after a fault
pub OnErr-always : {A : Type 0} (r : Result A StoreFault) {P : Type 0} → P → OnErr r P
OnErr-always (Ok x) p = tt
OnErr-always (Err y) p = p
