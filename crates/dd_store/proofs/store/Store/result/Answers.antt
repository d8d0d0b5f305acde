use Rattle.std.proofs.Common.{ℕ, List, Option, None, Some, IfSome, subst}
use Rattle.dd_store.specs.declared.memo.MemoKey.{MemoKey}
use Rattle.dd_store.specs.Held.{Held}
use Rattle.dd_store.specs.Memo.{IsResult, key_of}
use Rattle.dd_store.specs.Results.{AreResults, IsFound}
use Rattle.dd_store.specs.Inner.{held_by}
use Rattle.dd_store.proofs.store.Store.result.Goals as goal

-- whatever is found is right
right : (held : Held) (es : List (MemoKey × ℕ)) (k : MemoKey) (o : Option ℕ) → AreResults held es → IfSome o (IsFound es k) → IfSome o (IsResult held k)
right held es k None h f = tt
right held es k (Some r) h f = f.is held h

pub returns-clause-right : goal.returns-clause-right
returns-clause-right c =
    subst (λ h. IfSome c.find.result (IsResult h (key_of c.args.join c.args.f c.args.g))) c.self.view_is
    (right (held_by c.self.inside) c.self.inside.results.entries (key_of c.args.join c.args.f c.args.g) c.find.result c.self.invariant.results c.find.ensures)
