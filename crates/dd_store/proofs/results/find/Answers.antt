use Rattle.std.proofs.Common.{◌≡◌, ℕ, List, Option, None, Some, IfSome, sym, ◌∙◌}
use Rattle.std.specs.Map.{lookup}
use Rattle.dd_store.specs.declared.memo.MemoKey.{MemoKey}
use Rattle.dd_store.specs.Memo.{key_eq}
use Rattle.dd_store.specs.Results.{IsFound}
use Rattle.dd_store.proofs.ResultLemmas.{IsFound-lookup}
use Rattle.dd_store.proofs.results.find.Goals as goal

-- whatever a look-up finds
any : (es : List (MemoKey × ℕ)) (k : MemoKey) (o : Option ℕ) → o ≡ lookup (key_eq k) es → IfSome o (IsFound es k)
any es k None e = tt
any es k (Some r) e = IsFound-lookup es k r (sym e)

pub returns : goal.returns
returns c = any c.args.results.now.entries c.args.key c.copied.result (c.copied.ensures ∙ c.get.ensures.value)
