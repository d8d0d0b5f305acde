use Rattle.std.proofs.Common.{rules, ◌+ℤ◌, FitsSigned, to_z, of_z, w64, slice_index_or, subst, ap, ◌∙◌}
use Rattle.dd_store.specs.Held.{Held}
use Rattle.dd_store.specs.Kept.{IsHeld}
use Rattle.dd_store.proofs.Codes.{IsReckoned, reckoned}
use Rattle.dd_store.proofs.store.Store.code.Goals as goal

-- the code is the one that is wanted
code : (c : goal.After-struct_told-1) → IsReckoned c.args.self.now.domains c.args.level c.args.position c.index-domain.result.now.lo (to_z w64 (of_z w64 c.index-domain.result.now.lo) +ℤ to_z w64 c.args.position)
code c =
    let low : FitsSigned w64 c.index-domain.result.now.lo = search rules in
    let high : FitsSigned w64 c.index-domain.result.now.hi = search rules in
    let held : IsHeld c.args.self.now = subst IsHeld c.self.view_is c.self.invariant.held in
    reckoned c.args.self.now.domains c.args.level c.args.position c.index-domain.result.now held.domains c.requires.level c.requires.position
    (c.index-domain.ensures ∙ ap (λ (h : Held). slice_index_or h.domains c.args.level c.index-domain.result.now) c.self.view_is) low high

pub overflow_add-result : goal.overflow_add-result
overflow_add-result c = (code c).fits

pub returns-clause-code : goal.returns-clause-code
returns-clause-code c = (code c).is
