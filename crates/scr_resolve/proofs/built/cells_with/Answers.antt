use Rattle.std.proofs.Common.{rules, ◌≡◌, ◌++◌, ◌∷◌, [], List, ℤ, drop, FitsSigned, w64, refl, sym, ap, subst, ◌∙◌}
use Rattle.std.proofs.lemmas.Int.{to_z-of_z}
use Rattle.scr_spec.specs.declared.table.Cell.TheVariants as cell
use Rattle.scr_spec.specs.declared.table.Event.{Event}
use Rattle.scr_resolve.specs.Built.{cells_with}
use Rattle.scr_resolve.proofs.built.cells_with.Goals as goal

-- where no cell is left, the event is a cell of its own
no_cells : (target : ℤ) (e : Event) (targets : List ℤ) → cells_with target e targets [] ≡ cell.Event e ∷ []
no_cells target e [] = refl
no_cells target e (t ∷ targets) = refl

pub returns-in_default : goal.returns-in_default
returns-in_default c =
    let event = c.args.event in
    let targets = drop c.loop-other.other-index c.args.targets.now in
    let fits : FitsSigned w64 c.args.target = search rules in
    let so_far : c.loop-other.made ++ cells_with c.args.target event targets c.loop-other.left ≡ cells_with c.args.target event c.args.targets.now c.args.cells =
    subst (λ target. c.loop-other.made ++ cells_with target event targets c.loop-other.left ≡ cells_with target event c.args.targets.now c.args.cells)
    (to_z-of_z w64 c.args.target fits) c.loop-other.invariant in
    let last = ap (λ left. cells_with c.args.target event targets left) c.in_default.ensures.0 ∙ no_cells c.args.target event targets in
    c.in_ok-push.ensures.ok ∙ sym (ap (λ cells. c.loop-other.made ++ cells) last) ∙ so_far
