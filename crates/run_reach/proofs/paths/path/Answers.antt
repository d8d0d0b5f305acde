use Rattle.std.proofs.Common.{◌≡◌, ℕ, zero, suc, ◌-◌, ◌<◌, List, [], ◌∷◌, ◌++◌, reverse, sym, ap, ◌∙◌, arith}
use Rattle.std.proofs.lemmas.List.{append_assoc, reverse-append}
use Rattle.scr_spec.specs.declared.state.Input.{Input}
use Rattle.run_reach.specs.declared.tree.Link.{Link}
use Rattle.run_reach.specs.Trees.{Tree, link_at, path_from}
use Rattle.run_reach.proofs.paths.path.Goals as goal

-- an input more from the end
back_one : (tree : Tree) (whole : List Input) (left at : ℕ) (link : Link) (items after : List Input) → 0 < left → link ≡ link_at tree at → whole ≡ path_from left tree at ++ reverse items
    → after ≡ items ++ link.input ∷ [] → whole ≡ path_from (left - 1) tree link.parent ++ reverse after
back_one tree whole zero at link items after positive e h f = absurd (omega (arith, positive))
back_one tree whole (suc d) at link items after positive e h f =
    let one : suc d - 1 ≡ d = omega arith in
    let front = path_from d tree (link_at tree at).parent in
    let turned : reverse after ≡ link.input ∷ reverse items = ap (λ (is : List Input). reverse is) f ∙ reverse-append items (link.input ∷ []) in
    h ∙ append_assoc front ((link_at tree at).input ∷ []) (reverse items)
    ∙ ap (λ (l : Link). path_from d tree l.parent ++ (l.input ∷ reverse items)) (sym e)
    ∙ ap (λ (is : List Input). path_from d tree link.parent ++ is) (sym turned)
    ∙ ap (λ (n : ℕ). path_from n tree link.parent ++ reverse after) (sym one)

pub loop-left-preserved : goal.loop-left-preserved
loop-left-preserved c =
    back_one c.args.tree.now _ c.loop-left.left c.loop-left.at c.link-link.result c.loop-left.inputs.items c.push.new.self.items c.loop-left-test.true c.link-link.ensures c.loop-left.invariant c.in_ok-push.ensures.items
