use Rattle.std.proofs.Common.{◌≡◌, ◌∙◌, ◌++◌, ◌∷◌, [], false, ap, sym, subst}
use Rattle.run_reach.specs.Trees.{Tree, has_codes}
use Rattle.run_reach.proofs.Stored.{node_added}
use Rattle.run_reach.proofs.tree.Tree.add.Goals as goal

pub returns-clause-ok : goal.returns-clause-ok
returns-clause-ok c =
    node_added c.self.inside.map.entries c.insert.new.self.entries c.in_ok-key.key c.args.at.now.codes c.args.link (c.in_ok-key.ensures.items ∙ c.as_slice.ensures)
    (subst (λ (t : Tree). has_codes t c.args.at.now.codes ≡ false) (sym c.self.view_is) c.requires) c.in_ok-insert.ensures.entries
    ∙ ap (λ (t : Tree). t ++ (c.args.at.now.codes, c.args.link) ∷ []) c.self.view_is
