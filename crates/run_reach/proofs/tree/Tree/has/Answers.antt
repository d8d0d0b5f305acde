use Rattle.std.proofs.Common.{◌∙◌, ap}
use Rattle.run_reach.specs.Trees.{has_codes}
use Rattle.run_reach.proofs.Stored.{found}
use Rattle.run_reach.proofs.tree.Tree.has.Goals as goal

pub returns : goal.returns
returns c =
    c.contains_key.ensures ∙ found c.self.inside.map.entries c.as_slice.result.now
    ∙ ap (λ es. has_codes es c.as_slice.result.now) c.self.view_is ∙ ap (λ q. has_codes c.args.self.now q) c.as_slice.ensures
