use Rattle.std.proofs.Common.{rules, ◌+◌, FitsSigned, w64, set, sym, subst, ◌∙◌, arith}
use Rattle.std.proofs.lemmas.Int.{to_z-of_z}
use Rattle.dd_store.proofs.Children.{length-children}
use Rattle.dd_witness.specs.Descent.{IsReady, IsLeastFrom}
use Rattle.dd_witness.proofs.Choices.{many_runs}
use Rattle.dd_witness.proofs.Descending.{inside, smaller, IsReady-child, IsLeastFrom-split}
use Rattle.dd_witness.proofs.+descend.Goals as goal

pub first_other-choice-requires-clause-many : goal.first_other-choice-requires-clause-many
first_other-choice-requires-clause-many t c = many_runs c.args.store.now c.args.id c.in-Node.level c.in-Node.runs.now c.in-Node.ensures.shows

pub first_other-choice-requires-clause-few : goal.first_other-choice-requires-clause-few
first_other-choice-requires-clause-few t c =
    omega (arith, length-children c.args.store.now c.args.id c.in-Node.level c.in-Node.runs.now c.in-Node.ensures.shows, c.in-Node.ensures.held.narrow c.in-Node.level)

pub code-requires-clause-position : goal.code-requires-clause-position
code-requires-clause-position t c =
    inside c.args.store.now c.args.id c.args.from c.in-Node.level c.in-Node.runs.now c.leaf.result c.first_other-choice.result c.args.out.now c.in-Node.ensures.shows (c.leaf.ensures c.args.store.now) c.first_other-choice.ensures c.requires

pub descend-requires : goal.descend-requires
descend-requires t c =
    let fits : FitsSigned w64 c.code.result = search rules in (
      omega (arith, c.decreases, smaller c.args.store.now c.args.id c.args.from c.in-Node.level c.in-Node.runs.now c.leaf.result c.first_other-choice.result c.args.out.now c.in-Node.ensures.shows (c.leaf.ensures c.args.store.now) c.first_other-choice.ensures c.requires),
      subst (λ z. IsReady c.args.store.now c.first_other-choice.result.child (c.in-Node.level + 1) (set c.args.out.now c.in-Node.level z)) (sym (to_z-of_z w64 c.code.result fits ∙ c.code.ensures.code))
          (IsReady-child c.args.store.now c.args.id c.args.from c.in-Node.level c.in-Node.runs.now c.leaf.result c.first_other-choice.result c.args.out.now c.in-Node.ensures.shows (c.leaf.ensures c.args.store.now) c.first_other-choice.ensures c.requires),
    )

pub returns-in-Node : goal.returns-in-Node
returns-in-Node t c =
    let fits : FitsSigned w64 c.code.result = search rules in
    IsLeastFrom-split c.args.store.now c.args.id c.args.from c.in-Node.level c.in-Node.runs.now c.leaf.result c.first_other-choice.result c.args.out.now c.in-Node.ensures.shows (c.leaf.ensures c.args.store.now) c.first_other-choice.ensures c.requires
    c.descend.new.out (subst (λ z. IsLeastFrom c.args.store.now c.first_other-choice.result.child (c.in-Node.level + 1) (set c.args.out.now c.in-Node.level z) c.descend.new.out) (to_z-of_z w64 c.code.result fits ∙ c.code.ensures.code) c.descend.ensures)
