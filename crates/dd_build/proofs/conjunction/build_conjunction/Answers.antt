use Rattle.std.proofs.Common.{length, sym, subst, OnErr}
use Rattle.std.proofs.lemmas.Bool.{eqb-true}
use Rattle.dd_formula.specs.declared.formula.Formula.TheVariants.{And}
use Rattle.dd_build.specs.Formulas.{listing_trees, AreOver, AreWithin}
use Rattle.dd_build.proofs.Further.{all_rest}
use Rattle.dd_build.proofs.conjunction.build_conjunction.Goals as goal

pub returns-then-is_empty-clause-full : goal.returns-then-is_empty-clause-full
returns-then-is_empty-clause-full c e =
    subst (λ fs. AreOver c.args.store.now (listing_trees c.args.store.now (And fs))) (all_rest c.args.first.now c.args.rest.now (eqb-true (length c.args.first.now) 0 (sym c.if-is_empty.ensures))) (c.build_joined.ensures.full e)

pub returns-then-is_empty-clause-within : goal.returns-then-is_empty-clause-within
returns-then-is_empty-clause-within c =
    subst (λ fs. OnErr c.build_joined.result (AreWithin c.args.store.now c.build_joined.new.store (listing_trees c.args.store.now (And fs)))) (all_rest c.args.first.now c.args.rest.now (eqb-true (length c.args.first.now) 0 (sym c.if-is_empty.ensures))) c.build_joined.ensures.within
