use Rattle.std.proofs.Common.{rules, refl, ◌+◌, inl, inr, sym, ap, ◌∙◌, ◌++◌, ◌∷◌, []}
use Rattle.run_reach.specs.declared.tree.Link.{Link}
use Rattle.run_reach.specs.Trees.{Node}
use Rattle.run_reach.proofs.Stored.{has_stored, not_stored}
use Rattle.run_reach.proofs.turn.put_child.Goals as goal

pub returns-then-has-clause-puts : goal.returns-then-has-clause-puts
returns-then-has-clause-puts c = inl (has_stored c.args.tree.now c.args.new.now.codes (sym c.has.ensures ∙ c.if-has.true), refl)

pub returns-then-len-most-clause-puts : goal.returns-then-len-most-clause-puts
returns-then-len-most-clause-puts c = record {
  absent = not_stored c.args.tree.now c.args.new.now.codes (sym c.has.ensures ∙ c.if-has.false);
  full = search rules;
  same = refl;
}

pub returns-clause-puts : goal.returns-clause-puts
returns-clause-puts c =
    inr (
      not_stored c.args.tree.now c.args.new.now.codes (sym c.has.ensures ∙ c.if-has.false),
      c.in_ok-add.ensures.ok ∙ ap (λ (l : Link). let x : Node = (c.args.new.now.codes, record { parent = c.args.parent; input = c.args.input; depth = l.depth + 1 }) in c.args.tree.now ++ x ∷ []) c.link-depth.ensures,
    )
