use Rattle.std.proofs.Common.{◌∙◌, ap, sym}
use Rattle.scr_scope.specs.Names.{with_name}
use Rattle.scr_scope.proofs.Found.{named, kept}
use Rattle.scr_scope.proofs.names.Names.add.Goals as goal

pub returns-then-contains_key : goal.returns-then-contains_key
returns-then-contains_key c =
    sym c.self.view_is ∙ kept c.self.inside.map.entries c.args.name.now c.args.meaning (rw c.as_slice.ensures at (sym c.contains_key.ensures ∙ c.if-contains_key.true))
    ∙ ap (λ es. with_name es c.args.name.now c.args.meaning) c.self.view_is

pub returns : goal.returns
returns c =
    named c.self.inside.map.entries c.insert.new.self.entries c.in_ok-key.key c.args.name.now c.args.meaning
    (c.in_ok-key.ensures.items ∙ c.as_slice-2.ensures) (rw c.as_slice.ensures at (sym c.contains_key.ensures ∙ c.if-contains_key.false)) c.in_ok-insert.ensures.entries
    ∙ ap (λ es. with_name es c.args.name.now c.args.meaning) c.self.view_is
