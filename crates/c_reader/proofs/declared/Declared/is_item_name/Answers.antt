use Rattle.std.proofs.Common.{◌∙◌, ap, sym}
use Rattle.std.specs.Prelude.{is_some}
use Rattle.c_reader.specs.Kept.{scope_of}
use Rattle.c_reader.proofs.Lookups.{item_name}
use Rattle.c_reader.proofs.declared.Declared.is_item_name.Goals as goal

pub returns-else-is_object : goal.returns-else-is_object
returns-else-is_object c =
    item_name (scope_of c.args.self.now) c.args.name.now (sym c.is_object.ensures ∙ c.if-is_object.false) (c.is_some.ensures ∙ ap is_some c.function.ensures)
