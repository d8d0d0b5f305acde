use Rattle.c_reader.specs.Kept.{scope_of}
use Rattle.c_reader.proofs.Lookups.{new_function}
use Rattle.c_reader.proofs.rule.declare.Goals as goal

pub add_function-requires : goal.add_function-requires
add_function-requires c = new_function (scope_of c.args.declared.now) c.args.item.now c.in-Function.f c.requires c.in-Function.is
