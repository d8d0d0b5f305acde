use Rattle.std.proofs.Common.{◌∙◌, ap}
use Rattle.c_subset.specs.Names.{is_among}
use Rattle.c_reader.specs.Kept.{scope_of}
use Rattle.c_reader.proofs.Lookups.{contained}
use Rattle.c_reader.proofs.declared.Declared.is_parameter.Goals as goal

pub returns : goal.returns
returns c =
    c.contains.ensures ∙ contained c.args.self.now.parameters.keys c.as_slice.result.now ∙ ap (is_among (scope_of c.args.self.now).parameters) c.as_slice.ensures
