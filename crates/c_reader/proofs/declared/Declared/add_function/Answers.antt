use Rattle.std.proofs.Common.{◌∙◌, ap, List}
use Rattle.c_subset.specs.Scope.{Scope, Known}
use Rattle.c_reader.specs.Kept.{scope_of}
use Rattle.c_reader.proofs.Lookups.{entry_added}
use Rattle.c_reader.proofs.declared.Declared.add_function.Goals as goal

pub returns : goal.returns
returns c =
    ap (λ (fs : List Known). let scope : Scope = record { objects = (scope_of c.args.self.now).objects; functions = fs; parameters = (scope_of c.args.self.now).parameters } in scope)
    (entry_added c.args.self.now.functions.entries c.insert.new.self.entries c.in_ok-key.key c.args.name.now c.args.signature (c.in_ok-key.ensures.items ∙ c.as_slice.ensures) c.requires c.in_ok-insert.ensures.entries)
