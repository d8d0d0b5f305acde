use Rattle.std.proofs.Common.{◌∙◌, ap}
use Rattle.std.specs.Option.{option_map}
use Rattle.c_subset.specs.Scope.{known}
use Rattle.c_reader.specs.Kept.{scope_of, signature_of}
use Rattle.c_reader.proofs.Lookups.{found}
use Rattle.c_reader.proofs.declared.Declared.function.Goals as goal

pub returns : goal.returns
returns c =
    c.copied.ensures ∙ c.get.ensures.value ∙ found c.args.self.now.functions.entries c.as_slice.result.now
    ∙ ap (λ q. option_map signature_of (known (scope_of c.args.self.now) q)) c.as_slice.ensures
