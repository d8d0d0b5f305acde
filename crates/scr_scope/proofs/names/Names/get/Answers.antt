use Rattle.std.proofs.Common.{◌∙◌, ap}
use Rattle.scr_scope.specs.Names.{meaning_of}
use Rattle.scr_scope.proofs.Found.{found}
use Rattle.scr_scope.proofs.names.Names.get.Goals as goal

pub returns : goal.returns
returns c =
    c.copied.ensures ∙ c.get.ensures.value ∙ found c.self.inside.map.entries c.as_slice.result.now
    ∙ ap (λ es. meaning_of es c.as_slice.result.now) c.self.view_is ∙ ap (λ q. meaning_of c.args.self.now q) c.as_slice.ensures
