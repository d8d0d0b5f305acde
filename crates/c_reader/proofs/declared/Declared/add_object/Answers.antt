use Rattle.std.proofs.Common.{◌∙◌, ap, List, ℕ}
use Rattle.c_subset.specs.Scope.{Scope}
use Rattle.c_reader.specs.Kept.{scope_of}
use Rattle.c_reader.proofs.Lookups.{key_added}
use Rattle.c_reader.proofs.declared.Declared.add_object.Goals as goal

pub returns : goal.returns
returns c =
    ap (λ (ns : List (List ℕ)). let scope : Scope = record { objects = ns; functions = (scope_of c.args.self.now).functions; parameters = (scope_of c.args.self.now).parameters } in scope)
    (key_added c.args.self.now.objects.keys c.insert.new.self.keys c.in_ok-key.key c.args.name.now (c.in_ok-key.ensures.items ∙ c.as_slice.ensures) c.requires c.in_ok-insert.ensures.keys)
