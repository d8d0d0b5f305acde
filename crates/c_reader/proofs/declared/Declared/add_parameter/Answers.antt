use Rattle.std.proofs.Common.{◌∙◌, ap, sym, refl, List, ℕ, ◌++◌, Option}
use Rattle.std.specs.Option.{option_to_list}
use Rattle.c_subset.specs.Names.{is_among}
use Rattle.c_reader.specs.Kept.{scope_of}
use Rattle.c_reader.proofs.Lookups.{name_added}
use Rattle.c_reader.proofs.declared.Declared.add_parameter.Goals as goal

pub returns-in_ok-insert : goal.returns-in_ok-insert
returns-in_ok-insert c =
    record {
      objects = refl;
      functions = refl;
      parameters = λ m.
          name_added c.args.self.now.parameters.keys c.insert.new.self.keys c.in_ok-key.key c.in-Some.name (c.in_ok-key.ensures.items ∙ c.as_slice.ensures) c.in_ok-insert.ensures.keys m
          ∙ sym (ap (λ (p : Option (List ℕ)). is_among ((scope_of c.args.self.now).parameters ++ option_to_list p) m) c.in-Some.is);
    }
