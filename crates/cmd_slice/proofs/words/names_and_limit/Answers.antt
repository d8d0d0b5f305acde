use Rattle.std.proofs.Common.{ap, sym, ◌∙◌, map, string_bytes}
use Rattle.cmd_slice.specs.Offered as spec
use Rattle.cmd_slice.proofs.Ranges.{front_there}
use Rattle.cmd_slice.proofs.words.names_and_limit.Goals as goal

pub returns-in-Some : goal.returns-in-Some
returns-in-Some c =
    c.with_names.ensures ∙ ap (λ n. spec.named c.args.name.now n c.in-Some.limit) (front_there c.args.words.now)
    ∙ ap (spec.names_and_limit c.args.name.now (map string_bytes c.args.words.now)) (sym c.in-Some.is ∙ c.last_limit.ensures.exact)
