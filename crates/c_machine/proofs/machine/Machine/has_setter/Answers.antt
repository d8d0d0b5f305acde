use Rattle.std.proofs.Common.{sym, ap, ◌∙◌}
use Rattle.std.specs.Prelude.{ℕ, List, is_some}
use Rattle.c_subset.specs.Meaning.{place_of}
use Rattle.c_subset.specs.Runs.{takes_call}
use Rattle.c_machine.specs.Running.{Running}
use Rattle.c_machine.proofs.Items.{takes_by_name}
use Rattle.c_machine.proofs.machine.Machine.has_setter.Goals as goal

pub returns : goal.returns
returns c =
    c.is_some.ensures ∙ ap is_some (c.first.ensures ∙ ap (λ (names : List (List ℕ)). place_of names c.args.name.now) c.self.invariant.named)
    ∙ sym (takes_by_name c.self.inside.unit.now c.args.name.now) ∙ ap (λ (m : Running). takes_call m.unit c.args.name.now) c.self.view_is
