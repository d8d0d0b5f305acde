use Rattle.scr_spec.specs.Shown.{data_of}
use Rattle.scr_roundtrip.proofs.Laws.{printed_spells}
use Rattle.scr_roundtrip.proofs.text.canonical_text.Goals as goal

pub returns-clause-spells : goal.returns-clause-spells
returns-clause-spells c = printed_spells (data_of c.args.spec.now) c.args.spec.now.sound (λ out. out.items) _ c.print.ensures
