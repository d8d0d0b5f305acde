use Rattle.std.proofs.Common.{◌∙◌}
use Rattle.dd_store.proofs.AtomLemmas.{IsFoundAtom-lookup}
use Rattle.dd_store.proofs.atoms.find_atom.Goals as goal

pub returns : goal.returns
returns c = IsFoundAtom-lookup c.args.atoms.now.entries c.args.key.now c.copied.result (c.copied.ensures ∙ c.get.ensures.value)
