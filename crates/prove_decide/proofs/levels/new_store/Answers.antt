use Rattle.std.proofs.Common.{sym, subst}
use Rattle.std.specs.List.{All}
use Rattle.scr_spec.specs.Shown.{data_of}
use Rattle.dd_store.specs.Domains.{IsDomain}
use Rattle.prove_decide.proofs.LevelLaws.{level_codes}
use Rattle.prove_decide.proofs.levels.new_store.Goals as goal

pub new-requires-clause-codes : goal.new-requires-clause-codes
new-requires-clause-codes c = subst (All IsDomain) (sym c.in_ok-domains.ensures) (level_codes (data_of c.args.spec.now) c.args.spec.now.sound)
