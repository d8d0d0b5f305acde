use Rattle.std.proofs.lemmas.Bool.{ltb-true}
use Rattle.dd_build.proofs.Runs.{IsRunAt-behind}
use Rattle.dd_build.proofs.reading.has_position.Goals as goal

pub returns-else-run-eq0 : goal.returns-else-run-eq0
returns-else-run-eq0 c is = IsRunAt-behind c.args.runs.now c.args.position c.args.run c.index-runs-run.result c.index-runs-run-else-run-eq0.result c.if-run-runs.false c.if-run-eq0.false c.if-runs-run.false (ltb-true _ _ is)
