use Rattle.std.proofs.Common.{take}
use Rattle.scr_spec.specs.Shown.{data_of}
use Rattle.prove_tables.specs.Verdicts.{HaveVerdicts}
use Rattle.prove_tables.proofs.verdict.judge_all.Given as goal

abbrev pub invariant-loop-table : goal.invariant-loop-table
invariant-loop-table l = HaveVerdicts (data_of l.spec) l.order.list l.limit (take l.table-index l.spec.tables) l.verdicts
