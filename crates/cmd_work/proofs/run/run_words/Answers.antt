use Rattle.std.proofs.Common.{ap, subst, map, string_bytes}
use Rattle.cmd_work.specs.Run.{IsPut}
use Rattle.cmd_work.proofs.RunLemmas.{performed_run, unperformed_run, same_of}
use Rattle.cmd_work.proofs.run.run_words.Goals as goal

pub returns-in-Some : goal.returns-in-Some
returns-in-Some g c = performed_run _ c.args.usage.now (g.C.Command.takes (map string_bytes c.args.words.now)) c.perform.result c.in-Some.done _ c.ending.result
    c.in-Some.is c.ending.ensures c.perform.ensures

pub returns-in-None : goal.returns-in-None
returns-in-None g c =
    let asked = g.C.Command.takes (map string_bytes c.args.words.now) in
    let same = same_of _ asked c.perform.result _ c.in-None.is c.perform.ensures in
    unperformed_run _ _ c.args.usage.now asked c.perform.result _ c.put_usage.result c.in-None.is c.perform.ensures (ap g.S.Shelf.faults same.0)
    (subst (λ o. IsPut c.args.usage.now (g.K.Sink.written o) (g.K.Sink.written c.put_usage.new.out) (g.K.Sink.faults o) (g.K.Sink.faults c.put_usage.new.out) c.put_usage.result)
    same.1 c.put_usage.ensures)
