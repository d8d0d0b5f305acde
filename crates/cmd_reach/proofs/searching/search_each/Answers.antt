use Rattle.scr_spec.specs.Shown.{data_of}
use Rattle.cmd_reach.proofs.Files.{each_more}
use Rattle.cmd_reach.proofs.searching.search_each.Goals as goal

pub loop-assertion-preserved : goal.loop-assertion-preserved
loop-assertion-preserved c =
    each_more (data_of c.args.checked.now.spec) c.args.checked.now.order.list c.args.lemmas.now c.args.most c.args.assertions.now c.loop-assertion.assertion-index c.loop-assertion.answers c.push.new.self c.assertion-item.result
    c.in_ok-search_one.field-0 c.loop-assertion-test.true c.assertion-item.is c.loop-assertion.invariant c.in_ok-search_one.ensures c.in_ok-push.ensures.ok
