use Rattle.std.proofs.Common.{ap, ◌∙◌}
use Rattle.std.proofs.lemmas.Result.{err_from_is_err_and}
use Rattle.scr_spec.specs.Shown.{data_of}
use Rattle.scr_depend.specs.declared.checked.Checked.{Checked}
use Rattle.cmd_large.proofs.Lines.{first_fails, second_fails, third_fails, all_taken}
use Rattle.cmd_large.proofs.run.feed_all.Goals as goal

pub returns-in_err-feed-clause-fed : goal.returns-in_err-feed-clause-fed
returns-in_err-feed-clause-fed c =
    let p = err_from_is_err_and c.from_residual.result c.from_residual.ensures.1 in
    let start = c.args.simulator.now in
    rw (p.1, p.2) (first_fails (data_of start.checked.now.spec) start.state.codes c.feed.new.simulator.state.codes c.in_err-feed.field-0.0 c.in_err-feed.ensures.fed)

pub returns-in_err-feed-2-clause-fed : goal.returns-in_err-feed-2-clause-fed
returns-in_err-feed-2-clause-fed c =
    let p = err_from_is_err_and c.from_residual-in_err-feed-2.result c.from_residual-in_err-feed-2.ensures.1 in
    let start = c.args.simulator.now in
    let same = ap (λ (q : Checked). data_of q.spec) c.in_ok-feed.ensures.same in
    rw (p.1, p.2)
    (second_fails (data_of start.checked.now.spec) start.state.codes c.feed.new.simulator.state.codes (data_of c.feed.new.simulator.checked.now.spec) _
    c.feed-2.new.simulator.state.codes c.in_err-feed-2.field-0.0 same c.in_ok-feed.ensures.fed c.in_err-feed-2.ensures.fed)

pub returns-in_err-feed-3-clause-fed : goal.returns-in_err-feed-3-clause-fed
returns-in_err-feed-3-clause-fed c =
    let p = err_from_is_err_and c.from_residual-in_err-feed-3.result c.from_residual-in_err-feed-3.ensures.1 in
    let start = c.args.simulator.now in
    let same = ap (λ (q : Checked). data_of q.spec) c.in_ok-feed.ensures.same in
    let also = ap (λ (q : Checked). data_of q.spec) (c.in_ok-feed-2.ensures.same ∙ c.in_ok-feed.ensures.same) in
    rw (p.1, p.2)
    (third_fails (data_of start.checked.now.spec) start.state.codes c.feed.new.simulator.state.codes c.feed-2.new.simulator.state.codes
    (data_of c.feed.new.simulator.checked.now.spec) (data_of c.feed-2.new.simulator.checked.now.spec) _ _ c.feed-3.new.simulator.state.codes c.in_err-feed-3.field-0.0 same also
    c.in_ok-feed.ensures.fed c.in_ok-feed-2.ensures.fed c.in_err-feed-3.ensures.fed)

pub returns-clause-fed : goal.returns-clause-fed
returns-clause-fed c =
    let start = c.args.simulator.now in
    let same = ap (λ (q : Checked). data_of q.spec) c.in_ok-feed.ensures.same in
    let also = ap (λ (q : Checked). data_of q.spec) (c.in_ok-feed-2.ensures.same ∙ c.in_ok-feed.ensures.same) in
    all_taken (data_of start.checked.now.spec) start.state.codes c.feed.new.simulator.state.codes c.feed-2.new.simulator.state.codes
    (data_of c.feed.new.simulator.checked.now.spec) (data_of c.feed-2.new.simulator.checked.now.spec) _ _ _ c.feed-3.new.simulator.state.codes same also
    c.in_ok-feed.ensures.fed c.in_ok-feed-2.ensures.fed c.in_ok-feed-3.ensures.fed
