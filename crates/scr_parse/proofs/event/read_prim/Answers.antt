use Rattle.std.proofs.lemmas.Result.{err_from_is_err_and}
use Rattle.scr_parse.specs.Events.{unguarded}
use Rattle.scr_parse.proofs.Reading.{handed_on}
use Rattle.scr_parse.proofs.EventSteps.{never_at, guarded_at, behind_when}
use Rattle.scr_parse.proofs.event.read_prim.Goals as goal

pub returns-in-Some-clause-found : goal.returns-in-Some-clause-found
returns-in-Some-clause-found c = never_at c.in-Some.ensures

pub returns-in_err-members-in-Some-past_keyword-clause-refused : goal.returns-in_err-members-in-Some-past_keyword-clause-refused
returns-in_err-members-in-Some-past_keyword-clause-refused c never p rest h =
    let guard = behind_when c.in_ok-change.ensures.found c.in-Some-past_keyword.ensures h in
    let r = c.from_residual-in_err-members-in-Some-past_keyword in
    let p = err_from_is_err_and r.result r.ensures.1 in
    c.in_err-members-in-Some-past_keyword.ensures.refused (handed_on p.1 p.2 never) guard.0 rest guard.1

pub returns-in_ok-members-in-Some-past_keyword-clause-found : goal.returns-in_ok-members-in-Some-past_keyword-clause-found
returns-in_ok-members-in-Some-past_keyword-clause-found c =
    guarded_at c.in_ok-change.ensures.found c.in-Some-past_keyword.ensures c.in_ok-members-in-Some-past_keyword.ensures.found c.all_of.ensures

pub returns-in-None-clause-found : goal.returns-in-None-clause-found
returns-in-None-clause-found c = unguarded c.in_ok-change.ensures.found c.in-None.ensures
