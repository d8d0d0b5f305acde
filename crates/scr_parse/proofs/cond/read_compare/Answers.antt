use Rattle.std.proofs.lemmas.Result.{err_from_is_err_and}
use Rattle.scr_parse.specs.Conds.{alone}
use Rattle.scr_parse.proofs.Reading.{handed_on}
use Rattle.scr_parse.proofs.CondSteps.{compare_at, second_side}
use Rattle.scr_parse.proofs.cond.read_compare.Goals as goal

pub returns-in_err-right-in-Some-clause-refused : goal.returns-in_err-right-in-Some-clause-refused
returns-in_err-right-in-Some-clause-refused c never d rest h =
    let second = second_side c.in-Some.relation c.in_ok-left.ensures.found c.in-Some.ensures h in
    let p = err_from_is_err_and c.from_residual-in_err-right-in-Some.result c.from_residual-in_err-right-in-Some.ensures.1 in
    c.in_err-right-in-Some.ensures.refused (handed_on p.1 p.2 never) second.0 rest second.1

pub returns-in_ok-right-in-Some-clause-found : goal.returns-in_ok-right-in-Some-clause-found
returns-in_ok-right-in-Some-clause-found c = compare_at c.in_ok-left.ensures.found c.in-Some.ensures c.in_ok-right-in-Some.ensures.found

pub returns-in-None-clause-found : goal.returns-in-None-clause-found
returns-in-None-clause-found c = alone c.in_ok-left.ensures.found c.in-None.ensures
