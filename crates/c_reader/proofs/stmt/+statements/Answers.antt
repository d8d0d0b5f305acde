use Rattle.std.proofs.Common.{◌≡◌, ◌-◌, suc, [], arith, append_assoc, sym}
use Rattle.std.proofs.lemmas.Int.{ints}
use Rattle.std.proofs.lemmas.Result.{err_from_is_err_and}
use Rattle.c_reader.specs.Units as spec
use Rattle.c_reader.proofs.OnceUnits.{stmts_once, clauses_once}
use Rattle.c_reader.proofs.Reading.{handed_on, fewer}
use Rattle.c_reader.proofs.Ends.{number_end, stop_end, ends_length}
use Rattle.c_reader.proofs.StmtSteps.{first_stmt, after_stmt, stmts_whole, block_at, behind_block, else_at, empty_else, choice_block, choice_else, switch_braced, braced_at, behind_braced, first_clause, after_clause, clause_then, clauses_whole, labelled_at, label_colon, label_body, label_stop}
use Rattle.c_reader.proofs.stmt.+statements.Goals as goal

-- ---- blocks

pub read_block-returns-in-Some-past_sign-clause-found : goal.read_block-returns-in-Some-past_sign-clause-found
read_block-returns-in-Some-past_sign-clause-found t c =
    let more : c.args.room ≡ suc (c.args.room - 1) = (let some = c.if-room-eq0.false in omega arith) in
    block_at more c.in-Some.ensures.word c.in_ok-stmts.ensures.found c.in-Some-past_sign.ensures.word

pub read_block-returns-in-None-clause-refused : goal.read_block-returns-in-None-clause-refused
read_block-returns-in-None-clause-refused t c never x rest h =
    let more : c.args.room ≡ suc (c.args.room - 1) = (let some = c.if-room-eq0.false in omega arith) in
    let inner = behind_block more c.in-Some.ensures.word h in
    let e = stmts_once c.in_ok-stmts.ensures.found inner in c.in-None.ensures.word rest e.1

pub read_braced-returns-in-Some-past_sign-clause-found : goal.read_braced-returns-in-Some-past_sign-clause-found
read_braced-returns-in-Some-past_sign-clause-found t c =
    let more : c.args.room ≡ suc (c.args.room - 1) = (let some = c.if-room-eq0.false in omega arith) in
    braced_at more c.in-Some.ensures.word c.in_ok-clauses.ensures.found c.in-Some-past_sign.ensures.word

pub read_braced-returns-in-None-clause-refused : goal.read_braced-returns-in-None-clause-refused
read_braced-returns-in-None-clause-refused t c never x rest h =
    let more : c.args.room ≡ suc (c.args.room - 1) = (let some = c.if-room-eq0.false in omega arith) in
    let inner = behind_braced more c.in-Some.ensures.word h in
    let e = clauses_once c.in_ok-clauses.ensures.found inner in c.in-None.ensures.word rest e.1

-- ---- `if`, `else` and `switch`

pub read_choice-returns-in_err-body-clause-refused : goal.read_choice-returns-in_err-body-clause-refused
read_choice-returns-in_err-body-clause-refused t c never x rest h =
    let f = choice_block c.in_ok-test.ensures.found h in
    let p = err_from_is_err_and c.from_residual-in_err-body.result c.from_residual-in_err-body.ensures.1 in
    c.in_err-body.ensures.refused (handed_on p.1 p.2 never) f.0 f.1 f.2

pub read_choice-returns-in_err-other-clause-refused : goal.read_choice-returns-in_err-other-clause-refused
read_choice-returns-in_err-other-clause-refused t c never x rest h =
    let f = choice_else c.in_ok-test.ensures.found c.in_ok-body.ensures.found h in
    let p = err_from_is_err_and c.from_residual-in_err-other.result c.from_residual-in_err-other.ensures.1 in
    c.in_err-other.ensures.refused (handed_on p.1 p.2 never) f.0 rest f.1

pub read_choice-returns-clause-found : goal.read_choice-returns-clause-found
read_choice-returns-clause-found t c = spec.choice c.in_ok-test.ensures.found c.in_ok-body.ensures.found c.in_ok-other.ensures.found

pub read_else-returns-in_ok-stmts-in-Some-clause-found : goal.read_else-returns-in_ok-stmts-in-Some-clause-found
read_else-returns-in_ok-stmts-in-Some-clause-found t c = else_at c.in-Some.ensures.word c.in_ok-stmts-in-Some.ensures.found

pub read_else-returns-in-None-clause-found : goal.read_else-returns-in-None-clause-found
read_else-returns-in-None-clause-found t c = empty_else c.in-None.ensures.word c.new.ensures

pub read_switch-returns-in_err-clauses-clause-refused : goal.read_switch-returns-in_err-clauses-clause-refused
read_switch-returns-in_err-clauses-clause-refused t c never x rest h =
    let f = switch_braced c.in_ok-value.ensures.found h in
    let p = err_from_is_err_and c.from_residual-in_err-clauses.result c.from_residual-in_err-clauses.ensures.1 in
    c.in_err-clauses.ensures.refused (handed_on p.1 p.2 never) f.0 rest f.1

pub read_switch-returns-clause-found : goal.read_switch-returns-clause-found
read_switch-returns-clause-found t c = spec.switch c.in_ok-value.ensures.found c.in_ok-clauses.ensures.found

-- ---- statements in a row

pub read_stmts-returns-in_err-stmt-clause-refused : goal.read_stmts-returns-in_err-stmt-clause-refused
read_stmts-returns-in_err-stmt-clause-refused t c never xs rest h =
    let first = first_stmt (sym c.stmts-test.ensures) (c.stmts.invariant.back xs rest h).1 in
    let p = err_from_is_err_and c.from_residual.result c.from_residual.ensures.1 in
    c.in_err-stmt.ensures.refused (handed_on p.1 p.2 never) first.0 first.1 first.2

pub read_stmts-stmts-preserved : goal.read_stmts-stmts-preserved
read_stmts-stmts-preserved t c =
    let got = c.in_ok-stmt in
    record {
      onward = λ xs end h. rw (c.in_ok-push.ensures.ok, append_assoc) (c.stmts.invariant.onward _ end (spec.one_stmt got.ensures.found h));
      back = λ xs end h. after_stmt (sym c.stmts-test.ensures) got.ensures.found (c.stmts.invariant.back xs end h).1;
      no_longer = omega (arith, c.stmts.invariant.no_longer, got.ensures.shorter);
      cut = got.ensures.cut;
    }

pub read_stmts-returns-clause-found : goal.read_stmts-returns-clause-found
read_stmts-returns-clause-found t c = stmts_whole (c.stmts.invariant.onward [] _ (spec.no_stmt (sym c.stmts-test.ensures)))

-- ---- clauses

pub read_clauses-returns-in_err-clause-in-Some-clause-refused : goal.read_clauses-returns-in_err-clause-in-Some-clause-refused
read_clauses-returns-in_err-clause-in-Some-clause-refused t c never xs rest h =
    let first = first_clause c.in-Some.ensures.word (c.clauses.invariant.back xs rest h).1 in
    let p = err_from_is_err_and c.from_residual.result c.from_residual.ensures.1 in
    c.in_err-clause-in-Some.ensures.refused (handed_on p.1 p.2 never) first.0 first.1 first.2

pub read_clauses-clauses-preserved : goal.read_clauses-clauses-preserved
read_clauses-clauses-preserved t c =
    let at = c.in-Some in let got = c.in_ok-clause-in-Some in
    record {
      onward = λ xs end h. rw (c.in_ok-push-in-Some.ensures.ok, append_assoc) (c.clauses.invariant.onward _ end (clause_then at.ensures.word got.ensures.found h));
      back = λ xs end h. after_clause at.ensures.word got.ensures.found (c.clauses.invariant.back xs end h).1;
      no_longer = omega (arith, c.clauses.invariant.no_longer, got.ensures.shorter, fewer at.ensures.word);
      cut = got.ensures.cut;
    }

pub read_clauses-returns-in-None-clause-found : goal.read_clauses-returns-in-None-clause-found
read_clauses-returns-in-None-clause-found t c = clauses_whole (c.clauses.invariant.onward [] _ (spec.no_clause c.in-None.ensures.word))

-- ---- a clause behind `case`

pub read_labelled-returns-in_default-past_sign-clause-refused : goal.read_labelled-returns-in_default-past_sign-clause-refused
read_labelled-returns-in_default-past_sign-clause-refused t c never x rest h = label_colon c.in-Some.ensures.found c.in_default-past_sign.ensures.word h

pub read_labelled-returns-in_err-body-clause-refused : goal.read_labelled-returns-in_err-body-clause-refused
read_labelled-returns-in_err-body-clause-refused t c never x rest h =
    let f = label_body c.in-Some.ensures.found c.in-Some-past_sign.ensures.word h in
    let p = err_from_is_err_and c.from_residual.result c.from_residual.ensures.1 in
    c.in_err-body.ensures.refused (handed_on p.1 p.2 never) f.0 f.1 f.3

pub read_labelled-returns-in_default-read_stop-clause-refused : goal.read_labelled-returns-in_default-read_stop-clause-refused
read_labelled-returns-in_default-read_stop-clause-refused t c never x rest h =
    let f = label_stop c.in-Some.ensures.found c.in-Some-past_sign.ensures.word c.in_ok-body.ensures.found h in c.in_default-read_stop.ensures.found f.0 rest f.1

pub read_labelled-returns-clause-found : goal.read_labelled-returns-clause-found
read_labelled-returns-clause-found t c =
    labelled_at c.in-Some.ensures.found c.in-Some-past_sign.ensures.word c.in_ok-body.ensures.found c.in-Some-read_stop.ensures.found (grind (arith, ints))

pub read_labelled-returns-clause-shorter : goal.read_labelled-returns-clause-shorter
read_labelled-returns-clause-shorter t c =
    omega (
      arith,
      ends_length (number_end c.in-Some.ensures.found),
      fewer c.in-Some-past_sign.ensures.word,
      c.in_ok-body.ensures.no_longer,
      ends_length (stop_end c.in-Some-read_stop.ensures.found),
    )
