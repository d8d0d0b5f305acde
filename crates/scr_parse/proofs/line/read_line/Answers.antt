use Rattle.std.proofs.Common.{refl}
use Rattle.std.proofs.lemmas.Result.{err_from_is_err_and}
use Rattle.scr_parse.specs.Forms.{NoForm}
use Rattle.scr_parse.specs.Text.{PassesLimit}
use Rattle.scr_parse.proofs.RefusedOnce.{words_fail}
use Rattle.scr_parse.proofs.TextSteps.{blank_at, says_at}
use Rattle.scr_parse.proofs.line.read_line.Goals as goal

pub returns-then-is_empty : goal.returns-then-is_empty
returns-then-is_empty c = blank_at c.in_ok-tokens.ensures (c.if-is_empty.ensures.0 refl)

pub returns : goal.returns
returns c = says_at c.in_ok-tokens.ensures c.as_slice.ensures c.in_ok-statement.ensures

pub returns-in_err-statement : goal.returns-in_err-statement
returns-in_err-statement c =
    let p = err_from_is_err_and c.from_residual-in_err-statement.result c.from_residual-in_err-statement.ensures.1 in
    rw (p.1, p.2) (words_fail (NoForm c.args.position.place) (PassesLimit c.args.position) c.args.line.now c.in_ok-tokens.tokens c.as_slice.result.now c.in_err-statement.field-0.0 c.in_ok-tokens.ensures
    (λ e. let f = c.if-is_empty.ensures.1 e in cc) c.as_slice.ensures c.in_err-statement.ensures)
