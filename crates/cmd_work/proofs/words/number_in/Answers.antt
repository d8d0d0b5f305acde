use Rattle.std.proofs.Common.{sym, ◌∙◌, arith}
use Rattle.std.proofs.lemmas.Bool.{false≢true}
use Rattle.cmd_work.proofs.Numbers.{number_there, no_reading, other_reading}
use Rattle.cmd_work.proofs.words.number_in.Goals as goal
use Rattle.cmd_work.proofs.words.number_in.Goals.{else-least-number-via-then-least-number+then-number-greatest+else-is_decimal, else-least-number-via-then-least-number+else-number-greatest, else-least-number-via-else-least-number}

pub returns-in_err-number-clause-exact : goal.returns-in_err-number-clause-exact
returns-in_err-number-clause-exact c =
    c.from_residual.ensures ∙ sym (no_reading c.args.least c.args.greatest c.args.word.now c.parse.result c.ok.result c.ranges.greatest.fits c.parse.ensures.value.0 c.ok.ensures.value c.in_err-number.was)

pub returns-then-is_decimal-clause-exact : goal.returns-then-is_decimal-clause-exact
returns-then-is_decimal-clause-exact c =
    sym (number_there c.args.least c.args.greatest c.in_ok-number.number c.args.word.now c.ranges.greatest.fits c.if-least-number.true c.if-number-greatest.true (sym c.is_decimal.ensures ∙ c.if-is_decimal.true))

pub returns-else-least-number-clause-exact : goal.returns-else-least-number-clause-exact
returns-else-least-number-clause-exact c =
    sym (other_reading c.args.least c.args.greatest c.in_ok-number.number c.args.word.now c.parse.result c.ok.result c.ranges.greatest.fits c.parse.ensures.value.0 c.ok.ensures.value c.in_ok-number.was
    (λ from to text. elim c.else-least-number.branch [
      | else-least-number-via-then-least-number+then-number-greatest+else-is_decimal w ↦ false≢true (sym w.if-is_decimal.false ∙ w.is_decimal.ensures ∙ text)
      | else-least-number-via-then-least-number+else-number-greatest w ↦ absurd (omega arith)
      | else-least-number-via-else-least-number w ↦ absurd (omega arith)
    ]))
