use Rattle.c_machine.proofs.ResolveLaws.{resolved-Switch}
use Rattle.c_machine.proofs.resolve.+stmt.Goals as goal

pub resolve_statement-returns-in_ok-cases-in-Switch : goal.resolve_statement-returns-in_ok-cases-in-Switch
resolve_statement-returns-in_ok-cases-in-Switch t c =
    let r = resolved-Switch c.args.objects.now c.args.functions.now c.args.parameter.now c.in-Switch.value c.in-Switch.clauses in
    cc (r, c.in-Switch.is, c.in_ok-value-in-Switch.ensures, c.in_ok-cases-in-Switch.ensures, c.as_slice-in-Switch.ensures)
