use Rattle.std.proofs.Common.{subst}
use Rattle.scr_parse.specs.Forms.{Form}
use Rattle.scr_parse.proofs.FormSteps.{no_other}
use Rattle.scr_parse.proofs.form.read_form.Goals as goal

pub returns-in_default-keyword-clause-refused : goal.returns-in_default-keyword-clause-refused
returns-in_default-keyword-clause-refused c =
    let other = c.in_default-keyword in
    λ e statement next d.
    no_other other.not-Specification other.not-TypeWord other.not-Const other.not-Monitored other.not-ModeClass other.not-Term other.not-Controlled other.not-Nat
    other.not-Condition other.not-Event other.not-Modes other.not-Row other.not-Values other.not-From other.not-End other.not-Finish
    (subst (λ words. Form c.args.place words statement next) c.in-Some.ensures d)
