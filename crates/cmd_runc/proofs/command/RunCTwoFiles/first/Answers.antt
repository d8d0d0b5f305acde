use Rattle.std.proofs.Common.{◌≡◌, ℕ, List, Err, refl, sym, ap, subst, rules}
use Rattle.c_reader.specs.declared.fault.CFault.{CFault}
use Rattle.c_reader.specs.declared.fault.CFault.TheVariants.{Refused}
use Rattle.c_reader.specs.Text.{Reads, Refuses}
use Rattle.cmd_runc.proofs.Files.{IsWhole, read_first, refused_first}
use Rattle.cmd_runc.proofs.command.RunCTwoFiles.first.Goals as goal

pub returns-in-Ok-clause-exact : goal.returns-in-Ok-clause-exact
returns-in-Ok-clause-exact c =
    let bytes = c.in-Whole.text.items in
    let whole : IsWhole bytes c.args.file = subst (IsWhole bytes) (sym c.in-Whole.is) refl in
    let same : c.as_slice.result.now ≡ bytes = search rules in
    read_first c.args.file bytes c.in-Ok.unit whole (subst (λ (t : List ℕ). Reads t c.in-Ok.unit) same c.in-Ok.ensures.read)

pub returns-in-Err-Refused-clause-exact : goal.returns-in-Err-Refused-clause-exact
returns-in-Err-Refused-clause-exact c =
    let bytes = c.in-Whole.text.items in
    let whole : IsWhole bytes c.args.file = subst (IsWhole bytes) (sym c.in-Whole.is) refl in
    let same : c.as_slice.result.now ≡ bytes = search rules in
    let kind : c.in-Err-Refused.field-0 ≡ Refused c.in-Err-Refused.line = search rules in
    let refuses : Refuses c.as_slice.result.now c.in-Err-Refused.line = c.in-Err-Refused.ensures.refused c.in-Err-Refused.line (ap (λ (f : CFault). Err f) kind) in
    refused_first c.args.file bytes c.in-Err-Refused.line c.refused-in-Err-Refused.result whole (subst (λ (t : List ℕ). Refuses t c.in-Err-Refused.line) same refuses)
    c.refused-in-Err-Refused.ensures.exact
