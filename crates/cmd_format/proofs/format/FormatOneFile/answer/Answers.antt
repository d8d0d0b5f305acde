use Rattle.std.proofs.Common.{ℕ, List, Some}
use Rattle.scr_spec.specs.Shown.{data_of}
use Rattle.scr_parse.specs.declared.text.TheConstants.{TEXT_LIMIT}
use Rattle.scr_resolve.specs.Texts.{Spells}
use Rattle.cmd_work.specs.Load.{IsLoaded}
use Rattle.cmd_checked.specs.Spelling.{IsRefusedWith}
use Rattle.cmd_format.proofs.Formatting.{formatted_file, refused_file}
use Rattle.cmd_format.proofs.format.FormatOneFile.answer.Goals as goal

pub returns-in-Right-clause-exact : goal.returns-in-Right-clause-exact
returns-in-Right-clause-exact c =
    let spells : (text : List ℕ) → IsLoaded TEXT_LIMIT (Some text) c.args.file → Spells text (data_of c.in-Right.spec) = rw c.in-Right.is at c.in_ok-spec.ensures in
    formatted_file c.args.file (data_of c.in-Right.spec) c.in_ok-canonical_text-in-Right.field-0.items spells c.in_ok-canonical_text-in-Right.ensures.text

pub returns-clause-exact : goal.returns-clause-exact
returns-clause-exact c =
    let is : (text : List ℕ) → IsLoaded TEXT_LIMIT (Some text) c.args.file → IsRefusedWith text c.in-Refused.line.items = rw c.in-Refused.is at c.in_ok-spec.ensures in
    refused_file c.args.file c.in-Refused.line.items is
