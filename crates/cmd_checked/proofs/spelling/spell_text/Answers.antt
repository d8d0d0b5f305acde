use Rattle.scr_parse.proofs.ReadableTexts.{reads_readable}
use Rattle.cmd_checked.proofs.spelling.spell_text.Goals as goal

pub spell_draft-requires : goal.spell_draft-requires
spell_draft-requires c = reads_readable c.args.text.now c.in-Ok.draft.statements c.in-Ok.ensures
