use Rattle.scr_parse.proofs.ReadableTexts.{reads_readable}
use Rattle.test_runs.proofs.text.specification.Goals as goal

pub resolve-requires : goal.resolve-requires
resolve-requires c = reads_readable c.args.text.now c.in-Ok.draft.statements c.in-Ok.ensures
