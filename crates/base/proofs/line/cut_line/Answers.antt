use Rattle.base.proofs.FirstLine.{lines_after}
use Rattle.base.proofs.line.cut_line.Goals as goal

pub returns-clause-line : goal.returns-clause-line
returns-clause-line c =
    let text = c.args.text.now in
    rw (c.strip_return.ensures.value, c.past_feed.ensures, c.split_at.ensures.front, c.split_at.ensures.back, c.feed_at.ensures.value) (lines_after text c.requires)
