use Rattle.std.proofs.Common.{sym, ◌∙◌}
use Rattle.blob_source.proofs.LineFeeds.{first_feed, has_line_feed_none}
use Rattle.answer_text.proofs.lines.cut.Goals as goal

pub returns-in_default : goal.returns-in_default
returns-in_default c = has_line_feed_none c.args.text.now (sym c.find_feed.ensures ∙ c.in_default.is)

pub returns : goal.returns
returns c =
    let found = first_feed c.args.text.now c.in-Some.at (sym c.find_feed.ensures ∙ c.in-Some.is) in
    rw (c.split_at.ensures.front, c.split_at-2.ensures.back) (found.plain, found.whole)
