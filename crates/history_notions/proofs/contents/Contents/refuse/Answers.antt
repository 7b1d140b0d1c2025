-- What is kept takes the refused line, and all else stays.
use Rattle.history_notions.proofs.contents.Contents.refuse.Goals as goal

pub returns : goal.returns
returns c = λ s h event why follows. record {
  keeps = c.refuse.ensures h event why follows.keeps;
  limits_are = follows.limits_are;
  version_is = follows.version_is;
  outside_is = follows.outside_is;
  builds_are = follows.builds_are;
  pieces_are = follows.pieces_are;
  readers_are = follows.readers_are;
}
