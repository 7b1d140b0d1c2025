use Rattle.std.proofs.Common.{◌≡◌, drop}
use Rattle.text_fields.specs.Keyword.{look_up}
use Rattle.text_fields.proofs.keyword.find.Given as goal

-- no earlier word has the text
abbrev pub invariant-loop-word : goal.invariant-loop-word
invariant-loop-word g l = look_up g.W.Keyword.text l.words l.text ≡ look_up g.W.Keyword.text (drop l.word-index l.words) l.text
