use Rattle.std.proofs.Common.{arith}
use Rattle.text_fields.proofs.Splits.{split_one}
use Rattle.text_fields.proofs.fields.cut_first.Goals as goal

pub returns-then-count-eq1 : goal.returns-then-count-eq1
returns-then-count-eq1 c = split_one c.args.separator c.args.text.now (omega (arith, c.requires, c.if-count-eq1.true))
