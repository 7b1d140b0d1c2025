use Rattle.std.proofs.Common.{arith}
use Rattle.blob_source.proofs.AheadLemmas.{drop_front}
use Rattle.blob_source.proofs.ahead.Ahead.skip.Goals as goal

pub returns : goal.returns
returns c =
    drop_front c.self.inside.buffer.items c.args.self.now c.self.inside.from c.self.inside.to c.args.count c.self.view_is (omega arith) c.requires
