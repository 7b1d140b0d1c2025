-- No such reader, another's, and one that is the renderer's own.
use Rattle.std.proofs.Common.{rules}
use Rattle.blob_store.proofs.Refusing.{own_reader, reader_of_another, unknown_reader}
use Rattle.blob_store.proofs.parts.Parts.reader_refusal.Goals as goal

pub returns-in_default : goal.returns-in_default
returns-in_default c =
    unknown_reader c.args.renderer c.args.reader c.args.self.now.renderers c.args.self.now.readers (search rules) (search rules)

pub returns-then-open-renderer : goal.returns-then-open-renderer
returns-then-open-renderer c =
    reader_of_another c.args.renderer c.args.reader c.args.self.now.renderers c.args.self.now.readers (search rules) c.in-Some.open.now (search rules)
    (search rules)

pub returns : goal.returns
returns c =
    own_reader c.args.renderer c.args.reader c.args.self.now.renderers c.args.self.now.readers (search rules) c.in-Some.open.now (search rules) (search rules)
