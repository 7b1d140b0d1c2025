-- A reader that is at its end.
use Rattle.std.proofs.Common.{rules, sym, subst}
use Rattle.blob_entries.specs.Book.{Book}
use Rattle.blob_store.specs.Whole.{IsWhole, Whole}
use Rattle.blob_store.proofs.Rerooting.{whole_closed}
use Rattle.blob_store.proofs.parts.Parts.end_reader.Goals as goal

pub returns-clause-whole : goal.returns-clause-whole
unfolding IsWhole
returns-clause-whole c =
    subst (λ (book : Book). Whole (record c.args.self.now { registry = book; readers = c.close.new.self })) (sym c.let_go.ensures)
    (whole_closed c.args.self.now c.args.reader.0 c.unwrap-open.result c.close.new.self c.requires.whole (search rules) c.close.ensures.closed)
