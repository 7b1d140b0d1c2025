-- What stands against a reader, and its course where nothing does.
use Rattle.std.proofs.Common.{Some, ℕ, ap, sym, ◌∙◌, arith}
use Rattle.answer_text.specs.declared.refusal.Refusal.TheVariants as refusals
use Rattle.blob_store.specs.Readers.{reader_at}
use Rattle.blob_store.proofs.Opened.{copied_none, copied_some, full_why, none_why, passing_why, used_why}
use Rattle.blob_store.proofs.parts.Parts.course.Goals as goal

pub returns-then-is_some-clause-err : goal.returns-then-is_some-clause-err
returns-then-is_some-clause-err c =
    used_why c.args.reader c.args.entry.now c.args.off c.args.len c.args.self.now.readers
    (copied_some c.find.result (reader_at c.args.reader.0 c.args.self.now.readers) c.find.ensures (sym c.is_some.ensures ∙ c.if-is_some.true))

pub returns-in-Err-clause-err : goal.returns-in-Err-clause-err
returns-in-Err-clause-err c =
    passing_why c.args.reader c.args.entry.now c.args.off c.args.len c.args.self.now.readers
    (copied_none c.find.result (reader_at c.args.reader.0 c.args.self.now.readers) c.find.ensures (sym c.is_some.ensures ∙ c.if-is_some.false))
    c.in-Err.ensures.range.0
    ∙ ap (λ (n : ℕ). Some (refusals.Range n)) (sym c.in-Err.ensures.range.1)

pub returns-then-count-ge-MOST_READERS-clause-err :
    goal.returns-then-count-ge-MOST_READERS-clause-err
returns-then-count-ge-MOST_READERS-clause-err c =
    full_why c.args.reader c.args.entry.now c.args.off c.args.len c.args.self.now.readers
    (copied_none c.find.result (reader_at c.args.reader.0 c.args.self.now.readers) c.find.ensures (sym c.is_some.ensures ∙ c.if-is_some.false))
    c.in-Ok.ensures.ok.0 (omega (arith, c.count.ensures, c.if-count-ge-MOST_READERS.true))

pub returns-clause-ok : goal.returns-clause-ok
returns-clause-ok c = (
  none_why c.args.reader c.args.entry.now c.args.off c.args.len c.args.self.now.readers
      (copied_none c.find.result (reader_at c.args.reader.0 c.args.self.now.readers) c.find.ensures (sym c.is_some.ensures ∙ c.if-is_some.false))
      c.in-Ok.ensures.ok.0 (omega (arith, c.count.ensures, c.if-count-ge-MOST_READERS.false)),
  c.in-Ok.ensures.ok.1,
)
