-- One reader after the other goes, and then none is left.
use Rattle.std.proofs.Common.{ℕ, List, map, refl, sym, ap, subst}
use Rattle.blob_entries.specs.Book.{Book}
use Rattle.store_laws.specs.TableLaws.{no_reader, one_reader}
use Rattle.blob_store.specs.declared.parts.Parts.{Parts}
use Rattle.blob_store.specs.declared.readers.OpenReader.{OpenReader}
use Rattle.blob_store.specs.Holders.{IsUnread}
use Rattle.blob_store.specs.Seen.{reader_of}
use Rattle.blob_store.specs.Whole.{IsWhole, Whole}
use Rattle.blob_store.proofs.Leaving.{left_seen, readers_leave, rerooted_by, whole_unread}
use Rattle.blob_store.proofs.parts.Parts.close_readers.Goals as goal

pub loop-open-init : goal.loop-open-init
unfolding IsWhole
loop-open-init c = record {
  whole = c.requires;
  same = record { names = refl; entries = refl };
  went = no_reader c.args.renderer.0 (map reader_of c.args.self.now.readers);
  rest = refl;
}

pub loop-open-preserved : goal.loop-open-preserved
loop-open-preserved c =
    let parts = c.loop-open.self in
    let was = c.loop-open.invariant in
    record {
      whole = subst (λ (book : Book). Whole (record parts { registry = book; readers = c.close_first.new.self })) (sym c.let_go.ensures)
          (whole_unread parts c.args.renderer.0 c.in-Some.open c.close_first.new.self was.whole c.in-Some.ensures.closed);
      same = rerooted_by c.args.self.now.registry parts.registry c.let_go.new.self c.in-Some.open.blob was.same c.let_go.ensures;
      went = one_reader c.args.renderer.0 (map reader_of c.args.self.now.readers) (map reader_of parts.readers) (map reader_of c.close_first.new.self)
          was.went (left_seen c.args.renderer.0 c.in-Some.open parts.readers c.close_first.new.self c.in-Some.ensures.closed);
      rest = ap (λ (one : Parts). record one { registry = c.let_go.new.self; readers = c.close_first.new.self }) was.rest;
    }

pub returns-clause-readers : goal.returns-clause-readers
returns-clause-readers c =
    readers_leave c.args.renderer.0 c.args.self.now.readers c.loop-open.self.readers c.close_first.new.self c.loop-open.invariant.went
    c.in_default.ensures.none.0 c.in_default.ensures.none.1

pub returns-clause-unread : goal.returns-clause-unread
returns-clause-unread c =
    subst (λ (readers : List (ℕ × OpenReader)). IsUnread c.args.renderer.0 readers) (sym c.in_default.ensures.none.0) c.in_default.ensures.none.1
