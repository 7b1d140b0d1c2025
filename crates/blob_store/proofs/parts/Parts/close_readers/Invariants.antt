use Rattle.std.proofs.Common.{◌≡◌, length, map}
use Rattle.store_laws.specs.Roots.{AreRerooted}
use Rattle.store_laws.specs.TableLaws.{ReadersGo}
use Rattle.blob_store.specs.Seen.{reader_of}
use Rattle.blob_store.specs.Whole.{Whole}
use Rattle.blob_store.proofs.parts.Parts.close_readers.Given as goal

abbrev pub invariant-loop-open : goal.invariant-loop-open
invariant-loop-open l = record {
  whole : Whole l.self;
  same : AreRerooted l.fn.self.registry l.self.registry;
  went : ReadersGo l.renderer.0 (map reader_of l.fn.self.readers) (map reader_of l.self.readers);
  rest : l.self ≡ record l.fn.self { registry = l.self.registry; readers = l.self.readers };
}

abbrev pub decreases-loop-open : goal.decreases-loop-open
decreases-loop-open l = length l.self.readers
