use Rattle.std.proofs.Common.{◌≡◌, length}
use Rattle.store_laws.specs.Roots.{AreRerooted}
use Rattle.store_laws.specs.TableLaws.{UrlsGo}
use Rattle.blob_store.specs.Whole.{Whole}
use Rattle.blob_store.proofs.parts.Parts.drop_urls.Given as goal

abbrev pub invariant-loop-name : goal.invariant-loop-name
invariant-loop-name l = record {
  whole : Whole l.self;
  same : AreRerooted l.fn.self.registry l.self.registry;
  went : UrlsGo l.renderer.0 l.fn.self.urls l.self.urls;
  rest : l.self ≡ record l.fn.self { registry = l.self.registry; urls = l.self.urls };
}

abbrev pub decreases-loop-name : goal.decreases-loop-name
decreases-loop-name l = length l.self.urls
