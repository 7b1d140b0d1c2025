use Rattle.std.proofs.Common.{ap, ◌∙◌}
use Rattle.url_store.specs.Urls.{url_at}
use Rattle.blob_words.proofs.Keyed.{lookup_seen}
use Rattle.url_store.proofs.url_map.UrlMap.find.Goals as goal

pub returns : goal.returns
returns c = c.get.ensures.value ∙ lookup_seen c.args.text.now c.self.inside.urls.entries ∙ ap (url_at c.args.text.now) c.self.view_is
