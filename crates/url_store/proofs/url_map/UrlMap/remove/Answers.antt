use Rattle.std.proofs.Common.{ℕ, List, ap, ◌∙◌, subst}
use Rattle.std.specs.List.Sorted.{IsStrictlySortedBy}
use Rattle.std.specs.Ordering.{nat_cmp}
use Rattle.std.specs.Cmp.Lexicographic.{slice_cmp}
use Rattle.std.specs.Map.{keys_of}
use Rattle.url_store.specs.declared.url.Url.{Url}
use Rattle.std.specs.Prelude.{OnSome}
use Rattle.url_store.specs.Urls.{url_at, without}
use Rattle.url_store.specs.Changes.{Goes}
use Rattle.url_store.proofs.Changed.{goes_seen}
use Rattle.blob_words.proofs.Keyed.{lookup_seen, seen}
use Rattle.url_store.proofs.Seen.{remove_seen, sorted_seen}
use Rattle.url_store.proofs.url_map.UrlMap.remove.Goals as goal

pub returns-clause-value : goal.returns-clause-value
returns-clause-value c = c.remove.ensures.value ∙ lookup_seen c.args.text.now c.self.inside.urls.entries ∙ ap (url_at c.args.text.now) c.self.view_is

pub returns-clause-rest : goal.returns-clause-rest
returns-clause-rest c =
    ap seen c.remove.ensures.entries ∙ remove_seen c.args.text.now c.self.inside.urls.entries ∙ ap (without c.args.text.now) c.self.view_is

pub returns-clause-ordered : goal.returns-clause-ordered
returns-clause-ordered c =
    subst (λ (urls : List (List ℕ × Url)). IsStrictlySortedBy (slice_cmp nat_cmp) (keys_of urls)) c.self.view_is
    (sorted_seen c.self.inside.urls.entries c.len-count.ensures.ordered)

pub returns-clause-goes : goal.returns-clause-goes
returns-clause-goes c =
    subst (λ (urls : List (List ℕ × Url)). OnSome c.remove.result (Goes c.args.text.now urls (seen c.remove.new.self.entries))) c.self.view_is
    (goes_seen c.args.text.now c.self.inside.urls c.remove.new.self c.remove.result c.remove.ensures.updates c.remove.ensures.len)
