use Rattle.std.proofs.Common.{◌≡◌, ℕ, List, None, ap, ◌∙◌, subst}
use Rattle.std.specs.List.Sorted.{IsStrictlySortedBy}
use Rattle.std.specs.Ordering.{nat_cmp}
use Rattle.std.specs.Cmp.Lexicographic.{slice_cmp}
use Rattle.std.specs.Map.{keys_of}
use Rattle.url_store.specs.declared.url.Url.{Url}
use Rattle.url_store.specs.Urls.{url_at, with_url}
use Rattle.url_store.specs.Changes.{Comes}
use Rattle.url_store.proofs.Changed.{comes_seen}
use Rattle.blob_words.proofs.Keyed.{insert_seen, seen}
use Rattle.url_store.proofs.Seen.{sorted_seen}
use Rattle.url_store.proofs.url_map.UrlMap.insert.Goals as goal

pub returns-clause-ok : goal.returns-clause-ok
returns-clause-ok c =
    ap seen c.in_ok-insert.ensures.entries ∙ insert_seen c.args.text c.args.url c.self.inside.urls.entries ∙ ap (with_url c.args.text.items c.args.url)
    c.self.view_is

pub returns-clause-ordered : goal.returns-clause-ordered
returns-clause-ordered c =
    subst (λ (urls : List (List ℕ × Url)). IsStrictlySortedBy (slice_cmp nat_cmp) (keys_of urls)) c.self.view_is
    (sorted_seen c.self.inside.urls.entries c.len-count.ensures.ordered)

pub returns-in_err-insert-clause-ordered : goal.returns-in_err-insert-clause-ordered
returns-in_err-insert-clause-ordered c =
    subst (λ (urls : List (List ℕ × Url)). IsStrictlySortedBy (slice_cmp nat_cmp) (keys_of urls)) c.self.view_is
    (sorted_seen c.self.inside.urls.entries c.len-count.ensures.ordered)

pub returns-clause-comes : goal.returns-clause-comes
returns-clause-comes c =
    let done = c.in_ok-insert.ensures in
    subst (λ (urls : List (List ℕ × Url)). url_at c.args.text.items urls ≡ None → Comes c.args.text.items c.args.url urls (seen c.insert.new.self.entries))
    c.self.view_is
    (comes_seen c.args.text.items c.args.url c.self.inside.urls c.insert.new.self c.in_ok-insert.field-0 done.updates done.old done.len)
