-- Readers, URLs and handles of a renderer go, one kind after the other.
use Rattle.std.proofs.Common.{◌≡◌, ℕ, ◌<◌, List, map, length, ap, ◌∙◌, subst, sym}
use Rattle.renderer_table.specs.Table.{Table}
use Rattle.url_store.specs.declared.url.Url.{Url}
use Rattle.store_laws.specs.TableLaws.{Departs, ReadersLeave, UrlsLeave}
use Rattle.blob_store.specs.declared.parts.Parts.{Parts}
use Rattle.blob_store.specs.declared.readers.OpenReader.{OpenReader}
use Rattle.blob_store.specs.Holders.{IsUnread}
use Rattle.blob_store.specs.Seen.{reader_of}
use Rattle.blob_store.proofs.Leaving.{rerooted_more}
use Rattle.blob_store.proofs.parts.Parts.depart.Goals as goal

pub drop_handles-requires-clause-unread : goal.drop_handles-requires-clause-unread
drop_handles-requires-clause-unread c =
    subst (λ (readers : List (ℕ × OpenReader)). IsUnread c.args.renderer.0 readers) (sym (ap (λ (one : Parts). one.readers) c.drop_urls.ensures.rest))
    c.close_readers.ensures.unread

pub drop_handles-requires-clause-unlinked : goal.drop_handles-requires-clause-unlinked
drop_handles-requires-clause-unlinked c = c.drop_urls.ensures.urls.none_left

pub returns-clause-goes : goal.returns-clause-goes
returns-clause-goes c =
    let old = c.args.self.now in
    let read = c.close_readers.new.self in
    let named = c.drop_urls.new.self in
    let dead = c.drop_handles.new.self in
    let after_urls = c.drop_urls.ensures.rest ∙ ap (λ (one : Parts). record one { registry = named.registry; urls = named.urls }) c.close_readers.ensures.rest
    in
    let after_all = c.drop_handles.ensures.rest ∙ ap (λ (one : Parts). record one { registry = dead.registry; renderers = dead.renderers }) after_urls in
    let same_table : named.renderers ≡ old.renderers = ap (λ (one : Parts). one.renderers) after_urls in
    let same_urls : dead.urls ≡ named.urls = ap (λ (one : Parts). one.urls) after_all in
    let same_readers : dead.readers ≡ read.readers = ap (λ (one : Parts). one.readers) after_all in
    record {
      same = rerooted_more old.registry named.registry dead.registry
          (rerooted_more old.registry read.registry named.registry c.close_readers.ensures.same c.drop_urls.ensures.same) c.drop_handles.ensures.same;
      departs = subst (λ (one : Table). Departs c.args.renderer.0 one dead.renderers) same_table c.drop_handles.ensures.departs;
      fewer = subst (λ (one : Table). length dead.renderers.living < length one.living) same_table c.drop_handles.ensures.fewer;
      urls = subst (λ (one : List (List ℕ × Url)). UrlsLeave c.args.renderer.0 old.urls one) (sym same_urls)
          (subst (λ (one : List (List ℕ × Url)). UrlsLeave c.args.renderer.0 one named.urls) (ap (λ (one : Parts). one.urls) c.close_readers.ensures.rest)
          c.drop_urls.ensures.urls);
      readers = subst (λ (one : List (ℕ × OpenReader)). ReadersLeave c.args.renderer.0 (map reader_of old.readers) (map reader_of one)) (sym same_readers)
          c.close_readers.ensures.readers;
      rest = after_all
          ∙ ap (λ (one : List (List ℕ × Url)).
          record old { registry = dead.registry; renderers = dead.renderers; urls = one; readers = read.readers })
          (sym same_urls)
          ∙ ap (λ (one : List (ℕ × OpenReader)).
          record old { registry = dead.registry; renderers = dead.renderers; urls = dead.urls; readers = one })
          (sym same_readers);
    }
