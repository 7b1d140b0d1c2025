-- A URL that goes, one that isn't the renderer's, and a renderer that isn't alive.
use Rattle.std.proofs.Common.{◌≡◌, ℕ, ◌<◌, List, [], ◌∷◌, None, ap, ◌∙◌, subst, sym}
use Rattle.std.specs.Prelude.{IsSomeAnd}
use Rattle.answer_text.specs.declared.answer.Answer.TheVariants as answers
use Rattle.blob_entries.specs.Book.{Book, changed, entry_of}
use Rattle.blob_entries.specs.Changes.{held_less}
use Rattle.blob_entries.specs.declared.entry.Entry.{Entry}
use Rattle.url_store.specs.Urls.{own_url}
use Rattle.url_store.specs.declared.url.Url.{Url}
use Rattle.session_script.specs.declared.event.Event.TheVariants as events
use Rattle.blob_model.specs.History.{history_from, start}
use Rattle.blob_model.specs.Live.{is_live}
use Rattle.blob_model.specs.Session.{page_limit}
use Rattle.store_laws.specs.TableLaws.{renderer_refusal}
use Rattle.store_laws.proofs.TableRefusals.{revoke_known}
use Rattle.blob_store.specs.Says.{scene, IsHeard, Says}
use Rattle.blob_store.specs.Seen.{parts_of}
use Rattle.blob_store.proofs.Heard.{heard_refused}
use Rattle.blob_store.specs.Whole.{IsWhole, Whole}
use Rattle.blob_store.proofs.HeardTables.{heard_nothing, heard_revoke, own_there}
use Rattle.blob_store.proofs.HeldBy.{known_so}
use Rattle.blob_store.proofs.Rerooting.{stands_rooted, url_roots, whole_unnamed}
use Rattle.blob_store.proofs.parts.Parts.revoke.Goals as goal

pub returns-in-Some-clause-says : goal.returns-in-Some-clause-says
unfolding Says
returns-in-Some-clause-says c told table s groups legal still stands =
    heard_refused s groups c.args.self.now told table legal stands (events.Revoke c.args.renderer c.args.text.now) c.in-Some.why
    (revoke_known s (history_from start groups) (is_live (page_limit s) (history_from start groups)) (parts_of c.args.self.now) told table stands.between
    c.args.renderer c.args.text.now
    ∙ sym c.in-Some.ensures)

pub returns-in-None-clause-says : goal.returns-in-None-clause-says
unfolding Says
returns-in-None-clause-says c told table s groups legal still stands =
    let fact = c.renderer_refusal.ensures in
    let due : renderer_refusal c.args.renderer c.args.self.now.renderers ≡ None = cc in
    subst (λ (urls : List (List ℕ × Url)). IsHeard s (history_from start groups) (events.Revoke c.args.renderer c.args.text.now) (answers.Nothing ∷ [])
    (scene (record c.args.self.now { urls = urls }) told table)) (sym c.in-None.ensures.cases.1)
    (heard_nothing s groups c.args.self.now told table legal stands c.args.renderer c.args.text.now due c.in-None.ensures.cases.0)

pub let_go-requires : goal.let_go-requires
unfolding IsWhole
let_go-requires c =
    let parts = c.args.self.now in
    let text = c.args.text.now in
    let url = known_so (λ (url : Url). url.blob ≡ c.in-Some-remove.name) (own_url c.args.renderer.0 text parts.urls) c.in-Some-remove.ensures.cases.0 in
    subst (λ (name : ℕ). IsSomeAnd (entry_of parts.registry name) (λ (entry : Entry). 0 < entry.roots)) url.2
    (stands_rooted parts.registry url.0.blob
    (url_roots parts text url.0 c.requires (own_there c.args.renderer.0 text parts.urls url.0 url.1)))

pub returns-in-Some-remove-clause-whole : goal.returns-in-Some-remove-clause-whole
unfolding IsWhole
returns-in-Some-remove-clause-whole c =
    let parts = c.args.self.now in
    let text = c.args.text.now in
    let url = known_so (λ (url : Url). url.blob ≡ c.in-Some-remove.name) (own_url c.args.renderer.0 text parts.urls) c.in-Some-remove.ensures.cases.0 in
    let book : c.let_go.new.self ≡ changed parts.registry url.0.blob held_less =
    c.let_go.ensures ∙ ap (λ (name : ℕ). changed parts.registry name held_less) (sym url.2) in
    subst (λ (book : Book). Whole (record parts { registry = book; urls = c.remove.new.self })) (sym book)
    (whole_unnamed parts text url.0 c.remove.new.self c.requires (own_there c.args.renderer.0 text parts.urls url.0 url.1) c.in-Some-remove.ensures.cases.1
    c.in-Some-remove.ensures.goes)

pub returns-in-Some-remove-clause-says : goal.returns-in-Some-remove-clause-says
unfolding Says
returns-in-Some-remove-clause-says c told table s groups legal still stands =
    let parts = c.args.self.now in
    let text = c.args.text.now in
    let url = known_so (λ (url : Url). url.blob ≡ c.in-Some-remove.name) (own_url c.args.renderer.0 text parts.urls) c.in-Some-remove.ensures.cases.0 in
    let fact = c.renderer_refusal.ensures in
    let due : renderer_refusal c.args.renderer parts.renderers ≡ None = cc in
    heard_revoke s groups parts told table legal stands c.args.renderer text url.0 c.let_go.new.self c.remove.new.self due url.1
    (c.let_go.ensures ∙ ap (λ (name : ℕ). changed parts.registry name held_less) (sym url.2)) c.in-Some-remove.ensures.goes
