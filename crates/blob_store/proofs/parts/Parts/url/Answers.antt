-- A URL that is made, and why one isn't.
use Rattle.std.proofs.Common.{◌≡◌, ℕ, List, [], ◌∷◌, Some, None, ap, sym, subst, ◌∙◌}
use Rattle.std.specs.Option.{option_copied}
use Rattle.blob_words.specs.declared.counted.Counted.TheVariants as numbered
use Rattle.session_script.specs.declared.event.Event.TheVariants as events
use Rattle.answer_text.specs.declared.answer.Answer.TheVariants as answers
use Rattle.answer_text.specs.declared.refusal.Refusal.TheVariants as refusals
use Rattle.blob_entries.specs.Book.{Book}
use Rattle.renderer_table.specs.Counted.{origin_at}
use Rattle.url_store.specs.declared.url.Url.{Url}
use Rattle.blob_model.specs.History.{history_from, start}
use Rattle.blob_model.specs.Live.{is_live}
use Rattle.blob_model.specs.Session.{page_limit}
use Rattle.store_laws.specs.LineLaws.{handle_refusal}
use Rattle.store_laws.proofs.UrlRefusals.{url_unhandled}
use Rattle.blob_store.specs.Says.{Says}
use Rattle.blob_store.specs.Seen.{parts_of}
use Rattle.blob_store.specs.Whole.{with_line, IsWhole, Whole}
use Rattle.blob_store.proofs.Heard.{heard_refused, heard_still}
use Rattle.blob_store.proofs.HeardTables.{heard_formless, heard_full, heard_taken, heard_url}
use Rattle.blob_store.proofs.Rerooting.{handle_roots, stands_below, whole_named}
use Rattle.blob_store.proofs.parts.Parts.url.Goals as goal

pub returns-in-Some-clause-says : goal.returns-in-Some-clause-says
unfolding Says
returns-in-Some-clause-says c told table s groups legal still stands =
    heard_refused s groups c.args.self.now told table legal stands (events.Url c.args.renderer c.args.name c.args.text.now) c.in-Some.why
    (url_unhandled s (history_from start groups) (is_live (page_limit s) (history_from start groups)) (parts_of c.args.self.now) told table stands.between
    c.args.renderer c.args.name c.args.text.now c.in-Some.why (sym c.handle_refusal.ensures ∙ c.in-Some.is))

pub hold-requires : goal.hold-requires
unfolding IsWhole
hold-requires c =
    let parts = c.args.self.now in
    let due : handle_refusal c.args.renderer c.args.name parts.renderers ≡ None = sym c.handle_refusal.ensures ∙ c.in_default.is in
    stands_below parts.registry c.args.name parts.lines (handle_roots parts c.args.renderer c.args.name c.requires.whole due)
    (c.requires.whole.holders.few c.args.name) c.requires.few

pub returns-in-Ok-clause-whole : goal.returns-in-Ok-clause-whole
unfolding IsWhole
returns-in-Ok-clause-whole c =
    let parts = c.args.self.now in
    let due : handle_refusal c.args.renderer c.args.name parts.renderers ≡ None = sym c.handle_refusal.ensures ∙ c.in_default.is in
    subst (λ (book : Book). Whole (with_line (record parts { registry = book; urls = c.add.new.self }))) (sym c.hold.ensures)
    (whole_named parts c.args.renderer c.args.name c.args.text.now c.unwrap-origin.result.now c.add.new.self c.requires.whole due
    c.in-Ok.ensures.none_due.1 c.in-Ok.ensures.ok c.in-Ok.ensures.comes)

pub returns-in-Ok-clause-says : goal.returns-in-Ok-clause-says
unfolding Says
returns-in-Ok-clause-says c told table s groups legal still stands =
    let parts = c.args.self.now in
    let due : handle_refusal c.args.renderer c.args.name parts.renderers ≡ None = sym c.handle_refusal.ensures ∙ c.in_default.is in
    let at : origin_at c.args.renderer.0 parts.renderers ≡ Some c.unwrap-origin.result.now =
    sym c.origin_of.ensures ∙ ap option_copied c.unwrap-origin.ensures in
    heard_url s groups parts told table legal stands c.args.renderer c.args.name c.args.text.now c.unwrap-origin.result.now c.hold.new.self c.add.new.self
    due at c.in-Ok.ensures.none_due.0 c.in-Ok.ensures.none_due.1 c.in-Ok.ensures.none_due.2 c.hold.ensures c.in-Ok.ensures.comes

pub returns-in-Err-Form-clause-says : goal.returns-in-Err-Form-clause-says
unfolding Says
returns-in-Err-Form-clause-says c told table s groups legal still stands =
    let parts = c.args.self.now in
    let due : handle_refusal c.args.renderer c.args.name parts.renderers ≡ None = sym c.handle_refusal.ensures ∙ c.in_default.is in
    let at : origin_at c.args.renderer.0 parts.renderers ≡ Some c.unwrap-origin.result.now =
    sym c.origin_of.ensures ∙ ap option_copied c.unwrap-origin.ensures in
    let why = rw c.in-Err-Form.field-0-is at c.in-Err-Form.ensures.fault in
    heard_still s groups parts told table legal stands (events.Url c.args.renderer c.args.name c.args.text.now) (answers.Refused refusals.UrlForm ∷ [])
    (record parts { urls = c.add.new.self }) (ap (λ (urls : List (List ℕ × Url)). record parts { urls = urls }) why.0)
    (heard_formless s groups parts told table legal stands c.args.renderer c.args.name c.args.text.now c.unwrap-origin.result.now due at why.1)

pub returns-in-Err-Taken-clause-says : goal.returns-in-Err-Taken-clause-says
unfolding Says
returns-in-Err-Taken-clause-says c told table s groups legal still stands =
    let parts = c.args.self.now in
    let due : handle_refusal c.args.renderer c.args.name parts.renderers ≡ None = sym c.handle_refusal.ensures ∙ c.in_default.is in
    let at : origin_at c.args.renderer.0 parts.renderers ≡ Some c.unwrap-origin.result.now =
    sym c.origin_of.ensures ∙ ap option_copied c.unwrap-origin.ensures in
    let why = rw c.in-Err-Taken.field-0-is at c.in-Err-Taken.ensures.fault in
    heard_still s groups parts told table legal stands (events.Url c.args.renderer c.args.name c.args.text.now) (answers.Refused refusals.UrlTaken ∷ [])
    (record parts { urls = c.add.new.self }) (ap (λ (urls : List (List ℕ × Url)). record parts { urls = urls }) why.0)
    (heard_taken s groups parts told table legal stands c.args.renderer c.args.name c.args.text.now c.unwrap-origin.result.now due at why.1.0 why.1.1)

pub returns-in-Err-Full-clause-says : goal.returns-in-Err-Full-clause-says
unfolding Says
returns-in-Err-Full-clause-says c told table s groups legal still stands =
    let parts = c.args.self.now in
    let due : handle_refusal c.args.renderer c.args.name parts.renderers ≡ None = sym c.handle_refusal.ensures ∙ c.in_default.is in
    let at : origin_at c.args.renderer.0 parts.renderers ≡ Some c.unwrap-origin.result.now =
    sym c.origin_of.ensures ∙ ap option_copied c.unwrap-origin.ensures in
    let why = rw c.in-Err-Full.field-0-is at c.in-Err-Full.ensures.fault in
    heard_still s groups parts told table legal stands (events.Url c.args.renderer c.args.name c.args.text.now)
    (answers.Refused (refusals.TooMany numbered.Urls) ∷ [])
    (record parts { urls = c.add.new.self }) (ap (λ (urls : List (List ℕ × Url)). record parts { urls = urls }) why.0)
    (heard_full s groups parts told table legal stands c.args.renderer c.args.name c.args.text.now c.unwrap-origin.result.now due at why.1.0 why.1.1 why.1.2)
