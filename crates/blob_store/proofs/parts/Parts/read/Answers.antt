-- A handle that can't be used, and a reader of what stands under the name.
use Rattle.std.proofs.Common.{◌≡◌, ◌<◌, List, [], ◌∷◌, Option, None, sym, ◌∙◌}
use Rattle.answer_text.specs.declared.answer.Answer.{Answer}
use Rattle.blob_entries.specs.Book.{entry_of}
use Rattle.blob_entries.specs.declared.entry.Entry.{Entry}
use Rattle.data_handles.specs.Table.{Table}
use Rattle.page_disk.specs.declared.change.Change.{Change}
use Rattle.session_script.specs.declared.event.Event.TheVariants as events
use Rattle.store_laws.specs.LineLaws.{handle_refusal}
use Rattle.blob_store.specs.Openings.{Opening}
use Rattle.blob_store.specs.Says.{scene, Says}
use Rattle.blob_store.specs.Whole.{IsWhole}
use Rattle.blob_store.proofs.HeardReaders.{heard_read, heard_unhandled}
use Rattle.blob_store.proofs.HeldBy.{known_so}
use Rattle.blob_store.proofs.Opened.{ok_so}
use Rattle.blob_store.proofs.Owning.{handle_owner}
use Rattle.blob_store.proofs.Rerooting.{handle_roots, stands_rooted}
use Rattle.blob_store.proofs.parts.Parts.read.Goals as goal

pub returns-in-Some-clause-says : goal.returns-in-Some-clause-says
unfolding Says
returns-in-Some-clause-says c told table s groups legal still stands =
    heard_unhandled s groups c.args.self.now told table legal stands c.args.renderer c.args.reader c.args.name c.args.off c.args.len c.in-Some.why
    (sym c.handle_refusal.ensures ∙ c.in-Some.is)

pub open_range-requires-clause-rooted : goal.open_range-requires-clause-rooted
unfolding IsWhole
open_range-requires-clause-rooted c =
    handle_roots c.args.self.now c.args.renderer c.args.name c.requires.whole (sym c.handle_refusal.ensures ∙ c.in_default.is)

pub open_range-requires-clause-alive : goal.open_range-requires-clause-alive
open_range-requires-clause-alive c =
    handle_owner c.args.renderer c.args.name c.args.self.now.renderers (sym c.handle_refusal.ensures ∙ c.in_default.is)

pub returns-clause-says : goal.returns-clause-says
unfolding IsWhole Says
returns-clause-says c =
    let parts = c.args.self.now in
    let due : handle_refusal c.args.renderer c.args.name parts.renderers ≡ None = sym c.handle_refusal.ensures ∙ c.in_default.is in
    let found = known_so (λ (entry : Entry). 0 < entry.roots) (entry_of parts.registry c.args.name) (stands_rooted parts.registry c.args.name
    (handle_roots parts c.args.renderer c.args.name c.requires.whole due)) in
    ok_so (λ (answer : Answer).
    Opening (record { owner = c.args.renderer; number = c.args.reader; blob = c.args.name; off = c.args.off; len = c.args.len }) answer parts
    c.open_range.new.self)
    (λ (answer : Answer). (told : Option (List Change)) (table : Table)
    → Says (events.Read c.args.renderer c.args.reader c.args.name c.args.off c.args.len) (answer ∷ []) (scene parts told table)
    (scene c.open_range.new.self told table))
    (λ answer opening told table s groups legal still stands.
    heard_read s groups parts told table legal stands c.args.renderer c.args.reader c.args.name c.args.off c.args.len found.0 due found.1 answer
    c.open_range.new.self opening) c.open_range.result c.open_range.ensures.opening
