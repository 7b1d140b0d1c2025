-- A renderer that isn't there, a URL that leads nowhere, and a reader of what a URL leads to.
use Rattle.std.proofs.Common.{ℕ, ◌<◌, List, [], ◌∷◌, Option, ap, sym, ◌∙◌}
use Rattle.std.specs.Prelude.{is_some}
use Rattle.std.specs.Option.{option_copied}
use Rattle.answer_text.specs.declared.answer.Answer.{Answer}
use Rattle.blob_entries.specs.Book.{entry_of}
use Rattle.blob_entries.specs.declared.entry.Entry.{Entry}
use Rattle.data_handles.specs.Table.{Table}
use Rattle.page_disk.specs.declared.change.Change.{Change}
use Rattle.session_script.specs.declared.event.Event.TheVariants as events
use Rattle.blob_store.specs.Openings.{Opening}
use Rattle.blob_store.specs.Says.{scene, Says}
use Rattle.blob_store.specs.Whole.{IsWhole}
use Rattle.blob_store.proofs.HeardReaders.{heard_fetch, heard_lifeless, heard_nowhere}
use Rattle.blob_store.proofs.HeldBy.{known_so}
use Rattle.blob_store.proofs.Opened.{led_roots, ok_so}
use Rattle.blob_store.proofs.Rerooting.{stands_rooted}
use Rattle.blob_store.proofs.parts.Parts.fetch.Goals as goal

pub returns-in_default-clause-says : goal.returns-in_default-clause-says
unfolding Says
returns-in_default-clause-says c told table s groups legal still stands =
    heard_lifeless s groups c.args.self.now told table legal stands c.args.renderer c.args.reader c.args.text.now c.args.off c.args.len
    (sym c.origin_of.ensures ∙ ap option_copied c.in_default.is)

pub open_range-requires-clause-rooted : goal.open_range-requires-clause-rooted
unfolding IsWhole
open_range-requires-clause-rooted c =
    led_roots c.args.self.now c.in-Some.origin.now c.args.text.now c.in-Ok.name c.requires.whole c.in-Ok.ensures

pub open_range-requires-clause-alive : goal.open_range-requires-clause-alive
open_range-requires-clause-alive c = ap (λ (held : Option (List ℕ)). is_some held) (sym c.in-Some.ensures)

pub returns-in-Ok-clause-says : goal.returns-in-Ok-clause-says
unfolding IsWhole Says
returns-in-Ok-clause-says c =
    let parts = c.args.self.now in
    let found = known_so (λ (entry : Entry). 0 < entry.roots) (entry_of parts.registry c.in-Ok.name) (stands_rooted parts.registry c.in-Ok.name
    (led_roots parts c.in-Some.origin.now c.args.text.now c.in-Ok.name c.requires.whole c.in-Ok.ensures)) in
    ok_so (λ (answer : Answer).
    Opening (record { owner = c.args.renderer; number = c.args.reader; blob = c.in-Ok.name; off = c.args.off; len = c.args.len }) answer parts
    c.open_range.new.self)
    (λ (answer : Answer). (told : Option (List Change)) (table : Table)
    → Says (events.Fetch c.args.renderer c.args.reader c.args.text.now c.args.off c.args.len) (answer ∷ []) (scene parts told table)
    (scene c.open_range.new.self told table))
    (λ answer opening told table s groups legal still stands.
    heard_fetch s groups parts told table legal stands c.args.renderer c.args.reader c.args.text.now c.args.off c.args.len c.in-Some.origin.now
    (sym c.in-Some.ensures) c.in-Ok.name found.0 c.in-Ok.ensures found.1 answer c.open_range.new.self opening)
    c.open_range.result c.open_range.ensures.opening

pub returns-in-Err-clause-says : goal.returns-in-Err-clause-says
unfolding Says
returns-in-Err-clause-says c told table s groups legal still stands =
    heard_nowhere s groups c.args.self.now told table legal stands c.args.renderer c.args.reader c.args.text.now c.args.off c.args.len
    c.in-Some.origin.now (sym c.in-Some.ensures) c.in-Err.ensures
