-- A number that was used, as many as there may be, and a renderer that comes.
use Rattle.std.proofs.Common.{ap}
use Rattle.blob_words.specs.declared.counted.Counted.TheVariants as numbered
use Rattle.answer_text.specs.declared.refusal.Refusal.TheVariants as refusals
use Rattle.session_script.specs.declared.event.Event.TheVariants as events
use Rattle.renderer_table.specs.Table.{Table}
use Rattle.blob_model.specs.History.{history_from, start}
use Rattle.blob_model.specs.Live.{is_live}
use Rattle.blob_model.specs.Session.{page_limit}
use Rattle.store_laws.proofs.LineRefusals.{spawn_full, spawn_used}
use Rattle.blob_store.specs.Says.{Says}
use Rattle.blob_store.specs.Seen.{parts_of}
use Rattle.blob_store.specs.Whole.{IsWhole}
use Rattle.blob_store.proofs.Faults.{none_used}
use Rattle.blob_store.proofs.Heard.{heard_spawn, refused_still}
use Rattle.blob_store.proofs.Spawning.{whole_spawned}
use Rattle.blob_store.proofs.parts.Parts.spawn.Goals as goal

pub returns-in-Ok-clause-whole : goal.returns-in-Ok-clause-whole
unfolding IsWhole
returns-in-Ok-clause-whole c =
    whole_spawned c.args.self.now c.args.renderer.0 c.args.origin.now c.spawn.new.self c.requires
    (none_used c.args.renderer.0 c.args.self.now.renderers c.in-Ok.ensures.none_due) c.in-Ok.ensures.ok c.in-Ok.ensures.changes

pub returns-in-Ok-clause-says : goal.returns-in-Ok-clause-says
unfolding Says
returns-in-Ok-clause-says c told table s groups legal still stands =
    heard_spawn s groups c.args.self.now told table legal stands c.args.renderer c.args.origin.now c.spawn.new.self still c.in-Ok.ensures.none_due
    c.in-Ok.ensures.changes

pub returns-in-Err-Used-clause-says : goal.returns-in-Err-Used-clause-says
unfolding Says
returns-in-Err-Used-clause-says c told table s groups legal still stands =
    refused_still s groups c.args.self.now told table legal stands (events.Spawn c.args.renderer c.args.origin.now) (refusals.RendererUsed c.args.renderer)
    (record c.args.self.now { renderers = c.spawn.new.self })
    (ap (λ (one : Table). record c.args.self.now { renderers = one }) (rw c.in-Err-Used.field-0-is at c.in-Err-Used.ensures.fault).0)
    (spawn_used s (history_from start groups) (is_live (page_limit s) (history_from start groups)) (parts_of c.args.self.now) told table stands.between
    c.args.renderer c.args.origin.now (rw c.in-Err-Used.field-0-is at c.in-Err-Used.ensures.fault).1)

pub returns-in-Err-Full-clause-says : goal.returns-in-Err-Full-clause-says
unfolding Says
returns-in-Err-Full-clause-says c told table s groups legal still stands =
    refused_still s groups c.args.self.now told table legal stands (events.Spawn c.args.renderer c.args.origin.now)
    (refusals.TooMany numbered.Renderers)
    (record c.args.self.now { renderers = c.spawn.new.self })
    (ap (λ (one : Table). record c.args.self.now { renderers = one }) (rw c.in-Err-Full.field-0-is at c.in-Err-Full.ensures.fault).0)
    (spawn_full s (history_from start groups) (is_live (page_limit s) (history_from start groups)) (parts_of c.args.self.now) told table stands.between
    c.args.renderer c.args.origin.now (rw c.in-Err-Full.field-0-is at c.in-Err-Full.ensures.fault).1)
