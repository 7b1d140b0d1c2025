-- Lists 4 to 7 are told one after the other.
use Rattle.std.proofs.lemmas.Result.{on_ok_weaker}
use Rattle.blob_store.specs.Says.{scene}
use Rattle.blob_store.proofs.Settled.{room_made}
use Rattle.blob_store.proofs.parts.Parts.make_room.Goals as goal

pub returns-clause-room : goal.returns-clause-room
returns-clause-room g c =
    let told = g.D.PageDisk.changes c.remove_pages.new.disk in
    on_ok_weaker c.start_compaction.result
    (λ moves table. room_made (scene c.args.self.now (g.D.PageDisk.changes c.args.disk.now) table) (scene c.remove_pages.new.self told table)
    (scene c.grant_waiting.new.self told table) (scene c.start_page_job.new.self told table) (scene c.start_compaction.new.self told table)
    c.args.answers.now c.remove_pages.new.answers c.grant_waiting.new.answers c.start_page_job.new.answers c.start_compaction.new.answers
    (c.in-Ok.ensures.removes table) (c.in-Ok-grant_waiting.ensures.tells told table) (c.in-Ok-start_page_job.ensures.tells told table)
    (moves told table)) c.start_compaction.ensures.tells
