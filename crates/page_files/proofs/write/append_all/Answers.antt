-- One run more was appended.
use Rattle.std.proofs.Common.{rules, ◌∙◌}
use Rattle.page_files.proofs.Writing.{appended_run}
use Rattle.page_files.proofs.write.append_all.Goals as goal

pub loop-rest-preserved : goal.loop-rest-preserved
loop-rest-preserved g c =
    record {
      appended = appended_run (g.D.PageDisk.writing c.args.disk.now) (g.D.PageDisk.writing c.loop-rest.disk) (g.D.PageDisk.writing c.append.new.self)
          (g.D.PageDisk.changes c.args.disk.now) (g.D.PageDisk.changes c.loop-rest.disk) (g.D.PageDisk.changes c.append.new.self)
          (g.D.PageDisk.came c.args.disk.now) (g.D.PageDisk.came c.loop-rest.disk) (g.D.PageDisk.came c.append.new.self)
          c.args.bytes.now c.loop-rest.rest.now c.split_at.result.0.now c.split_at.result.1.now
          c.loop-rest.invariant.appended (search rules) c.in-Ok.ensures.ok.0 c.in-Ok.ensures.ok.1 c.in-Ok.ensures.ok.2;
      good = c.in-Ok.ensures.good ∙ c.loop-rest.invariant.good;
      meter = c.append.ensures.meter ∙ c.loop-rest.invariant.meter;
    }
