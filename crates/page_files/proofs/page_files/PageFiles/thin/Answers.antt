-- The room that is left is what the limit leaves of the charge.
use Rattle.std.proofs.Common.{ℕ, ◌-◌, Some, None, ap}
use Rattle.page_files.specs.Files.{Files}
use Rattle.page_files.proofs.Charges.{thin_found}
use Rattle.page_files.proofs.page_files.PageFiles.thin.Goals as goal

pub returns-in-Some : goal.returns-in-Some
returns-in-Some c =
    let inside = c.self.inside in
    let files : Files = record {
      limit = inside.limit;
      pages = inside.table;
      reserved = inside.reserved;
      job = inside.job;
      paging = inside.paging;
      jobs =
          inside.jobs;
    } in
    rw (← c.self.view_is) (thin_found files (inside.limit - inside.charged) c.first_thin.result (Some c.in-Some.place) c.first_thin.ensures
    (ap (λ (n : ℕ). inside.limit - n) c.self.invariant.0) c.in-Some.is)

pub returns-in-None : goal.returns-in-None
returns-in-None c =
    let inside = c.self.inside in
    let files : Files = record {
      limit = inside.limit;
      pages = inside.table;
      reserved = inside.reserved;
      job = inside.job;
      paging = inside.paging;
      jobs =
          inside.jobs;
    } in
    rw (← c.self.view_is) (thin_found files (inside.limit - inside.charged) c.first_thin.result None c.first_thin.ensures
    (ap (λ (n : ℕ). inside.limit - n) c.self.invariant.0) c.in-None.is)
