use Rattle.std.proofs.Common.{◌≡◌, take}
use Rattle.blob_model.specs.Pages.{numbers}
use Rattle.store_laws.specs.LateJobs.{without_all}
use Rattle.blob_store.proofs.settle.page_jobs.leave_all.Given as goal

abbrev pub invariant-loop-piece : goal.invariant-loop-piece
invariant-loop-piece l = l.recent ≡ without_all (numbers (take l.piece-index l.pieces)) l.fn.recent
