-- The laws of the lines that end the job in flight.
use Rattle.store_laws.specs.JobLaws.{JobLinesStand}
use Rattle.store_laws.proofs.JobFails.{emptying, move_failing, page_failing, unread}
use Rattle.store_laws.proofs.JobWrites.{next_unasked, paging}
use Rattle.store_laws.proofs.Losing.{losing}
use Rattle.store_laws.proofs.Replies.{disk_due, jobs_are_read, lost_due}

pub job_lines_stand : JobLinesStand
job_lines_stand = record {
  lost_refusals = λ s h stands parts told table between job. lost_due s h stands parts told table between job;
  disk_refusals = λ s h stands parts told table between job. disk_due s h stands parts told table between job;
  reading = jobs_are_read;
  losing = losing;
  emptying = emptying;
  page_failing = page_failing;
  move_failing = move_failing;
  unread = unread;
  next_unasked = next_unasked;
  paging = paging;
}
