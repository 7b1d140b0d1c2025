-- The law on lines that change tables and roots.
use Rattle.store_laws.specs.TableLaws.{TableLinesStand}
use Rattle.store_laws.proofs.Dying.{dying}
use Rattle.store_laws.proofs.Finishing.{finishing}
use Rattle.store_laws.proofs.Tables.{closing, forgetting, making_urls, passing, recording, revoking, revoking_nothing}

pub table_lines_stand : TableLinesStand
table_lines_stand = record {
  passing = passing;
  making_urls = making_urls;
  revoking = revoking;
  revoking_nothing = λ renderer text s h stands parts told table unmarked between.
      revoking_nothing s h stands parts told table unmarked between renderer text;
  recording = recording;
  forgetting = forgetting;
  closing = closing;
  dying = dying;
  finishing = finishing;
}
