-- What the parts of a store tell of a line that builds is what the history says.
use Rattle.blob_model.specs.Live.{is_live}
use Rattle.blob_model.specs.Parts.{claims}
use Rattle.blob_model.specs.Refusals.{claimed}
use Rattle.blob_model.specs.Session.{page_limit}
use Rattle.store_laws.specs.DecidingLaws.{BuildsDecided}
use Rattle.store_laws.proofs.BuildRefusals.{build_known, slice_known}
use Rattle.store_laws.proofs.Deciding.{plan_known, slots_free, status_known}

pub builds_decided : BuildsDecided
builds_decided = record {
  plan = λ s h parts told table there stands line. plan_known s h (is_live (page_limit s) h) parts told table stands.between stands.reaches line;
  status = λ s h parts told table there stands renderer name line silent.
      status_known s h (is_live (page_limit s) h) parts told table stands.between stands.reaches there renderer name line
      (slots_free s (claimed s h) (claimed s h) (claims line) (λ k free. free) silent);
  build = λ s h parts told table there stands renderer name kind line.
      build_known s h (is_live (page_limit s) h) parts told table stands.between stands.reaches there renderer name kind line;
  slice = λ s h parts told table there stands renderer name source from to kind.
      slice_known s h (is_live (page_limit s) h) parts told table stands.between stands.reaches there renderer name source from to kind;
}
