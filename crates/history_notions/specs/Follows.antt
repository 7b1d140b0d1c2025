-- When contents agree with a history. Own.
use Rattle.std.specs.Prelude.{◌≡◌}
use Rattle.blob_model.specs.Session.{Session, page_limit}
use Rattle.blob_model.specs.History.{History}
use Rattle.blob_model.specs.Builds.{builds}
use Rattle.blob_model.specs.Pieces.{pieces}
use Rattle.blob_model.specs.Readers.{readers}
use Rattle.history_notions.specs.Keeps.{Keeps}
use Rattle.history_notions.specs.Silent.{outside_of}
use Rattle.history_notions.specs.declared.contents.Contents.{Contents}

-- what is kept agrees with the history, and so do the session, the blobs, their pieces and the open readers
pub record Follows (s : Session) (h : History) (contents : Contents) : Type 0 where
  pub keeps : Keeps h contents.kept
  pub limits_are : contents.limits ≡ s.limits
  pub version_is : contents.version ≡ s.version
  pub outside_is : outside_of contents.sizes ≡ s.outside
  pub builds_are : contents.builds ≡ builds (page_limit s) h
  pub pieces_are : contents.pieces ≡ pieces (page_limit s) h
  pub readers_are : contents.readers.items ≡ readers (page_limit s) h
