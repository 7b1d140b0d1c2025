-- What a status says: an entry is still to end, is done, or is broken. Own.
use Rattle.std.specs.Prelude.{Bool, false, true}
use Rattle.blob_words.specs.declared.status.Status.{Status}
use Rattle.blob_words.specs.declared.status.Status.TheVariants.{Done, FileWriteFailed, InvalidArguments, OutOfMemory, PendingQuota, PendingReferencedBlobs}
use Rattle.blob_words.specs.declared.status.Status.TheVariants.{PendingTransport, ReferencedBlobBroken, ReferencedFileUnavailable, SourceDied}

-- a blob of this status is still to end
abbrev pub is_pending : Status → Bool
is_pending PendingQuota = true
is_pending PendingTransport = true
is_pending PendingReferencedBlobs = true
is_pending status = false

abbrev pub is_done : Status → Bool
is_done Done = true
is_done status = false

abbrev pub is_broken : Status → Bool
is_broken InvalidArguments = true
is_broken OutOfMemory = true
is_broken FileWriteFailed = true
is_broken SourceDied = true
is_broken ReferencedBlobBroken = true
is_broken ReferencedFileUnavailable = true
is_broken status = false
