-- The words of the statuses of blobs. Own.
use Rattle.std.specs.Prelude.{ℕ, Bool, true, false, List, codes}
use Rattle.blob_words.specs.declared.status.Status.{Status}
use Rattle.blob_words.specs.declared.status.Status.TheVariants as statuses

-- the word of a status; a blob that was dropped has none in a transcript but the answer `dropped`
abbrev pub status_word : Status → List ℕ
status_word statuses.InvalidArguments = codes "invalid-construction-arguments"
status_word statuses.OutOfMemory = codes "out-of-memory"
status_word statuses.FileWriteFailed = codes "file-write-failed"
status_word statuses.SourceDied = codes "source-died-in-transit"
status_word statuses.Dereferenced = codes "dropped"
status_word statuses.ReferencedBlobBroken = codes "referenced-blob-broken"
status_word statuses.ReferencedFileUnavailable = codes "referenced-file-unavailable"
status_word statuses.Done = codes "done"
status_word statuses.PendingQuota = codes "pending-quota"
status_word statuses.PendingTransport = codes "pending-transport"
status_word statuses.PendingReferencedBlobs = codes "pending-referenced-blobs"

-- the statuses that have a word in a transcript
abbrev pub is_told : Status → Bool
is_told statuses.Dereferenced = false
is_told status = true

-- the broken statuses among them
abbrev pub is_broken : Status → Bool
is_broken statuses.InvalidArguments = true
is_broken statuses.OutOfMemory = true
is_broken statuses.FileWriteFailed = true
is_broken statuses.SourceDied = true
is_broken statuses.Dereferenced = false
is_broken statuses.ReferencedBlobBroken = true
is_broken statuses.ReferencedFileUnavailable = true
is_broken statuses.Done = false
is_broken statuses.PendingQuota = false
is_broken statuses.PendingTransport = false
is_broken statuses.PendingReferencedBlobs = false

-- the statuses with which a reader ends: a broken one, or `done`
abbrev pub is_end : Status → Bool
is_end statuses.Done = true
is_end status = is_broken status

-- a switch
abbrev pub switch_word : Bool → List ℕ
switch_word true = codes "on"
switch_word false = codes "off"
