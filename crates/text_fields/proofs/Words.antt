-- The words of statuses differ.
use Rattle.std.proofs.Common.{◌≡◌, Some, refl}
use Rattle.blob_words.specs.declared.status.Status.{Status}
use Rattle.blob_words.specs.declared.status.Status.TheVariants as statuses
use Rattle.text_fields.specs.Status.{status_word}
use Rattle.text_fields.specs.Keyword.{look_up}
use Rattle.text_fields.specs.declared.field.status.TheConstants.{STATUSES}
use Rattle.text_fields.proofs.Keywords.{same_by_text}

pub status_found : (s : Status) → look_up status_word STATUSES (status_word s) ≡ Some s
status_found statuses.InvalidArguments = refl
status_found s = refl

pub same_status : (s t : Status) → status_word s ≡ status_word t → s ≡ t
same_status s t = same_by_text status_word STATUSES status_found s t
