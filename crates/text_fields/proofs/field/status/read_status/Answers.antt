use Rattle.text_fields.specs.Status.{status_word}
use Rattle.text_fields.specs.declared.field.status.TheConstants.{STATUSES}
use Rattle.text_fields.proofs.Keywords.{found_is}
use Rattle.text_fields.proofs.Words.{status_found}
use Rattle.text_fields.proofs.field.status.read_status.Goals as goal

pub returns : goal.returns
returns c = found_is status_word STATUSES c.args.text.now status_found c.find.result c.find.ensures
