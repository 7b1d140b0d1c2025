-- The law as it was proved.
use Rattle.store_laws.proofs.UrlForms.{url_forms_agree}
use Rattle.store_laws.proofs.table_laws.url_forms_agree.Goals as goal

pub returns : goal.returns
returns c = url_forms_agree
