-- The law as it was proved.
use Rattle.store_laws.proofs.Pageable.{pieces_may_be_paged}
use Rattle.store_laws.proofs.page_laws.pieces_may_be_paged.Goals as goal

pub returns : goal.returns
returns c = pieces_may_be_paged
