-- The law as it was proved.
use Rattle.store_laws.proofs.Denoted.{denoted-append, denoted-cut, denoted-same, denoted-view}
use Rattle.store_laws.proofs.laws.views_denote_cells.Goals as goal

pub returns : goal.returns
returns c = record { joined = denoted-append; cut = denoted-cut; of_view = denoted-view; same = denoted-same }
