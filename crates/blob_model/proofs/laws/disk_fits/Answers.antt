-- The law as it was proved.
use Rattle.blob_model.proofs.disk.Groups.{disk_fits}
use Rattle.blob_model.proofs.laws.disk_fits.Goals as goal

pub returns : goal.returns
returns c = disk_fits
