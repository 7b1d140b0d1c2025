-- A page that is due was not asked for.
use Rattle.std.proofs.Common.{rules}
use Rattle.page_files.proofs.Charges.{due_unasked}
use Rattle.page_files.proofs.page_files.PageFiles.remove_due.Goals as goal

pub ask-goes-requires-clause-unasked : goal.ask-goes-requires-clause-unasked
ask-goes-requires-clause-unasked g c = due_unasked c.args.self.now.pages c.in_ok-place.place (search rules)
