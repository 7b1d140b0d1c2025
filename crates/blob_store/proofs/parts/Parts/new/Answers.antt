-- Parts that have heard nothing agree, and stand for what comes after the line of the limits.
use Rattle.blob_store.specs.Whole.{IsWhole}
use Rattle.blob_store.proofs.Beginning.{begins_new, whole_new}
use Rattle.blob_store.proofs.parts.Parts.new.Goals as goal

pub returns-clause-whole : goal.returns-clause-whole
unfolding IsWhole
returns-clause-whole c = whole_new c.args.limits c.args.version c.in_ok-parts.parts c.in_ok-parts.ensures

pub returns-clause-begins : goal.returns-clause-begins
returns-clause-begins c = begins_new c.args.limits c.args.version c.in_ok-parts.parts c.in_ok-parts.ensures
