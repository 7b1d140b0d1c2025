use Rattle.std.proofs.Common.{sym, ◌∙◌, subst}
use Rattle.segment_assembly.specs.Assembly.{AreSegments}
use Rattle.segment_assembly.proofs.Lengths.{are_segments}
use Rattle.segment_assembly.proofs.SlotLemmas.{count_slots}
use Rattle.segment_assembly.proofs.assembly.Assembly.missing.Goals as goal

pub returns-clause-value : goal.returns-clause-value
returns-clause-value c = rw (← c.self.view_is) (c.self.invariant.missing ∙ sym (count_slots _ c.self.inside.came.items c.self.inside.bytes.items))

pub returns-clause-segments : goal.returns-clause-segments
returns-clause-segments c = subst AreSegments c.self.view_is (are_segments c.self.inside c.self.invariant)
