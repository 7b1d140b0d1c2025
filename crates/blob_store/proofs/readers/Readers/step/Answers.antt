-- A reader steps where it is kept.
use Rattle.std.proofs.Common.{◌≡◌, Some, sym, ap, ◌∙◌}
use Rattle.std.specs.Option.{option_copied_mut}
use Rattle.blob_store.specs.Readers.{reader_at}
use Rattle.blob_store.specs.Steps.{with_course}
use Rattle.blob_store.proofs.Moving.{agree_moved, stepped}
use Rattle.blob_store.proofs.readers.Readers.step.Goals as goal

pub invariant_of-self : goal.invariant_of-self
invariant_of-self g c =
    let readers = c.self.inside.by_number.entries in
    let there : reader_at c.args.number.0 readers ≡ Some c.in-Some.open.now = sym c.get_mut.ensures.value ∙ ap option_copied_mut c.in-Some.is in
    λ owner.
    c.self.invariant owner
    ∙ sym (agree_moved c.args.number.0 c.step.new.self c.in-Some.open.now owner readers _ there
    (c.get_mut.follows.holds (with_course c.step.new.self c.in-Some.open.now)).0)

pub returns-clause-stepped : goal.returns-clause-stepped
returns-clause-stepped g c =
    let readers = c.self.inside.by_number.entries in
    let there : reader_at c.args.number.0 readers ≡ Some c.in-Some.open.now = sym c.get_mut.ensures.value ∙ ap option_copied_mut c.in-Some.is in
    let is = (c.get_mut.follows.holds (with_course c.step.new.self c.in-Some.open.now)).0 in
    stepped c.args.number.0 c.step.new.self c.in-Some.open.now _ _ _ _ _ _ _ _ readers _ c.self.view_is there is c.step.ensures.ends
