-- A step of a reader that isn't open is refused; of an unfinished blob it waits, and of a broken one, or where nothing is left, the reader is at its end.
use Rattle.std.proofs.Common.{rules, ◌≡◌, ◌⊎◌, true, false, [], ◌∷◌, Some, refl, sym, ap, subst, ◌∙◌, inl, inr, ⊎_elim, arith}
use Rattle.std.specs.Option.{option_copied}
use Rattle.blob_words.specs.declared.status.Status.{Status}
use Rattle.session_script.specs.declared.event.Event.TheVariants as events
use Rattle.answer_text.specs.declared.answer.Answer.TheVariants as answers
use Rattle.blob_entries.specs.Book.{entry_of}
use Rattle.blob_entries.specs.Statuses.{is_done, is_pending}
use Rattle.blob_model.specs.History.{history_from, start}
use Rattle.blob_model.specs.Own.{IsAccepted}
use Rattle.blob_store.specs.Readers.{reader_at}
use Rattle.blob_store.specs.Says.{Says}
use Rattle.blob_store.specs.Whole.{IsWhole}
use Rattle.blob_store.proofs.HeardReads.{entry_with, heard_left, heard_pending, over_accepted}
use Rattle.blob_store.proofs.HeardSteps.{heard_closed}
use Rattle.blob_store.proofs.parts.Parts.step.Goals as goal

pub returns-in_default-clause-says : goal.returns-in_default-clause-says
unfolding Says
returns-in_default-clause-says g c s groups legal still stands =
    heard_closed s groups c.args.self.now _ _ legal stands c.args.reader (search rules)

pub returns-then-is_pending-clause-says : goal.returns-then-is_pending-clause-says
unfolding Says
returns-then-is_pending-clause-says g c s groups legal still stands =
    let there : reader_at c.args.reader.0 c.args.self.now.readers ≡ Some c.in-Some.open.now = sym c.find.ensures ∙ ap option_copied c.in-Some.is in
    let found = entry_with (entry_of c.args.self.now.registry c.in-Some.open.now.blob) c.unwrap-status.result
    (sym c.status_of.ensures ∙ c.unwrap-status.ensures) in
    heard_pending s groups c.args.self.now _ _ legal stands c.args.reader c.in-Some.open.now there (found.0) found.1
    (search rules)

pub returns-then-not-is_done-clause-says : goal.returns-then-not-is_done-clause-says
unfolding IsWhole Says
returns-then-not-is_done-clause-says g c s groups legal still stands =
    let one = c.in-Some.open.now in
    let there : reader_at c.args.reader.0 c.args.self.now.readers ≡ Some one = sym c.find.ensures ∙ ap option_copied c.in-Some.is in
    let found = entry_with (entry_of c.args.self.now.registry one.blob) c.unwrap-status.result (sym c.status_of.ensures ∙ c.unwrap-status.ensures) in
    let left = c.left-left.ensures in
    let within = c.place-place.ensures.within in
    let over : (is_done (found.0.status) ≡ false) ⊎ (one.course.place ≡ one.course.stop) =
    ⊎_elim (λ (other : c.is_done.result ≡ false). inl (ap is_done found.2 ∙ sym c.is_done.ensures ∙ other))
    (λ (rest : (c.is_done.result ≡ true) × (c.left-left.result ≡ 0)). let none = rest.1 in inr (omega (arith, left, within, none))) c.then-not-is_done.either in
    heard_left s groups c.args.self.now _ _ legal stands c.args.reader one there (answers.Ended c.args.reader c.unwrap-status.result) c.end_reader.new.self
    refl
    (subst (λ (status : Status). IsAccepted s (history_from start groups) (events.Step c.args.reader) (answers.Ended c.args.reader status ∷ [])) found.2
    (over_accepted s groups c.args.self.now _ _ legal stands c.args.reader one there (found.0) found.1 c.requires.whole c.requires.readable
    (ap is_pending found.2 ∙ sym c.is_pending.ensures ∙ c.if-is_pending.false) over))
    c.end_reader.ensures.closed c.end_reader.ensures.rest
