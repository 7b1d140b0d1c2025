-- Whether a session has ended after one more group.
use Rattle.std.proofs.Common.{◌≡◌, ◌||◌, Bool, true, false, List, [], ◌∷◌, refl, sym, ap, ◌∙◌}
use Rattle.session_script.specs.declared.event.Event.{Event}
use Rattle.session_script.specs.declared.event.Event.TheVariants as events
use Rattle.answer_text.specs.declared.answer.Answer.{Answer}
use Rattle.answer_text.specs.declared.answer.Answer.TheVariants as answers
use Rattle.answer_text.specs.declared.refusal.Refusal.{Refusal}
use Rattle.blob_model.specs.History.{History, said, heard, heard_first, said_all, after, has_ended}
use Rattle.transcript_audit.specs.Runs.{is_answered, ends}

or_no : (b : Bool) → b ≡ (b || false)
or_no true = refl
or_no false = refl

or_yes : (b : Bool) → true ≡ (b || true)
or_yes true = refl
or_yes false = refl

no_end : (event : Event) (why : Refusal) (more : List Answer) → ends event (answers.Refused why ∷ more) ≡ false
no_end events.Finish why more = refl
no_end event why more = refl

heard_ended : (h : History) (event : Event) (a : Answer) (more : List Answer) → is_answered (a ∷ more) ≡ true
    → has_ended (heard h event a) ≡ (has_ended h || ends event (a ∷ more))
heard_ended h events.Finish a more e = or_yes (has_ended h) ∙ ap (λ (b : Bool). has_ended h || b) (sym e)
heard_ended h event a more e = or_no (has_ended h)

first_ended : (h : History) (event : Event) (a : Answer) (more : List Answer) → has_ended (heard_first h event a) ≡ (has_ended h || ends event (a ∷ more))
first_ended h event (answers.Refused why) more = or_no (has_ended h) ∙ ap (λ (b : Bool). has_ended h || b) (sym (no_end event why more))
first_ended h event a more = heard_ended h event a more refl

said_ended : (h : History) (list : List Answer) → has_ended (said_all h list) ≡ has_ended h
said_ended h [] = refl
said_ended h (a ∷ more) = said_ended (said h a) more

none_ends : (event : Event) → ends event [] ≡ false
none_ends events.Finish = refl
none_ends event = refl

pub line_ended : (h : History) (event : Event) (list : List Answer) → has_ended (after h event list) ≡ (has_ended h || ends event list)
line_ended h event [] = or_no (has_ended h) ∙ ap (λ (b : Bool). has_ended h || b) (sym (none_ends event))
line_ended h event (a ∷ more) = said_ended (heard_first h event a) more ∙ first_ended h event a more
