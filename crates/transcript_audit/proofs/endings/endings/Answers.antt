-- One blob more is looked at, and at the end all were.
use Rattle.std.proofs.Common.{◌≡◌, ◌++◌, List, [], length, subst, ap, ◌∙◌, arith}
use Rattle.std.specs.Prelude.{slice_get}
use Rattle.std.specs.Option.{option_map_or, option_to_list}
use Rattle.answer_text.specs.declared.answer.Answer.{Answer}
use Rattle.blob_model.specs.History.{said_all}
use Rattle.blob_model.specs.Builds.{Build, builds}
use Rattle.blob_model.specs.Settle.{ending_answers}
use Rattle.blob_model.specs.Session.{page_limit}
use Rattle.history_notions.specs.FollowsCourse.{FollowsCourse}
use Rattle.transcript_audit.proofs.Passes.{ending_start, ending_step, ending_end}
use Rattle.transcript_audit.proofs.endings.endings.Goals as goal

pub loop-place-init : goal.loop-place-init
loop-place-init c = λ s h follows. (h, ending_start s h c.args.course.now c.args.owed.now follows)

pub loop-place-preserved : goal.loop-place-preserved
loop-place-preserved c = λ s h follows.
    let far = c.loop-place.invariant s h follows in
    let k = far.0 in
    let next = c.give_one.new.course in
    let count : c.len-count.result ≡ length (builds (page_limit s) h) = c.len-count.ensures ∙ ap (length {A = Build}) follows.follows.builds_are in
    let told : option_to_list c.in_ok-found.found ≡ option_map_or (ending_answers s k) (slice_get (builds (page_limit s) k) c.loop-place.place) [] =
    c.in_ok-found.ensures s k far.1.follows.follows in (
      said_all k (option_map_or (ending_answers s k) (slice_get (builds (page_limit s) k) c.loop-place.place) []),
      ending_step s h k c.loop-place.course next c.loop-place.place c.args.owed.now c.loop-place.owed c.give_one.new.owed far.1
          (omega (arith, count))
          (subst (λ (list : List Answer). FollowsCourse s (said_all k list) next) told (c.in_ok-give_one.ensures.follows s k far.1.follows))
          (c.in_ok-give_one.ensures.owed ∙ ap (λ (list : List Answer). c.loop-place.owed ++ list) told),
    )

pub returns : goal.returns
returns c = λ s h follows.
    let far = c.loop-place.invariant s h follows in
    let count : c.len-count.result ≡ length (builds (page_limit s) h) = c.len-count.ensures ∙ ap (length {A = Build}) follows.follows.builds_are in
    ending_end s h far.0 c.loop-place.course c.loop-place.place c.args.owed.now c.loop-place.owed (omega (arith, count)) far.1
