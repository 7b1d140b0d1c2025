-- The slots' refusal, else that of the numbers.
use Rattle.std.proofs.Common.{◌≡◌, ℕ, ◌++◌, Bool, false, not, List, Option, None, Some, sym, ap, ◌∙◌}
use Rattle.std.specs.Prelude.{is_some}
use Rattle.blob_model.specs.Builds.{builds, build_in}
use Rattle.blob_model.specs.Renderers.{is_alive}
use Rattle.blob_model.specs.Choice.{first_that}
use Rattle.blob_model.specs.Parts.{claims}
use Rattle.blob_model.specs.Refusals.{no_renderer, name_used, claimed, slot_refusals}
use Rattle.blob_model.specs.Session.{page_limit}
use Rattle.history_notions.specs.Slots.{many_tests}
use Rattle.history_notions.proofs.Slots.{front_tells, front_silent, two_passed}
use Rattle.history_notions.proofs.contents.Contents.build_refusal.Goals as goal

pub returns-in-Some : goal.returns-in-Some
returns-in-Some c = λ s h kind follows.
    let front = slot_refusals s (claimed s h) (claims c.args.parts.now) in
    let behind = many_tests s h c.args.r c.args.b c.args.parts.now in
    let alive : not (is_alive h c.args.r.0) ≡ false = ap not (sym (c.is_alive.ensures h follows.keeps) ∙ c.if-not-is_alive.false) in
    let fresh : is_some (build_in (builds (page_limit s) h) c.args.b) ≡ false = sym (c.is_built.ensures s h follows) ∙ c.if-is_built.false in
    let tells : first_that front ≡ Some c.in-Some.why = sym (c.in_ok-slots.ensures s h follows) ∙ c.in-Some.is in
    sym (two_passed (no_renderer h c.args.r) (name_used s h c.args.b) (front ++ behind) alive fresh ∙ front_tells front behind c.in-Some.why tells)

pub returns-in_ok-many-in-None : goal.returns-in_ok-many-in-None
returns-in_ok-many-in-None c = λ s h kind follows.
    let front = slot_refusals s (claimed s h) (claims c.args.parts.now) in
    let behind = many_tests s h c.args.r c.args.b c.args.parts.now in
    let alive : not (is_alive h c.args.r.0) ≡ false = ap not (sym (c.is_alive.ensures h follows.keeps) ∙ c.if-not-is_alive.false) in
    let fresh : is_some (build_in (builds (page_limit s) h) c.args.b) ≡ false = sym (c.is_built.ensures s h follows) ∙ c.if-is_built.false in
    let silent : first_that front ≡ None = sym (c.in_ok-slots.ensures s h follows) ∙ c.in-None.is in
    c.in_ok-many-in-None.ensures s h follows
    ∙ sym (two_passed (no_renderer h c.args.r) (name_used s h c.args.b) (front ++ behind) alive fresh ∙ front_silent front behind silent)
