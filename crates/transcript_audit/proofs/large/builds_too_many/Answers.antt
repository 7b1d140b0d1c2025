-- Where the cells are few, the line isn't large, whatever else holds.
use Rattle.std.proofs.Common.{◌≡◌, ℕ, ◌+◌, ◌&&◌, Bool, true, false, refl, sym, ap, ◌∙◌, sum_by}
use Rattle.std.specs.Prelude.{is_none, nat_lt}
use Rattle.blob_model.specs.Session.{page_limit}
use Rattle.blob_model.specs.Parts.{parts_length}
use Rattle.blob_model.specs.Builds.{size, builds}
use Rattle.blob_model.specs.Refusals.{refusal, stands_at_line}
use Rattle.transcript_audit.specs.declared.large.TheConstants.{MOST_CELLS}
use Rattle.transcript_audit.proofs.large.builds_too_many.Goals as goal

last_false : (a b c : Bool) → c ≡ false → false ≡ (a && (b && c))
last_false true true c is = sym is
last_false true false c is = refl
last_false false b c is = refl

pub returns-then-not-past : goal.returns-then-not-past
returns-then-not-past c = λ s h follows.
    let total : ℕ = sum_by size (builds (page_limit s) h) in
    let few : nat_lt MOST_CELLS (total + parts_length c.args.parts.now) ≡ false =
    ap (λ (len : ℕ). nat_lt MOST_CELLS (total + len)) (sym c.parts_length.ensures) ∙ sym (c.in_ok-past.ensures s h follows) ∙ c.if-not-past.true in
    last_false (is_none (refusal s h c.args.event.now)) (stands_at_line s h c.args.r c.args.b c.args.parts.now)
    (nat_lt MOST_CELLS (total + parts_length c.args.parts.now)) few
