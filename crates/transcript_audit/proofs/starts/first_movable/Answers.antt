-- The page file at the next place can move, or one behind it is the first.
use Rattle.std.proofs.Common.{◌≡◌, ℕ, Bool, true, false, List, get_or, sym, ◌∙◌, arith}
use Rattle.std.specs.Prelude.{slice_get}
use Rattle.std.specs.Option.{option_map_or}
use Rattle.blob_model.specs.Builds.{builds}
use Rattle.blob_model.specs.Pieces.{pieces}
use Rattle.blob_model.specs.Pages.{Page}
use Rattle.blob_model.specs.Settle.{can_move}
use Rattle.blob_model.specs.Session.{page_limit}
use Rattle.transcript_audit.proofs.Turned.{found_here, passed_here}
use Rattle.transcript_audit.proofs.starts.first_movable.Goals as goal

pub loop-place-preserved : goal.loop-place-preserved
loop-place-preserved c = λ s h follows charged.
    let pages : List Page = c.args.contents.now.kept.pages in
    let places : List ℕ = c.args.places.now in
    let i : ℕ = c.loop-place.place-index in
    let test : Page → Bool = can_move s h (builds (page_limit s) h) (pieces (page_limit s) h) c.args.list.now in
    let fails : option_map_or test (slice_get pages (get_or places i 0)) false ≡ false = sym (c.in_ok-can.ensures s h follows charged) ∙ c.if-can.false in
    passed_here test pages places i (omega arith) fails ∙ c.loop-place.invariant s h follows charged

pub returns-then-can : goal.returns-then-can
returns-then-can c = λ s h follows charged.
    let pages : List Page = c.args.contents.now.kept.pages in
    let places : List ℕ = c.args.places.now in
    let i : ℕ = c.loop-place.place-index in
    let test : Page → Bool = can_move s h (builds (page_limit s) h) (pieces (page_limit s) h) c.args.list.now in
    let passes : option_map_or test (slice_get pages (get_or places i 0)) false ≡ true = sym (c.in_ok-can.ensures s h follows charged) ∙ c.if-can.true in
    sym (found_here test pages places i (omega arith) passes) ∙ c.loop-place.invariant s h follows charged
