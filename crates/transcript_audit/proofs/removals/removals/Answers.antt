-- The page files of the history that hold no reached piece.
use Rattle.std.proofs.Common.{◌≡◌, ℕ, [], ◌==◌, ◌&&◌, Bool, not, List, map, sym, ap, ◌∙◌}
use Rattle.std.specs.Prelude.{filter}
use Rattle.std.specs.List.{list_any}
use Rattle.blob_model.specs.Builds.{builds}
use Rattle.blob_model.specs.Pieces.{Piece}
use Rattle.blob_model.specs.Pages.{Page, pages, asked}
use Rattle.blob_model.specs.Reached.{reached}
use Rattle.blob_model.specs.Tally.{files, files_of}
use Rattle.blob_model.specs.Settle.{removal, is_due}
use Rattle.blob_model.specs.Session.{page_limit}
use Rattle.history_notions.specs.Chosen.{items_at}
use Rattle.history_notions.proofs.Lifted.{any_map, filter_alike}
use Rattle.transcript_audit.specs.Owed.{is_due_in, number_of}
use Rattle.transcript_audit.proofs.Idle.{no_items, no_removals}
use Rattle.transcript_audit.proofs.removals.removals.Goals as goal

pub returns-then-pages-eq0 : goal.returns-then-pages-eq0
returns-then-pages-eq0 c = λ s h follows.
    let empty : c.as_slice-pages.result.now ≡ [] = no_items c.as_slice-pages.result.now c.if-pages-eq0.true in
    c.new.ensures
    ∙ no_removals s c.args.unremoved.now h (sym (c.as_slice-pages.ensures ∙ follows.keeps.pages_are) ∙ empty)

pub returns : goal.returns
returns c = λ s h follows.
    let unremoved : List ℕ = c.args.unremoved.now in
    let written : c.as_slice-pages.result.now ≡ pages h = c.as_slice-pages.ensures ∙ follows.keeps.pages_are in
    let list : c.as_slice.result.now ≡ reached (page_limit s) h = c.as_slice.ensures ∙ c.in_ok-list.ensures s h follows in
    let found : items_at c.args.contents.now.kept.pages c.in_ok-places.places ≡ files (page_limit s) h =
    c.in_ok-places.ensures s h follows ∙ ap (λ (pieces : List Piece). files_of h (builds (page_limit s) h) pieces) list in
    let held : c.as_slice-3.result.now ≡ map number_of (files (page_limit s) h) =
    c.as_slice-3.ensures
    ∙ c.in_ok-held.ensures
    ∙ ap (λ (list : List Page). map number_of (items_at list c.as_slice-2.result.now)) c.as_slice-pages.ensures
    ∙ ap (λ (places : List ℕ). map number_of (items_at c.args.contents.now.kept.pages places)) c.as_slice-2.ensures
    ∙ ap (map number_of) found in
    let gone : c.as_slice-asked.result.now ≡ asked h = c.as_slice-asked.ensures ∙ follows.keeps.asked_are in
    c.in_ok-found.ensures
    ∙ ap (λ (list : List Page). map (removal unremoved) (filter (is_due_in c.as_slice-3.result.now c.as_slice-asked.result.now) list)) written
    ∙ ap (λ (numbers : List ℕ). map (removal unremoved) (filter (is_due_in numbers c.as_slice-asked.result.now) (pages h))) held
    ∙ ap (λ (numbers : List ℕ). map (removal unremoved) (filter (is_due_in (map number_of (files (page_limit s) h)) numbers) (pages h))) gone
    ∙ ap (map (removal unremoved))
    (filter_alike (is_due_in (map number_of (files (page_limit s) h)) (asked h)) (is_due h (files (page_limit s) h)) (pages h)
    (λ (page : Page).
    ap (λ (b : Bool). not b && not (list_any (λ (number : ℕ). number == page.number) (asked h)))
    (sym (any_map (λ (each : ℕ). each == page.number) number_of (files (page_limit s) h)))))
