-- The order of use has none of the pieces of the job in flight, so once the job has ended it is the one without those that are paged then.
use Rattle.std.proofs.Common.{◌≡◌, ℕ, ◌&&◌, ◌||◌, not, Bool, true, false, List, Option, map, refl, ap, sym, ◌∙◌}
use Rattle.std.specs.Prelude.{filter}
use Rattle.std.specs.Option.{option_map}
use Rattle.item_shares.specs.declared.shares.Share.{Share}
use Rattle.model_bridges.specs.Bridges.{job_as}
use Rattle.page_files.specs.declared.job.Job.{Job}
use Rattle.blob_model.specs.Builds.{builds}
use Rattle.blob_model.specs.History.{History}
use Rattle.blob_model.specs.Jobs.{in_flight, is_in_job}
use Rattle.blob_model.specs.Pages.{is_memory, place}
use Rattle.blob_model.specs.Pieces.{pieces, Piece}
use Rattle.blob_model.specs.Session.{page_limit, Session}
use Rattle.blob_model.specs.Standing.{is_done}
use Rattle.store_laws.specs.Items.{holds_piece}
use Rattle.store_laws.specs.PageFiles.{with_held}
use Rattle.store_laws.specs.Pageable.{is_flying}
use Rattle.store_laws.specs.Rows.{bare, is_gathered, rows_of, Row}
use Rattle.store_laws.specs.Uses.{held_pieces, is_held, pageable_of}
use Rattle.store_laws.proofs.Letting.{filter_same, filter_twice}
use Rattle.store_laws.proofs.OrderLeft.{done_over, not_gathered, or_none, passing}
use Rattle.store_laws.proofs.Pageable.{flies}
use Rattle.store_laws.proofs.PassUses.{three}

-- a job has ended that had these pieces left
module _ (s : Session) (h : History) (stands : ℕ → Bool) (shares : List (Option Share)) (rows : List (Option Row)) (job : Option Job)
    (rowed : map (option_map bare) rows ≡ rows_of s h stands)
    (same : option_map job_as job ≡ option_map (with_held (holds_piece shares)) (in_flight h)) (in_later : ℕ → Bool)
    (over : (n : ℕ) → in_later n ≡ false) where
  abbrev all : List Piece
  all = pieces (page_limit s) h

  abbrev holds : Piece → Bool
  holds piece = is_held (builds (page_limit s) h) shares rows piece

  abbrev in_mind : Piece → Bool
  in_mind piece = is_memory (place (page_limit s) h piece)

  abbrev can_page : Piece → Bool
  can_page piece = is_done h piece.blob && not (is_in_job h piece.number)

  abbrev can_now : Piece → Bool
  can_now piece = is_done h piece.blob && not (in_later piece.number)

  abbrev pub stays : ℕ → Bool
  stays n = not (is_flying n job)

  -- where those are in memory no more
  pub pageable_ended : (now : Piece → Bool) → ((piece : Piece) → now piece ≡ (in_mind piece && stays piece.number))
      → filter can_now (filter now (held_pieces (page_limit s) h shares rows))
      ≡ passing stays (pageable_of (page_limit s) h (held_pieces (page_limit s) h shares rows))
  pageable_ended now is =
      three holds now can_now all
      ∙ filter_same (λ (piece : Piece). (holds piece && now piece) && can_now piece)
      (λ (piece : Piece). ((holds piece && in_mind piece) && can_page piece) && stays piece.number) all each
      ∙ sym (filter_twice (λ (piece : Piece). (holds piece && in_mind piece) && can_page piece) (λ (piece : Piece). stays piece.number) all)
      ∙ sym (ap (filter (λ (piece : Piece). stays piece.number)) (three holds in_mind can_page all))
    where
      false_both : (a b c : Bool) → (a && false) ≡ ((b && false) && c)
      false_both true true c = refl
      false_both true false c = refl
      false_both false true c = refl
      false_both false false c = refl

      kept : (m f : Bool) → ((true && (m && not f)) && (true && not false)) ≡ (((true && m) && (true && not f)) && not f)
      kept true true = refl
      kept true false = refl
      kept false true = refl
      kept false false = refl

      each : (piece : Piece) → ((holds piece && now piece) && can_now piece) ≡ (((holds piece && in_mind piece) && can_page piece) && stays piece.number)
      each piece = by (is_done h piece.blob) refl (holds_piece shares piece.number) refl
        where
          by : (done : Bool) → is_done h piece.blob ≡ done → (has : Bool) → holds_piece shares piece.number ≡ has
              → ((holds piece && now piece) && can_now piece) ≡ (((holds piece && in_mind piece) && can_page piece) && stays piece.number)
          by false at has held =
              ap (λ (b : Bool). (holds piece && now piece) && (b && not (in_later piece.number))) at
              ∙ false_both (holds piece && now piece) (holds piece && in_mind piece) (stays piece.number)
              ∙ sym (ap (λ (b : Bool). ((holds piece && in_mind piece) && (b && not (is_in_job h piece.number))) && stays piece.number) at)
          by true at false held =
              let none = not_gathered s h stands (builds (page_limit s) h) rows rowed piece.blob (done_over h piece.blob at) in
              let unheld : holds piece ≡ false =
              or_none (holds_piece shares piece.number) (is_gathered (builds (page_limit s) h) rows piece.blob) none ∙ held in
              ap (λ (b : Bool). (b && now piece) && can_now piece) unheld
              ∙ sym (ap (λ (b : Bool). ((b && in_mind piece) && can_page piece) && stays piece.number) unheld)
          by true at true held =
              let has : holds piece ≡ true = ap (λ (b : Bool). b || is_gathered (builds (page_limit s) h) rows piece.blob) held in
              let flying : is_in_job h piece.number ≡ is_flying piece.number job =
              flies piece.number job (in_flight h) (holds_piece shares) held same in
              (λ i. (has i && is piece i) && (at i && not (over piece.number i)))
              ∙ kept (in_mind piece) (is_flying piece.number job)
              ∙ sym (λ i. ((has i && in_mind piece) && (at i && not (flying i))) && stays piece.number)
