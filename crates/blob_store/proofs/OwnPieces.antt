-- The spans of own pieces lie inside the own bytes, and are as long as the pieces.
use Rattle.std.proofs.Common.{◌≡◌, ℕ, suc, ◌+◌, ◌<◌, ◌≤◌, List, [], ◌∷◌, length, map, sum, sum_by, refl, sym, ap, subst, ◌∙◌, Option, arith}
use Rattle.std.specs.List.{AllByRecursion}
use Rattle.std.proofs.lemmas.List.{length-map}
use Rattle.item_shares.specs.declared.shares.Share.{Share}
use Rattle.blob_items.specs.declared.view.View.{View}
use Rattle.session_script.specs.declared.event.Part.{Part}
use Rattle.blob_model.specs.Parts.{embedded, own_bytes, own_lengths}
use Rattle.segment_assembly.specs.Assembly.{bytes_at}
use Rattle.transport_plan.specs.Spans.{IsEndToEnd, piece_count, piece_spans}
use Rattle.transport_plan.proofs.SpanLemmas.{cover_sum, pieces_cover, pieces_length}
use Rattle.store_laws.specs.EntryLaws.{all_lengths, AreBrought}
use Rattle.store_laws.proofs.Entering.{lengths_all}
use Rattle.store_laws.specs.NewItems.{inline_items}
use Rattle.blob_store.specs.NewItems.{span_length, IsSpanIn}
use Rattle.blob_store.specs.Putting.{ArePut}
use Rattle.blob_store.proofs.Arriving.{memory_brought}
use Rattle.blob_store.proofs.Putting.{bytes_long}

covered : (count : ℕ) (spans : List (ℕ × ℕ)) (from to : ℕ) → IsEndToEnd from spans to → to ≤ count → AllByRecursion (IsSpanIn count) spans
covered count [] from to cover within = tt
covered count (span ∷ spans) from to cover within =
    let rest = cover_sum spans (from + span.1) to cover.2 in
    ((cover.1, omega (arith, cover.0, rest, within)), covered count spans (from + span.1) to cover.2 within)

not_empty : (count : ℕ) (spans : List (ℕ × ℕ)) → AllByRecursion (IsSpanIn count) spans → AllByRecursion (λ (span : ℕ × ℕ). 0 < span_length span) spans
not_empty count [] inside = tt
not_empty count (span ∷ spans) inside = (inside.0.0, not_empty count spans inside.1)

bytes_lengths : (bytes : List ℕ) (spans : List (ℕ × ℕ)) → AllByRecursion (IsSpanIn (length bytes)) spans
    → map (λ (piece : List ℕ). length piece) (map (bytes_at bytes) spans) ≡ map span_length spans
bytes_lengths bytes [] inside = refl
bytes_lengths bytes (span ∷ spans) inside =
    ap (λ (len : ℕ). len ∷ map (λ (piece : List ℕ). length piece) (map (bytes_at bytes) spans)) (bytes_long bytes span inside.0.1)
    ∙ ap (λ (list : List ℕ). span.1 ∷ list) (bytes_lengths bytes spans inside.1)

brought_many : (shares : List (Option Share)) (number : ℕ) (lengths : List ℕ) (views : List View) → AreBrought shares number lengths views
    → length views ≡ length lengths
brought_many shares number [] [] brought = refl
brought_many shares number [] (view ∷ views) brought = absurd brought
brought_many shares number (len ∷ lengths) [] brought = absurd brought
brought_many shares number (len ∷ lengths) (view ∷ views) brought =
    ap (λ (n : ℕ). suc n) (brought_many shares (number + 1) lengths views brought.2)

module _ (page : ℕ) (parts : List Part) where
  abbrev own_spans : List (ℕ × ℕ)
  own_spans = piece_spans page 0 (own_lengths parts)

  cover : 0 < page → IsEndToEnd 0 own_spans (own_bytes parts)
  cover some =
      let whole : 0 + sum (own_lengths parts) ≡ own_bytes parts = omega arith in
      subst (λ (to : ℕ). IsEndToEnd 0 own_spans to) whole (pieces_cover page (own_lengths parts) 0 some)

  pub spans_few : length own_spans ≡ piece_count page (own_lengths parts)
  spans_few = pieces_length page (own_lengths parts) 0

  pub spans_inside : (count : ℕ) → 0 < page → own_bytes parts ≤ count → AllByRecursion (IsSpanIn count) own_spans
  spans_inside count some within = covered count own_spans 0 (own_bytes parts) (cover some) within

  pub spans_some : 0 < page → AllByRecursion (λ (span : ℕ × ℕ). 0 < span_length span) own_spans
  spans_some some = not_empty (own_bytes parts) own_spans (spans_inside (own_bytes parts) some (omega arith))

  pub spans_sum : 0 < page → sum_by span_length own_spans ≡ own_bytes parts
  spans_sum some = omega (arith, cover_sum own_spans 0 (own_bytes parts) (cover some))

  pub spans_lengths : map span_length own_spans ≡ all_lengths page parts
  spans_lengths = lengths_all page 0 (own_lengths parts)

  -- there is a view for each own piece
  pub many_brought : (first : ℕ) (shares : List (Option Share)) (views : List View) → AreBrought shares first (all_lengths page parts) views
      → length views ≡ piece_count page (own_lengths parts)
  many_brought first shares views brought =
      brought_many shares first (all_lengths page parts) views brought ∙ ap (λ (list : List ℕ). length list) (sym spans_lengths)
      ∙ length-map own_spans span_length ∙ spans_few

  -- the slots hold the own pieces, where the line has their bytes
  pub inline_brought : (first : ℕ) (old new : List (Option Share)) (views : List View) → 0 < page → own_bytes parts ≤ length (embedded parts)
      → ArePut old (inline_items page first parts) views new → AreBrought new first (all_lengths page parts) views
  inline_brought first old new views some told put = subst (λ (lengths : List ℕ). AreBrought new first lengths views)
      (bytes_lengths (embedded parts) own_spans (spans_inside (length (embedded parts)) some told) ∙ spans_lengths)
      (memory_brought new first (map (bytes_at (embedded parts)) own_spans) views put.held put.whole)
