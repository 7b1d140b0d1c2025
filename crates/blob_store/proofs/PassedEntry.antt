-- What a pass makes of one entry.
use Rattle.std.proofs.Common.{◌≡◌, ℕ, Bool, true, false, cond, List, Option, Some, None, refl, ap, subst, sym}
use Rattle.std.specs.Prelude.{unwrap_or, IsSomeAnd}
use Rattle.blob_words.specs.declared.status.Status.{Status}
use Rattle.blob_words.specs.declared.status.Status.TheVariants as statuses
use Rattle.blob_items.specs.Cells.{cells}
use Rattle.blob_items.specs.declared.view.View.{View}
use Rattle.blob_entries.specs.Changes.{done_with, with_status}
use Rattle.blob_entries.specs.Contents.{made_cells}
use Rattle.blob_entries.specs.Endings.{ending, marked_end, source_end, Ends, EndsAs}
use Rattle.blob_entries.specs.Holdings.{own_views}
use Rattle.blob_entries.specs.Sound.{IsSound}
use Rattle.blob_entries.specs.Statuses.{is_broken, is_done, is_pending}
use Rattle.blob_entries.specs.declared.entry.Entry.{Entry}
use Rattle.blob_entries.proofs.Finishing.{breaks}
use Rattle.blob_registry.proofs.Passing.{status_of}

module _ (names : List ℕ) (before after : List (Option Entry)) (number : ℕ) (entry : Entry) (sound : IsSound names before number entry) where
  pub ended_pending : (status : Status) → ending names after entry ≡ Some status → is_pending entry.status ≡ true
  ended_pending status is = by (is_pending entry.status) is
    where
      by : (b : Bool) → cond b (marked_end entry.mark (source_end names after entry)) None ≡ Some status → b ≡ true
      by true is = refl
      by false is = absurd (cc is)

  -- it stays as it is, is done with views of the bytes that its recipe gives, or breaks
  module _ (P : Option Entry → Type 0) (stays : ending names after entry ≡ None → P (Some entry))
      (done : (views : List View) → ending names after entry ≡ Some statuses.Done
      → cells views ≡ made_cells names after entry.recipe (own_views entry.own) → P (Some (done_with views entry)))
      (breaks_with : (status : Status) → ending names after entry ≡ Some status → is_broken status ≡ true → P (Some (with_status status entry))) where
    pub by_ending : (now : Option Entry) → Ends names after (Some entry) now → P now
    by_ending now is = by (ending names after entry) refl is
      where
        is_made : (one : Option Entry) → ending names after entry ≡ Some statuses.Done
            → IsSomeAnd one (λ (d : Entry). (d ≡ done_with d.views entry) × (cells d.views ≡ made_cells names after entry.recipe (own_views entry.own)))
            → P one
        is_made None at is = absurd is
        is_made (Some one) at is = subst (λ (e : Entry). P (Some e)) (sym is.0) (done one.views at is.1)

        broken : (status : Status) → ending names after entry ≡ Some status → is_done status ≡ false → now ≡ Some (with_status status entry) → P now
        broken status at other is = subst P (sym is) (breaks_with status at (breaks names after entry status sound.mark at other))

        by : (o : Option Status) → ending names after entry ≡ o → EndsAs names after entry o now → P now
        by None at is = subst P (sym is) (stays at)
        by (Some statuses.Done) at is = is_made now at is
        by (Some status) at is = broken status at refl is

  -- its status is that of its ending, or which it had
  pub passed_status : (now : Option Entry) → Ends names after (Some entry) now
      → status_of now ≡ Some (unwrap_or (ending names after entry) entry.status)
  passed_status now is =
      by_ending (λ (held : Option Entry). status_of held ≡ Some (unwrap_or (ending names after entry) entry.status))
      (λ at. ap (λ (o : Option Status). Some (unwrap_or o entry.status)) (sym at))
      (λ views at made. ap (λ (o : Option Status). Some (unwrap_or o entry.status)) (sym at))
      (λ status at broken. ap (λ (o : Option Status). Some (unwrap_or o entry.status)) (sym at)) now is
