-- The slots that a build claims, of which there are so many. Own.
use Rattle.std.specs.Prelude.{ℕ, Bool, List, [], ◌∷◌, flat_map, nat_le}
use Rattle.answer_text.specs.declared.refusal.Refusal.{Refusal}
use Rattle.answer_text.specs.declared.refusal.Refusal.TheVariants as refusals
use Rattle.blob_model.specs.Parts.{claims}
use Rattle.blob_model.specs.Builds.{Build}
use Rattle.blob_model.specs.Session.{Session}
use Rattle.blob_model.specs.History.{History}
use Rattle.blob_words.specs.declared.number.RendererId.{RendererId}
use Rattle.session_script.specs.declared.event.Part.{Part}
use Rattle.blob_model.specs.Refusals.{is_in, too_many_blobs, many_segments, many_pieces, many_views, stands_at_line}

-- of several slots the first to which a refusal applies names it
abbrev pub slot_tests : ℕ → List ℕ → List ℕ → List (Bool × Refusal)
slot_tests count taken [] = []
slot_tests count taken (slot ∷ slots) = (nat_le count slot, refusals.NoSuchHandle slot) ∷ (is_in slot taken, refusals.HandleTaken slot)
    ∷ slot_tests count (slot ∷ taken) slots

-- the slots that these blobs claim
abbrev pub claimed_in : List Build → List ℕ
claimed_in builds = flat_map (λ (build : Build). claims build.parts) builds

-- the tests of a blob that may be one too many, or have too many segments, pieces or views
abbrev pub many_tests : Session → History → RendererId → ℕ → List Part → List (Bool × Refusal)
many_tests s h renderer name parts =
    too_many_blobs s h
    ∷ many_segments s h (stands_at_line s h renderer name parts) parts
    ∷ many_pieces s h (stands_at_line s h renderer name parts) parts
    ∷ many_views s h (stands_at_line s h renderer name parts) parts
    ∷ []

-- those of a slice
abbrev pub slice_tests : Session → History → RendererId → ℕ → List Part → List (Bool × Refusal)
slice_tests s h renderer name parts = too_many_blobs s h ∷ many_views s h (stands_at_line s h renderer name parts) parts ∷ []
