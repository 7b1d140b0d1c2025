-- The refusals of a `build` line, test by test.
use Rattle.std.proofs.Common.{◌≡◌, ℕ, ◌<◌, ◌≤◌, Bool, false, List, ◌∷◌, ◌++◌, length, ap, ◌∙◌, Option, Some, None}
use Rattle.std.specs.Prelude.{is_none, is_some}
use Rattle.std.proofs.lemmas.Bool.{le-leb, lt-leb}
use Rattle.blob_words.specs.declared.bounds.TheConstants.{MOST_BLOBS}
use Rattle.blob_words.specs.declared.counted.Counted.TheVariants as counted
use Rattle.blob_words.specs.declared.number.RendererId.{RendererId}
use Rattle.session_script.specs.declared.event.Part.{Part}
use Rattle.answer_text.specs.declared.refusal.Refusal.{Refusal}
use Rattle.answer_text.specs.declared.refusal.Refusal.TheVariants as refusals
use Rattle.blob_entries.specs.Names.{number_of}
use Rattle.data_handles.specs.Table.{Table}
use Rattle.renderer_table.specs.Table.{living_of}
use Rattle.blob_model.specs.Choice.{first_that}
use Rattle.blob_model.specs.Parts.{claims}
use Rattle.store_laws.specs.Deciding.{build_refusal_in, many_blobs_in, many_in, name_used_in, slot_tests_in, stands_in}
use Rattle.store_laws.specs.Stands.{Parts}
use Rattle.store_laws.proofs.SlotTests.{either, first_append}

module _ (parts : Parts) (table : Table) (renderer : RendererId) (name : ℕ) (line : List Part)
    (alive : is_none (living_of renderer.0 parts.renderers) ≡ false) (fresh : is_some (number_of name parts.book.names) ≡ false) where
  abbrev slots : List (Bool × Refusal)
  slots = slot_tests_in table (claims line)

  abbrev much : List (Bool × Refusal)
  much = many_in parts (stands_in parts table renderer name line) line

  left : build_refusal_in parts table renderer name line ≡ either (first_that slots) (first_that (many_blobs_in parts ∷ much))
  left =
      ap (λ (b : Bool). first_that ((b, refusals.NoRenderer renderer) ∷ name_used_in parts name ∷ slots ++ (many_blobs_in parts ∷ much))) alive
      ∙ ap (λ (b : Bool). first_that ((b, refusals.NameUsed name) ∷ slots ++ (many_blobs_in parts ∷ much))) fresh
      ∙ first_append slots (many_blobs_in parts ∷ much)

  pub refused_slot : (why : Refusal) → first_that slots ≡ Some why → build_refusal_in parts table renderer name line ≡ Some why
  refused_slot why told = left ∙ ap (λ (o : Option Refusal). either o (first_that (many_blobs_in parts ∷ much))) told

  module _ (silent : first_that slots ≡ None) where
    passed : build_refusal_in parts table renderer name line ≡ first_that (many_blobs_in parts ∷ much)
    passed = left ∙ ap (λ (o : Option Refusal). either o (first_that (many_blobs_in parts ∷ much))) silent

    pub refused_full : MOST_BLOBS ≤ length parts.book.names → build_refusal_in parts table renderer name line ≡ Some (refusals.TooMany counted.Blobs)
    refused_full full =
        passed ∙ ap (λ (b : Bool). first_that ((b, refusals.TooMany counted.Blobs) ∷ much)) (le-leb MOST_BLOBS (length parts.book.names) full)

    pub refused_much : length parts.book.names < MOST_BLOBS → build_refusal_in parts table renderer name line ≡ first_that much
    refused_much few =
        passed ∙ ap (λ (b : Bool). first_that ((b, refusals.TooMany counted.Blobs) ∷ much)) (lt-leb MOST_BLOBS (length parts.book.names) few)
