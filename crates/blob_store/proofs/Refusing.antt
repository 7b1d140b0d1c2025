-- Why a renderer can't close a reader, as the code finds it.
use Rattle.std.proofs.Common.{◌≡◌, ◌≢◌, ℕ, ◌==◌, Bool, true, List, map, Option, Some, None, cond, refl, sym, ap, ◌∙◌}
use Rattle.std.specs.Prelude.{is_none, is_some, IsSome, if◌then◌else◌}
use Rattle.std.specs.Option.{option_map}
use Rattle.std.proofs.lemmas.Bool.{eq-eqb, ne_eqb}
use Rattle.blob_words.specs.declared.number.ReaderId.{ReaderId}
use Rattle.blob_words.specs.declared.number.RendererId.{RendererId}
use Rattle.answer_text.specs.declared.refusal.Refusal.{Refusal}
use Rattle.answer_text.specs.declared.refusal.Refusal.TheVariants as refusals
use Rattle.renderer_table.specs.Table.{Table, living_of}
use Rattle.renderer_table.specs.declared.living.Living.{Living}
use Rattle.blob_model.specs.Readers.{OpenReader as ReaderSaid}
use Rattle.store_laws.specs.TableLaws.{owns, reader_refusal}
use Rattle.blob_store.specs.declared.readers.OpenReader.{OpenReader}
use Rattle.blob_store.specs.Readers.{reader_at}
use Rattle.blob_store.specs.Seen.{reader_of}
use Rattle.blob_store.proofs.HeardTables.{open_said, open_seen}

module _ (renderer : RendererId) (number : ReaderId) (table : Table) (readers : List (ℕ × OpenReader)) where
  abbrev why : Option Living → Option ReaderSaid → Option Refusal
  why held found =
      if is_none held then Some (refusals.NoRenderer renderer) else if owns renderer found then None else Some (refusals.NoReader number)

  why_so : reader_refusal renderer number table (map reader_of readers)
      ≡ why (living_of renderer.0 table) (option_map (open_said number.0) (reader_at number.0 readers))
  why_so = ap (why (living_of renderer.0 table)) (open_seen number.0 readers)

  alive_why : (held : Option Living) (found : Option ReaderSaid) → is_some held ≡ true
      → why held found ≡ (if owns renderer found then None else Some (refusals.NoReader number))
  alive_why None found alive = absurd (cc alive)
  alive_why (Some one) found alive = refl

  module _ (alive : is_some (living_of renderer.0 table) ≡ true) where
    alive_so : reader_refusal renderer number table (map reader_of readers)
        ≡ (if owns renderer (option_map (open_said number.0) (reader_at number.0 readers)) then None else Some (refusals.NoReader number))
    alive_so = why_so ∙ alive_why (living_of renderer.0 table) (option_map (open_said number.0) (reader_at number.0 readers)) alive

    pub unknown_reader : reader_at number.0 readers ≡ None
        → Some (refusals.NoReader number) ≡ reader_refusal renderer number table (map reader_of readers)
    unknown_reader none =
        sym (alive_so
        ∙ ap (λ (found : Option OpenReader). if owns renderer (option_map (open_said number.0) found) then None else Some (refusals.NoReader number)) none)

    module _ (open_reader : OpenReader) (there : reader_at number.0 readers ≡ Some open_reader) where
      there_so : reader_refusal renderer number table (map reader_of readers)
          ≡ (if open_reader.owner.0 == renderer.0 then None else Some (refusals.NoReader number))
      there_so =
          alive_so
          ∙ ap (λ (found : Option OpenReader). if owns renderer (option_map (open_said number.0) found) then None else Some (refusals.NoReader number)) there

      pub reader_of_another : open_reader.owner.0 ≢ renderer.0
          → Some (refusals.NoReader number) ≡ reader_refusal renderer number table (map reader_of readers)
      reader_of_another other =
          sym (there_so ∙ ap (λ (b : Bool). cond b None (Some (refusals.NoReader number))) (ne_eqb open_reader.owner.0 renderer.0 other))

      pub own_reader : open_reader.owner.0 ≡ renderer.0 → None ≡ reader_refusal renderer number table (map reader_of readers)
      own_reader same =
          sym (there_so ∙ ap (λ (b : Bool). cond b None (Some (refusals.NoReader number))) (eq-eqb open_reader.owner.0 renderer.0 same))

  -- where nothing stands against it the reader is open
  pub reader_there : reader_refusal renderer number table (map reader_of readers) ≡ None → IsSome (reader_at number.0 readers)
  reader_there due = by (living_of renderer.0 table) (reader_at number.0 readers) (sym why_so ∙ due)
    where
      by : (held : Option Living) (found : Option OpenReader) → why held (option_map (open_said number.0) found) ≡ None → IsSome found
      by None found due = absurd (cc due)
      by (Some one) None due = absurd (cc due)
      by (Some one) (Some other) due = refl
