-- The store stands for the history after a handle was dropped, and after the end.
use Rattle.std.proofs.Common.{◌≡◌, ℕ, ◌==◌, Bool, true, false, ◌&&◌, not, List, [], map, None, refl, sym, ◌∙◌, ap, ⊎_elim}
use Rattle.std.specs.Prelude.{is_some}
use Rattle.std.proofs.lemmas.Bool.{cases_Bool, eqb-true, or_right, and_right}
use Rattle.session_script.specs.declared.event.Event.TheVariants as events
use Rattle.blob_words.specs.declared.limits.Limits.{Limits}
use Rattle.blob_words.specs.declared.number.RendererId.{RendererId}
use Rattle.answer_text.specs.declared.answer.Answer.TheVariants as answers
use Rattle.replay_run.specs.declared.store.Store.{Store}
use Rattle.replay_run.specs.declared.store.blob.Blob.{Blob}
use Rattle.replay_run.specs.declared.store.reader.Reader.{Reader}
use Rattle.replay_run.specs.History.{History, heard}
use Rattle.replay_run.specs.Builds.{Build, builds, is_built}
use Rattle.replay_run.specs.Readers.{readers}
use Rattle.replay_run.specs.Live.{holder, is_read, is_live}
use Rattle.replay_run.specs.Shelf.{Shelved, freed, without}
use Rattle.replay_run.specs.Stands.{Stands, blob_of}
use Rattle.replay_run.proofs.RowsLemmas.{rows-mapped, rows-without, filter_nothing}

pub and-true : (b : Bool) → b ≡ (b && true)
and-true true = refl
and-true false = refl

module _ (l : Limits) (s : Store) (h : History) (renderer : RendererId) (name : ℕ) (stands : Stands l s h) where
  abbrev dropped : History
  dropped = heard h (events.Drop renderer name) answers.Good

  held_dropped : (other : ℕ) → is_built dropped other ≡ false → holder dropped other ≡ None
  held_dropped other unbuilt =
      ⊎_elim (λ (same : (name == other) ≡ true). rw same refl) (λ (apart : (name == other) ≡ false). rw apart (stands.held other unbuilt))
      (cases_Bool (name == other))

  -- somebody reads the blob: it stays, without a holder
  module _ (read : is_read (readers h) name ≡ true) where
    live_read : (build : Build) → is_live dropped build.name ≡ is_live h build.name
    live_read build =
        ⊎_elim
        (
        λ (same : (name == build.name) ≡ true).
        let reads : is_read (readers h) build.name ≡ true = ap (is_read (readers h)) (sym (eqb-true name build.name same)) ∙ read in
        or_right (is_some (holder dropped build.name)) (is_read (readers h) build.name) reads ∙ sym
        (or_right (is_some (holder h build.name)) (is_read (readers h) build.name) reads)
        )
        (λ (apart : (name == build.name) ≡ false). rw apart refl)
        (cases_Bool (name == build.name))

    row_read : (build : Build) → blob_of l dropped build ≡ freed name (blob_of l h build)
    row_read build = ⊎_elim (λ (same : (name == build.name) ≡ true). rw same refl) (λ (apart : (name == build.name) ≡ false). rw apart refl)
        (cases_Bool (name == build.name))

    pub kept-freed : (shelf : Shelved) → shelf ≡ record s.shelf { blobs = map (freed name) s.shelf.blobs } → Stands l (record s { shelf = shelf }) dropped
    kept-freed shelf rows = record {
      same_limits = stands.same_limits;
      same_ended = stands.same_ended;
      same_renderers = stands.same_renderers;
      same_names = stands.same_names;
      same_blobs = ap (λ (all : Shelved). all.blobs) rows
          ∙ ap (map (freed name)) stands.same_blobs
          ∙ sym (rows-mapped (blob_of l h) (blob_of l dropped) (λ (build : Build). is_live h build.name) (λ (build : Build). is_live dropped build.name)
          (freed name) live_read row_read (builds h));
      same_pieces = ap (λ (all : Shelved). all.pieces) rows ∙ stands.same_pieces;
      same_readers = stands.same_readers;
      distinct = stands.distinct;
      inside = stands.inside;
      held = held_dropped;
    }

  -- nobody reads it: it goes
  module _ (unread : is_read (readers h) name ≡ false) where
    live_unread : (build : Build) → is_live dropped build.name ≡ (is_live h build.name && not (name == build.name))
    live_unread build =
        ⊎_elim
        (
        λ (same : (name == build.name) ≡ true).
        let reads : is_read (readers h) build.name ≡ false = ap (is_read (readers h)) (sym (eqb-true name build.name same)) ∙ unread in
        let gone : is_live dropped build.name ≡ false = rw same reads in
        gone ∙ sym (and_right (is_live h build.name) (not (name == build.name)) (ap not same))
        )
        (λ (apart : (name == build.name) ≡ false). rw apart (and-true (is_live h build.name)))
        (cases_Bool (name == build.name))

    row_unread : (build : Build) → not (name == build.name) ≡ true → blob_of l dropped build ≡ blob_of l h build
    row_unread build stays =
        ⊎_elim
        (λ (same : (name == build.name) ≡ true). let wrong : not true ≡ true = rw same at stays in cc)
        (λ (apart : (name == build.name) ≡ false). rw apart refl)
        (cases_Bool (name == build.name))

    pub kept-removed : (shelf : Shelved) → shelf ≡ record s.shelf { blobs = without name s.shelf.blobs } → Stands l (record s { shelf = shelf }) dropped
    kept-removed shelf rows = record {
      same_limits = stands.same_limits;
      same_ended = stands.same_ended;
      same_renderers = stands.same_renderers;
      same_names = stands.same_names;
      same_blobs = ap (λ (all : Shelved). all.blobs) rows
          ∙ ap (without name) stands.same_blobs
          ∙ sym (
          rows-without (blob_of l h) (blob_of l dropped) (λ (build : Build). is_live h build.name) (λ (build : Build). is_live dropped build.name)
          (λ (blob : Blob). not (name == blob.name)) live_unread
          row_unread (builds h)
          );
      same_pieces = ap (λ (all : Shelved). all.pieces) rows ∙ stands.same_pieces;
      same_readers = stands.same_readers;
      distinct = stands.distinct;
      inside = stands.inside;
      held = held_dropped;
    }

module _ (l : Limits) (s : Store) (h : History) (stands : Stands l s h) where
  pub kept-finish : (shelf : Shelved) (left : List Reader) → shelf ≡ record s.shelf { blobs = [] } → left ≡ []
      → Stands l (record s { ended = true; shelf = shelf; readers = left }) (heard h events.Finish answers.Good)
  kept-finish shelf left rows none = record {
    same_limits = stands.same_limits;
    same_ended = refl;
    same_renderers = stands.same_renderers;
    same_names = stands.same_names;
    same_blobs = ap (λ (all : Shelved). all.blobs) rows ∙ sym (ap (map (blob_of l (heard h events.Finish answers.Good))) (filter_nothing (builds h)));
    same_pieces = ap (λ (all : Shelved). all.pieces) rows ∙ stands.same_pieces;
    same_readers = none;
    distinct = tt;
    inside = tt;
    held = λ other unbuilt. refl;
  }
