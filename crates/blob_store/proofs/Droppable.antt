-- Behind a line that was heard what nobody holds can be dropped.
use Rattle.std.proofs.Common.{◌≡◌, ℕ, List, [], ◌∷◌, map, refl, Option, arith}
use Rattle.std.specs.Map.{values_of}
use Rattle.std.proofs.lemmas.List.Sums.{sum_by-cons}
use Rattle.answer_text.specs.declared.answer.Answer.{Answer}
use Rattle.data_handles.specs.Table.{Table as HandleTable}
use Rattle.page_disk.specs.declared.change.Change.{Change}
use Rattle.blob_model.specs.History.{after, history_from, start}
use Rattle.blob_model.specs.Session.{page_limit}
use Rattle.store_laws.specs.Rooted.{AreInOrder, AreRooted, readers_of as said_readers_of, reads as said_reads}
use Rattle.store_laws.specs.Stands.{stood}
use Rattle.store_laws.proofs.BehindLines.{can_drop}
use Rattle.blob_store.specs.declared.parts.Parts.{Parts}
use Rattle.blob_store.specs.declared.readers.OpenReader.{OpenReader}
use Rattle.blob_store.specs.Readers.{reads, readers_of}
use Rattle.blob_store.specs.Says.{scene, Scene}
use Rattle.blob_store.specs.Seen.{parts_of, reader_of}
use Rattle.blob_store.specs.Unheld.{Drops, DropsBehind}
use Rattle.blob_store.specs.Whole.{Whole}

-- the laws see as many readers of a blob
readers_seen : (name : ℕ) (readers : List (ℕ × OpenReader)) → said_readers_of name (map reader_of readers) ≡ readers_of name readers
readers_seen name [] = refl
readers_seen name (one ∷ readers) =
    let mine = sum_by-cons (reads name) one.1 (values_of readers) in
    let said = sum_by-cons (said_reads name) (reader_of one).1 (values_of (map reader_of readers)) in
    omega (arith, mine, said, readers_seen name readers)

pub roots_seen : (parts : Parts) → Whole parts → AreRooted (parts_of parts)
roots_seen parts whole name = omega (arith, whole.holders.roots name, readers_seen name parts.readers)

-- where the numbers of the living renderers are in order, the drops owed are told behind each line
pub dropped_behind : (before later : List Answer) (parts : Parts) (told : Option (List Change)) (table : HandleTable) (new : Scene) → Whole parts
    → AreInOrder parts.renderers → Drops before later (scene parts told table) new → DropsBehind before later (scene parts told table) new
unfolding Drops DropsBehind
dropped_behind before later parts told table new whole ordered drops s groups event own legal still is_own between =
    let can = can_drop s groups event own legal still is_own (parts_of parts) told table between ordered (roots_seen parts whole) in
    drops s (after (history_from start groups) event own) (stood (page_limit s) (history_from start groups) event own) between can.distinct can.agree
    can.living
