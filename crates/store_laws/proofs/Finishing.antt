-- The parts stand for the history with the last line.
use Rattle.std.proofs.Common.{◌≡◌, ℕ, ◌&&◌, Bool, true, false, List, [], length, refl, ap, ◌∙◌, Option, Some, None, cond}
use Rattle.std.specs.List.{list_any}
use Rattle.std.specs.Ordering.{nat_cmp}
use Rattle.std.specs.BTreeMap.{is_at}
use Rattle.session_script.specs.declared.event.Event.TheVariants as events
use Rattle.answer_text.specs.declared.answer.Answer.TheVariants as answers
use Rattle.renderer_table.specs.Table.{Table}
use Rattle.blob_model.specs.Handles.{count}
use Rattle.blob_model.specs.History.{History, heard}
use Rattle.blob_model.specs.Renderers.{is_alive, is_spawned, origin_of, spawned}
use Rattle.store_laws.specs.LineLaws.{counted}
use Rattle.store_laws.specs.TableLaws.{AllDepart, FinishStands}
use Rattle.store_laws.specs.Tables.{RenderersStand}
use Rattle.store_laws.proofs.Alike.{between_alike}
use Rattle.store_laws.proofs.Rerooted.{between_rerooted}

finished_stand : (h : History) (old new : Table) → RenderersStand (spawned h) (is_alive h) (origin_of h) (count h) old → AllDepart old new
    → RenderersStand (spawned h) (is_alive (heard h events.Finish answers.Good)) (origin_of h) (count (heard h events.Finish answers.Good)) new
finished_stand h old new stand depart = record {
  spawned = λ number. ap (λ (list : List ℕ). list_any (is_at (nat_cmp number)) list) depart.spawned ∙ stand.spawned number;
  many = ap (λ (list : List ℕ). length list) depart.spawned ∙ stand.many;
  living = λ number. depart.origins number ∙ by number (is_spawned h number);
  counts = depart.counts;
}
  where
    by : (number : ℕ) (known : Bool) → None ≡ cond {A = Option (List ℕ)} (known && false) (Some (origin_of h number)) None
    by number true = refl
    by number false = refl

pub finishing : FinishStands
finishing s h stands parts told table unmarked between book renderers same depart =
    between_rerooted s (heard h events.Finish answers.Good) stands (counted (record parts { renderers = renderers; urls = []; readers = [] })) told table book
    same
    (between_alike s h (heard h events.Finish answers.Good) refl stands parts told table unmarked between renderers [] parts.files []
    (record {
      renderers = finished_stand h parts.renderers renderers between.tables.renderers depart;
      urls_stand = record { each = λ text. refl; many = refl };
      files_stand = between.tables.files_stand;
      readers_stand = record { each = λ number. refl; many = refl };
    }) refl)
