-- The row beside an entry that stands, and none beside one that doesn't.
use Rattle.std.proofs.Common.{List, ap, sym, ◌∙◌, Option, Bor}
use Rattle.std.specs.Prelude.{is_none, slice_get}
use Rattle.std.specs.Option.{option_copied, option_map_or}
use Rattle.blob_entries.specs.declared.entry.Entry.{Entry}
use Rattle.blob_store.specs.declared.row.Row.{Row}
use Rattle.blob_store.proofs.Weighing.{kept_weight, unheld_weight}
use Rattle.blob_store.proofs.parts.Parts.weight_under.Goals as goal

pub returns-in-None : goal.returns-in-None
returns-in-None c =
    unheld_weight c.args.self.now c.args.name c.in-Some.number (sym c.number_of.ensures ∙ c.in-Some.is)
    (ap (λ (found : Option Entry). is_none found) (sym c.entry_under.ensures)
    ∙ ap (λ (found : Option (Bor Entry)). is_none (option_copied found)) c.in-None.is)

pub returns-in-Some-entry_under : goal.returns-in-Some-entry_under
returns-in-Some-entry_under c =
    c.weight_at.ensures ∙ ap (λ (rows : List Row). option_map_or (λ (row : Row). row.weight) (slice_get rows c.in-Some.number) 0) c.as_slice.ensures
    ∙ kept_weight c.args.self.now c.args.name c.in-Some.number (sym c.number_of.ensures ∙ c.in-Some.is)
    (ap (λ (found : Option Entry). is_none found) (sym c.entry_under.ensures)
    ∙ ap (λ (found : Option (Bor Entry)). is_none (option_copied found)) c.in-Some-entry_under.is)
