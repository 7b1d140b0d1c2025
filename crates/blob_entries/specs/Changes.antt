-- Changes of one entry. Own.
use Rattle.std.specs.Prelude.{List, None, Option, Some, [], ℕ, ◌+◌, ◌-◌}
use Rattle.blob_entries.specs.declared.entry.Entry.{Entry}
use Rattle.blob_items.specs.declared.view.View.{View}
use Rattle.blob_words.specs.declared.status.Status.{Status}
use Rattle.blob_words.specs.declared.status.Status.TheVariants.{FileWriteFailed, PendingReferencedBlobs}
use Rattle.blob_words.specs.declared.status.Status.TheVariants as statuses

-- of two marks a failed write goes before
abbrev pub first_mark : Option Status → Status → Status
first_mark (Some FileWriteFailed) why = FileWriteFailed
first_mark before why = why

-- an entry with another count of roots, another mark, another status
abbrev pub with_roots : ℕ → Entry → Entry
with_roots roots entry = record entry { roots = roots }

abbrev pub with_mark : Status → Entry → Entry
with_mark why entry = record entry { mark = Some (first_mark entry.mark why) }

abbrev pub with_status : Status → Entry → Entry
with_status status entry = record entry { status = status }

-- an entry that one more holds, and one that one fewer holds
abbrev pub held_more : Entry → Entry
held_more entry = with_roots (entry.roots + 1) entry

abbrev pub held_less : Entry → Entry
held_less entry = with_roots (entry.roots - 1) entry

-- an entry that is done: its bytes are these views
abbrev pub done_with : List View → Entry → Entry
done_with views entry = record entry { status = statuses.Done; recipe = []; own = None; views = views }

-- an entry whose own bytes have come: these are their views
abbrev pub with_bytes : List View → Entry → Entry
with_bytes own entry = record entry { status = PendingReferencedBlobs; own = Some own }
