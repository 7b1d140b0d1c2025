-- The four numbers of what a store holds. Own.
use Rattle.std.specs.Prelude.{List, Option, length}
use Rattle.blob_entries.specs.Book.{Book}
use Rattle.blob_words.specs.declared.tally.Tally.{Tally}
use Rattle.item_shares.specs.declared.shares.Share.{Share}
use Rattle.page_files.specs.Files.{Files, charge}
use Rattle.page_files.specs.Pages.{held_count}
use Rattle.quota_queue.specs.Queue.{Queue}
use Rattle.store_reach.specs.Reach.{reached}

-- the pieces reached, the bytes charged to memory, the page files with a reached piece, and the bytes charged for page files
abbrev pub tally : Book → List (Option Share) → Files → Queue → Tally
tally book shares files quota =
    record { pieces = length (reached book shares); memory = quota.used; files = held_count files.pages; disk = charge files }
