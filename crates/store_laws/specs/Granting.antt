-- What a grant leaves of the parts, and which grants are owed. Own.
use Rattle.std.specs.Prelude.{ℕ, ◌≡◌, ◌+◌, ◌≤◌, ◌<◌, List, [], ◌∷◌, drop, replicate, set, slice_get, slice_index_or, sum, Option, None, Some, IfSome}
use Rattle.std.specs.Int.{div_ceil}
use Rattle.std.specs.Option.{option_map, option_map_or}
use Rattle.answer_text.specs.declared.answer.Answer.TheVariants as answers
use Rattle.blob_entries.specs.Book.{changed}
use Rattle.blob_entries.specs.Changes.{with_status}
use Rattle.blob_entries.specs.Names.{number_of}
use Rattle.blob_words.specs.declared.limits.Limits.{Limits}
use Rattle.blob_words.specs.declared.status.Status.TheVariants as statuses
use Rattle.data_handles.specs.Table.{Table as HandleTable}
use Rattle.page_disk.specs.declared.change.Change.{Change}
use Rattle.quota_queue.specs.Queue.{Queue}
use Rattle.segment_assembly.specs.Assembly.{Sending}
use Rattle.blob_model.specs.History.{History, said}
use Rattle.blob_model.specs.Session.{Session, page_limit}
use Rattle.blob_model.specs.Settle.{grants}
use Rattle.blob_model.specs.Tally.{memory}
use Rattle.store_laws.specs.Late.{IsLate}
use Rattle.store_laws.specs.Rows.{Row, gathering}
use Rattle.store_laws.specs.Stands.{Parts}

-- the segments of parts of these lengths, of which none came
abbrev pub unsent : Limits → List ℕ → Sending
unsent limits lengths =
    record { parts = lengths; segment = limits.segment; page = limits.page; taken = replicate (div_ceil (sum lengths) limits.segment) None }

-- the row of a blob whose segments may come
abbrev pub gathering_row : Limits → Row → Row
gathering_row limits row = record row { coming = gathering (unsent limits row.lengths) }

-- what stands under a number changes
abbrev pub changed_under : {X : Type 0} → ℕ → (X → X) → List (Option X) → List (Option X)
changed_under number change held = set held number (option_map change (slice_index_or held number None))

-- the head went, and so many bytes more are charged
abbrev pub charged : ℕ → Queue → Queue
charged bytes quota = record quota { used = quota.used + bytes; waiting = drop 1 quota.waiting }

-- the parts once the head, which waited for so many bytes, has its room: its segments may come
abbrev pub granted : ℕ → ℕ → Parts → Parts
granted name bytes parts = record parts {
  book = changed parts.book name (with_status statuses.PendingTransport);
  rows = option_map_or (λ (number : ℕ). changed_under number (gathering_row parts.limits) parts.rows) (number_of name parts.book.names) parts.rows;
  quota = charged bytes parts.quota;
}

pub record GrantsStand : Type 0 where
  -- the parts stand once the head has its room
  pub late : (s : Session) (h : History) (parts : Parts) (told : Option (List Change)) (table : HandleTable) → IsLate s h parts told table
      → (name bytes : ℕ) → slice_get parts.quota.waiting 0 ≡ Some (name, bytes)
      → IsLate s (said h (answers.Granted name)) (granted name bytes parts) told table
  -- where what is charged is memory, a head that fits is granted next, and then the others that are owed
  pub next : (s : Session) (h : History) (parts : Parts) (told : Option (List Change)) (table : HandleTable) → IsLate s h parts told table
      → parts.quota.used ≡ memory (page_limit s) h → (name bytes : ℕ) → slice_get parts.quota.waiting 0 ≡ Some (name, bytes)
      → parts.quota.used + bytes ≤ parts.quota.limit → grants s h ≡ answers.Granted name ∷ grants s (said h (answers.Granted name))
  -- where nobody waits, or the head doesn't fit, none is owed
  pub none : (s : Session) (h : History) (parts : Parts) (told : Option (List Change)) (table : HandleTable) → IsLate s h parts told table
      → parts.quota.used ≡ memory (page_limit s) h
      → IfSome (slice_get parts.quota.waiting 0) (λ (blob : ℕ × ℕ). parts.quota.limit < parts.quota.used + blob.1) → grants s h ≡ []
