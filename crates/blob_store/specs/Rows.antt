-- What is kept of each blob beside its entry: the slots of pieces on their way, what is gathered, and who waits. Own.
use Rattle.std.specs.Prelude.{ℕ, ◌≡◌, ◌+◌, ◌==◌, List, [], ◌∷◌, ◌++◌, count_by, flat_map, sum, sum_by}
use Rattle.std.specs.Option.{option_map_or}
use Rattle.blob_words.specs.declared.plan.Plan.{Plan}
use Rattle.transport_plan.specs.Spans.{piece_count}
use Rattle.blob_store.specs.declared.row.Row.{Row}
use Rattle.blob_store.specs.declared.row.Sending.{Sending}
use Rattle.blob_store.specs.declared.row.Sending.TheVariants.{Settled, Waiting, Gathering, Writing}

-- the slots of the pieces of a blob that go to page files
abbrev pub sending_slots : Sending → List ℕ
sending_slots Settled = []
sending_slots Waiting = []
sending_slots (Gathering segments) = []
sending_slots (Writing slots came) = slots

-- how often a slot is among those of all blobs
abbrev pub pins : ℕ → List Row → ℕ
pins slot rows = count_by (λ (one : ℕ). one == slot) (flat_map (λ (row : Row). sending_slots row.sending) rows)

-- the bytes that a blob takes while it is gathered, and their pieces
abbrev pub gathered_bytes : Sending → ℕ
gathered_bytes Settled = 0
gathered_bytes Waiting = 0
gathered_bytes (Gathering segments) = sum segments.parts
gathered_bytes (Writing slots came) = 0

abbrev pub gathered_pieces : Sending → ℕ
gathered_pieces Settled = 0
gathered_pieces Waiting = 0
gathered_pieces (Gathering segments) = piece_count segments.page segments.parts
gathered_pieces (Writing slots came) = 0

-- the same of all blobs
abbrev pub bytes_gathered : List Row → ℕ
bytes_gathered rows = sum_by (λ (row : Row). gathered_bytes row.sending) rows

abbrev pub pieces_gathered : List Row → ℕ
pieces_gathered rows = sum_by (λ (row : Row). gathered_pieces row.sending) rows

-- the names of those that wait, each with its own bytes, in order of build
abbrev pub waits_by : ℕ → ℕ → Sending → List (ℕ × ℕ)
waits_by name bytes Settled = []
waits_by name bytes Waiting = (name, bytes) ∷ []
waits_by name bytes (Gathering segments) = []
waits_by name bytes (Writing slots came) = []

abbrev pub waiting : List ℕ → List Row → List (ℕ × ℕ)
waiting [] rows = []
waiting (name ∷ names) [] = []
waiting (name ∷ names) (row ∷ rows) = waits_by name (sum row.lengths) row.sending ++ waiting names rows

-- ---- pieces of blobs

-- the pieces of a blob that have no item yet, since its bytes wait or are gathered
abbrev pub pieces_to_come : ℕ → List ℕ → Sending → ℕ
pieces_to_come page lengths Settled = 0
pieces_to_come page lengths Waiting = piece_count page lengths
pieces_to_come page lengths (Gathering segments) = piece_count page lengths
pieces_to_come page lengths (Writing slots came) = 0

-- of those that wait
abbrev pub pieces_waiting : ℕ → List ℕ → Sending → ℕ
pieces_waiting page lengths Settled = 0
pieces_waiting page lengths Waiting = piece_count page lengths
pieces_waiting page lengths (Gathering segments) = 0
pieces_waiting page lengths (Writing slots came) = 0

abbrev pub all_waiting : ℕ → List Row → ℕ
all_waiting page rows = sum_by (λ (row : Row). pieces_waiting page row.lengths row.sending) rows

-- how many pieces a blob has; one that broke at its line has none
abbrev pub pieces_of_row : ℕ → Row → ℕ
pieces_of_row page row = option_map_or (λ (plan : Plan). piece_count page row.lengths) row.plan 0

-- pieces are numbered in turn, from this one on up to the last
abbrev pub AreInTurn : ℕ → ℕ → List Row → ℕ → Type 0
AreInTurn page next [] last = next ≡ last
AreInTurn page next (row ∷ rows) last = (row.first ≡ next) × AreInTurn page (next + pieces_of_row page row) rows last
