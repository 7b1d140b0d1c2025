-- What is kept of a history, and the notions of it that are looked up in what is kept. Own.
use Rattle.std.specs.Prelude.{ℕ, ◌==◌, ◌||◌, ◌&&◌, Bool, false, List, [], Option, find, reverse, map, filter, bytes_eq, nat_lt, is_some, option_and_then, unwrap_or}
use Rattle.std.specs.Map.{lookup}
use Rattle.std.specs.Ordering.{nat_cmp}
use Rattle.std.specs.BTreeMap.{is_at}
use Rattle.std.specs.List.{list_any}
use Rattle.std.specs.Option.{option_map, option_map_or}
use Rattle.blob_words.specs.declared.status.Status.{Status}
use Rattle.blob_model.specs.Recorded.{FileState}
use Rattle.blob_model.specs.Renderers.{Renderer}
use Rattle.blob_model.specs.Entries.{Entry}
use Rattle.blob_model.specs.Transport.{Arrival}
use Rattle.blob_model.specs.Jobs.{Job}

-- the renderers that died, and whether all of them did
pub record Deaths : Type 0 where
  pub numbers : List ℕ
  pub all : Bool

-- whether the renderer is dead
abbrev pub is_dead_in : Deaths → ℕ → Bool
is_dead_in dead number = dead.all || list_any (λ (one : ℕ). one == number) dead.numbers

-- how the blob of this name ended
abbrev pub ended_in : List (ℕ × Status) → ℕ → Option Status
ended_in endings name = lookup (is_at (nat_cmp name)) endings

-- whether the blob of this name was granted
abbrev pub was_granted_in : List ℕ → ℕ → Bool
was_granted_in granted name = list_any (λ (one : ℕ). one == name) granted

-- what the renderer holds, and how often
abbrev pub held_in : List (ℕ × List (ℕ × ℕ)) → ℕ → List (ℕ × ℕ)
held_in holds holder = unwrap_or (lookup (is_at (nat_cmp holder)) holds) []

-- how often the blob is held
abbrev pub count_of : List (ℕ × ℕ) → ℕ → ℕ
count_of held name = unwrap_or (lookup (is_at (nat_cmp name)) held) 0

-- how many handles on the blob the renderer has
abbrev pub count_in : List (ℕ × List (ℕ × ℕ)) → ℕ → ℕ → ℕ
count_in holds holder name = count_of (held_in holds holder) name

-- whether the renderer holds the blob
abbrev pub holds_one : List (ℕ × List (ℕ × ℕ)) → ℕ → Renderer → Bool
holds_one holds name renderer = nat_lt 0 (count_in holds renderer.number name)

-- what a line said of a file: its state, or that it is gone
pub record Note : Type 0 where
  pub name : List ℕ
  pub state : Option FileState

-- the last note of the file
abbrev pub is_of : List ℕ → Note → Bool
is_of name note = bytes_eq note.name name

-- what is recorded now of the file
abbrev pub recorded_in : List Note → List ℕ → Option FileState
recorded_in notes name = option_and_then (λ (note : Note). note.state) (find (is_of name) (reverse notes))

-- whether the note tells a state of the file, and one at this stamp
abbrev pub has_state : List ℕ → Note → Bool
has_state name note = bytes_eq note.name name && is_some note.state

abbrev pub is_at_stamp : List ℕ → ℕ → Note → Bool
is_at_stamp name stamp note = bytes_eq note.name name && option_map_or (λ (state : FileState). state.stamp == stamp) note.state false

-- the last stamp ever recorded of the file
abbrev pub last_stamp_in : List Note → List ℕ → Option ℕ
last_stamp_in notes name = option_and_then (λ (note : Note). option_map (λ (state : FileState). state.stamp) note.state) (find (has_state name) (reverse notes))

-- the bytes that the file had at this stamp
abbrev pub content_in : List Note → List ℕ → ℕ → Option (List ℕ)
content_in notes name stamp = option_and_then (λ (note : Note). option_map (λ (state : FileState). state.bytes) note.state)
    (find (is_at_stamp name stamp) (reverse notes))

-- a segment that came, with its blob
pub record Brought : Type 0 where
  pub blob : ℕ
  pub arrival : Arrival

-- whether the segment that came is this one of the blob
abbrev pub is_arrival : ℕ → ℕ → Brought → Bool
is_arrival name segment one = one.blob == name && one.arrival.segment == segment

-- the segments of the blob that came, in the order in which they came
abbrev pub arrivals_in : List Brought → ℕ → List Arrival
arrivals_in all name = map (λ (one : Brought). one.arrival) (filter (λ (one : Brought). one.blob == name) all)

-- whether the job in flight has this number
abbrev pub is_flying : Option Job → ℕ → Bool
is_flying job number = option_map_or (λ (flying : Job). flying.number == number) job false

-- the origin of the renderer
abbrev pub origin_in : List Renderer → ℕ → List ℕ
origin_in spawned number = option_map_or (λ (renderer : Renderer). renderer.origin) (find (λ (renderer : Renderer). renderer.number == number) spawned) []

-- whether the entry has this text, and an owner of this origin
abbrev pub is_open_to : List Renderer → List ℕ → List ℕ → Entry → Bool
is_open_to spawned front origin entry = bytes_eq entry.text front && bytes_eq (origin_in spawned entry.owner) origin
