-- What a step of a reader reads. Own; that a read of a changed file fails is the File API's.
use Rattle.std.specs.Prelude.{ℕ, ◌-◌, ◌==◌, ◌&&◌, Bool, false, not, List, [], length, take, drop, take_while, min, find, nat_lt, Option, None, Some}
use Rattle.blob_words.specs.declared.limits.Limits.{Limits}
use Rattle.blob_model.specs.History.{History}
use Rattle.blob_model.specs.Recorded.{FileState, recorded}
use Rattle.blob_model.specs.Builds.{Cell, filed, builds, cells_in}
use Rattle.blob_model.specs.Readers.{OpenReader}

-- how many bytes of its range the reader has not given
abbrev pub left : OpenReader → ℕ
left reader = reader.end - reader.place

-- the next cells of the range, at most `chunk` of them
abbrev pub chunk : Limits → History → OpenReader → List Cell
chunk l h reader = take (min (left reader) l.chunk) (drop reader.place (cells_in (builds l.page h) reader.blob))

-- a state gives the byte at this index of this stamp
abbrev pub gives : Option FileState → ℕ → ℕ → Bool
gives None stamp index = false
gives (Some state) stamp index = (state.stamp == stamp) && nat_lt index (length state.bytes)

-- a cell of a file fails where the file isn't recorded at its stamp, or is too short
abbrev pub fails : History → Cell → Bool
fails h (filed name stamp index) = not (gives (recorded h name) stamp index)
fails h cell = false

-- the file of a cell
abbrev pub file_of : Cell → List ℕ
file_of (filed name stamp index) = name
file_of cell = []

-- the first cell that fails, and those before it
abbrev pub first_failing : History → List Cell → Option Cell
first_failing h cells = find (fails h) cells

abbrev pub before_failing : History → List Cell → List Cell
before_failing h cells = take_while (λ (cell : Cell). not (fails h cell)) cells
