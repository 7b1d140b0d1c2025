-- What the laws see of the parts of a store: a row where its blob stands, and a reader with its number. Own.
use Rattle.std.specs.Prelude.{ℕ, List, [], ◌∷◌, map, length, Option}
use Rattle.std.specs.Option.{option_map}
use Rattle.blob_entries.specs.declared.entry.Entry.{Entry}
use Rattle.blob_model.specs.Readers.{OpenReader as ReaderSaid}
use Rattle.store_laws.specs.Rows.{Coming, Row as RowSaid, gathering, settled, waiting, writing}
use Rattle.store_laws.specs.Stands.{Parts as PartsSaid}
use Rattle.blob_store.specs.declared.parts.Parts.{Parts}
use Rattle.blob_store.specs.declared.readers.OpenReader.{OpenReader}
use Rattle.blob_store.specs.declared.row.Row.{Row}
use Rattle.blob_store.specs.declared.row.Sending.{Sending}
use Rattle.blob_store.specs.declared.row.Sending.TheVariants.{Settled, Waiting, Gathering, Writing}

-- how the bytes of a blob come
abbrev pub coming_of : Sending → Coming
coming_of Settled = settled
coming_of Waiting = waiting
coming_of (Gathering segments) = gathering segments
coming_of (Writing slots came) = writing slots came

abbrev pub row_of : Row → RowSaid
row_of row = record { plan = row.plan; weight = row.weight; first = row.first; lengths = row.lengths; coming = coming_of row.sending }

-- the rows of the blobs that stand, each under its build number
abbrev pub rows_beside : List (Option Entry) → List Row → List (Option RowSaid)
rows_beside [] rows = []
rows_beside (held ∷ entries) [] = []
rows_beside (held ∷ entries) (row ∷ rows) = option_map (λ (entry : Entry). row_of row) held ∷ rows_beside entries rows

-- an open reader with its number
abbrev pub reader_of : ℕ × OpenReader → ℕ × ReaderSaid
reader_of one =
    (one.0, record { number = one.0; owner = one.1.owner.0; blob = one.1.blob; place = one.1.course.place; end = one.1.course.stop })

-- the parts as data; each piece has its home among the homes
abbrev pub parts_of : Parts → PartsSaid
parts_of parts = record {
  limits = parts.limits;
  version = parts.version;
  book = parts.registry;
  shares = parts.shares;
  rows = rows_beside parts.registry.entries parts.rows;
  quota = parts.quota;
  pages = parts.pages;
  recent = parts.recent;
  files = parts.files;
  urls = parts.urls;
  renderers = parts.renderers;
  readers = map reader_of parts.readers;
  lines = parts.lines;
  pieces = length parts.homes;
  weight = parts.weight;
}
