-- The open readers of the plain store.
use Rattle.std.specs.Prelude.{ℕ, ◌==◌, Bool, not, List, filter, find, Option, if◌then◌else◌}
use Rattle.std.specs.List.{list_any}
use Rattle.blob_words.specs.declared.number.ReaderId.{ReaderId}
use Rattle.replay_run.specs.declared.store.reader.Reader.{Reader}

-- the reader of this number
abbrev pub reader_at : List Reader → ReaderId → Option Reader
reader_at readers number = find (λ (reader : Reader). number.0 == reader.number.0) readers

-- whether one of them reads the blob of this name
abbrev pub some_reads : List Reader → ℕ → Bool
some_reads readers name = list_any (λ (reader : Reader). name == reader.blob) readers

-- the reader at another place, where it has this number
abbrev pub placed : ReaderId → ℕ → Reader → Reader
placed number place reader = if number.0 == reader.number.0 then record reader { place = place } else reader

-- the readers but that of this number
abbrev pub closed : ReaderId → List Reader → List Reader
closed number readers = filter (λ (reader : Reader). not (number.0 == reader.number.0)) readers
