-- Who holds a blob: handles, URLs and readers. Own.
use Rattle.std.specs.Prelude.{ℕ, ◌+◌, List}
use Rattle.renderer_table.specs.Table.{Table}
use Rattle.url_store.specs.declared.url.Url.{Url}
use Rattle.blob_store.specs.declared.readers.OpenReader.{OpenReader}
use Rattle.blob_store.specs.Readers.{readers_of}
pub use Rattle.store_laws.specs.Rooted.{handles_of, leads, roots_at, urls_of}

-- the roots that these tables give the blob of a name
abbrev pub roots_in : Table → List (List ℕ × Url) → List (ℕ × OpenReader) → ℕ → ℕ
roots_in table urls readers name = handles_of name table + urls_of name urls + readers_of name readers
