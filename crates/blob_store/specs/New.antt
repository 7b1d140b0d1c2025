-- Parts that have heard nothing. Own.
use Rattle.std.specs.Prelude.{◌≡◌, false, []}
use Rattle.blob_words.specs.declared.limits.Limits.{Limits}
use Rattle.blob_words.specs.declared.version.Version.{Version}
use Rattle.blob_entries.specs.Book.{book_of}
use Rattle.page_files.specs.Files.{new_files}
use Rattle.blob_store.specs.declared.parts.Parts.{Parts}

pub record IsNew (limits : Limits) (version : Version) (parts : Parts) : Type 0 where
  pub same_limits : parts.limits ≡ limits
  pub same_version : parts.version ≡ version
  pub unspent : parts.is_spent ≡ false
  pub no_line : parts.lines ≡ 0
  pub no_weight : parts.weight ≡ 0
  pub none_held : parts.held ≡ 0
  pub no_blob : parts.registry ≡ book_of [] []
  pub no_item : parts.shares ≡ []
  pub no_piece : parts.homes ≡ []
  pub no_row : parts.rows ≡ []
  pub none_waits : parts.quota ≡ record { used = 0; limit = limits.memory; waiting = [] }
  pub no_page : parts.pages ≡ new_files limits.disk
  pub none_used : parts.recent ≡ []
  pub no_file : parts.files ≡ []
  pub no_url : parts.urls ≡ []
  pub no_renderer : parts.renderers ≡ record { spawned = []; living = [] }
  pub no_reader : parts.readers ≡ []
