-- The two ways to say that a text is a blob URL of an origin: by its bytes, and by the blob that it names. After RFC 9562 and the File API.
use Rattle.std.specs.Prelude.{ℕ, ◌≡◌, ◌^◌, ◌<◌, true, List}
use Rattle.blob_words.specs.BlobName.{name_text}
use Rattle.url_store.specs.Urls.{IsBlobUrl}
use Rattle.blob_model.specs.Entries.{is_url_of}

-- a text is that of some blob's name
abbrev pub HasName : List ℕ → Type 0
HasName text = (name : ℕ) × (name < 2 ^ 128) × (text ≡ name_text name)

-- a text of the form names a blob, and one that names a blob has the form
pub record UrlFormsAgree : Type 0 where
  pub named : (origin text : List ℕ) → is_url_of origin text ≡ true → IsBlobUrl origin text
  pub formed : (origin text : List ℕ) → IsBlobUrl origin text → is_url_of origin text ≡ true
