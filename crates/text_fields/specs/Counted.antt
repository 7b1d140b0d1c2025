-- The two fields of what is counted. Own format.
use Rattle.std.specs.Prelude.{ℕ, List, [], ◌∷◌, codes}
use Rattle.blob_words.specs.declared.counted.Counted.{Counted}
use Rattle.blob_words.specs.declared.counted.Counted.TheVariants as counts

-- the word of what is counted
abbrev pub counted_word : Counted → List ℕ
counted_word counts.Renderers = codes "renderers"
counted_word counts.Blobs = codes "blobs"
counted_word counts.Segments = codes "segments"
counted_word counts.Pieces = codes "pieces"
counted_word counts.Views = codes "views"
counted_word counts.Readers = codes "readers"
counted_word counts.Urls = codes "urls"
counted_word counts.Files = codes "files"

-- how many of it a session may have
abbrev pub counted_limit : Counted → List ℕ
counted_limit counts.Renderers = codes "1024"
counted_limit counts.Blobs = codes "65536"
counted_limit counts.Segments = codes "65536"
counted_limit counts.Pieces = codes "65536"
counted_limit counts.Views = codes "4194304"
counted_limit counts.Readers = codes "4096"
counted_limit counts.Urls = codes "16384"
counted_limit counts.Files = codes "16384"

-- its word, and how many of it a session may have
abbrev pub counted_fields : Counted → List (List ℕ)
counted_fields counted = counted_word counted ∷ counted_limit counted ∷ []
