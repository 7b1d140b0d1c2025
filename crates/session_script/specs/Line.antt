-- The lines that spell the events of a session. Own format.
use Rattle.std.specs.Prelude.{ℕ, ◌≡◌, ◌^◌, ◌<◌, ◌≤◌, true, List, [], ◌∷◌, IfSome, FitsSigned, length, map, decimal}
use Rattle.std.specs.Int.{w64}
use Rattle.std.specs.List.{AllByRecursion}
use Rattle.blob_words.specs.declared.bounds.TheConstants.{MOST_PARTS}
use Rattle.hex.specs.Hex.{IsBytes}
use Rattle.blob_words.specs.BlobName.{name_text}
use Rattle.blob_words.specs.FileName.{is_file_name}
use Rattle.blob_words.specs.Origin.{is_origin}
use Rattle.blob_words.specs.UrlText.{is_url_text}
use Rattle.blob_words.specs.declared.limits.Limits.{Limits}
use Rattle.text_fields.specs.Fields.{joined, hex_text, len_text, place_text}
use Rattle.text_fields.specs.Kind.{IsContentType}
use Rattle.session_script.specs.Word.{word_text, letter_text}
use Rattle.session_script.specs.declared.event.Event.{Event}
use Rattle.session_script.specs.declared.event.Event.TheVariants as events
use Rattle.session_script.specs.declared.event.Part.{Part}
use Rattle.session_script.specs.declared.event.Part.TheVariants as parts
use Rattle.session_script.specs.declared.letter.Letter.{Letter}
use Rattle.session_script.specs.declared.letter.Letter.TheVariants as letters
use Rattle.session_script.specs.declared.word.Word.{Word}
use Rattle.session_script.specs.declared.word.Word.TheVariants as words

-- the letter of a part
abbrev pub letter_of : Part → Letter
letter_of (parts.Embedded bytes) = letters.Embedded
letter_of (parts.Asked len) = letters.Asked
letter_of (parts.FileRange name off len stamp) = letters.FileRange
letter_of (parts.BlobRange b off len) = letters.BlobRange
letter_of (parts.HandleRange k off len) = letters.HandleRange

-- the fields behind the letter
abbrev pub part_fields : Part → List (List ℕ)
part_fields (parts.Embedded bytes) = hex_text bytes ∷ []
part_fields (parts.Asked len) = decimal len ∷ []
part_fields (parts.FileRange name off len stamp) = name ∷ decimal off ∷ decimal len ∷ decimal stamp ∷ []
part_fields (parts.BlobRange b off len) = name_text b ∷ decimal off ∷ decimal len ∷ []
part_fields (parts.HandleRange k off len) = decimal k ∷ decimal off ∷ decimal len ∷ []

-- a part: its letter and its fields, parted by `:`
abbrev pub part_text : Part → List ℕ
part_text part = joined 58 (letter_text (letter_of part) ∷ part_fields part)

-- the numbers of the limits, in their order
abbrev pub limit_numbers : Limits → List ℕ
limit_numbers l = l.memory ∷ l.disk ∷ l.big ∷ l.inline_max ∷ l.segment ∷ l.page ∷ l.chunk ∷ []

-- the word of an event
abbrev pub word_of : Event → Word
word_of (events.Limits l) = words.Limits
word_of (events.Limits2 l) = words.Limits2
word_of (events.Spawn r origin) = words.Spawn
word_of (events.Die r) = words.Die
word_of (events.File name stamp bytes) = words.File
word_of (events.Gone name) = words.Gone
word_of (events.Build r b kind parts) = words.Build
word_of (events.Slice r b src start end kind) = words.Slice
word_of (events.Segment r b seg bytes) = words.Segment
word_of (events.Pass r to b) = words.Pass
word_of (events.Drop r b) = words.Drop
word_of (events.Stat r b) = words.Stat
word_of (events.Url r b text) = words.Url
word_of (events.Revoke r text) = words.Revoke
word_of (events.Read r q b off len) = words.Read
word_of (events.Fetch r q text off len) = words.Fetch
word_of (events.Step q) = words.Step
word_of (events.Cancel r q) = words.Cancel
word_of (events.Disk j) = words.Disk
word_of (events.Lost j) = words.Lost
word_of events.Count = words.Count
word_of events.Finish = words.Finish

-- the fields behind the word
abbrev pub event_fields : Event → List (List ℕ)
event_fields (events.Limits l) = map decimal (limit_numbers l)
event_fields (events.Limits2 l) = map decimal (limit_numbers l)
event_fields (events.Spawn r origin) = decimal r.0 ∷ origin ∷ []
event_fields (events.Die r) = decimal r.0 ∷ []
event_fields (events.File name stamp bytes) = name ∷ decimal stamp ∷ hex_text bytes ∷ []
event_fields (events.Gone name) = name ∷ []
event_fields (events.Build r b kind parts) = decimal r.0 ∷ name_text b ∷ hex_text kind ∷ map part_text parts
event_fields (events.Slice r b src start end kind) = decimal r.0 ∷ name_text b ∷ name_text src ∷ place_text start ∷ place_text end ∷ hex_text kind ∷ []
event_fields (events.Segment r b seg bytes) = decimal r.0 ∷ name_text b ∷ decimal seg ∷ hex_text bytes ∷ []
event_fields (events.Pass r to b) = decimal r.0 ∷ decimal to.0 ∷ name_text b ∷ []
event_fields (events.Drop r b) = decimal r.0 ∷ name_text b ∷ []
event_fields (events.Stat r b) = decimal r.0 ∷ name_text b ∷ []
event_fields (events.Url r b text) = decimal r.0 ∷ name_text b ∷ text ∷ []
event_fields (events.Revoke r text) = decimal r.0 ∷ text ∷ []
event_fields (events.Read r q b off len) = decimal r.0 ∷ decimal q.0 ∷ name_text b ∷ decimal off ∷ len_text len ∷ []
event_fields (events.Fetch r q text off len) = decimal r.0 ∷ decimal q.0 ∷ text ∷ decimal off ∷ len_text len ∷ []
event_fields (events.Step q) = decimal q.0 ∷ []
event_fields (events.Cancel r q) = decimal r.0 ∷ decimal q.0 ∷ []
event_fields (events.Disk j) = decimal j.0 ∷ []
event_fields (events.Lost j) = decimal j.0 ∷ []
event_fields events.Count = []
event_fields events.Finish = []

-- the one line of an event, without its line feed: its word and its fields, parted by spaces
abbrev pub line_of : Event → List ℕ
line_of event = joined 32 (word_text (word_of event) ∷ event_fields event)

-- a part that has a text: its numbers, name and bytes are in range
abbrev pub PartHasText : Part → Type 0
PartHasText (parts.Embedded bytes) = IsBytes bytes
PartHasText (parts.Asked len) = len < 2 ^ 64
PartHasText (parts.FileRange name off len stamp) = (is_file_name name ≡ true) × (off < 2 ^ 64) × (len < 2 ^ 64) × (stamp < 2 ^ 64)
PartHasText (parts.BlobRange b off len) = (b < 2 ^ 128) × (off < 2 ^ 64) × (len < 2 ^ 64)
PartHasText (parts.HandleRange k off len) = (k < 2 ^ 32) × (off < 2 ^ 64) × (1 ≤ len) × (len < 2 ^ 64)

-- an event that has a line: its numbers, names and bytes are in range, and it has so many parts at most
abbrev pub HasSpelling : Event → Type 0
HasSpelling (events.Limits l) = Unit {0}
HasSpelling (events.Limits2 l) = Unit {0}
HasSpelling (events.Spawn r origin) = (r.0 < 2 ^ 32) × (is_origin origin ≡ true)
HasSpelling (events.Die r) = r.0 < 2 ^ 32
HasSpelling (events.File name stamp bytes) = (is_file_name name ≡ true) × (stamp < 2 ^ 64) × IsBytes bytes
HasSpelling (events.Gone name) = is_file_name name ≡ true
HasSpelling (events.Build r b kind parts) = (r.0 < 2 ^ 32) × (b < 2 ^ 128) × IsContentType kind × (length parts ≤ MOST_PARTS) × AllByRecursion PartHasText parts
HasSpelling (events.Slice r b src start end kind) = (r.0 < 2 ^ 32) × (b < 2 ^ 128) × (src < 2 ^ 128) × IfSome start (λ z. FitsSigned w64 z)
    × IfSome end (λ z. FitsSigned w64 z) × IsContentType kind
HasSpelling (events.Segment r b seg bytes) = (r.0 < 2 ^ 32) × (b < 2 ^ 128) × (seg < 2 ^ 32) × IsBytes bytes
HasSpelling (events.Pass r to b) = (r.0 < 2 ^ 32) × (to.0 < 2 ^ 32) × (b < 2 ^ 128)
HasSpelling (events.Drop r b) = (r.0 < 2 ^ 32) × (b < 2 ^ 128)
HasSpelling (events.Stat r b) = (r.0 < 2 ^ 32) × (b < 2 ^ 128)
HasSpelling (events.Url r b text) = (r.0 < 2 ^ 32) × (b < 2 ^ 128) × (is_url_text text ≡ true)
HasSpelling (events.Revoke r text) = (r.0 < 2 ^ 32) × (is_url_text text ≡ true)
HasSpelling (events.Read r q b off len) = (r.0 < 2 ^ 32) × (q.0 < 2 ^ 32) × (b < 2 ^ 128) × (off < 2 ^ 64) × IfSome len (λ n. n < 2 ^ 64)
HasSpelling (events.Fetch r q text off len) = (r.0 < 2 ^ 32) × (q.0 < 2 ^ 32) × (is_url_text text ≡ true) × (off < 2 ^ 64) × IfSome len (λ n. n < 2 ^ 64)
HasSpelling (events.Step q) = q.0 < 2 ^ 32
HasSpelling (events.Cancel r q) = (r.0 < 2 ^ 32) × (q.0 < 2 ^ 32)
HasSpelling (events.Disk j) = j.0 < 2 ^ 32
HasSpelling (events.Lost j) = j.0 < 2 ^ 32
HasSpelling events.Count = Unit {0}
HasSpelling events.Finish = Unit {0}
