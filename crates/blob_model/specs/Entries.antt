-- Blob URLs. File API: a URL is resolved without its fragment; the entries of an environment end with it. The environment of a URL is its renderer, which alone
-- revokes it: own.
use Rattle.std.specs.Prelude.{ℕ, ◌==◌, ◌&&◌, ◌||◌, Bool, not, List, [], ◌∷◌, ◌++◌, length, take, drop, take_while, filter, find, Option, bytes_eq, codes, nat_le}
use Rattle.std.specs.List.{list_any, list_all, enumerate_from}
use Rattle.session_script.specs.declared.event.Event.{Event}
use Rattle.session_script.specs.declared.event.Event.TheVariants as events
use Rattle.answer_text.specs.declared.answer.Answer.{Answer}
use Rattle.answer_text.specs.declared.answer.Answer.TheVariants as answers
use Rattle.blob_model.specs.History.{History, start, heard, refused, said}
use Rattle.blob_model.specs.Renderers.{origin_of}

-- a URL entry: its text, its blob and the renderer that owns it
pub record Entry : Type 0 where
  pub text : List ℕ
  pub blob : ℕ
  pub owner : ℕ

-- a `url` line adds an entry, a `revoke` line answered `revoked` takes it, and a renderer's entries go when it dies
abbrev pub entries_after : Event → Answer → List Entry → List Entry
entries_after (events.Url renderer b text) answer before = before ++ record { text = text; blob = b; owner = renderer.0 } ∷ []
entries_after (events.Revoke renderer text) answers.Revoked before = filter (λ (entry : Entry). not (bytes_eq entry.text text)) before
entries_after (events.Die renderer) answer before = filter (λ (entry : Entry). not (entry.owner == renderer.0)) before
entries_after events.Finish answer before = []
entries_after event answer before = before

-- the URL entries, in the order in which they were registered
abbrev pub entries : History → List Entry
entries start = []
entries (heard h event answer) = entries_after event answer (entries h)
entries (refused h event why) = entries h
entries (said h answer) = entries h

-- whether an entry names the blob
abbrev pub is_named : History → ℕ → Bool
is_named h name = list_any (λ (entry : Entry). entry.blob == name) (entries h)

-- the entry with this text
abbrev pub entry_at : List Entry → List ℕ → Option Entry
entry_at list text = find (λ (entry : Entry). bytes_eq entry.text text) list

-- whether the renderer owns an entry with this text
abbrev pub owns_entry : History → ℕ → List ℕ → Bool
owns_entry h owner text = list_any (λ (entry : Entry). bytes_eq entry.text text && entry.owner == owner) (entries h)

-- the text before its fragment, which begins at the first `#`
abbrev pub before_fragment : List ℕ → List ℕ
before_fragment text = take_while (λ (byte : ℕ). not (byte == 0x23)) text

-- the entry that a text resolves to for a renderer: it has the text before the fragment, and an owner of the renderer's origin
abbrev pub resolved : History → ℕ → List ℕ → Option Entry
resolved h renderer text =
    find (λ (entry : Entry). bytes_eq entry.text (before_fragment text) && bytes_eq (origin_of h entry.owner) (origin_of h renderer)) (entries h)

-- a digit of a name's text: 0 to 9 and a to f
abbrev pub is_name_digit : ℕ → Bool
is_name_digit byte = (nat_le 0x30 byte && nat_le byte 0x39) || (nat_le 0x61 byte && nat_le byte 0x66)

-- RFC 9562: the text of a name has hyphens behind its digits 8, 12, 16 and 20
abbrev pub is_hyphen_place : ℕ → Bool
is_hyphen_place place = (place == 8) || (place == 13) || (place == 18) || (place == 23)

abbrev pub is_name_byte : ℕ × ℕ → Bool
is_name_byte at = (is_hyphen_place at.0 && at.1 == 0x2d) || (not (is_hyphen_place at.0) && is_name_digit at.1)

-- the text of a blob's name: 36 bytes, 32 of them lower-case hexadecimal digits
abbrev pub is_name_text : List ℕ → Bool
is_name_text text = (length text == 36) && list_all is_name_byte (enumerate_from 0 text)

-- what a blob URL of this origin begins with
abbrev pub url_front : List ℕ → List ℕ
url_front origin = codes "blob:" ++ origin ++ codes "/"

-- a blob URL of this origin: `blob:`, the origin, `/` and the text of a name
abbrev pub is_url_of : List ℕ → List ℕ → Bool
is_url_of origin text = bytes_eq (take (length (url_front origin)) text) (url_front origin) && is_name_text (drop (length (url_front origin)) text)
