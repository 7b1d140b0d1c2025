-- The blob URLs of a session by their texts, in the order of the texts. After the File API (a blob URL, its store, and how it is resolved without its
-- fragment); own: URLs are compared as texts, and the environment of a URL is a renderer.
use Rattle.std.specs.Prelude.{ℕ, ◌≡◌, ◌^◌, ◌<◌, ◌≤◌, ◌++◌, ◌==◌, List, if◌then◌else◌, codes, length, nat_eq, position, slice_get, take, Option, Some, None, IsSome, option_and_then}
use Rattle.std.specs.Option.{option_map_or}
use Rattle.std.specs.List.{filter}
use Rattle.std.specs.Str.{bytes_eq}
use Rattle.std.specs.Ordering.{nat_cmp}
use Rattle.std.specs.Cmp.Lexicographic.{slice_cmp}
use Rattle.std.specs.Map.{lookup, remove_entry}
use Rattle.std.specs.BTreeMap.{insert_entry}
use Rattle.blob_words.specs.declared.bounds.TheConstants.{MOST_URLS}
use Rattle.blob_words.specs.BlobName.{name_text}
use Rattle.url_store.specs.declared.url.Url.{Url}
use Rattle.url_store.specs.declared.fault.UrlFault.{UrlFault}
use Rattle.url_store.specs.declared.fault.UrlFault.TheVariants.{Form, Taken, Full, NoMemory}

-- a text has the form of a blob URL of an origin: `blob:`, the origin, `/` and the text of a UUID
abbrev pub IsBlobUrl : List ℕ → List ℕ → Type 0
IsBlobUrl origin text = (name : ℕ) × (name < 2 ^ 128) × (text ≡ codes "blob:" ++ (origin ++ (codes "/" ++ name_text name)))

-- a text without its fragment: up to its first `#`
abbrev pub without_fragment : List ℕ → List ℕ
without_fragment text = option_map_or (λ place. take place text) (position (λ byte. byte == 0x23) text) text

-- the URL of a text
abbrev pub url_at : List ℕ → List (List ℕ × Url) → Option Url
url_at text urls = lookup (bytes_eq text) urls

-- with one URL more, which goes to its place in the order
abbrev pub with_url : List ℕ → Url → List (List ℕ × Url) → List (List ℕ × Url)
with_url text url urls = insert_entry (slice_cmp nat_cmp) urls text url

-- the others
abbrev pub without : List ℕ → List (List ℕ × Url) → List (List ℕ × Url)
without text urls = remove_entry (bytes_eq text) urls

-- the URLs of an owner, in the order of their texts
abbrev pub owned_by : ℕ → List (List ℕ × Url) → List (List ℕ × Url)
owned_by owner urls = filter (λ entry. nat_eq owner entry.1.owner.0) urls

-- without the least text of an owner, where it has one
abbrev pub without_first : ℕ → List (List ℕ × Url) → List (List ℕ × Url)
without_first owner urls = option_map_or (λ entry. without entry.0 urls) (slice_get (owned_by owner urls) 0) urls

-- the URL of a text, where it is this owner's
abbrev pub own_url : ℕ → List ℕ → List (List ℕ × Url) → Option Url
own_url owner text urls = option_and_then (λ url. if nat_eq owner url.owner.0 then Some url else None) (url_at text urls)

-- the blob that a text leads an origin to: its URL is looked for without the fragment, and its owner has this origin
abbrev pub resolved : List ℕ → List ℕ → List (List ℕ × Url) → Option ℕ
resolved origin text urls = option_and_then (λ url. if bytes_eq url.origin origin then Some url.blob else None) (url_at (without_fragment text) urls)

-- when each fault comes, in the order in which they are looked for; want of memory comes only where no other is due
abbrev pub IsCause : UrlFault → List ℕ → List ℕ → List (List ℕ × Url) → Type 0
IsCause Form origin text urls = ¬ (IsBlobUrl origin text)
IsCause Taken origin text urls = IsBlobUrl origin text × IsSome (url_at text urls)
IsCause Full origin text urls = IsBlobUrl origin text × (url_at text urls ≡ None) × (MOST_URLS ≤ length urls)
IsCause NoMemory origin text urls = IsBlobUrl origin text × (url_at text urls ≡ None) × (length urls < MOST_URLS)
