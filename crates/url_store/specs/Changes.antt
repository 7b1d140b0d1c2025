-- What a call makes of the URLs, read text by text, and how many there are then. Own.
use Rattle.std.specs.Prelude.{ℕ, ◌≡◌, ◌+◌, List, if◌then◌else◌, length, Some, None}
use Rattle.std.specs.Str.{bytes_eq}
use Rattle.url_store.specs.declared.url.Url.{Url}
use Rattle.url_store.specs.Urls.{url_at}

-- this URL comes under this text, and every other text has what it had
pub record Comes (text : List ℕ) (url : Url) (old new : List (List ℕ × Url)) : Type 0 where
  pub each : (other : List ℕ) → url_at other new ≡ (if bytes_eq text other then Some url else url_at other old)
  pub many : length new ≡ length old + 1

-- the URL of this text goes, and every other text has what it had
pub record Goes (text : List ℕ) (old new : List (List ℕ × Url)) : Type 0 where
  pub each : (other : List ℕ) → url_at other new ≡ (if bytes_eq text other then None else url_at other old)
  pub many : length new + 1 ≡ length old

-- a URL of this owner goes, which led to this blob
pub record GoesFrom (owner blob : ℕ) (old new : List (List ℕ × Url)) : Type 0 where
  pub text : List ℕ
  pub url : Url
  pub there : url_at text old ≡ Some url
  pub own : url.owner.0 ≡ owner
  pub leads : url.blob ≡ blob
  pub goes : Goes text old new
