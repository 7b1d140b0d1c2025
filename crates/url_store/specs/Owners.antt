-- The texts of the URLs by their owners: an index beside the URLs, so that those of one owner are found without the others.
use Rattle.std.specs.Prelude.{ℕ, ◌≡◌, List, [], unwrap_or}
use Rattle.std.specs.Ordering.{nat_cmp}
use Rattle.std.specs.Map.{keys_of, lookup}
use Rattle.std.specs.BTreeMap.{is_at}
use Rattle.url_store.specs.declared.url.Url.{Url}
use Rattle.url_store.specs.Urls.{owned_by}

-- the texts of an owner
abbrev pub texts_at : ℕ → List (ℕ × List (List ℕ)) → List (List ℕ)
texts_at owner owners = unwrap_or (lookup (is_at (nat_cmp owner)) owners) []

-- each owner's texts are those of its URLs
abbrev pub Agree : List (List ℕ × Url) → List (ℕ × List (List ℕ)) → Type 0
Agree urls owners = (owner : ℕ) → texts_at owner owners ≡ keys_of (owned_by owner urls)
