-- The bytes last put into a page, change by change.
use Rattle.std.proofs.Common.{◌≡◌, ℕ, List, [], ◌∷◌, ◌++◌, Some, None, Option, Bor, refl, ap, ◌∙◌, subst}
use Rattle.std.specs.Prelude.{IsSome, IsSomeAnd}
use Rattle.std.specs.Option.{option_copied, option_or}
use Rattle.page_disk.specs.declared.change.Change.{Change}
use Rattle.page_disk.specs.Changes.{last_put, put_by}

or_assoc : (a b c : Option (List ℕ)) → option_or (option_or a b) c ≡ option_or a (option_or b c)
or_assoc None b c = refl
or_assoc (Some bytes) b c = refl

-- one change more
pub last_put_more : (page : ℕ) (changes : List Change) (change : Change) → last_put page (changes ++ change ∷ []) ≡ option_or (put_by page change)
    (last_put page changes)
last_put_more page [] change = by (put_by page change)
  where
    by : (put : Option (List ℕ)) → option_or None put ≡ option_or put None
    by None = refl
    by (Some bytes) = refl
last_put_more page (first ∷ changes) change =
    ap (λ found. option_or found (put_by page first)) (last_put_more page changes change) ∙ or_assoc (put_by page change) (last_put page changes)
    (put_by page first)

-- what is behind one of two references
pub copied_or : (one other : Option (Bor (List ℕ))) → option_copied (option_or one other) ≡ option_or (option_copied one) (option_copied other)
copied_or None other = refl
copied_or (Some bytes) other = refl

-- something that was to be there is there
pub some_found : (P : List ℕ → Type 0) (result : Option (Bor (List ℕ))) (found : Option (List ℕ)) → option_copied result ≡ found → IsSomeAnd found P
    → IsSome result
some_found P None None is there = absurd there
some_found P None (Some bytes) is there = cc
some_found P (Some bytes) found is there = refl

-- and is what was said of it
pub found_so : (P : List ℕ → Type 0) (bytes : List ℕ) (found : Option (List ℕ)) → Some bytes ≡ found → IsSomeAnd found P → P bytes
found_so P bytes None is there = absurd there
found_so P bytes (Some other) is there = let same : other ≡ bytes = cc in subst P same there
