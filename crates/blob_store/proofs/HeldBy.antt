-- What stands under the name of a blob on which a renderer has a handle.
use Rattle.std.proofs.Common.{◌≡◌, ℕ, zero, suc, ◌<◌, ◌==◌, Option, Some, None, Bor, refl, ap, subst, ◌∙◌, arith}
use Rattle.std.specs.Prelude.{is_none, is_some, option_and_then, if◌then◌else◌, IsSome, IsSomeAnd}
use Rattle.std.specs.Option.{option_copied}
use Rattle.blob_words.specs.declared.number.RendererId.{RendererId}
use Rattle.answer_text.specs.declared.refusal.Refusal.TheVariants as refusals
use Rattle.blob_entries.specs.Book.{Book, entry_at, entry_of}
use Rattle.blob_entries.specs.Names.{number_of}
use Rattle.blob_entries.specs.declared.entry.Entry.{Entry}
use Rattle.renderer_table.specs.Table.{Table, count_of, living_of}
use Rattle.renderer_table.specs.declared.living.Living.{Living}
use Rattle.store_laws.specs.LineLaws.{handle_refusal}

pub has_handle : (renderer : RendererId) (name : ℕ) (table : Table) → handle_refusal renderer name table ≡ None → 0 < count_of renderer.0 name table
has_handle renderer name table due = by (living_of renderer.0 table) (count_of renderer.0 name table) due
  where
    by : (held : Option Living) (n : ℕ)
        → (if is_none held then Some (refusals.NoRenderer renderer) else if n == 0 then Some (refusals.NoHandle renderer name) else None) ≡ None → 0 < n
    by None n e = absurd (cc e)
    by (Some one) zero e = absurd (cc e)
    by (Some one) (suc n) e = omega arith

module _ (P : Entry → Type 0) (book : Book) (name : ℕ) (stands : IsSomeAnd (entry_of book name) P) where
  pub numbered : IsSome (number_of name book.names)
  numbered = by (number_of name book.names) stands
    where
      by : (found : Option ℕ) → IsSomeAnd (option_and_then (entry_at book.entries) found) P → IsSome found
      by None is = absurd is
      by (Some number) is = refl

  pub stands_under : (number : ℕ) → number_of name book.names ≡ Some number → IsSome (entry_at book.entries number)
  stands_under number at =
      by (entry_at book.entries number) (subst (λ (found : Option ℕ). IsSomeAnd (option_and_then (entry_at book.entries) found) P) at stands)
    where
      by : (held : Option Entry) → IsSomeAnd held P → IsSome held
      by None is = absurd is
      by (Some entry) is = refl

-- what is handed out is there where what it was copied from is
pub copied_there : (result : Option (Bor Entry)) (found : Option Entry) → option_copied result ≡ found → IsSome found → IsSome result
copied_there None found same is = absurd (cc (ap (λ (held : Option Entry). is_some held) same ∙ is))
copied_there (Some held) found same is = refl

-- what something is said of is there
pub known_so : {X : Type 0} (P : X → Type 0) (found : Option X) → IsSomeAnd found P → (x : X) × (found ≡ Some x) × P x
known_so P None is = absurd is
known_so P (Some x) is = (x, refl, is)
