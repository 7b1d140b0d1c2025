-- The blob of a line that isn't refused may come.
use Rattle.std.proofs.Common.{◌≡◌, ℕ, ℤ, ◌+◌, ◌<◌, ◌≤◌, ◌^◌, ◌&&◌, Bool, true, false, List, ◌∷◌, ◌++◌, [], length, Option, Some, None, IsSome, IfSome, refl, arith}
use Rattle.std.specs.Prelude.{is_none, is_some, nat_lt}
use Rattle.std.specs.Option.{option_and_then, option_map_or}
use Rattle.std.proofs.lemmas.Bool.{ltb-true}
use Rattle.blob_words.specs.declared.bounds.TheConstants.{MOST_PIECES}
use Rattle.std.specs.List.{AllByRecursion}
use Rattle.blob_words.specs.declared.number.RendererId.{RendererId}
use Rattle.session_script.specs.declared.event.Part.{Part}
use Rattle.answer_text.specs.declared.refusal.Refusal.{Refusal}
use Rattle.data_handles.specs.Table.{Table}
use Rattle.blob_entries.specs.Book.{entry_at}
use Rattle.blob_entries.specs.Names.{number_of}
use Rattle.blob_entries.specs.declared.entry.Entry.{Entry}
use Rattle.renderer_table.specs.Table.{living_of}
use Rattle.blob_model.specs.Parts.{claims, own_lengths}
use Rattle.transport_plan.specs.Spans.{piece_count}
use Rattle.blob_model.proofs.builds.Cells.{none_applies}
use Rattle.blob_model.proofs.settled.Endings.{none_that}
use Rattle.store_laws.specs.Deciding.{build_refusal_in, many_blobs_in, many_in, many_views_in, name_used_in, no_handle_in, no_renderer_in, size_under, slice_line, slice_refusal_in, slot_tests_in, stands_in}
use Rattle.blob_model.proofs.Lists.{append_second}
use Rattle.store_laws.proofs.ViewHas.{append_first}
use Rattle.blob_store.specs.Admitting.{MayCome}
use Rattle.blob_store.specs.Blobs.{AreKnown}
use Rattle.blob_store.specs.Seen.{parts_of}
use Rattle.blob_store.specs.Whole.{Whole}
use Rattle.blob_store.specs.declared.parts.Parts.{Parts}

some_so : {X : Type 0} (held : Option X) → is_none held ≡ false → IsSome held
some_so None is = absurd (cc is)
some_so (Some x) is = refl

none_so : {X : Type 0} (held : Option X) → is_some held ≡ false → held ≡ None
none_so None is = refl
none_so (Some x) is = absurd (cc is)

module _ (parts : Parts) (table : Table) (renderer : RendererId) (name : ℕ) (line : List Part) where
  abbrev slots : List (Bool × Refusal)
  slots = slot_tests_in table (claims line)

  abbrev much : List (Bool × Refusal)
  much = many_in (parts_of parts) (stands_in (parts_of parts) table renderer name line) line

  abbrev Fail : List (Bool × Refusal) → Type 0
  Fail tests = AllByRecursion (λ (case : Bool × Refusal). case.0 ≡ false) tests

  pub may_build : build_refusal_in (parts_of parts) table renderer name line ≡ None → MayCome renderer name line parts table
  may_build accepted =
      let tests : Fail (no_renderer_in (parts_of parts) renderer ∷ name_used_in (parts_of parts) name ∷ slots ++ (many_blobs_in (parts_of parts) ∷ much)) =
      none_applies (no_renderer_in (parts_of parts) renderer ∷ name_used_in (parts_of parts) name ∷ slots ++ (many_blobs_in (parts_of parts) ∷ much))
      accepted in
      record {
        alive = some_so (living_of renderer.0 parts.renderers) tests.0;
        fresh = none_so (number_of name parts.registry.names) tests.1.0;
        slots = none_that slots (append_first (λ (case : Bool × Refusal). case.0 ≡ false) slots (many_blobs_in (parts_of parts) ∷ much) tests.1.1);
        little = none_that much (append_second (λ (case : Bool × Refusal). case.0 ≡ false) slots (many_blobs_in (parts_of parts) ∷ much) tests.1.1).1;
      }

-- a blob has few bytes
pub few_under : (parts : Parts) → Whole parts → (name : ℕ) → size_under parts.registry name < 2 ^ 63
few_under parts whole name = by (number_of name parts.registry.names)
  where
    at : (held : Option Entry) → IfSome held (AreKnown parts.registry.names) → option_map_or (λ (entry : Entry). entry.size) held 0 < 2 ^ 63
    at None is = omega arith
    at (Some entry) is = omega (arith, is.0)

    by : (found : Option ℕ)
        → option_map_or (λ (entry : Entry). entry.size) (option_and_then (entry_at parts.registry.entries) found) 0 < 2 ^ 63
    by None = omega arith
    by (Some number) = at (entry_at parts.registry.entries number) (whole.blobs.known number)

-- a slice has no bytes of its own and claims nothing
pub may_slice : (parts : Parts) → Whole parts → (table : Table) (renderer : RendererId) (name source : ℕ) (from to : Option ℤ)
    → slice_refusal_in (parts_of parts) table renderer name source (slice_line parts.registry source from to) ≡ None
    → MayCome renderer name (slice_line parts.registry source from to) parts table
may_slice parts whole table renderer name source from to accepted =
    let line : List Part = slice_line parts.registry source from to in
    let views = many_views_in (parts_of parts) (stands_in (parts_of parts) table renderer name line) line in
    let tests : AllByRecursion (λ (case : Bool × Refusal). case.0 ≡ false)
    (no_renderer_in (parts_of parts) renderer ∷ name_used_in (parts_of parts) name ∷ no_handle_in (parts_of parts) renderer source
    ∷ many_blobs_in (parts_of parts) ∷ views ∷ []) =
    none_applies (no_renderer_in (parts_of parts) renderer ∷ name_used_in (parts_of parts) name ∷ no_handle_in (parts_of parts) renderer source
    ∷ many_blobs_in (parts_of parts) ∷ views ∷ []) accepted in
    let pieces : nat_lt MOST_PIECES (length parts.homes + piece_count parts.limits.page (own_lengths line)) ≡ false =
    few_so (length parts.homes) whole.stored.most in
    record {
      alive = some_so (living_of renderer.0 parts.renderers) tests.0;
      fresh = none_so (number_of name parts.registry.names) tests.1.0;
      slots = refl;
      little = none_that (many_in (parts_of parts) (stands_in (parts_of parts) table renderer name line) line) (
        and_none (stands_in (parts_of parts) table renderer name line) false refl,
        (
          and_none (stands_in (parts_of parts) table renderer name line)
              (nat_lt MOST_PIECES (length parts.homes + piece_count parts.limits.page (own_lengths line))) pieces,
          (tests.1.1.1.1.0, tt),
        ),
      );
    }
  where
    and_none : (a b : Bool) → b ≡ false → (a && b) ≡ false
    and_none true b none = none
    and_none false b none = refl

    few_so : (n : ℕ) → n ≤ MOST_PIECES → nat_lt MOST_PIECES (n + 0) ≡ false
    few_so n few = by (nat_lt MOST_PIECES (n + 0)) refl
      where
        by : (b : Bool) → nat_lt MOST_PIECES (n + 0) ≡ b → nat_lt MOST_PIECES (n + 0) ≡ false
        by true is = absurd (omega (arith, few, ltb-true MOST_PIECES (n + 0) is))
        by false is = is
