-- Who owns a reader or a URL is alive, as readers and URLs come and go, and renderers.
use Rattle.std.proofs.Common.{◌≡◌, ℕ, ◌==◌, Bool, true, false, cond, List, [], ◌∷◌, Option, Some, None, refl, sym, ap, subst, ◌∙◌}
use Rattle.std.specs.Prelude.{is_none, is_some, nat_eq, option_and_then, if◌then◌else◌, IfSome, IsSome}
use Rattle.std.specs.Cmp.{unsigned_tied}
use Rattle.std.specs.Option.{option_map, option_map_or}
use Rattle.std.specs.Str.{bytes_eq}
use Rattle.std.proofs.lemmas.Bool.{eq-eqb, eqb-true}
use Rattle.blob_words.specs.declared.number.RendererId.{RendererId}
use Rattle.answer_text.specs.declared.refusal.Refusal.TheVariants as refusals
use Rattle.renderer_table.specs.Counted.{origin_at, Dies, Spawns}
use Rattle.renderer_table.specs.Counts.{count_on}
use Rattle.renderer_table.specs.Table.{Table, count_of, living_of}
use Rattle.renderer_table.specs.declared.living.Living.{Living}
use Rattle.url_store.specs.Changes.{Comes, Goes}
use Rattle.url_store.specs.Urls.{url_at}
use Rattle.url_store.specs.declared.url.Url.{Url}
use Rattle.store_laws.specs.LineLaws.{handle_refusal}
use Rattle.store_laws.proofs.Tables.{same_bytes}
use Rattle.blob_store.specs.declared.readers.OpenReader.{OpenReader}
use Rattle.blob_store.specs.Holders.{IsMade, IsRead, IsUnlinked, IsUnread, Owned}
use Rattle.blob_store.specs.Readers.{is_own, reader_at, Closes, Opens}

abbrev Urls : Type 0
Urls = List (List ℕ × Url)

abbrev Open : Type 0
Open = List (ℕ × OpenReader)

if_so : {X : Type 0} (P Q : X → Type 0) → ((x : X) → P x → Q x) → (held : Option X) → IfSome held P → IfSome held Q
if_so P Q follows None is = tt
if_so P Q follows (Some x) is = follows x is

unless : {X : Type 0} (P : X → Type 0) (b : Bool) (held : Option X) → IfSome held P → IfSome (cond b None held) P
unless P true held is = tt
unless P false held is = is

or_else : {X : Type 0} (P : X → Type 0) (x : X) → P x → (b : Bool) (held : Option X) → IfSome held P → IfSome (cond b (Some x) held) P
or_else P x here true held is = here
or_else P x here false held is = is

-- where all that live live on
pub owned_on : (old new : Table) (urls : Urls) (readers : Open) → ((number : ℕ) → IsSome (origin_at number old) → IsSome (origin_at number new))
    → Owned old urls readers → Owned new urls readers
owned_on old new urls readers on owned = record {
  readers = λ number. if_so (IsRead old) (IsRead new) (λ reader is. on reader.owner.0 is) (reader_at number readers) (owned.readers number);
  urls = λ text. if_so (IsMade old) (IsMade new) (λ url is. on url.owner.0 is) (url_at text urls) (owned.urls text);
}

pub owned_same : (old new : Table) (urls : Urls) (readers : Open) → ((number : ℕ) → origin_at number new ≡ origin_at number old)
    → Owned old urls readers → Owned new urls readers
owned_same old new urls readers same =
    owned_on old new urls readers (λ number is. subst (λ (held : Option (List ℕ)). IsSome held) (sym (same number)) is)

pub owned_spawned : (id : ℕ) (origin : List ℕ) (old new : Table) (urls : Urls) (readers : Open) → Spawns id origin old new → Owned old urls readers
    → Owned new urls readers
owned_spawned id origin old new urls readers spawns =
    owned_on old new urls readers
    (λ number is. subst (λ (held : Option (List ℕ)). IsSome held) (sym (spawns.origins number)) (by (id == number) (origin_at number old) is))
  where
    by : (b : Bool) (held : Option (List ℕ)) → IsSome held → IsSome (cond b (Some origin) held)
    by true held is = refl
    by false held is = is

-- of a renderer that dies no reader and no URL is left
pub owned_dead : (id : ℕ) (old new : Table) (urls : Urls) (readers : Open) → Dies id old new → IsUnread id readers → IsUnlinked id urls
    → Owned old urls readers → Owned new urls readers
owned_dead id old new urls readers dies unread unmade owned = record {
  readers = λ number. reads (reader_at number readers) (unread number) (owned.readers number);
  urls = λ text. makes (url_at text urls) (unmade text) (owned.urls text);
}
  where
    on : (number : ℕ) → (id == number) ≡ false → IsSome (origin_at number old) → IsSome (origin_at number new)
    on number apart is =
        subst (λ (held : Option (List ℕ)). IsSome held)
        (sym (dies.origins number ∙ ap (λ (b : Bool). cond {A = Option (List ℕ)} b None (origin_at number old)) apart)) is

    turned : (number : ℕ) → (number == id) ≡ false → (b : Bool) → (id == number) ≡ b → b ≡ false
    turned number apart true at = absurd (cc (sym apart ∙ eq-eqb number id (sym (eqb-true id number at))))
    turned number apart false at = refl

    reads : (held : Option OpenReader) → is_own id held ≡ false → IfSome held (IsRead old) → IfSome held (IsRead new)
    reads None apart is = tt
    reads (Some reader) apart is = on reader.owner.0 (turned reader.owner.0 apart (id == reader.owner.0) refl) is

    none : (url : Url) (b : Bool) → cond {A = Option Url} b (Some url) None ≡ None → b ≡ false
    none url true e = absurd (cc e)
    none url false e = refl

    makes : (held : Option Url) → option_and_then (λ (url : Url). if nat_eq id url.owner.0 then Some url else None) held ≡ None → IfSome held (IsMade old)
        → IfSome held (IsMade new)
    makes None apart is = tt
    makes (Some url) apart is = on url.owner.0 (none url (id == url.owner.0) apart) is

-- ---- readers and URLs that come and go

pub owned_closed : (table : Table) (urls : Urls) (number : ℕ) (old new : Open) → Closes number old new → Owned table urls old → Owned table urls new
owned_closed table urls number old new closes owned = record {
  readers = λ other. subst (λ (held : Option OpenReader). IfSome held (IsRead table)) (sym (closes.each other))
      (unless (IsRead table) (number == other) (reader_at other old) (owned.readers other));
  urls = owned.urls;
}

pub owned_opened : (table : Table) (urls : Urls) (number : ℕ) (reader : OpenReader) (old new : Open) → Opens number reader old new
    → IsSome (origin_at reader.owner.0 table) → Owned table urls old → Owned table urls new
owned_opened table urls number reader old new opens alive owned = record {
  readers = λ other. subst (λ (held : Option OpenReader). IfSome held (IsRead table)) (sym (opens.each other))
      (or_else (IsRead table) reader alive (number == other) (reader_at other old) (owned.readers other));
  urls = owned.urls;
}

pub owned_unmade : (table : Table) (text : List ℕ) (old new : Urls) (readers : Open) → Goes text old new → Owned table old readers → Owned table new readers
owned_unmade table text old new readers goes owned = record {
  readers = owned.readers;
  urls = λ other. subst (λ (held : Option Url). IfSome held (IsMade table)) (sym (goes.each other))
      (unless (IsMade table) (bytes_eq text other) (url_at other old) (owned.urls other));
}

pub owned_made : (table : Table) (text : List ℕ) (url : Url) (old new : Urls) (readers : Open) → Comes text url old new
    → IsSome (origin_at url.owner.0 table) → Owned table old readers → Owned table new readers
owned_made table text url old new readers comes alive owned = record {
  readers = owned.readers;
  urls = λ other. subst (λ (held : Option Url). IfSome held (IsMade table)) (sym (comes.each other))
      (or_else (IsMade table) url alive (bytes_eq text other) (url_at other old) (owned.urls other));
}

-- ---- who is alive

pub living_origin : (id : ℕ) (table : Table) → IsSome (living_of id table) → IsSome (origin_at id table)
living_origin id table is = by (living_of id table) is
  where
    by : (held : Option Living) → IsSome held → IsSome (option_map (λ (one : Living). one.origin) held)
    by None is = is
    by (Some one) is = refl

pub handle_owner : (renderer : RendererId) (name : ℕ) (table : Table) → handle_refusal renderer name table ≡ None → IsSome (origin_at renderer.0 table)
handle_owner renderer name table due = living_origin renderer.0 table (by (living_of renderer.0 table) (count_of renderer.0 name table) due)
  where
    by : (held : Option Living) (n : ℕ)
        → (if is_none held then Some (refusals.NoRenderer renderer) else if n == 0 then Some (refusals.NoHandle renderer name) else None) ≡ None → IsSome held
    by None n e = absurd (cc e)
    by (Some one) n e = refl

-- ---- where nobody is alive

none_alive : (table : Table) (owner : ℕ) → ((number : ℕ) → origin_at number table ≡ None) → IsSome (origin_at owner table) → ⊥
none_alive table owner none is = absurd (cc (sym (ap (λ (held : Option (List ℕ)). is_some held) (none owner)) ∙ is))

-- there is no reader
pub none_read : (table : Table) (readers : Open) → ((number : ℕ) → origin_at number table ≡ None)
    → ((number : ℕ) → IfSome (reader_at number readers) (IsRead table)) → readers ≡ []
none_read table [] none each = refl
none_read table (one ∷ readers) none each =
    absurd (none_alive table one.1.owner.0 none
    (subst (λ (b : Bool). IfSome (cond b (Some one.1) (reader_at one.0 readers)) (IsRead table)) (unsigned_tied one.0 one.0 ∙ eq-eqb one.0 one.0 refl)
    (each one.0)))

-- and no URL
pub none_made : (table : Table) (urls : Urls) → ((number : ℕ) → origin_at number table ≡ None)
    → ((text : List ℕ) → IfSome (url_at text urls) (IsMade table)) → urls ≡ []
none_made table [] none each = refl
none_made table (one ∷ urls) none each =
    absurd (none_alive table one.1.owner.0 none
    (subst (λ (b : Bool). IfSome (cond b (Some one.1) (url_at one.0 urls)) (IsMade table)) (same_bytes one.0) (each one.0)))

-- and no handle
pub none_counted : (table : Table) → ((number : ℕ) → living_of number table ≡ None) → (id name : ℕ) → count_of id name table ≡ 0
none_counted table none id name =
    ap (λ (held : Option Living). count_on name (option_map_or (λ (one : Living). one.counts) held [])) (none id)
