-- A reader that is opened: what stands against it, and the parts agree with it.
use Rattle.std.proofs.Common.{◌≡◌, ℕ, ◌<◌, ◌≤◌, ◌==◌, Bool, true, false, cond, List, map, length, Option, Some, None, Result, Ok, Err, Bor, refl, sym, ap, subst, ◌∙◌, arith}
use Rattle.std.specs.Prelude.{bytes_eq, is_some, nat_le, option_and_then, if◌then◌else◌, IfOk, IfSome, IsSome, IsSomeAnd}
use Rattle.std.specs.Option.{option_copied, option_map}
use Rattle.std.proofs.lemmas.Bool.{eqb-true, le-leb, leb-false, leb-true}
use Rattle.blob_words.specs.declared.bounds.TheConstants.{MOST_READERS}
use Rattle.blob_words.specs.declared.counted.Counted.TheVariants as counts
use Rattle.blob_words.specs.declared.number.ReaderId.{ReaderId}
use Rattle.blob_words.specs.declared.number.RendererId.{RendererId}
use Rattle.answer_text.specs.declared.answer.Answer.{Answer}
use Rattle.answer_text.specs.declared.answer.Answer.TheVariants as answers
use Rattle.answer_text.specs.declared.refusal.Refusal.{Refusal}
use Rattle.answer_text.specs.declared.refusal.Refusal.TheVariants as refusals
use Rattle.blob_entries.specs.Book.{changed, entry_of}
use Rattle.blob_entries.specs.Changes.{held_more}
use Rattle.blob_entries.specs.Statuses.{is_broken}
use Rattle.blob_entries.specs.declared.entry.Entry.{Entry}
use Rattle.renderer_table.specs.Counted.{origin_at}
use Rattle.url_store.specs.Urls.{resolved, url_at, without_fragment}
use Rattle.url_store.specs.declared.url.Url.{Url}
use Rattle.blob_model.specs.Readers.{OpenReader as ReaderSaid}
use Rattle.store_laws.specs.OpeningLaws.{opening_refusal, passes_end, reader_on, ReaderComes}
use Rattle.blob_store.specs.declared.parts.Parts.{Parts}
use Rattle.blob_store.specs.declared.readers.OpenReader.{OpenReader}
use Rattle.blob_store.specs.Openings.{course_over, Asked, IsOpened, IsOpening, Opening}
use Rattle.blob_store.specs.Readers.{reader_at, Opens}
use Rattle.blob_store.specs.Roots.{roots_at}
use Rattle.blob_store.specs.Seen.{reader_of}
use Rattle.blob_store.specs.Holders.{IsOpen}
use Rattle.blob_store.specs.Whole.{with_line, Whole}
use Rattle.blob_store.proofs.HeardTables.{many_seen, open_said, open_seen}
use Rattle.blob_store.proofs.Owning.{owned_opened}
use Rattle.blob_store.proofs.Rerooting.{url_roots, whole_held}

-- ---- what stands against it

module _ (number : ReaderId) (entry : Entry) (off : ℕ) (len : Option ℕ) (readers : List (ℕ × OpenReader)) where
  abbrev why : Option ReaderSaid → Bool → ℕ → Option Refusal
  why found passing many =
      if is_some found then Some (refusals.ReaderUsed number) else if passing then Some (refusals.Range entry.size)
      else if nat_le MOST_READERS many then Some (refusals.TooMany counts.Readers) else None

  abbrev due : Option Refusal
  due = opening_refusal number entry off len (map reader_of readers)

  due_so : due ≡ why (option_map (open_said number.0) (reader_at number.0 readers)) (passes_end entry off len) (length readers)
  due_so =
      ap (λ (found : Option ReaderSaid). why found (passes_end entry off len) (length (map reader_of readers))) (open_seen number.0 readers)
      ∙ ap (λ (n : ℕ). why (option_map (open_said number.0) (reader_at number.0 readers)) (passes_end entry off len) n) (many_seen readers)

  pub used_why : IsSome (reader_at number.0 readers) → due ≡ Some (refusals.ReaderUsed number)
  used_why there = due_so ∙ by (reader_at number.0 readers) there
    where
      by : (found : Option OpenReader) → IsSome found
          → why (option_map (open_said number.0) found) (passes_end entry off len) (length readers) ≡ Some (refusals.ReaderUsed number)
      by None is = absurd (cc is)
      by (Some reader) is = refl

  module _ (free : reader_at number.0 readers ≡ None) where
    free_so : due ≡ why None (passes_end entry off len) (length readers)
    free_so =
        due_so ∙ ap (λ (found : Option OpenReader). why (option_map (open_said number.0) found) (passes_end entry off len) (length readers)) free

    pub passing_why : passes_end entry off len ≡ true → due ≡ Some (refusals.Range entry.size)
    passing_why is = free_so ∙ ap (λ (b : Bool). why None b (length readers)) is

    module _ (inside : passes_end entry off len ≡ false) where
      inside_so : due ≡ why None false (length readers)
      inside_so = free_so ∙ ap (λ (b : Bool). why None b (length readers)) inside

      pub full_why : MOST_READERS ≤ length readers → due ≡ Some (refusals.TooMany counts.Readers)
      full_why many =
          inside_so ∙ ap (λ (b : Bool). cond b (Some (refusals.TooMany counts.Readers)) None) (le-leb MOST_READERS (length readers) many)

      pub none_why : length readers < MOST_READERS → due ≡ None
      none_why few = inside_so ∙ ap (λ (b : Bool). cond b (Some (refusals.TooMany counts.Readers)) None) (above (nat_le MOST_READERS (length readers)) refl)
        where
          above : (b : Bool) → nat_le MOST_READERS (length readers) ≡ b → b ≡ false
          above true at = absurd (let more = leb-true MOST_READERS (length readers) at in omega (arith, more, few))
          above false at = refl

  -- where nothing does, the number is free and few readers are open
  pub none_stands : due ≡ None → (reader_at number.0 readers ≡ None) × (length readers < MOST_READERS)
  none_stands none = by (reader_at number.0 readers) (passes_end entry off len) (nat_le MOST_READERS (length readers)) refl (sym due_so ∙ none)
    where
      below : nat_le MOST_READERS (length readers) ≡ false → length readers < MOST_READERS
      below at = by_le (length readers) at
        where
          by_le : (n : ℕ) → nat_le MOST_READERS n ≡ false → n < MOST_READERS
          by_le n at = leb-false MOST_READERS n at

      by : (found : Option OpenReader) (passing full : Bool) → nat_le MOST_READERS (length readers) ≡ full
          → (if is_some (option_map (open_said number.0) found) then Some (refusals.ReaderUsed number) else if passing then Some (refusals.Range entry.size)
          else if full then Some (refusals.TooMany counts.Readers) else None) ≡ None
          → (found ≡ None) × (length readers < MOST_READERS)
      by (Some reader) passing full at is = absurd (cc is)
      by None true full at is = absurd (cc is)
      by None false true at is = absurd (cc is)
      by None false false at is = (refl, below at)

-- ---- the parts

module _ (owner : RendererId) (number : ReaderId) (name : ℕ) (entry : Entry) (off : ℕ) (len : Option ℕ) where
  -- the reader as it is kept
  abbrev pub kept : OpenReader
  kept = record { owner = owner; blob = name; course = course_over entry off len }

  -- a reader that comes does so for the laws
  pub comes_seen : (old new : List (ℕ × OpenReader)) → Opens number.0 kept old new
      → ReaderComes number.0 (reader_on owner number name entry off len) (map reader_of old) (map reader_of new)
  comes_seen old new opens = record {
    each = λ other.
        open_seen other new ∙ ap (option_map (open_said other)) (opens.each other) ∙ by other (number.0 == other) refl
        ∙ ap (λ (held : Option ReaderSaid). cond (number.0 == other) (Some (reader_on owner number name entry off len)) held) (sym (open_seen other old));
    many = let more = opens.many in omega (arith, more, many_seen new, many_seen old);
  }
    where
      by : (other : ℕ) (b : Bool) → (number.0 == other) ≡ b → option_map (open_said other) (cond b (Some kept) (reader_at other old))
          ≡ cond b (Some (reader_on owner number name entry off len)) (option_map (open_said other) (reader_at other old))
      by other true at =
          let same : number.0 ≡ other = eqb-true number.0 other at in ap {B = Option ReaderSaid} (λ (n : ℕ). Some (open_said n kept)) (sym same)
      by other false at = refl

  pub whole_opened : (parts : Parts) (readers : List (ℕ × OpenReader)) → Whole parts → 0 < roots_at parts.registry name
      → entry_of parts.registry name ≡ Some entry → length parts.readers < MOST_READERS → Opens number.0 kept parts.readers readers
      → IsSome (origin_at owner.0 parts.renderers)
      → Whole (with_line (record parts { registry = changed parts.registry name held_more; readers = readers }))
  whole_opened parts readers whole rooted at few opens alive =
      whole_held parts parts.renderers parts.urls readers name whole whole.holders.living
      (λ other. subst (λ (held : Option OpenReader). IfSome held (IsOpen parts.registry)) (sym (opens.each other))
      (by other (number.0 == other) (whole.holders.readers other)))
      (let more = opens.many in omega (arith, more, few))
      (owned_opened parts.renderers parts.urls number.0 kept parts.readers readers opens alive whole.holders.owned) rooted
      (λ other. let more = opens.reading other in omega (arith, more))
    where
      sized : is_broken entry.status ≡ false → kept.course.size ≡ entry.size
      sized sound = ap (λ (b : Bool). cond b off entry.size) sound

      open_here : IsOpen parts.registry kept
      open_here =
          subst (λ (held : Option Entry). IsSomeAnd held (λ (one : Entry). is_broken one.status ≡ false → kept.course.size ≡ one.size)) (sym at) sized

      by : (other : ℕ) (b : Bool) → IfSome (reader_at other parts.readers) (IsOpen parts.registry)
          → IfSome (cond b (Some kept) (reader_at other parts.readers)) (IsOpen parts.registry)
      by other true is = open_here
      by other false is = is

-- ---- what is handed out

pub copied_none : (result : Option (Bor OpenReader)) (found : Option OpenReader) → option_copied result ≡ found → is_some result ≡ false → found ≡ None
copied_none None found same is = sym same
copied_none (Some held) found same is = absurd (cc is)

pub copied_some : (result : Option (Bor OpenReader)) (found : Option OpenReader) → option_copied result ≡ found → is_some result ≡ true → IsSome found
copied_some None found same is = absurd (cc is)
copied_some (Some held) found same is = ap (λ (one : Option OpenReader). is_some one) (sym same)

-- ---- what is said of it

module _ (asked : Asked) (entry : Entry) (parts : Parts) (is : Some entry ≡ entry_of parts.registry asked.blob) where
  abbrev said : Option Refusal
  said = opening_refusal asked.number entry asked.off asked.len (map reader_of parts.readers)

  opening_by : (answer : Answer) (new : Parts) → IsOpening asked entry said answer parts new → Opening asked answer parts new
  unfolding Opening
  opening_by answer new opening one at =
      let both : Some entry ≡ Some one = is ∙ at in
      let same : entry ≡ one = cc in
      subst (λ (e : Entry). IsOpening asked e (opening_refusal asked.number e asked.off asked.len (map reader_of parts.readers)) answer parts new) same opening

  pub opening_refused : (why : Refusal) → said ≡ Some why → Opening asked (answers.Refused why) parts parts
  opening_refused why due =
      opening_by (answers.Refused why) parts
      (subst (λ (found : Option Refusal). IsOpening asked entry found (answers.Refused why) parts parts) (sym due) (refl, refl))

  pub opening_opened : (answer : Answer) (new : Parts) → said ≡ None → IsOpened asked entry answer parts new → Opening asked answer parts new
  opening_opened answer new none opened =
      opening_by answer new (subst (λ (found : Option Refusal). IsOpening asked entry found answer parts new) (sym none) opened)

-- a URL that leads somewhere gives that blob a root
pub led_roots : (parts : Parts) (origin text : List ℕ) (name : ℕ) → Whole parts → resolved origin text parts.urls ≡ Some name
    → 0 < roots_at parts.registry name
led_roots parts origin text name whole leads = by (url_at (without_fragment text) parts.urls) refl leads
  where
    mine : (url : Url) (b : Bool) → cond {A = Option ℕ} b (Some url.blob) None ≡ Some name → url.blob ≡ name
    mine url true e = cc e
    mine url false e = absurd (cc e)

    by : (found : Option Url) → url_at (without_fragment text) parts.urls ≡ found
        → option_and_then (λ (url : Url). if bytes_eq url.origin origin then Some url.blob else None) found ≡ Some name → 0 < roots_at parts.registry name
    by None at e = absurd (cc e)
    by (Some url) at e =
        subst (λ (n : ℕ). 0 < roots_at parts.registry n) (mine url (bytes_eq url.origin origin) e) (url_roots parts (without_fragment text) url whole at)

-- what follows from what is said of a result that came
pub ok_so : {X E : Type 0} (P Q : X → Type 0) → ((x : X) → P x → Q x) → (result : Result X E) → IfOk result P → IfOk result Q
ok_so P Q follows (Ok x) is = follows x is
ok_so P Q follows (Err e) is = tt
