-- What is spelled has no separator and no line feed in it.
use Rattle.std.proofs.Common.{◌≡◌, ℕ, ◌≤◌, true, false, List, [], ◌∷◌, All, eqb, refl, sym, ◌∙◌, lit≤, subst, arith}
use Rattle.std.specs.Prelude.{Bool, codes, nat_le, ◌==◌, ◌&&◌, ◌||◌}
use Rattle.std.specs.List.{AllByRecursion, list_all, list_any}
use Rattle.std.proofs.lemmas.Bool.{and_parts, ne_eqb, or_from}
use Rattle.std.proofs.lemmas.Bool.Decides.{nat_tests}
use Rattle.std.proofs.lemmas.List.Elements.{All-cons, All-nil, All-weaker, All-append}
use Rattle.std.proofs.lemmas.List.Folds.{list_any-append, list_any_none}
use Rattle.blob_words.specs.FileName.{is_file_name_byte}
use Rattle.blob_words.specs.Origin.{is_origin_byte}
use Rattle.blob_words.specs.UrlText.{is_visible_byte}
use Rattle.blob_words.specs.declared.status.Status.{Status}
use Rattle.blob_words.specs.declared.status.Status.TheVariants as statuses
use Rattle.text_fields.specs.Fields.{fields, joined}
use Rattle.text_fields.specs.Kind.{Kind, Spells, AllSpell, number_32, number_64, positive, len, place, name, origin, file_name, url_text, bytes, content_type, some_bytes, broken, ending, status, switch}
use Rattle.text_fields.specs.Reading.{split}
use Rattle.text_fields.specs.Status.{status_word, switch_word}
use Rattle.text_fields.proofs.Bytes.{OfDigits, decimal_all, hex_all, name_all, len_all, place_all, tested_all}
use Rattle.text_fields.proofs.Splits.{HasNone, split-joined}

abbrev pub IsVisible : ℕ → Type 0
IsVisible byte = 33 ≤ byte

abbrev pub AreVisible : List ℕ → Type 0
AreVisible text = All IsVisible text

digits_visible : OfDigits IsVisible
digits_visible = record {
  digit = λ c low high. omega arith;
  letter = λ c low high. omega arith;
  dash = lit≤ tt;
  blank = lit≤ tt;
}

file_name_byte : (c : ℕ) → is_file_name_byte c ≡ true → IsVisible c
file_name_byte c allowed = grind (arith, nat_tests)

origin_byte : (c : ℕ) → is_origin_byte c ≡ true → IsVisible c
origin_byte c allowed = grind (arith, nat_tests)

url_byte : (c : ℕ) → is_visible_byte c ≡ true → IsVisible c
url_byte c allowed = grind (arith, nat_tests)

-- a word that computes is visible
pub literal_visible : (text : List ℕ) → list_all is_visible_byte text ≡ true → AreVisible text
literal_visible text all = tested_all IsVisible is_visible_byte url_byte text all

status_visible : (s : Status) → AreVisible (status_word s)
status_visible statuses.InvalidArguments = literal_visible (codes "invalid-construction-arguments") refl
status_visible statuses.OutOfMemory = literal_visible (codes "out-of-memory") refl
status_visible statuses.FileWriteFailed = literal_visible (codes "file-write-failed") refl
status_visible statuses.SourceDied = literal_visible (codes "source-died-in-transit") refl
status_visible statuses.Dereferenced = literal_visible (codes "dropped") refl
status_visible statuses.ReferencedBlobBroken = literal_visible (codes "referenced-blob-broken") refl
status_visible statuses.ReferencedFileUnavailable = literal_visible (codes "referenced-file-unavailable") refl
status_visible statuses.Done = literal_visible (codes "done") refl
status_visible statuses.PendingQuota = literal_visible (codes "pending-quota") refl
status_visible statuses.PendingTransport = literal_visible (codes "pending-transport") refl
status_visible statuses.PendingReferencedBlobs = literal_visible (codes "pending-referenced-blobs") refl

switch_visible : (on : Bool) → AreVisible (switch_word on)
switch_visible true = literal_visible (codes "on") refl
switch_visible false = literal_visible (codes "off") refl

-- the texts of all kinds are visible
pub spells_visible : (kind : Kind) (text : List ℕ) → Spells kind text → AreVisible text
spells_visible number_32 text s = subst AreVisible (sym s.2) (decimal_all IsVisible digits_visible s.0 (omega arith))
spells_visible number_64 text s = subst AreVisible (sym s.2) (decimal_all IsVisible digits_visible s.0 s.1)
spells_visible positive text s = subst AreVisible (sym s.3) (decimal_all IsVisible digits_visible s.0 s.2)
spells_visible len text s = subst AreVisible (sym s.2) (len_all IsVisible digits_visible s.0 s.1)
spells_visible place text s = subst AreVisible (sym s.2) (place_all IsVisible digits_visible s.0 s.1)
spells_visible name text s = subst AreVisible (sym s.2) (name_all IsVisible digits_visible s.0)
spells_visible origin text s = tested_all IsVisible is_origin_byte origin_byte text (and_parts _ (list_all is_origin_byte text) (and_parts _ _ s).0).1
spells_visible file_name text s = tested_all IsVisible is_file_name_byte file_name_byte text (and_parts _ (list_all is_file_name_byte text) s).1
spells_visible url_text text s = tested_all IsVisible is_visible_byte url_byte text (and_parts _ (list_all is_visible_byte text) s).1
spells_visible bytes text s = subst AreVisible (sym s.2) (hex_all IsVisible digits_visible s.0 s.1)
spells_visible some_bytes text s = subst AreVisible (sym s.3) (hex_all IsVisible digits_visible s.0 s.1)
spells_visible broken text s = subst AreVisible (sym s.2) (status_visible s.0)
spells_visible ending text s = subst AreVisible (sym s.2) (status_visible s.0)
spells_visible status text s = subst AreVisible (sym s.2) (status_visible s.0)
spells_visible switch text s = subst AreVisible (sym s.1) (switch_visible s.0)
spells_visible content_type text s = subst AreVisible (sym s.3) (hex_all IsVisible digits_visible s.0 s.1)

pub all_visible : (kinds : List Kind) (texts : List (List ℕ)) → AllSpell kinds texts → AllByRecursion AreVisible texts
all_visible [] [] all = tt
all_visible [] (text ∷ texts) all = absurd all
all_visible (kind ∷ kinds) [] all = absurd all
all_visible (kind ∷ kinds) (text ∷ texts) all = (spells_visible kind text all.0, all_visible kinds texts all.1)

pub plain_visible : (c : ℕ) → (nat_le 59 c || (nat_le 48 c && nat_le c 57)) ≡ true → IsVisible c
plain_visible c plain = grind (arith, nat_tests)

pub fields_visible : (c : ℕ) (texts : List (List ℕ)) → IsVisible c → AllByRecursion AreVisible texts → AreVisible (fields c texts)
fields_visible c [] seen all = All-nil IsVisible
fields_visible c (text ∷ texts) seen all = All-append IsVisible (c ∷ text) (fields c texts) (All-cons IsVisible c text seen all.0)
    (fields_visible c texts seen all.1)

no_space : (text : List ℕ) → AreVisible text → HasNone 32 text
no_space text seen = All-weaker IsVisible (λ byte. eqb byte 32 ≡ false) (λ byte low. ne_eqb byte 32 (λ same. omega arith)) text seen

no_spaces : (texts : List (List ℕ)) → AllByRecursion AreVisible texts → AllByRecursion (HasNone 32) texts
no_spaces [] seen = tt
no_spaces (text ∷ texts) seen = (no_space text seen.0, no_spaces texts seen.1)

-- visible texts are parted at the spaces between them
pub split-visible : (word : List ℕ) (texts : List (List ℕ)) → AreVisible word → AllByRecursion AreVisible texts → split 32 (joined 32 (word ∷ texts)) ≡ word
    ∷ texts
split-visible word texts seen all = split-joined 32 word texts (no_space word seen) (no_spaces texts all)

abbrev pub has_feed : List ℕ → Bool
has_feed text = list_any (λ byte. byte == 10) text

no_feed : (text : List ℕ) → AreVisible text → has_feed text ≡ false
no_feed text seen = list_any_none (λ byte. byte == 10) text (All-weaker IsVisible (λ byte. (byte == 10) ≡ false)
    (λ byte low. ne_eqb byte 10 (λ same. omega arith)) text seen)

no_feeds : (texts : List (List ℕ)) → AllByRecursion AreVisible texts → has_feed (fields 32 texts) ≡ false
no_feeds [] seen = refl
no_feeds (text ∷ texts) seen =
    list_any-append (λ byte. byte == 10) (32 ∷ text) (fields 32 texts) ∙ or_from (has_feed (32 ∷ text)) (has_feed (fields 32 texts)) (no_feed text seen.0)
    (no_feeds texts seen.1)

-- visible texts with spaces between them have no line feed
pub feedless : (word : List ℕ) (texts : List (List ℕ)) → AreVisible word → AllByRecursion AreVisible texts → has_feed (joined 32 (word ∷ texts)) ≡ false
feedless word texts seen all = list_any-append (λ byte. byte == 10) word (fields 32 texts) ∙ or_from (has_feed word) (has_feed (fields 32 texts))
    (no_feed word seen) (no_feeds texts all)
