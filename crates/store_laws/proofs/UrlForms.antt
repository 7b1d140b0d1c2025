-- A text has the form of a blob URL of an origin exactly where it names a blob.
use Rattle.std.proofs.Common.{◌≡◌, ◌++◌, true, List, ℕ, take, drop, length, sym, ap, ◌∙◌}
use Rattle.std.specs.Prelude.{bytes_eq, codes}
use Rattle.std.proofs.lemmas.List.{append_assoc, take-append-drop}
use Rattle.std.proofs.Math.Seq.{drop-append_seam, take-append_seam}
use Rattle.blob_words.specs.BlobName.{name_text}
use Rattle.url_store.specs.Urls.{IsBlobUrl}
use Rattle.blob_model.specs.Entries.{is_name_text, is_url_of, url_front}
use Rattle.store_laws.specs.UrlForms.{UrlFormsAgree}
use Rattle.store_laws.proofs.NameForms.{both, form_of_name, join, name_of_form}
use Rattle.store_laws.proofs.Tables.{equal_bytes, same_bytes}

-- the front of a URL and a name, in either grouping
grouped : (origin name : List ℕ) → url_front origin ++ name ≡ codes "blob:" ++ (origin ++ (codes "/" ++ name))
grouped origin name = append_assoc (codes "blob:" ++ origin) (codes "/") name ∙ append_assoc (codes "blob:") origin (codes "/" ++ name)

named : (origin text : List ℕ) → is_url_of origin text ≡ true → IsBlobUrl origin text
named origin text is =
    let n = length (url_front origin) in
    let parts = both (bytes_eq (take n text) (url_front origin)) (is_name_text (drop n text)) is in
    let name = name_of_form (drop n text) parts.1 in (
      name.0,
      name.1,
      sym (take-append-drop n text) ∙ ap (λ (front : List ℕ). front ++ drop n text) (equal_bytes (take n text) (url_front origin) parts.0)
          ∙ ap (λ (rest : List ℕ). url_front origin ++ rest) name.2 ∙ grouped origin (name_text name.0),
    )

formed : (origin text : List ℕ) → IsBlobUrl origin text → is_url_of origin text ≡ true
formed origin text url =
    let n = length (url_front origin) in
    let same : text ≡ url_front origin ++ name_text url.0 = url.2 ∙ sym (grouped origin (name_text url.0)) in
    join (bytes_eq (take n text) (url_front origin)) (is_name_text (drop n text))
    (ap (λ (t : List ℕ). bytes_eq (take n t) (url_front origin)) same
    ∙ ap (λ (front : List ℕ). bytes_eq front (url_front origin)) (take-append_seam (url_front origin) (name_text url.0)) ∙ same_bytes (url_front origin))
    (ap (λ (t : List ℕ). is_name_text (drop n t)) same ∙ ap is_name_text (drop-append_seam (url_front origin) (name_text url.0)) ∙ form_of_name url.0)

pub url_forms_agree : UrlFormsAgree
url_forms_agree = record { named = named; formed = formed }
