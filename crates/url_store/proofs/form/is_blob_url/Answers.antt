use Rattle.std.proofs.Common.{◌≡◌, ◌∷◌, ◌++◌, sym, ◌∙◌}
use Rattle.std.proofs.lemmas.List.{append_cancel_left}
use Rattle.std.specs.Prelude.{codes}
use Rattle.blob_words.specs.BlobName.{name_text}
use Rattle.url_store.proofs.form.is_blob_url.Goals as goal

pub returns-in_default-after_prefix-2 : goal.returns-in_default-after_prefix-2
returns-in_default-after_prefix-2 c = λ is.
    let place = c.in-Some.place.now in
    let path = c.in-Some-after_prefix.path.now in
    let origin = c.args.origin.now in
    let name = name_text is.0 in
    let first : c.args.text.now ≡ codes "blob:" ++ place = c.in-Some.ensures in
    let second : place ≡ origin ++ path = c.in-Some-after_prefix.ensures in
    let behind : place ≡ origin ++ (47 ∷ name) = append_cancel_left (codes "blob:") place (origin ++ (47 ∷ name)) (sym first ∙ is.2) in
    let last : path ≡ 47 ∷ name = append_cancel_left origin path (47 ∷ name) (sym second ∙ behind) in
    c.in_default-after_prefix-2.ensures name last

pub returns-in-Err : goal.returns-in-Err
returns-in-Err c = λ is.
    let place = c.in-Some.place.now in
    let path = c.in-Some-after_prefix.path.now in
    let origin = c.args.origin.now in
    let name = name_text is.0 in
    let first : c.args.text.now ≡ codes "blob:" ++ place = c.in-Some.ensures in
    let second : place ≡ origin ++ path = c.in-Some-after_prefix.ensures in
    let third : path ≡ 47 ∷ c.in-Some-after_prefix-2.name.now = c.in-Some-after_prefix-2.ensures in
    let behind : place ≡ origin ++ (47 ∷ name) = append_cancel_left (codes "blob:") place (origin ++ (47 ∷ name)) (sym first ∙ is.2) in
    let last : path ≡ 47 ∷ name = append_cancel_left origin path (47 ∷ name) (sym second ∙ behind) in
    let text : c.in-Some-after_prefix-2.name.now ≡ name = cc in
    c.in-Err.ensures.form is.0 is.1 text
