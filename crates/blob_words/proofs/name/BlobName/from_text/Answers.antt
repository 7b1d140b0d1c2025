use Rattle.std.proofs.Common.{◌≡◌, false, true, sym, ◌∙◌, ap}
use Rattle.std.specs.Int.{to_be_bytes, w128}
use Rattle.std.specs.Str.{bytes_eq}
use Rattle.std.proofs.lemmas.Slice.Eq.{bytes_eq-Decides}
use Rattle.uuid.specs.Text.{parsed}
use Rattle.blob_words.proofs.Names.{parses_name, number_of_name}
use Rattle.blob_words.specs.BlobName.{name_text}
use Rattle.blob_words.proofs.name.BlobName.from_text.Goals as goal

-- a name's text parses
pub returns-in_default-clause-form : goal.returns-in_default-clause-form
returns-in_default-clause-form c = λ number fits is_text.
    let parses : false ≡ true = c.in_default.ensures.ok.1 (to_be_bytes w128 number, ap parsed is_text ∙ sym (parses_name number)) in
    cc

-- what parsed is the number's text, so it was the text that was compared
pub returns-else-eq-clause-form : goal.returns-else-eq-clause-form
returns-else-eq-clause-form c = λ number fits is_text.
    let is_number : c.as_u128.result ≡ number =
    c.as_u128.ensures ∙ number_of_name number c.in-Ok.uuid fits (c.in-Ok.ensures.bytes ∙ ap parsed is_text) in
    let same : c.args.text.now ≡ c.as_slice.result.now =
    is_text ∙ sym (c.as_slice.ensures ∙ c.write_text.ensures ∙ ap name_text is_number) in
    let is_same : bytes_eq c.args.text.now c.as_slice.result.now ≡ true = (bytes_eq-Decides c.args.text.now c.as_slice.result.now).1 same in
    cc

pub returns-then-eq-clause-ok : goal.returns-then-eq-clause-ok
returns-then-eq-clause-ok c =
    (bytes_eq-Decides c.args.text.now c.as_slice.result.now).0 (sym c.eq.ensures ∙ c.if-eq.true) ∙ c.as_slice.ensures ∙ c.write_text.ensures
