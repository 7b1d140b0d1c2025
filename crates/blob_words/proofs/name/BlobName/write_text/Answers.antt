use Rattle.std.proofs.Common.{◌≡◌, ◌∙◌, ap, length, rules, arith}
use Rattle.uuid.proofs.TextLemmas.{by_index_length}
use Rattle.blob_words.proofs.name.BlobName.write_text.Goals as goal

pub copy_from_slice-requires : goal.copy_from_slice-requires
copy_from_slice-requires c =
    let text : length c.as_bytes.result.now ≡ 36 =
    ap length (c.as_bytes.ensures.value ∙ c.encode_lower-text.ensures.text) ∙ by_index_length 36 _ in
    search (arith, rules)

pub returns : goal.returns
returns c = cc
