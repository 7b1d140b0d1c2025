use Rattle.std.proofs.Common.{◌≡◌, codes, sym, ◌∙◌}
use Rattle.std.proofs.lemmas.Slice.Eq.{bytes_eq-Decides}
use Rattle.answer_text.proofs.GroupLemmas.{tally_read}
use Rattle.answer_text.proofs.group_reader.read_tally.Goals as goal

pub returns-in-Ok : goal.returns-in-Ok
returns-in-Ok c =
    let word : c.in-Some.first.now ≡ codes "=" = (bytes_eq-Decides c.in-Some.first.now c.as_slice.result.now).0 (sym c.eq.ensures ∙ c.if-eq.true) ∙
    c.as_slice.ensures in
    tally_read c.args.line.now c.in-Some.first.now c.next.new.self
    (record { pieces = c.in-Ok.pieces; memory = c.in-Ok.memory; files = c.in-Ok.files; disk = c.in-Ok.disk })
    (sym c.new-fields.ensures ∙ c.in-Some.ensures) word c.in-Ok.ensures.0 c.in-Ok.ensures.1
