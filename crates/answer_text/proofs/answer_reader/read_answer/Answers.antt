use Rattle.std.proofs.Common.{sym, ◌∙◌}
use Rattle.answer_text.proofs.Answers.{answer_read}
use Rattle.answer_text.proofs.Words.{same_word}
use Rattle.answer_text.proofs.answer_reader.read_answer.Goals as goal

pub returns-in-Some-from_text : goal.returns-in-Some-from_text
returns-in-Some-from_text c =
    answer_read c.args.line.now c.in-Some.first.now c.next.new.self c.in-Some-from_text.word c.read_behind.result
    (sym c.new-fields.ensures ∙ c.in-Some.ensures) c.in-Some-from_text.ensures (λ v is. same_word v _ (sym is ∙ c.in-Some-from_text.ensures))
    c.read_behind.ensures
