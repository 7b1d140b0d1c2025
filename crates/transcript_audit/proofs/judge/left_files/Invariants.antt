use Rattle.std.proofs.Common.{◌≡◌, take}
use Rattle.blob_model.specs.Legal.{left_files}
use Rattle.transcript_audit.proofs.judge.left_files.Given as goal

abbrev pub invariant-loop-answer : goal.invariant-loop-answer
invariant-loop-answer l = l.files ≡ left_files (take l.answer-index l.answers)
