-- How a step of a reader changes the open readers. Own.
use Rattle.std.specs.Prelude.{ℕ, List, length, map}
use Rattle.answer_text.specs.declared.answer.Answer.{Answer}
use Rattle.answer_text.specs.declared.answer.Answer.TheVariants as answers
use Rattle.blob_model.specs.Readers.{OpenReader, advanced, closed}

-- the readers after the answer to a step of this one
abbrev pub stepped : ℕ → Answer → List OpenReader → List OpenReader
stepped number (answers.Given reader bytes) before = map (advanced number (length bytes)) before
stepped number (answers.Ended reader status) before = closed number before
stepped number (answers.FileChanged reader name) before = closed number before
stepped number (answers.PageFault reader file) before = closed number before
stepped number (answers.HandleFailed reader slot) before = closed number before
stepped number answer before = before
