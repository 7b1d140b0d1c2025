-- The words that lines begin with, and the letters that parts begin with. Own format.
use Rattle.std.specs.Prelude.{ℕ, List, codes}
use Rattle.session_script.specs.declared.letter.Letter.{Letter}
use Rattle.session_script.specs.declared.letter.Letter.TheVariants as letters
use Rattle.session_script.specs.declared.word.Word.{Word}
use Rattle.session_script.specs.declared.word.Word.TheVariants as words

-- the text of a word
abbrev pub word_text : Word → List ℕ
word_text words.Limits = codes "limits"
word_text words.Limits2 = codes "limits2"
word_text words.Spawn = codes "spawn"
word_text words.Die = codes "die"
word_text words.File = codes "file"
word_text words.Gone = codes "gone"
word_text words.Build = codes "build"
word_text words.Slice = codes "slice"
word_text words.Segment = codes "data"
word_text words.Pass = codes "pass"
word_text words.Drop = codes "drop"
word_text words.Stat = codes "stat"
word_text words.Url = codes "url"
word_text words.Revoke = codes "revoke"
word_text words.Read = codes "read"
word_text words.Fetch = codes "fetch"
word_text words.Step = codes "step"
word_text words.Cancel = codes "cancel"
word_text words.Disk = codes "disk"
word_text words.Lost = codes "lost"
word_text words.Count = codes "tally"
word_text words.Finish = codes "end"

-- the text of a letter
abbrev pub letter_text : Letter → List ℕ
letter_text letters.Embedded = codes "b"
letter_text letters.Asked = codes "n"
letter_text letters.FileRange = codes "f"
letter_text letters.BlobRange = codes "s"
letter_text letters.HandleRange = codes "h"
