-- Page files in memory, and for how many more there is room. Own.
use Rattle.std.specs.Prelude.{ℕ, List}
use Rattle.page_volumes.specs.Seen.{PageFile}
use Rattle.page_volumes.specs.declared.stored.Stored.{Stored}

-- a file as a volume tells it
abbrev pub page_file : Stored → PageFile
page_file file = record { page = file.page.0; bytes = file.bytes }

pub record Shelved : Type 0 where
  pub files : List PageFile
  pub spare : ℕ
