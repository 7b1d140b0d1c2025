use Rattle.std.proofs.Common.{◌≡◌}
use Rattle.std.specs.List.{AllByRecursion}
use Rattle.page_files.specs.Files.{left_of}
use Rattle.page_files.specs.Items.{IsMemoryIn}
use Rattle.page_cases.proofs.many_pieces.strike_many.Given as goal

abbrev pub invariant-loop-half : goal.invariant-loop-half
invariant-loop-half l = record {
  items : AllByRecursion (IsMemoryIn l.shares) (left_of l.files.job);
  pages : l.files.pages ≡ l.fn.files.pages;
}
