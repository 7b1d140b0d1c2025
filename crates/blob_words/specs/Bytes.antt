-- Bytes of which some are written over. Own.
use Rattle.std.specs.Prelude.{ℕ, ◌+◌, ◌++◌, List, drop, length, take}

-- the bytes, with others in place of those that stand from a place on
abbrev pub spliced : ℕ → List ℕ → List ℕ → List ℕ
spliced start new bytes = take start bytes ++ (new ++ drop (start + length new) bytes)
