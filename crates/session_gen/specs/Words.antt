-- The words that a generated session is made of: the key stream of ChaCha8 whose key is a number. RFC 8439's cipher with 8 rounds, as the crate `rand_chacha`
-- has it; which words are taken is own.
use Rattle.std.specs.Prelude.{ℕ, ◌+◌, List, ◌++◌, flat_map, replicate}
use Rattle.std.specs.List.{range_with_len}
use Rattle.std.specs.Int.{w32, w64, to_le_bytes}
use Rattle.rand_chacha.specs.ChaCha.{key_of, word_at}

-- the key of a number: its 8 bytes, the lowest first, and 24 bytes of 0
abbrev pub key : ℕ → List ℕ
key number = key_of (to_le_bytes w64 number ++ replicate 24 0)

-- the word at a place of stream 0; 8 rounds are 4 double rounds
abbrev pub word : List ℕ → ℕ → ℕ
word key place = word_at 4 key 0 place

-- so many words from a place on, each in 4 bytes, the lowest first
abbrev pub word_bytes : List ℕ → ℕ → ℕ → List ℕ
word_bytes key place count = flat_map (λ k. to_le_bytes w32 (word key (place + k))) (range_with_len 0 count)

-- the words of a key, of which so many were drawn
pub record Drawn : Type 0 where
  pub key : List ℕ
  pub count : ℕ
