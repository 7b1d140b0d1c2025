-- A line that comes together from the bytes ahead and those of a source.
use Rattle.std.proofs.Common.{◌≡◌, ℕ, ◌+◌, ◌==◌, ◌^◌, ◌<◌, ◌≤◌, false, List, [], ◌∷◌, ◌++◌, Option, Some, None, length, length-append, take, drop, sym, ap, ◌∙◌, append_assoc, append-nil, take-append-drop, arith}
use Rattle.std.specs.List.{position}
use Rattle.std.specs.Io.KnownBytes.{Consumes}
use Rattle.std.proofs.lemmas.List.{drop-append-le, length-take}
use Rattle.blob_source.specs.Lines.{has_line_feed}
use Rattle.blob_source.specs.Parts.{Moves, TakesPiece}
use Rattle.blob_source.specs.declared.piece.Piece.TheVariants as pieces
use Rattle.blob_source.proofs.LineFeeds.{first_feed, has_line_feed_none}

-- the part before a line feed moves, and the line feed goes
pub moves_line : (ahead new line longer bytes : List ℕ) (count place : ℕ)
    → bytes ≡ take count ahead → position (λ byte. byte == 10) bytes ≡ Some place → new ≡ drop (place + 1) ahead → longer ≡ line ++ take place bytes
    → length line + count ≤ 2 ^ 20 + 1 → TakesPiece ahead new line longer pieces.Line
moves_line ahead new line longer bytes count place is_bytes found is_new is_longer room =
    let first = first_feed bytes place found in
    let within : place < length bytes = first.within in
    let part = take place bytes in
    let tail = drop count ahead in
    let front : ahead ≡ bytes ++ tail = sym (take-append-drop count ahead) ∙ ap (λ xs. xs ++ tail) (sym is_bytes) in
    let rest : new ≡ drop (place + 1) bytes ++ tail =
    is_new ∙ ap (drop (place + 1)) front ∙ drop-append-le (place + 1) bytes tail (omega arith) in
    let split : bytes ≡ (part ++ 10 ∷ []) ++ drop (place + 1) bytes = first.whole ∙ sym (append_assoc part (10 ∷ []) (drop (place + 1) bytes)) in
    let whole : ahead ≡ (part ++ 10 ∷ []) ++ new =
    front ∙ ap (λ xs. xs ++ tail) split ∙ append_assoc (part ++ 10 ∷ []) (drop (place + 1) bytes) tail ∙ ap (λ xs. (part ++ 10 ∷ []) ++ xs) (sym rest) in
    let long : length longer ≡ length line + length part = ap length is_longer ∙ length-append line part in
    let size = ap length is_bytes in
    (record { part = part; plain = first.plain; ahead = whole; line_is = is_longer }, omega (arith, length-take place bytes, length-take count ahead))

-- all the bytes looked at move
pub moves_all : (ahead new line longer bytes : List ℕ) (count : ℕ)
    → bytes ≡ take count ahead → position (λ byte. byte == 10) bytes ≡ None → new ≡ drop count ahead → longer ≡ line ++ bytes
    → Moves ahead new line longer []
moves_all ahead new line longer bytes count is_bytes none is_new is_longer = record {
  part = bytes;
  plain = has_line_feed_none bytes none;
  ahead =
      sym (take-append-drop count ahead) ∙ ap (λ xs. xs ++ drop count ahead) (sym is_bytes ∙ sym (append-nil bytes)) ∙ ap (λ xs. (bytes ++ []) ++ xs)
      (sym is_new);
  line_is = is_longer;
}

-- how long the line is then
pub length_longer : (ahead line longer bytes : List ℕ) (count : ℕ) → bytes ≡ take count ahead → count ≤ length ahead → longer ≡ line ++ bytes
    → length longer ≡ length line + count
length_longer ahead line longer bytes count is_bytes within is_longer =
    let size = ap length is_bytes in
    let long : length longer ≡ length line + length bytes = ap length is_longer ∙ length-append line bytes in
    omega (arith, length-take count ahead)

-- ---- the line so far

-- what was left before begins with the line so far, which may go on
pub record Ongoing (old new : Option (List ℕ)) (line : List ℕ) : Type 0 where
  pub consumed : Consumes old new line
  pub plain : has_line_feed line ≡ false
  pub short : length line ≤ 2 ^ 20
