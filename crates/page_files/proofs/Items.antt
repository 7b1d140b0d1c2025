-- The bytes of items in memory, one by one.
use Rattle.std.proofs.Common.{◌≡◌, ℕ, ◌+◌, ◌<◌, List, [], ◌∷◌, ◌++◌, Some, Option, length, get_or, take, sym, ap, ◌∙◌, subst, append_assoc}
use Rattle.std.specs.Prelude.{IsSomeAnd}
use Rattle.std.specs.Option.{option_map_or}
use Rattle.std.proofs.lemmas.List.{take_more, append-nil}
use Rattle.blob_words.specs.declared.number.PieceNo.{PieceNo}
use Rattle.item_shares.specs.declared.item.Item.{Item}
use Rattle.item_shares.specs.declared.item.Item.TheVariants.{Memory}
use Rattle.item_shares.specs.declared.shares.Share.{Share}
use Rattle.item_shares.specs.Shares.{item_at}
use Rattle.page_files.specs.declared.held.Held.{Held}
use Rattle.page_files.specs.Items.{bytes_in, item_bytes, IsMemoryIn, IsMemoryOf}

-- the bytes of one piece
pub bytes_at : (shares : List (Option Share)) (held : Held) (piece : PieceNo) (bytes : List ℕ) → item_at shares held.slot ≡ Some (Memory piece bytes)
    → option_map_or item_bytes (item_at shares held.slot) [] ≡ bytes
bytes_at shares held piece bytes is = ap (λ (item : Option Item). option_map_or item_bytes item []) is

pub length_at : (shares : List (Option Share)) (held : Held) (piece : PieceNo) (bytes : List ℕ) → item_at shares held.slot ≡ Some (Memory piece bytes)
    → IsMemoryIn shares held → length bytes ≡ held.len
length_at shares held piece bytes is there = (subst (λ (item : Option Item). IsSomeAnd item (IsMemoryOf held)) is there).1

in_push : (shares : List (Option Share)) (pieces : List Held) (held : Held) → bytes_in shares (pieces ++ held ∷ []) ≡ bytes_in shares pieces
    ++ option_map_or item_bytes (item_at shares held.slot) []
in_push shares [] held = append-nil (option_map_or item_bytes (item_at shares held.slot) [])
in_push shares (first ∷ pieces) held =
    let front = option_map_or item_bytes (item_at shares first.slot) [] in
    ap (λ (list : List ℕ). front ++ list) (in_push shares pieces held) ∙ sym
    (append_assoc front (bytes_in shares pieces) (option_map_or item_bytes (item_at shares held.slot) []))

-- one piece more
pub in_more : (shares : List (Option Share)) (pieces : List Held) (i : ℕ) (d : Held) (bytes : List ℕ) → i < length pieces → option_map_or item_bytes
    (item_at shares (get_or pieces i d).slot) [] ≡ bytes
    → bytes_in shares (take (i + 1) pieces) ≡ bytes_in shares (take i pieces) ++ bytes
in_more shares pieces i d bytes inside is =
    ap (bytes_in shares) (take_more pieces i d inside) ∙ in_push shares (take i pieces) (get_or pieces i d) ∙ ap
    (λ (list : List ℕ). bytes_in shares (take i pieces) ++ list) is
