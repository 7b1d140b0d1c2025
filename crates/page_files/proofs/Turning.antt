-- The items while pieces turn paged.
use Rattle.std.proofs.Common.{◌≡◌, ◌≢◌, ℕ, ◌==◌, Bool, true, false, cond, List, [], ◌∷◌, ◌++◌, Some, None, Option, refl, sym, ap, ◌∙◌, subst}
use Rattle.std.specs.Prelude.{IfSome, IsSomeAnd}
use Rattle.std.specs.Option.{option_map}
use Rattle.std.specs.List.{AllByRecursion}
use Rattle.std.proofs.lemmas.Bool.{eqb-true, eqb-false}
use Rattle.blob_words.specs.declared.number.PageNo.{PageNo}
use Rattle.item_shares.specs.declared.item.Item.{Item}
use Rattle.item_shares.specs.declared.item.Item.TheVariants.{Memory, Paged, Reserved, File, Range}
use Rattle.item_shares.specs.declared.shares.Share.{Share}
use Rattle.item_shares.specs.Shares.{Changes, HoldsPiece, paged_item, share_at, share_of}
use Rattle.page_files.specs.declared.held.Held.{Held}
use Rattle.page_files.specs.Items.{paged_share, turned, IsPieceIn}
use Rattle.page_files.proofs.Lists.{all_then}

-- what one piece does to a slot
abbrev pub turned_by : PageNo → Held → ℕ → Option Share → Option Share
turned_by page held slot share = cond (held.slot == slot) (option_map (paged_share page held.off) share) share

pub turned_push : (page : PageNo) (pieces : List Held) (held : Held) (slot : ℕ) (share : Option Share) → turned page (pieces ++ held ∷ []) slot share
    ≡ turned_by page held slot (turned page pieces slot share)
turned_push page [] held slot share = refl
turned_push page (first ∷ pieces) held slot share = turned_push page pieces held slot (turned_by page first slot share)

-- the change of one slot, where it held this
abbrev IsTurned : PageNo → Held → List (Option Share) → List (Option Share) → Option Share → Type 0
IsTurned page held old new found = IfSome found (λ share. Changes old new held.slot (Some (share_of (paged_item share.item page held.off) share.count)))

turned_at : (page : PageNo) (held : Held) (old new : List (Option Share)) (found : Option Share) → share_at old held.slot ≡ found
    → IsSomeAnd (option_map (λ (share : Share). share.item) found) HoldsPiece → IsTurned page held old new found
    → share_at new held.slot ≡ option_map (paged_share page held.off) (share_at old held.slot)
turned_at page held old new None is there changes = absurd there
turned_at page held old new (Some share) is there changes = changes.changed ∙ ap (option_map (paged_share page held.off)) (sym is)

others_at : (page : PageNo) (held : Held) (old new : List (Option Share)) (found : Option Share) → share_at old held.slot ≡ found
    → IsSomeAnd (option_map (λ (share : Share). share.item) found) HoldsPiece → IsTurned page held old new found
    → (slot : ℕ) → slot ≢ held.slot → share_at new slot ≡ share_at old slot
others_at page held old new None is there changes = absurd there
others_at page held old new (Some share) is there changes = changes.others

turned_slot : (page : PageNo) (held : Held) (old new : List (Option Share)) (slot : ℕ) (r : Bool) → (held.slot == slot) ≡ r
    → share_at new held.slot ≡ option_map (paged_share page held.off) (share_at old held.slot)
    → ((other : ℕ) → other ≢ held.slot → share_at new other ≡ share_at old other)
    → share_at new slot ≡ cond r (option_map (paged_share page held.off) (share_at old slot)) (share_at old slot)
turned_slot page held old new slot true is here others = let same : held.slot ≡ slot = eqb-true held.slot slot is in
    subst (λ n. share_at new n ≡ option_map (paged_share page held.off) (share_at old n)) same here
turned_slot page held old new slot false is here others = others slot (λ same. eqb-false held.slot slot is (sym same))

pub turned_step : (page : PageNo) (held : Held) (old new : List (Option Share)) → IsPieceIn old held → IsTurned page held old new (share_at old held.slot)
    → (slot : ℕ) → share_at new slot ≡ turned_by page held slot (share_at old slot)
turned_step page held old new there changes slot =
    turned_slot page held old new slot (held.slot == slot) refl (turned_at page held old new (share_at old held.slot) refl there changes)
    (others_at page held old new (share_at old held.slot) refl there changes)

-- a piece that turns paged is still a piece
paged_holds : (item : Item) (page : PageNo) (off : ℕ) → HoldsPiece item → HoldsPiece (paged_item item page off)
paged_holds (Memory piece bytes) page off holds = tt
paged_holds (Paged piece one start len) page off holds = tt
paged_holds (Reserved piece len) page off holds = tt
paged_holds (File name stamp start len) page off holds = absurd holds
paged_holds (Range slot start len) page off holds = absurd holds

holds_by : (page : PageNo) (off : ℕ) (r : Bool) (share : Option Share) → IsSomeAnd (option_map (λ (share : Share). share.item) share) HoldsPiece
    → IsSomeAnd (option_map (λ (share : Share). share.item) (cond r (option_map (paged_share page off) share) share)) HoldsPiece
holds_by page off r None holds = absurd holds
holds_by page off true (Some share) holds = paged_holds share.item page off holds
holds_by page off false (Some share) holds = holds

pub all_hold : (page : PageNo) (held : Held) (old new : List (Option Share)) → ((slot : ℕ) → share_at new slot ≡ turned_by page held slot (share_at old slot))
    → (pieces : List Held) → AllByRecursion (IsPieceIn old) pieces → AllByRecursion (IsPieceIn new) pieces
all_hold page held old new step pieces all =
    all_then (IsPieceIn old) (IsPieceIn new) (λ piece is. subst (λ (share : Option Share). IsSomeAnd (option_map (λ (one : Share). one.item) share) HoldsPiece)
    (sym (step piece.slot)) (holds_by page held.off (held.slot == piece.slot) (share_at old piece.slot) is)) pieces all
