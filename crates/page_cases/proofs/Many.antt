-- What holds before the first page, and rows of many pieces.
use Rattle.std.proofs.Common.{◌≡◌, ℕ, ◌+◌, ◌<◌, Bool, true, false, cond, not, List, [], ◌∷◌, ◌++◌, Option, Some, None, length, map, nat_eq, refl, sym, ap, ◌∙◌, subst, arith, rules}
use Rattle.std.specs.Prelude.{IfSome, IsSomeAnd}
use Rattle.std.specs.Option.{option_map}
use Rattle.std.specs.List.{AllByRecursion, IsDistinct}
use Rattle.std.proofs.lemmas.Bool.{ne_eqb}
use Rattle.std.proofs.lemmas.List.{length-append}
use Rattle.std.proofs.lemmas.List.Sums.{sum_by_push}
use Rattle.std.proofs.lemmas.Map.Keys.{IsDistinct-cons, IsDistinct-head, IsDistinct-tail}
use Rattle.blob_words.specs.declared.number.PieceNo.{PieceNo}
use Rattle.item_shares.specs.declared.item.Item.TheVariants.{Memory}
use Rattle.item_shares.specs.declared.shares.Share.{Share}
use Rattle.item_shares.specs.Shares.{share_at, share_of, Changes}
use Rattle.page_disk.specs.declared.change.Change.{Change}
use Rattle.page_files.specs.declared.held.Held.{Held}
use Rattle.page_files.specs.declared.job.Job.{Job}
use Rattle.page_files.specs.Pieces.{named, without}
use Rattle.page_files.specs.Items.{IsMemoryIn, IsMemoryOf}
use Rattle.page_files.specs.Files.{left_of, struck, Agrees}
use Rattle.page_files.proofs.Lists.{all_then}
use Rattle.page_files.proofs.Pages.{all_push}
use Rattle.page_cases.specs.Moves.{IsRow}
use Rattle.page_cases.specs.Runs.{piece_no}

-- no pages agree with no changes
pub agrees_none : Agrees [] []
agrees_none = record {
  standing = λ page. refl;
  above = λ page past. refl;
}

pub agrees_fresh : (told : Option (List Change)) → IfSome told (λ changes. changes ≡ []) → IfSome told (Agrees [])
agrees_fresh None fresh = tt
agrees_fresh (Some changes) fresh = subst (Agrees []) (sym fresh) agrees_none

one_apart : (n : ℕ) → IsDistinct nat_eq (n ∷ [])
unfolding IsDistinct
one_apart n = search rules

-- a greater number is apart from those before
apart_push : (xs : List ℕ) (n : ℕ) → AllByRecursion (λ x. x < n) xs → IsDistinct nat_eq xs → IsDistinct nat_eq (xs ++ n ∷ [])
apart_push [] n below apart = one_apart n
apart_push (x ∷ xs) n below apart =
    let less : x < n = below.0 in
    IsDistinct-cons nat_eq x (xs ++ n ∷ []) (all_push (λ y. nat_eq x y ≡ false) xs n (IsDistinct-head nat_eq x xs apart)
    (ne_eqb x n (λ same. omega (arith, less, same)))) (apart_push xs n below.1 (IsDistinct-tail nat_eq x xs apart))

map_push : {X Y : Type 0} (f : X → Y) (xs : List X) (y : X) → map f (xs ++ y ∷ []) ≡ map f xs ++ f y ∷ []
map_push f [] y = refl
map_push f (x ∷ xs) y = ap (λ rest. f x ∷ rest) (map_push f xs y)

-- an item stays where a vacant slot is filled
module _ (old new : List (Option Share)) (slot : ℕ) (share : Option Share) (vacant : share_at old slot ≡ None) (changes : Changes old new slot share) where
  stays_memory : (held : Held) → IsMemoryIn old held → IsMemoryIn new held
  stays_memory held is = subst (λ (one : Option Share). IsSomeAnd (option_map (λ (share : Share). share.item) one) (IsMemoryOf held))
      (sym (changes.others held.slot apart)) is
    where
      apart : held.slot ≡ slot → ⊥
      apart same = subst (λ (one : Option Share). IsSomeAnd (option_map (λ (share : Share). share.item) one) (IsMemoryOf held))
          (ap (share_at old) same ∙ vacant) is

  all_stay : (pieces : List Held) → AllByRecursion (IsMemoryIn old) pieces → AllByRecursion (IsMemoryIn new) pieces
  all_stay pieces all = all_then (IsMemoryIn old) (IsMemoryIn new) stays_memory pieces all

pub row_none : (shares : List (Option Share)) → IsRow 0 shares []
unfolding IsDistinct
row_none shares = record {
  count = refl;
  below = tt;
  apart = tt;
  long = tt;
  sum = refl;
  items = tt;
}

-- one piece more
pub row_push : (old new : List (Option Share)) (slot n : ℕ) (bytes : List ℕ) (pieces : List (PieceNo × ℕ × ℕ)) → IsRow n old pieces → share_at old slot ≡ None
    → Changes old new slot (Some (share_of (Memory (piece_no n) bytes) 1)) → length bytes ≡ 1 → IsRow (n + 1) new (pieces ++ (piece_no n, slot, 1) ∷ [])
row_push old new slot n bytes pieces row vacant changes one = record {
  count = omega (arith, row.count, length-append pieces ((piece_no n, slot, 1) ∷ []));
  below = subst (AllByRecursion (λ number. number < n + 1)) (sym (map_push (λ (piece : PieceNo × ℕ × ℕ). piece.0.0) pieces (piece_no n, slot, 1)))
      (all_push (λ number. number < n + 1) (map (λ (piece : PieceNo × ℕ × ℕ). piece.0.0) pieces) n
      (all_then (λ number. number < n) (λ number. number < n + 1) (λ number less. omega (arith, less)) (map (λ (piece : PieceNo × ℕ × ℕ). piece.0.0) pieces)
      row.below) (omega arith));
  apart = subst (IsDistinct nat_eq) (sym (map_push (λ (piece : PieceNo × ℕ × ℕ). piece.0.0) pieces (piece_no n, slot, 1)))
      (apart_push (map (λ (piece : PieceNo × ℕ × ℕ). piece.0.0) pieces) n row.below row.apart);
  long = all_push (λ (piece : PieceNo × ℕ × ℕ). 0 < piece.2) pieces (piece_no n, slot, 1) row.long (omega arith);
  sum = omega (arith, row.sum, sum_by_push (λ (piece : PieceNo × ℕ × ℕ). piece.2) pieces (piece_no n, slot, 1));
  items = subst (AllByRecursion (IsMemoryIn new)) (sym (map_push named pieces (piece_no n, slot, 1)))
      (all_push (IsMemoryIn new) (map named pieces) (named (piece_no n, slot, 1))
      (all_stay old new slot (Some (share_of (Memory (piece_no n) bytes) 1)) vacant changes (map named pieces) row.items)
      (subst (λ (share : Option Share). IsSomeAnd (option_map (λ (one : Share). one.item) share) (IsMemoryOf (named (piece_no n, slot, 1))))
      (sym changes.changed) (refl, one)));
}

all_without : (P : Held → Type 0) (piece : PieceNo) (pieces : List Held) → AllByRecursion P pieces → AllByRecursion P (without piece pieces)
all_without P piece [] all = tt
all_without P piece (held ∷ pieces) all = by (not (nat_eq piece.0 held.piece.0)) (all_without P piece pieces all.1)
  where
    by : (keeps : Bool) → AllByRecursion P (without piece pieces) → AllByRecursion P (cond keeps (held ∷ without piece pieces) (without piece pieces))
    by true rest = (all.0, rest)
    by false rest = rest

-- what is left after a piece was struck was there before
pub all_struck : (P : Held → Type 0) (piece : PieceNo) (job : Option Job) → AllByRecursion P (left_of job)
    → AllByRecursion P (left_of (option_map (struck piece) job))
all_struck P piece None all = all
all_struck P piece (Some job) all = all_without P piece job.pieces all
