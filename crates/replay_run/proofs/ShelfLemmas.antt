-- What holds of a shelf when blobs leave it.
use Rattle.std.proofs.Common.{◌≡◌, ℕ, ◌≤◌, ◌==◌, Bool, true, false, not, List, length, sum_by, refl, arith}
use Rattle.std.proofs.lemmas.List.Filters.{sum_by-filter_both}
use Rattle.replay_run.specs.declared.store.blob.Blob.{Blob}
use Rattle.replay_run.specs.Shelf.{IsWithin, without}

not_twice : (b : Bool) → b ≡ not (not b)
not_twice true = refl
not_twice false = refl

-- a part of some blobs has no more of what is counted
sum_by-without : (f : Blob → ℕ) (name : ℕ) (blobs : List Blob) → sum_by f (without name blobs) ≤ sum_by f blobs
sum_by-without f name blobs =
    omega (
      arith,
      sum_by-filter_both (λ (blob : Blob). not (name == blob.name)) (λ (blob : Blob). name == blob.name) (λ blob. not_twice (name == blob.name)) f
          blobs,
    )

pub IsWithin-without : (name : ℕ) (blobs : List Blob) (pieces : ℕ) → IsWithin (record { blobs = blobs; pieces = pieces })
    → IsWithin (record { blobs = without name blobs; pieces = pieces })
IsWithin-without name blobs pieces within = record {
  bytes = omega (arith, sum_by-without (λ (blob : Blob). length blob.bytes) name blobs, within.bytes);
  pieces = omega (arith, sum_by-without (λ (blob : Blob). blob.pieces) name blobs, within.pieces);
  ever = within.ever;
}
