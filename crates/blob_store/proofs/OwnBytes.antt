-- Own bytes are some of the bytes that parts name.
use Rattle.std.proofs.Common.{ℕ, ◌≤◌, List, [], ◌∷◌, length, arith}
use Rattle.std.proofs.lemmas.List.Sums.{sum_by-cons}
use Rattle.session_script.specs.declared.event.Part.{Part}
use Rattle.session_script.specs.declared.event.Part.TheVariants.{Embedded, Asked, FileRange, BlobRange, HandleRange}
use Rattle.blob_model.specs.Parts.{own_bytes, own_lengths, part_length, parts_length}

pub own_within : (parts : List Part) → own_bytes parts ≤ parts_length parts
own_within [] = omega arith
own_within (Embedded bytes ∷ parts) =
    let rest = own_within parts in
    let left = sum_by-cons (λ (x : ℕ). x) (length bytes) (own_lengths parts) in
    let right = sum_by-cons part_length (Embedded bytes) parts in
    omega (arith, rest, left, right)
own_within (Asked len ∷ parts) =
    let rest = own_within parts in
    let left = sum_by-cons (λ (x : ℕ). x) len (own_lengths parts) in
    let right = sum_by-cons part_length (Asked len) parts in
    omega (arith, rest, left, right)
own_within (FileRange name off len stamp ∷ parts) =
    let rest = own_within parts in
    let right = sum_by-cons part_length (FileRange name off len stamp) parts in
    omega (arith, rest, right)
own_within (BlobRange b off len ∷ parts) =
    let rest = own_within parts in
    let right = sum_by-cons part_length (BlobRange b off len) parts in
    omega (arith, rest, right)
own_within (HandleRange k off len ∷ parts) =
    let rest = own_within parts in
    let right = sum_by-cons part_length (HandleRange k off len) parts in
    omega (arith, rest, right)
