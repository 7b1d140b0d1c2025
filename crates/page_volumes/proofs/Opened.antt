-- The open write of what is kept, as the group's.
use Rattle.std.proofs.Common.{◌≡◌, true, ℕ, ◌+◌, ◌≤◌, Some, None, Option, arith, refl}
use Rattle.std.specs.Prelude.{IsSomeAnd}
use Rattle.std.specs.Option.{option_map}
use Rattle.page_disk.specs.Changes.{OpenWrite}
use Rattle.page_volumes.specs.declared.members.Members.{Members}
use Rattle.page_volumes.specs.declared.writing.Writing.{Writing}
use Rattle.page_volumes.specs.Seen.{Seen}
use Rattle.page_volumes.specs.Invariants.{Keeps}
use Rattle.page_volumes.specs.Plain.{blank, of_members, open_of, plain}
use Rattle.page_volumes.specs.Sound.{is_sound, no_write}
use Rattle.page_volumes.proofs.Goods.{keeps_as, keeps_of, parts_of, Good}

pub closed_writing : (write : Option Writing) → option_map open_of write ≡ None → write ≡ None
closed_writing None closed = refl
closed_writing (Some write) closed = cc closed

pub open_writing : (P : OpenWrite → Type 0) (write : Option Writing) → IsSomeAnd (option_map open_of write) P → IsSomeAnd write (λ write. P (open_of write))
open_writing P None is = absurd is
open_writing P (Some write) is = is

pub no_fits : (count : ℕ) → no_write.came + count ≤ no_write.len → ⊥
no_fits count fits = omega arith

pub no_whole : no_write.came ≡ no_write.len → ⊥
no_whole whole = omega arith

-- what an array keeps, of its volumes as they are seen
pub good_of : {X : Type 0} (seen : X → Seen) (members : Members X) → Keeps (plain members) → is_sound (of_members seen members) ≡ true
    → Good (of_members seen members)
good_of seen members keeps sound = parts_of (of_members seen members) (keeps_as (λ _. blank) seen members keeps) sound

pub plain_of : {X : Type 0} (seen : X → Seen) (members : Members X) → Good (of_members seen members) → Keeps (plain members)
plain_of seen members good = keeps_as seen (λ _. blank) members (keeps_of (of_members seen members) good)
