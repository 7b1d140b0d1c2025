-- The table of plans: how the bytes of a build come to the store. Own.
use Rattle.std.specs.Prelude.{ℕ, ◌≡◌, ◌≤◌, ◌<◌, ⊤, ◌+◌, ◌==◌, ◌&&◌, Bool, not, nat_lt, nat_le, if◌then◌else◌}
use Rattle.std.specs.Int.{div_ceil}
use Rattle.blob_words.specs.declared.bounds.TheConstants.{MOST_PIECES, MOST_SEGMENTS}
use Rattle.blob_words.specs.declared.plan.Plan.{Plan}
use Rattle.blob_words.specs.declared.plan.Plan.TheVariants as plans
use Rattle.blob_words.specs.declared.counted.Counted.TheVariants.{Segments, Pieces}
use Rattle.transport_plan.specs.declared.input.PlanInput.{PlanInput}

-- the bytes of the blob's own, embedded and asked for
abbrev pub own_bytes : PlanInput → ℕ
own_bytes input = input.embedded + input.asked

-- a file plan is possible: paging is on and page files have room for the own bytes
abbrev pub has_file_room : PlanInput → Bool
has_file_room input = input.paging && nat_le (input.disk_used + own_bytes input) input.limits.disk

-- the own bytes all stand in the line, are few enough, nobody waits, and memory has room for them
abbrev pub fits_inline : PlanInput → Bool
fits_inline input =
    (input.asked == 0) && nat_le (own_bytes input) input.limits.inline_max && not input.waiting && nat_le (input.memory_used + own_bytes input)
    input.limits.memory

-- a file plan has a segment for each piece, and a session so many at most
abbrev pub file_plan : ℕ → Plan
file_plan pieces = if nat_lt MOST_PIECES pieces then plans.TooMany Pieces else plans.File pieces

-- a build has so many segments at most
abbrev pub shared_plan : ℕ → Plan
shared_plan segments = if nat_lt MOST_SEGMENTS segments then plans.TooMany Segments else plans.Shared segments

-- the first plan that applies
abbrev pub plan_of : PlanInput → Plan
plan_of input =
    if own_bytes input == 0 then plans.None
    else (if nat_lt input.limits.memory (own_bytes input) && not (has_file_room input) then plans.OutOfMemory
    else (if nat_lt input.limits.big (own_bytes input) && has_file_room input then file_plan input.pieces
    else (if fits_inline input then plans.Inline
    else shared_plan (div_ceil (own_bytes input) input.limits.segment))))

-- what a plan promises: its number is that of its segments, and the own bytes fit where they go (a shared plan's at the latest when they are alone in memory)
abbrev pub FitsPlan : PlanInput → Plan → Type 0
FitsPlan input plans.None = own_bytes input ≡ 0
FitsPlan input plans.Inline = (input.asked ≡ 0) × (input.memory_used + own_bytes input ≤ input.limits.memory)
FitsPlan input (plans.Shared n) = (n ≡ div_ceil (own_bytes input) input.limits.segment) × (n ≤ MOST_SEGMENTS) × (own_bytes input ≤ input.limits.memory)
FitsPlan input (plans.File n) = (n ≡ input.pieces) × (n ≤ MOST_PIECES) × (input.disk_used + own_bytes input ≤ input.limits.disk)
FitsPlan input plans.OutOfMemory = input.limits.memory < own_bytes input
FitsPlan input (plans.TooMany what) = ⊤
