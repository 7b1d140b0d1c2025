-- How the bytes of a build come to the store. Own.
use Rattle.std.specs.Prelude.{ℕ, ◌+◌, ◌==◌, ◌&&◌, Option, None, Some, nat_lt, nat_le, if◌then◌else◌}
use Rattle.blob_words.specs.declared.limits.Limits.{Limits}
use Rattle.blob_words.specs.declared.plan.Plan.{Plan}
use Rattle.blob_words.specs.declared.plan.Plan.TheVariants as plans

-- the plan for so many own bytes beside those in memory: none, or inline where they needn't go to files, are few enough and fit in memory; no other plan is
-- built yet
abbrev pub plan_for : Limits → ℕ → ℕ → Option Plan
plan_for l memory size =
    if size == 0 then Some plans.None else (if nat_lt l.big size && nat_le size l.disk then None
    else (if nat_le size l.inline_max && nat_le (memory + size) l.memory then Some plans.Inline else None))
