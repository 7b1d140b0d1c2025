-- Two tables of plans and two cuts into pieces, of the replay's plain store and of transport_plan, that agree. Own.
use Rattle.std.specs.Prelude.{ℕ, ◌≡◌, length, map, Some, true, false}
use Rattle.session_script.specs.declared.event.Part.{Part}
use Rattle.blob_words.specs.declared.limits.Limits.{Limits}
use Rattle.blob_words.specs.declared.plan.Plan.{Plan}
use Rattle.replay_run.specs.Builds.{Build, part_bytes}
use Rattle.replay_run.specs.Pieces.{Piece, build_pieces}
use Rattle.replay_run.specs.Plan.{plan_for}
use Rattle.transport_plan.specs.declared.input.PlanInput.{PlanInput}
use Rattle.transport_plan.specs.Plan.{plan_of}
use Rattle.transport_plan.specs.Spans.{piece_spans}

-- what the table of plans looks at, where all bytes are embedded, page files are empty and nobody waits
abbrev pub Embeds : PlanInput → Limits → ℕ → ℕ → Type 0
Embeds input l memory size =
    (input.limits ≡ l) × (input.embedded ≡ size) × (input.asked ≡ 0) × (input.memory_used ≡ memory) × (input.disk_used ≡ 0) × (input.paging ≡ true)
    × (input.waiting ≡ false)

-- a plan of the plain store is the plan of the table
abbrev pub PlansAgree : Type 0
PlansAgree = (input : PlanInput) (l : Limits) (memory size : ℕ) (plan : Plan) → Embeds input l memory size → plan_for l memory size ≡ Some plan → plan_of input
    ≡ plan

-- where a piece stands in its blob's own bytes
abbrev pub span_of : Piece → ℕ × ℕ
span_of piece = (piece.from, piece.len)

-- the pieces of a build stand at the spans of its parts
abbrev pub PiecesAgree : Type 0
PiecesAgree = (page : ℕ) (build : Build) → map span_of (build_pieces page build)
    ≡ piece_spans page 0 (map (λ (part : Part). length (part_bytes part)) build.parts)
