-- A worked session. Own.
use Rattle.std.specs.Prelude.{ℕ, List, [], ◌∷◌, Some, codes}
use Rattle.std.proofs.Common.{lit<, lit≤}
use Rattle.session_script.specs.declared.event.Event.{Event}
use Rattle.session_script.specs.declared.event.Event.TheVariants as events
use Rattle.session_script.specs.declared.event.Part.TheVariants as parts
use Rattle.blob_words.specs.declared.limits.Limits.{Limits}
use Rattle.blob_words.specs.declared.number.RendererId.{RendererId}
use Rattle.blob_words.specs.declared.number.ReaderId.{ReaderId}
use Rattle.blob_words.specs.declared.plan.Plan.TheVariants as plans
use Rattle.answer_text.specs.declared.answer.Answer.{Answer}
use Rattle.answer_text.specs.declared.answer.Answer.TheVariants as answers
use Rattle.answer_text.specs.declared.group.Group.{Group}
use Rattle.replay_run.specs.Legal.{opening}

-- limits 64 64 32 16 4 8 2
abbrev pub row_limits : Limits
row_limits = record {
  memory = 64;
  disk = 64;
  big = 32;
  inline_max = 16;
  segment = 4;
  page = 8;
  chunk = 2;
  some_memory = lit< tt;
  memory_bound = lit≤ tt;
  disk_bound = lit≤ tt;
  some_big = lit< tt;
  big_bound = lit≤ tt;
  inline_bound = lit≤ tt;
  some_segment = lit< tt;
  segment_bound = lit≤ tt;
  some_page = lit< tt;
  page_bound = lit≤ tt;
  page_fits = lit≤ tt;
  some_chunk = lit< tt;
  chunk_bound = lit≤ tt;
}

abbrev pub renderer : RendererId
renderer = record { 0 = 1 }

abbrev pub reader : ReaderId
reader = record { 0 = 7 }

-- a line with its answers, the pieces and the bytes in memory after it
abbrev pub group : Event → List Answer → ℕ → ℕ → Group
group event answers pieces memory = record { event = event; answers = answers; tally = record { pieces = pieces; memory = memory; files = 0; disk = 0 } }

-- spawn, build of the bytes abc, read of its three bytes, two steps of at most two bytes, end; the last byte given and the memory of the build's tally are open
abbrev pub after_limits : ℕ → ℕ → List Group
after_limits last memory =
    group (events.Spawn renderer (codes "https://a.test")) (answers.Good ∷ []) 0 0
    ∷ group (events.Build renderer 1 [] (parts.Embedded (codes "abc") ∷ [])) (answers.Planned plans.Inline ∷ answers.Done 1 ∷ []) 1 memory
    ∷ group (events.Read renderer reader 1 0 (Some 3)) (answers.Opened reader 3 [] ∷ []) 1 3
    ∷ group (events.Step reader) (answers.Given reader (codes "ab") ∷ []) 1 3
    ∷ group (events.Step reader) (answers.Given reader (last ∷ []) ∷ []) 1 3
    ∷ group events.Finish (answers.Good ∷ []) 0 0
    ∷ []

-- the session behind its limits
abbrev pub session : ℕ → ℕ → List Group
session last memory = opening row_limits ∷ after_limits last memory
