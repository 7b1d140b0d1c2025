-- What the table of plans looks at, field by field.
use Rattle.std.proofs.Common.{◌≡◌, ℕ, ◌-◌, Bool, List, length, ap, ◌∙◌, arith}
use Rattle.std.specs.Prelude.{nat_lt}
use Rattle.blob_words.specs.declared.limits.Limits.{Limits}
use Rattle.transport_plan.specs.Spans.{piece_count}
use Rattle.blob_model.specs.Builds.{builds}
use Rattle.blob_model.specs.Parts.{own_bytes, own_lengths, embedded}
use Rattle.blob_model.specs.Pieces.{Piece, pieces}
use Rattle.blob_model.specs.Reached.{reached}
use Rattle.blob_model.specs.Jobs.{paging}
use Rattle.blob_model.specs.Tally.{memory, memory_of, disk, disk_of}
use Rattle.blob_model.specs.Waits.{waits}
use Rattle.blob_model.specs.Session.{page_limit}
use Rattle.history_notions.proofs.contents.Contents.room.Goals as goal

pub returns : goal.returns
returns c = λ s h follows.
    let parts = c.args.parts.now in
    let at : c.as_slice-reached.result.now ≡ reached (page_limit s) h = c.as_slice-reached.ensures ∙ c.in_ok-list.ensures s h follows in
    let e0 : c.embedded_len-embedded.result ≡ length (embedded parts) = c.embedded_len-embedded.ensures in
    let e1 : c.saturating_sub-asked.result ≡ own_bytes parts - length (embedded parts) =
    omega (arith, c.saturating_sub-asked.ensures, c.own_bytes-own.ensures, c.embedded_len-embedded.ensures) in
    let e2 : c.in_ok-pieces.pieces ≡ piece_count (page_limit s) (own_lengths parts) =
    c.in_ok-pieces.ensures ∙ ap (λ (l : Limits). piece_count l.page (own_lengths parts)) follows.limits_are in
    let e3 : c.has_waiting-waiting.result ≡ nat_lt 0 (length (waits (page_limit s) h)) = c.has_waiting-waiting.ensures s h follows in
    let e4 : c.args.self.now.kept.paging ≡ paging h = follows.keeps.paging_is in
    let e5 : c.in_ok-memory.memory ≡ memory (page_limit s) h =
    c.in_ok-memory.ensures s h follows ∙ ap (λ (list : List Piece). memory_of h (builds (page_limit s) h) list) at in
    let e6 : c.in_ok-disk.disk ≡ disk (page_limit s) h =
    c.in_ok-disk.ensures s h follows ∙ ap (λ (list : List Piece). disk_of h (builds (page_limit s) h) (pieces (page_limit s) h) list) at in
    λ i. record {
      embedded = e0 i;
      asked = e1 i;
      pieces = e2 i;
      waiting = e3 i;
      paging = e4 i;
      memory_used = e5 i;
      disk_used = e6 i;
      limits = s.limits;
    }
