-- The need, the room and the order of use are those of the history.
use Rattle.std.proofs.Common.{◌≡◌, ◌+◌, ◌-◌, List, min, ap, ◌∙◌, arith}
use Rattle.std.specs.Prelude.{filter_map}
use Rattle.blob_words.specs.declared.limits.Limits.{Limits}
use Rattle.recent_items.specs.Recent.{victims}
use Rattle.blob_model.specs.Builds.{builds}
use Rattle.blob_model.specs.Pieces.{Piece, pieces}
use Rattle.blob_model.specs.Tally.{memory, memory_of, disk, disk_of}
use Rattle.blob_model.specs.Victims.{with_length, pageable, recency, head_bytes}
use Rattle.blob_model.specs.Waits.{waits}
use Rattle.blob_model.specs.Session.{page_limit}
use Rattle.transcript_audit.proofs.starts.chosen.Goals as goal

pub returns : goal.returns
returns c = λ s h follows.
    let f = follows.follows in
    let limits : c.args.course.now.contents.limits ≡ s.limits = f.limits_are in
    let held : c.in_ok-memory.memory ≡ memory (page_limit s) h =
    c.in_ok-memory.ensures s h f ∙ ap (λ (list : List Piece). memory_of h (builds (page_limit s) h) list) (c.as_slice.ensures ∙ c.in_ok-list.ensures s h f) in
    let charged : c.in_ok-disk.disk ≡ disk (page_limit s) h =
    c.in_ok-disk.ensures s h f
    ∙ ap (λ (list : List Piece). disk_of h (builds (page_limit s) h) (pieces (page_limit s) h) list) (c.as_slice-2.ensures ∙ c.in_ok-list.ensures s h f) in
    let first : c.in_ok-head.head ≡ head_bytes (waits (page_limit s) h) = c.in_ok-head.ensures s h f in
    let most_memory : c.args.course.now.contents.limits.memory ≡ s.limits.memory = ap (λ (l : Limits). l.memory) limits in
    let most_disk : c.args.course.now.contents.limits.disk ≡ s.limits.disk = ap (λ (l : Limits). l.disk) limits in
    let most_page : c.args.course.now.contents.limits.page ≡ (page_limit s) = ap (λ (l : Limits). l.page) limits in
    let need : c.in_ok-need.need ≡ memory (page_limit s) h + head_bytes (waits (page_limit s) h) - s.limits.memory = omega arith in
    let most : c.min-most.result ≡ min (page_limit s) (s.limits.disk - disk (page_limit s) h) = omega arith in
    let free : c.in_ok-pageable.pageable ≡ pageable (page_limit s) h = c.in_ok-pageable.ensures s h f (c.as_slice-3.ensures ∙ c.in_ok-list.ensures s h f) in
    let recent : c.as_slice-5.result.now ≡ recency s.limits h =
    c.as_slice-5.ensures
    ∙ c.in_ok-recent.ensures
    ∙ ap (λ (list : List Piece). filter_map (with_length list) c.as_slice-uses.result.now) (c.as_slice-4.ensures ∙ free)
    ∙ ap (filter_map (with_length (pageable (page_limit s) h))) (c.as_slice-uses.ensures.value ∙ follows.uses_are) in
    c.in_ok-found.ensures ∙ (λ i. victims (need i) (most i) (recent i))
