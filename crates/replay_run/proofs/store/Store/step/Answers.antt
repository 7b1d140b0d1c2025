-- The step of a reader that is open, or of none.
use Rattle.std.proofs.Common.{◌≡◌, ◌+◌, ◌-◌, ◌==◌, false, min, length, take, drop, Some, refl, sym, ◌∙◌, ap, arith}
use Rattle.std.proofs.lemmas.Bool.{ne_eqb}
use Rattle.blob_words.specs.declared.status.Status.TheVariants as statuses
use Rattle.answer_text.specs.declared.answer.Answer.TheVariants as answers
use Rattle.replay_run.specs.declared.store.reader.Reader.{Reader}
use Rattle.replay_run.specs.Shelf.{blob_at, bytes_in}
use Rattle.replay_run.specs.Chunk.{left}
use Rattle.replay_run.proofs.StepLemmas.{kept-given}
use Rattle.replay_run.proofs.CloseLemmas.{found_reader, no_reader, live-found}
use Rattle.replay_run.proofs.ChunkLemmas.{step-no_reader, step-ended, step-given, chunk-bytes, chunk-length}
use Rattle.replay_run.proofs.store.Store.step.Goals as goal

pub returns-in_default : goal.returns-in_default
returns-in_default c l h stands = (
  step-no_reader l h c.args.number (no_reader l c.args.self.now h c.args.number stands (sym c.in_default.ensures)),
  record {
    same_limits = stands.same_limits;
    same_ended = stands.same_ended;
    same_renderers = stands.same_renderers;
    same_names = stands.same_names;
    same_blobs = stands.same_blobs;
    same_pieces = stands.same_pieces;
    same_readers = stands.same_readers;
    distinct = stands.distinct;
    inside = stands.inside;
    held = stands.held;
  },
)

pub returns-then-left-eq0 : goal.returns-then-left-eq0
returns-then-left-eq0 c l h stands =
    let reader = c.in-Some.found.now in
    let found = found_reader l c.args.self.now h c.args.number stands reader (sym c.in-Some.ensures) in
    let none : left found.0 ≡ 0 = ap (λ (each : Reader). each.end - each.place) found.2 ∙ sym c.left-left.ensures ∙ c.if-left-eq0.true in (
      step-ended l h c.args.number found.0 found.1 none,
      c.close.ensures l h reader statuses.Done stands (sym c.in-Some.ensures) refl,
    )

pub returns : goal.returns
returns c l h stands =
    let s = c.args.self.now in
    let reader = c.in-Some.found.now in
    let found = found_reader l s h c.args.number stands reader (sym c.in-Some.ensures) in
    let alive = live-found h c.args.number found.0 found.1 in
    let same : left found.0 ≡ c.left-left.result = ap (λ (each : Reader). each.end - each.place) found.2 ∙ sym c.left-left.ensures in
    let some : (left found.0 == 0) ≡ false = ne_eqb (left found.0) 0 (λ none. c.if-left-eq0.false (sym same ∙ none)) in
    let count : c.min-count.result ≡ min (left found.0) s.limits.chunk = c.min-count.ensures ∙ ap (λ n. min n s.limits.chunk) (sym same) in
    let asked = bytes_in (blob_at s.shelf.blobs found.0.blob) in
    let given : c.in_ok-bytes.bytes ≡ take c.min-count.result (drop found.0.place asked) =
    c.in_ok-bytes.ensures.bytes ∙ ap (λ (each : Reader). take c.min-count.result (drop each.place (bytes_in (blob_at s.shelf.blobs each.blob)))) (sym found.2)
    in
    let many : length c.in_ok-bytes.bytes ≡ c.min-count.result =
    ap length given ∙ chunk-length l s h c.args.number stands found.0 found.1 alive c.min-count.result (omega (arith, count)) in
    let place = c.place_after.ensures ∙ ap (λ (each : Reader). each.place + c.min-count.result) (sym found.2) ∙ ap (λ n. found.0.place + n) (sym many) in (
      step-given l h c.args.number found.0 found.1 some
          ∙ ap (λ bytes. Some (answers.Given c.args.number bytes))
          (chunk-bytes l s h c.args.number stands found.0 found.1 alive ∙ ap (λ n. take n (drop found.0.place asked)) (sym count) ∙ sym given),
      kept-given l s h c.args.number c.in_ok-bytes.bytes found.0 stands found.1 c.place_after.result c.place.new.self place c.place.ensures,
    )
