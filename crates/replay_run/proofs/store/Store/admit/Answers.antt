-- The plan by the rules for a build.
use Rattle.std.proofs.Common.{◌≡◌, ℕ, ◌+◌, false, List, length, sym, ap, ◌∙◌, arith}
use Rattle.std.specs.Prelude.{flat_map}
use Rattle.std.specs.Option.{option_map}
use Rattle.std.proofs.lemmas.Bool.{leb-false}
use Rattle.session_script.specs.declared.event.Part.{Part}
use Rattle.blob_words.specs.declared.limits.Limits.{Limits}
use Rattle.blob_words.specs.declared.tally.Tally.{Tally}
use Rattle.answer_text.specs.declared.answer.Answer.TheVariants as answers
use Rattle.replay_run.specs.declared.store.Store.{Store}
use Rattle.replay_run.specs.History.{History}
use Rattle.replay_run.specs.Builds.{builds, is_built, part_bytes}
use Rattle.replay_run.specs.Measure.{byte_total, piece_total}
use Rattle.replay_run.specs.Pieces.{pieces, build_pieces, memory, tally}
use Rattle.replay_run.specs.Plan.{plan_for}
use Rattle.replay_run.specs.Stands.{Stands}
use Rattle.replay_run.proofs.PieceLemmas.{pieces_from-length}
use Rattle.replay_run.proofs.OwnLemmas.{build-pieces, build-plan}
use Rattle.replay_run.proofs.store.Store.admit.Goals as goal

-- the pieces that there would be
all_pieces : (l : Limits) (s : Store) (h : History) (name : ℕ) (parts : List Part) → Stands l s h
    → length (pieces l h) + length (build_pieces l.page (record { name = name; parts = parts })) ≡ s.shelf.pieces + piece_total s.limits.page parts
all_pieces l s h name parts stands =
    ap (λ n. n + length (build_pieces l.page (record { name = name; parts = parts }))) (sym stands.same_pieces)
    ∙ ap (λ n. s.shelf.pieces + n) (pieces_from-length l.page name 0 parts)
    ∙ ap (λ (each : Limits). s.shelf.pieces + piece_total each.page parts) (sym stands.same_limits)

-- the plan by the store's own numbers
plan_by : (l : Limits) (s : Store) (h : History) (parts : List Part) (counted : Tally) (size : ℕ) → Stands l s h → counted ≡ tally l h → size ≡ byte_total parts
    → plan_for s.limits counted.memory size ≡ plan_for l (memory l h) (length (flat_map part_bytes parts))
plan_by l s h parts counted size stands same sized =
    ap (λ (each : Limits). plan_for each counted.memory size) stands.same_limits ∙ ap (λ (each : Tally). plan_for l each.memory size) same ∙ ap
    (plan_for l (memory l h)) sized

pub returns-then-from-measure-gt65536-clause-plan : goal.returns-then-from-measure-gt65536-clause-plan
returns-then-from-measure-gt65536-clause-plan c l h renderer stands spawned =
    let s = c.args.self.now in
    let new : is_built h c.args.name ≡ false = sym (c.is_built.ensures l h stands) ∙ c.if-is_built.false in
    let few = leb-false 65536 (length (builds h)) (sym (c.has_all_blobs.ensures l h stands) ∙ c.if-has_all_blobs.false) in
    build-pieces l h renderer c.args.name c.args.parts.now spawned new few
    (omega (arith, all_pieces l s h c.args.name c.args.parts.now stands, c.in_ok-measure.ensures.2, c.pieces.ensures.pieces, c.from.ensures))

pub returns-clause-plan : goal.returns-clause-plan
returns-clause-plan c l h renderer stands spawned =
    let s = c.args.self.now in
    let new : is_built h c.args.name ≡ false = sym (c.is_built.ensures l h stands) ∙ c.if-is_built.false in
    let few = leb-false 65536 (length (builds h)) (sym (c.has_all_blobs.ensures l h stands) ∙ c.if-has_all_blobs.false) in
    build-plan l h renderer c.args.name c.args.parts.now spawned new few
    (omega (arith, all_pieces l s h c.args.name c.args.parts.now stands, c.in_ok-measure.ensures.2, c.pieces.ensures.pieces, c.from.ensures))
    ∙ ap (option_map answers.Planned)
    (
    sym (plan_by l s h c.args.parts.now c.tally-memory.result c.in_ok-measure.measure.size stands (c.tally-memory.ensures.model l h stands)
    c.in_ok-measure.ensures.0) ∙ sym c.in_ok-plan.ensures
    )
