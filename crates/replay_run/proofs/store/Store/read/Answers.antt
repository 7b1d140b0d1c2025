-- The reader is opened at the range that was asked for.
use Rattle.std.proofs.Common.{◌≡◌, ℕ, ◌≤◌, true, List, [], ◌∷◌, ◌++◌, Some, sym, ap, ◌∙◌, subst}
use Rattle.answer_text.specs.declared.answer.Answer.TheVariants as answers
use Rattle.replay_run.specs.declared.store.reader.Reader.{Reader}
use Rattle.replay_run.specs.Builds.{size_of}
use Rattle.replay_run.specs.Readers.{range_end}
use Rattle.replay_run.specs.Live.{is_spawned, has_handle, is_live}
use Rattle.replay_run.proofs.LookupLemmas.{live-handle}
use Rattle.replay_run.proofs.OwnLemmas.{read-opened, read-free, read-inside}
use Rattle.replay_run.proofs.ReaderLemmas.{kept-opened}
use Rattle.replay_run.proofs.store.Store.read.Goals as goal

pub returns : goal.returns
returns c l h stands =
    let s = c.args.self.now in
    let spawned : is_spawned h c.args.renderer.0 ≡ true = sym (c.is_spawned.ensures l h stands) ∙ c.if-not-is_spawned.false in
    let holds : has_handle h c.args.renderer c.args.name ≡ true = sym (c.has_handle.ensures l h stands) ∙ c.if-not-has_handle.false in
    let alive : is_live h c.args.name ≡ true = live-handle h c.args.renderer c.args.name holds in
    let size : c.size_of-size.result ≡ size_of h c.args.name = c.size_of-size.ensures l h stands alive in
    let reader = c.in-Some.ensures.reader l h stands alive in
    let unused = read-free h c.args.renderer c.args.name spawned c.args.number c.args.off c.args.len reader.0 in
    let inside = read-inside h c.args.renderer c.args.name spawned c.args.number c.args.off c.args.len reader.0 in
    let fits : range_end c.size_of-size.result c.args.off c.args.len ≤ size_of h c.args.name =
    subst (λ (n : ℕ). range_end n c.args.off c.args.len ≤ size_of h c.args.name) (sym size) inside in
    let new = reader.1 ∙ ap (λ (n : ℕ). record { number = c.args.number; blob = c.args.name; place = c.args.off; end = range_end n c.args.off c.args.len })
    (sym size) in (
      read-opened h c.args.renderer c.args.name spawned c.args.number c.args.off c.args.len holds reader.0
          ∙ ap (λ (n : ℕ). Some (answers.Opened c.args.number n [])) (sym size)
          ∙ ap (λ (kind : List ℕ). Some (answers.Opened c.args.number c.size_of-size.result kind)) (sym c.new.ensures),
      kept-opened l s h c.args.renderer c.args.number c.args.name c.args.off c.args.len c.size_of-size.result c.new.result stands alive unused fits
          c.push.new.self
          (c.in_ok-push.ensures.ok ∙ ap (λ (each : Reader). s.readers ++ each ∷ []) new),
    )
