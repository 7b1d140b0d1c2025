-- The blob goes last, with its name.
use Rattle.std.proofs.Common.{◌≡◌, ℕ, ◌+◌, ◌==◌, false, List, [], ◌∷◌, ◌++◌, Some, cond, ap, ◌∙◌}
use Rattle.std.specs.Prelude.{flat_map}
use Rattle.std.specs.List.{list_any}
use Rattle.blob_words.specs.declared.limits.Limits.{Limits}
use Rattle.replay_run.specs.Builds.{part_bytes}
use Rattle.replay_run.specs.Measure.{piece_total}
use Rattle.replay_run.specs.Shelf.{Shelved}
use Rattle.replay_run.proofs.LookupLemmas.{is_built-keys}
use Rattle.replay_run.proofs.KeptLemmas.{kept-build}
use Rattle.replay_run.proofs.store.Store.keep.Goals as goal

pub returns-clause-ok : goal.returns-clause-ok
returns-clause-ok c l h kind stands new =
    let s = c.args.self.now in
    let free : list_any (λ known. c.number-number.result == known) s.names.keys ≡ false =
    ap (λ n. list_any (λ known. n == known) s.names.keys) c.number-number.ensures ∙ is_built-keys l s h stands c.args.name ∙ new in
    let keys : c.insert.new.self.keys ≡ s.names.keys ++ c.number-number.result ∷ [] =
    c.in_ok-insert.ensures.keys ∙ ap (λ b. cond b s.names.keys (s.names.keys ++ c.number-number.result ∷ [])) free in
    let counted = c.requires.counted ∙ ap (λ (each : Limits). piece_total each.page c.args.parts.now) stands.same_limits in
    let with : List ℕ → ℕ → Shelved = λ bytes pieces.
    record {
      blobs = s.shelf.blobs ++ record { name = c.args.name; holder = Some c.args.renderer; bytes = bytes; pieces = pieces } ∷ [];
      pieces = s.shelf.pieces
          + pieces;
    } in
    kept-build l s h c.args.renderer c.args.name kind c.args.parts.now c.args.admitted.plan stands new c.insert.new.self c.push.new.self
    (keys ∙ ap (λ n. s.names.keys ++ n ∷ []) c.number-number.ensures)
    (c.in_ok-push.ensures.ok ∙ ap (λ bytes. with bytes c.args.admitted.pieces) c.in_ok-bytes.ensures ∙ ap (with (flat_map part_bytes c.args.parts.now)) counted)
