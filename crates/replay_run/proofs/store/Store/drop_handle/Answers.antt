-- The blob stays where somebody reads it, and goes where nobody does.
use Rattle.std.proofs.Common.{◌≡◌, true, false, sym, ◌∙◌}
use Rattle.replay_run.specs.Live.{is_spawned, has_handle, is_read}
use Rattle.replay_run.specs.Readers.{readers}
use Rattle.replay_run.proofs.LookupLemmas.{is_read-rows}
use Rattle.replay_run.proofs.OwnLemmas.{drop-good}
use Rattle.replay_run.proofs.DropLemmas.{kept-freed, kept-removed}
use Rattle.replay_run.proofs.store.Store.drop_handle.Goals as goal

pub returns-then-reads : goal.returns-then-reads
returns-then-reads c l h stands =
    let s = c.args.self.now in
    let spawned : is_spawned h c.args.renderer.0 ≡ true = sym (c.is_spawned.ensures l h stands) ∙ c.if-not-is_spawned.false in
    let holds : has_handle h c.args.renderer c.args.name ≡ true = sym (c.has_handle.ensures l h stands) ∙ c.if-not-has_handle.false in
    let read : is_read (readers h) c.args.name ≡ true = sym (is_read-rows l s h stands c.args.name) ∙ sym c.reads.ensures ∙ c.if-reads.true in
    (drop-good h c.args.renderer c.args.name spawned holds, kept-freed l s h c.args.renderer c.args.name stands read c.free.new.self c.free.ensures)

pub returns : goal.returns
returns c l h stands =
    let s = c.args.self.now in
    let spawned : is_spawned h c.args.renderer.0 ≡ true = sym (c.is_spawned.ensures l h stands) ∙ c.if-not-is_spawned.false in
    let holds : has_handle h c.args.renderer c.args.name ≡ true = sym (c.has_handle.ensures l h stands) ∙ c.if-not-has_handle.false in
    let unread : is_read (readers h) c.args.name ≡ false = sym (is_read-rows l s h stands c.args.name) ∙ sym c.reads.ensures ∙ c.if-reads.false in
    (drop-good h c.args.renderer c.args.name spawned holds, kept-removed l s h c.args.renderer c.args.name stands unread c.remove.new.self c.remove.ensures)
