-- The blob goes where nobody reads or holds it.
use Rattle.std.proofs.Common.{sym, ap, ◌∙◌}
use Rattle.replay_run.specs.declared.store.reader.Reader.{Reader}
use Rattle.replay_run.proofs.CloseLemmas.{found_reader, closed-read, closed-held, closed-gone}
use Rattle.replay_run.proofs.store.Store.close.Goals as goal

pub returns-then-reads : goal.returns-then-reads
returns-then-reads c l h reader status stands is same =
    let s = c.args.self.now in
    let found = found_reader l s h c.args.number stands reader is in
    closed-read l s h c.args.number stands status found.0 found.1 c.args.name (ap (λ (each : Reader). each.blob) found.2 ∙ same) c.close.new.self
    c.close.ensures
    (sym c.reads.ensures ∙ c.if-reads.true)

pub returns-then-is_held : goal.returns-then-is_held
returns-then-is_held c l h reader status stands is same =
    let s = c.args.self.now in
    let found = found_reader l s h c.args.number stands reader is in
    closed-held l s h c.args.number stands status found.0 found.1 c.args.name (ap (λ (each : Reader). each.blob) found.2 ∙ same) c.close.new.self
    c.close.ensures
    (sym c.is_held.ensures ∙ c.if-is_held.true)

pub returns : goal.returns
returns c l h reader status stands is same =
    let s = c.args.self.now in
    let found = found_reader l s h c.args.number stands reader is in
    closed-gone l s h c.args.number stands status found.0 found.1 c.args.name (ap (λ (each : Reader). each.blob) found.2 ∙ same) c.close.new.self
    c.close.ensures
    (sym c.reads.ensures ∙ c.if-reads.false) (sym c.is_held.ensures ∙ c.if-is_held.false) c.remove.new.self c.remove.ensures
