use Rattle.std.proofs.Common.{◌∙◌, ℕ, sym, subst, arith, length}
use Rattle.blob_entries.specs.Book.{Book}
use Rattle.blob_registry.specs.Lists.{list_at}
use Rattle.blob_registry.specs.Numbers.{is_among, AreBelow}
use Rattle.blob_registry.specs.Work.{Enters}
use Rattle.blob_registry.proofs.Registering.{kept_below, kept_pushed, kept_rising, kept_withdrawn, new_below}
use Rattle.blob_registry.proofs.Striking.{is_err_then, is_ok_then, rising_with}
use Rattle.blob_registry.proofs.registry.push.Goals as goal

pub enter-requires-clause-rising : goal.enter-requires-clause-rising
enter-requires-clause-rising c = kept_rising c.args.table.now c.args.work.now c.requires.kept

pub enter-requires-clause-above : goal.enter-requires-clause-above
enter-requires-clause-above c = λ other. subst (λ (n : ℕ). AreBelow n (list_at c.args.work.now.dependents.items other)) (sym c.len-number.ensures.entries)
    (kept_below c.args.table.now c.args.work.now c.requires.kept other)

pub enter-requires-clause-sources : goal.enter-requires-clause-sources
enter-requires-clause-sources c =
    let table : Book = c.args.table.now in
    rw (c.len-number.ensures.entries, c.requires.sources) (new_below table.names table.entries c.args.entry c.requires.sound c.requires.apart)

pub withdraw-requires-clause-sources : goal.withdraw-requires-clause-sources
withdraw-requires-clause-sources c =
    let table : Book = c.args.table.now in
    rw (c.len-number.ensures.entries, c.requires.sources) (new_below table.names table.entries c.args.entry c.requires.sound c.requires.apart)

pub withdraw-requires-clause-rising : goal.withdraw-requires-clause-rising
withdraw-requires-clause-rising c = λ other.
    rw (c.in_ok-enter.ensures.ok.entered other)
    (rising_with (is_among other c.args.sources.now) c.len-number.result (list_at c.args.work.now.dependents.items other)
    (kept_rising c.args.table.now c.args.work.now c.requires.kept other)
    (subst (λ (n : ℕ). AreBelow n (list_at c.args.work.now.dependents.items other)) (sym c.len-number.ensures.entries)
    (kept_below c.args.table.now c.args.work.now c.requires.kept other)))

pub returns-then-is_err-clause-kept : goal.returns-then-is_err-clause-kept
returns-then-is_err-clause-kept c =
    let table : Book = c.args.table.now in
    let same = is_err_then c.push.result (sym c.is_err.ensures.value ∙ c.if-is_err.true) c.push.ensures.err in
    let enters : Enters c.args.work.now c.enter.new.self (length table.entries) c.args.sources.now = subst
    (λ (n : ℕ). Enters c.args.work.now c.enter.new.self n c.args.sources.now) c.len-number.ensures.entries c.in_ok-enter.ensures.ok in
    rw same (kept_withdrawn table c.args.work.now c.enter.new.self c.withdraw.new.self c.args.sources.now c.requires.kept enters c.withdraw.ensures.looks
    c.withdraw.ensures.weighs
    (rw (← c.len-number.ensures.entries) c.withdraw.ensures.strikes))

pub returns-clause-kept : goal.returns-clause-kept
returns-clause-kept c =
    let table : Book = c.args.table.now in
    let is = is_ok_then c.push.result (sym c.is_err.ensures.value ∙ c.if-is_err.false) c.push.ensures.ok in
    let enters : Enters c.args.work.now c.enter.new.self (length table.entries) c.args.sources.now = subst
    (λ (n : ℕ). Enters c.args.work.now c.enter.new.self n c.args.sources.now) c.len-number.ensures.entries c.in_ok-enter.ensures.ok in
    let kept = kept_pushed table c.args.name c.args.entry c.args.work.now c.enter.new.self c.args.sources.now c.requires.all c.requires.sound
    c.requires.sources c.requires.apart c.requires.kept
    (omega (arith, c.requires.room, c.requires.all.sized)) enters in
    rw (is, c.weigh.ensures, c.look_at.ensures, c.len-number.ensures.entries) kept
