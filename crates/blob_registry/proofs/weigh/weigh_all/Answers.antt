use Rattle.std.proofs.Common.{◌∙◌, ◌++◌, [], ℕ, ◌+◌, ◌-◌, ◌<◌, List, length, sym, ap, subst, arith}
use Rattle.blob_words.specs.declared.bounds.TheConstants.{MOST_BLOBS}
use Rattle.blob_entries.specs.Book.{Book, entry_at}
use Rattle.blob_entries.specs.Leaving.{gone_views, lives_at}
use Rattle.blob_registry.specs.Lists.{turned}
use Rattle.blob_registry.proofs.Going.{gone_more}
use Rattle.blob_registry.proofs.Putting.{first_none, first_some, under_bound}
use Rattle.blob_registry.proofs.Sweeping.{swept_end, sweeps_down, sweeps_to, Sweeps}
use Rattle.blob_registry.proofs.weigh.weigh_all.Goals as goal

pub weigh-requires-clause-inside : goal.weigh-requires-clause-inside
weigh-requires-clause-inside c =
    let so_far = c.loop-round.invariant in
    let first = first_some c.loop-round.work.weighs c.in-Some.place (sym c.in-Some.ensures) in
    let under = under_bound c.loop-round.work.weighs c.in-Some.place so_far.bound so_far.kept.weighs first.0 first.1 so_far.above in
    omega (arith, under, so_far.enough, so_far.size)

pub loop-round-preserved : goal.loop-round-preserved
loop-round-preserved c =
    let so_far = c.loop-round.invariant in
    let said = c.in_ok-weigh.ensures in
    let old : Book = c.args.table.now in
    let now : Book = c.loop-round.table in
    let place : ℕ = c.in-Some.place in
    let number : ℕ = MOST_BLOBS - 1 - place in
    let first = first_some c.loop-round.work.weighs place (sym c.in-Some.ensures) in
    let under = under_bound c.loop-round.work.weighs place so_far.bound so_far.kept.weighs first.0 first.1 so_far.above in
    let inside : number < length now.entries = omega (arith, under, so_far.enough, so_far.size, so_far.sound.sized) in
    let few = so_far.kept.few in
    let here = sweeps_to old now (number + 1) so_far.bound c.loop-round.names so_far.views so_far.sound so_far.sweeps (omega (arith, under))
    (omega (arith, so_far.enough, so_far.size, so_far.sound.sized))
    (λ k above below. so_far.kept.fine k (omega (arith, below, so_far.enough, so_far.size, so_far.sound.sized, few))
    (first.2 (turned k) (omega (arith, above, under, below, so_far.enough, so_far.size, so_far.sound.sized, few, first.0, so_far.kept.weighs)))) in
    let down = sweeps_down old now c.weigh.new.table number c.loop-round.names so_far.views so_far.sound here inside said.weighed.goes.leaves in
    record {
      bound = number;
      views = so_far.views ++ gone_views (lives_at now number) (entry_at now.entries number);
      enough = omega (arith, under, so_far.enough);
      sweeps = subst (λ (names : List ℕ). Sweeps old c.weigh.new.table number names
          (so_far.views ++ gone_views (lives_at now number) (entry_at now.entries number))) (sym said.weighed.goes.noted) down;
      lets_go = gone_more so_far.views (gone_views (lives_at now number) (entry_at now.entries number)) c.args.shares.now c.loop-round.shares
          c.weigh.new.shares [] c.loop-round.freed c.weigh.new.freed so_far.lets_go said.weighed.goes.lets_go;
      above = λ k le within. said.weighed.above k le within (λ apart. first.2 (turned k) (omega (arith, le, within, apart, first.0, so_far.kept.weighs)));
      kept = said.kept;
      sound = said.sound;
      counted = said.counted;
      size = so_far.size ∙ sym (ap length said.weighed.goes.leaves.names);
    }

pub returns-in_default-clause-swept : goal.returns-in_default-clause-swept
returns-in_default-clause-swept c =
    let so_far = c.loop-round.invariant in
    let old : Book = c.args.table.now in
    let now : Book = c.loop-round.table in
    let few = so_far.kept.few in
    let none = first_none c.loop-round.work.weighs (sym c.first.ensures ∙ c.in_default.is) in
    let here = sweeps_to old now 0 so_far.bound c.loop-round.names so_far.views so_far.sound so_far.sweeps (omega arith)
    (omega (arith, so_far.enough, so_far.size, so_far.sound.sized))
    (λ k above below. so_far.kept.fine k (omega (arith, below, so_far.enough, so_far.size, so_far.sound.sized, few))
    (none (turned k) (omega (arith, so_far.kept.weighs)))) in
    swept_end old now c.loop-round.names so_far.views c.args.shares.now c.loop-round.shares c.loop-round.freed here so_far.lets_go
