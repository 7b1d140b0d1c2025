use Rattle.std.proofs.Common.{◌∙◌, ℕ, List, arith}
use Rattle.blob_registry.specs.Lists.{list_at}
use Rattle.blob_registry.proofs.Numbers.{below_absent}
use Rattle.blob_registry.proofs.Striking.{rising_entered, struck_again}
use Rattle.blob_registry.proofs.work.Work.enter.Goals as goal

pub strike_all-requires-clause-rising : goal.strike_all-requires-clause-rising
strike_all-requires-clause-rising c =
    let lists : List (List ℕ) = c.make_list.new.self.dependents.items in
    rising_entered lists c.enter_all.new.lists.items c.args.number c.args.sources.now
    (λ other. rw (c.in_ok-make_list.ensures.stays.same other) (c.requires.rising other))
    (λ other. rw (c.in_ok-make_list.ensures.stays.same other) (c.requires.above other)) c.in-Err.ensures.err

pub returns-in-Err-clause-err : goal.returns-in-Err-clause-err
returns-in-Err-clause-err c =
    let lists : List (List ℕ) = c.make_list.new.self.dependents.items in
    let stays = c.in_ok-make_list.ensures.stays in
    let again = struck_again lists c.enter_all.new.lists.items c.strike_all.new.lists.items c.args.number c.args.sources.now
    (λ other. rw (stays.same other) (below_absent c.args.number (list_at c.args.self.now.dependents.items other) (c.requires.above other)))
    c.in-Err.ensures.err c.strike_all.ensures in
    record {
      looks = stays.looks;
      weighs = stays.weighs;
      long = omega (arith, stays.long, c.strike_all.ensures.long, c.enter_all.ensures.long);
      same = λ other. again other ∙ stays.same other;
    }
