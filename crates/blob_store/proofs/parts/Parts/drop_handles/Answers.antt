-- All handles on one blob after the other go, and then the renderer.
use Rattle.std.proofs.Common.{ℕ, List, drop, ap, sym, subst, ◌∙◌, arith}
use Rattle.renderer_table.specs.Table.{counts_of}
use Rattle.blob_store.specs.declared.parts.Parts.{Parts}
use Rattle.url_store.specs.declared.url.Url.{Url}
use Rattle.blob_store.specs.declared.readers.OpenReader.{OpenReader}
use Rattle.blob_store.specs.Holders.{IsUnlinked, IsUnread}
use Rattle.blob_store.specs.Whole.{IsWhole}
use Rattle.blob_store.proofs.Leaving.{as_many, fewer_counts, handles_rooted, one_fewer_lives, others_stay, rerooted_more, still_alive, whole_dead, whole_unheld}
use Rattle.blob_store.proofs.parts.Parts.drop_handles.Goals as goal

pub let_go_times-requires : goal.let_go_times-requires
let_go_times-requires c =
    handles_rooted c.loop-taken.self c.args.renderer.0 c.in-Some.taken.0 c.in-Some.taken.1 c.loop-taken.invariant.whole c.in-Some.ensures.taken.0

pub loop-taken-smaller : goal.loop-taken-smaller
loop-taken-smaller c =
    fewer_counts c.args.renderer.0 c.in-Some.taken.0 c.in-Some.taken.1 c.loop-taken.self.renderers c.die.new.self c.loop-taken.invariant.alive
    c.in-Some.ensures.first c.in-Some.ensures.some

pub loop-taken-preserved : goal.loop-taken-preserved
loop-taken-preserved c =
    let parts = c.loop-taken.self in
    let was = c.loop-taken.invariant in
    let taken = c.in-Some.ensures.taken in
    record {
      whole = whole_unheld parts c.let_go_times.new.registry c.args.renderer.0 c.in-Some.taken.0 c.in-Some.taken.1
          (drop 1 (counts_of c.args.renderer.0 parts.renderers)) c.die.new.self was.whole c.let_go_times.ensures.same c.let_go_times.ensures.roots was.alive
          c.in-Some.ensures.some taken.0 taken.1;
      same = rerooted_more c.args.self.now.registry parts.registry c.let_go_times.new.registry was.same c.let_go_times.ensures.same;
      alive = still_alive c.args.renderer.0 c.in-Some.taken.0 c.in-Some.taken.1 parts.renderers c.die.new.self was.alive c.in-Some.ensures.first
          c.in-Some.ensures.some;
      others = others_stay c.args.renderer.0 c.in-Some.taken.0 c.args.self.now.renderers parts.renderers c.die.new.self taken.1 was.others;
      origins = λ other. taken.1.origins other ∙ was.origins other;
      spawned = taken.1.spawned ∙ was.spawned;
      many = as_many c.args.renderer.0 (drop 1 (counts_of c.args.renderer.0 parts.renderers)) parts.renderers c.die.new.self c.in-Some.ensures.some ∙ was.many;
      rest = ap (λ (one : Parts). record one { registry = c.let_go_times.new.registry; renderers = c.die.new.self }) was.rest;
    }

pub returns-clause-whole : goal.returns-clause-whole
unfolding IsWhole
returns-clause-whole c =
    whole_dead c.loop-taken.self c.args.renderer.0 c.die.new.self c.loop-taken.invariant.whole c.in_default.ensures.none c.in_default.ensures.dead
    (subst (λ (readers : List (ℕ × OpenReader)). IsUnread c.args.renderer.0 readers) (sym (ap (λ (one : Parts). one.readers) c.loop-taken.invariant.rest))
    c.requires.unread)
    (subst (λ (urls : List (List ℕ × Url)). IsUnlinked c.args.renderer.0 urls) (sym (ap (λ (one : Parts). one.urls) c.loop-taken.invariant.rest))
    c.requires.unlinked)

pub returns-clause-fewer : goal.returns-clause-fewer
returns-clause-fewer c =
    let less = one_fewer_lives c.args.renderer.0 c.loop-taken.self.renderers c.die.new.self c.loop-taken.invariant.alive c.in_default.ensures.none in
    omega (arith, less, c.loop-taken.invariant.many)
