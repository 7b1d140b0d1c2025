use Rattle.std.proofs.Common.{◌≡◌, ◌∙◌, ℕ, [], ap, arith, get_or, set, take, length-set}
use Rattle.std.proofs.lemmas.List.{get_or_read_under, set-get_or, take_more}
use Rattle.std.specs.Vec.{vec_len}
use Rattle.blob_registry.specs.Lists.{list_at}
use Rattle.blob_registry.proofs.Numbers.{among_at}
use Rattle.blob_registry.proofs.Striking.{entered_more, entered_some, on_err}
use Rattle.blob_registry.proofs.strike.enter_all.Goals as goal

pub index_mut-requires : goal.index_mut-requires
index_mut-requires c =
    let below = c.requires.below (get_or c.args.sources.now c.loop-source.source-index 0)
    (among_at c.args.sources.now c.loop-source.source-index c.loop-source-test.true) in
    let ok = c.loop-source.lists.ok in
    omega (arith, below, ok, c.loop-source.invariant.long)

pub returns-in_err-enter-clause-err : goal.returns-in_err-enter-clause-err
returns-in_err-enter-clause-err c =
    let source : ℕ = get_or c.args.sources.now c.loop-source.source-index 0 in
    let below = c.requires.below source (among_at c.args.sources.now c.loop-source.source-index c.loop-source-test.true) in
    let ok = c.loop-source.lists.ok in
    let here : c.index_mut.result.now ≡ list_at c.loop-source.lists.items source = get_or_read_under c.loop-source.lists.items source
    (vec_len c.loop-source.lists) c.index_mut.result.now [] c.index_mut.ensures.value
    (omega (arith, below, ok, c.loop-source.invariant.long)) (omega (arith, ok)) in
    let same : set c.loop-source.lists.items source c.enter.new.list ≡ c.loop-source.lists.items =
    ap (set c.loop-source.lists.items source) (c.in_err-enter.ensures.err ∙ here) ∙ set-get_or c.loop-source.lists.items source [] in
    on_err c.from_residual.result (rw same
    (entered_some c.args.lists.now.items c.loop-source.lists.items c.args.number c.args.sources.now c.loop-source.source-index c.loop-source.invariant.entered))

pub loop-source-preserved : goal.loop-source-preserved
loop-source-preserved c =
    let source : ℕ = get_or c.args.sources.now c.loop-source.source-index 0 in
    let below = c.requires.below source (among_at c.args.sources.now c.loop-source.source-index c.loop-source-test.true) in
    let ok = c.loop-source.lists.ok in
    let here : c.index_mut.result.now ≡ list_at c.loop-source.lists.items source =
    get_or_read_under c.loop-source.lists.items source (vec_len c.loop-source.lists) c.index_mut.result.now [] c.index_mut.ensures.value
    (omega (arith, below, ok, c.loop-source.invariant.long)) (omega (arith, ok)) in
    let more = entered_more c.args.lists.now.items c.loop-source.lists.items c.args.number source (take c.loop-source.source-index c.args.sources.now)
    c.requires.fresh c.loop-source.invariant.entered (omega (arith, below, c.loop-source.invariant.long)) in
    record {
      long = length-set c.loop-source.lists.items source c.enter.new.list ∙ c.loop-source.invariant.long;
      entered = rw (c.in_ok-enter.ensures.ok, here, take_more c.args.sources.now c.loop-source.source-index 0 c.loop-source-test.true) more;
    }
