use Rattle.std.proofs.Common.{◌≡◌, ℕ, [], arith, get_or, take}
use Rattle.std.proofs.lemmas.List.{get_or_read_under, take_more}
use Rattle.std.specs.Vec.{vec_len}
use Rattle.blob_registry.specs.Lists.{list_at}
use Rattle.blob_registry.specs.Numbers.{is_among}
use Rattle.blob_registry.proofs.Numbers.{among_at}
use Rattle.blob_registry.proofs.Striking.{rising_if, strikes_more}
use Rattle.blob_registry.proofs.strike.strike_all.Goals as goal

pub index_mut-requires : goal.index_mut-requires
index_mut-requires c =
    let below = c.requires.below (get_or c.args.sources.now c.loop-source.source-index 0)
    (among_at c.args.sources.now c.loop-source.source-index c.loop-source-test.true) in
    let ok = c.loop-source.lists.ok in
    omega (arith, below, ok, c.loop-source.invariant.long)

pub strike-requires : goal.strike-requires
strike-requires c =
    let source : ℕ = get_or c.args.sources.now c.loop-source.source-index 0 in
    let below = c.requires.below source (among_at c.args.sources.now c.loop-source.source-index c.loop-source-test.true) in
    let ok = c.loop-source.lists.ok in
    let here : c.index_mut.result.now ≡ list_at c.loop-source.lists.items source =
    get_or_read_under c.loop-source.lists.items source (vec_len c.loop-source.lists) c.index_mut.result.now [] c.index_mut.ensures.value
    (omega (arith, below, ok, c.loop-source.invariant.long)) (omega (arith, ok)) in
    rw (here, c.loop-source.invariant.struck source) (rising_if (is_among source (take c.loop-source.source-index c.args.sources.now)) c.args.number
    (list_at c.args.lists.now.items source) (c.requires.rising source))

pub loop-source-preserved : goal.loop-source-preserved
loop-source-preserved c =
    let source : ℕ = get_or c.args.sources.now c.loop-source.source-index 0 in
    let below = c.requires.below source (among_at c.args.sources.now c.loop-source.source-index c.loop-source-test.true) in
    let ok = c.loop-source.lists.ok in
    let here : c.index_mut.result.now ≡ list_at c.loop-source.lists.items source =
    get_or_read_under c.loop-source.lists.items source (vec_len c.loop-source.lists) c.index_mut.result.now [] c.index_mut.ensures.value
    (omega (arith, below, ok, c.loop-source.invariant.long)) (omega (arith, ok)) in
    let more = strikes_more c.args.lists.now.items c.loop-source.lists.items c.args.number source (take c.loop-source.source-index c.args.sources.now)
    c.requires.rising c.loop-source.invariant (omega (arith, below, c.loop-source.invariant.long)) in
    rw (c.strike.ensures, here, take_more c.args.sources.now c.loop-source.source-index 0 c.loop-source-test.true) more
