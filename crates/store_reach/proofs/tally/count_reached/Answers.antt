use Rattle.std.proofs.Common.{◌≡◌, ℕ, ◌+◌, List, length, sym, ap, arith, ◌∙◌, length-append}
use Rattle.std.proofs.lemmas.List.{length-map}
use Rattle.store_reach.specs.Reach.{all_pieces, numbers, piece_no}
use Rattle.store_reach.specs.Sets.{as_set}
use Rattle.store_reach.specs.Windows.{below, listed}
use Rattle.store_reach.proofs.Sets.{below_zero}
use Rattle.store_reach.proofs.Windows.{goes_behind, goes_over, goes_within}
use Rattle.store_reach.proofs.tally.count_reached.Goals as goal

pub loop-next-init : goal.loop-next-init
loop-next-init c =
    let set : List ℕ = as_set (numbers (all_pieces c.args.shares.now c.args.registry.now.entries)) in
    sym (ap length (below_zero set))

pub overflow_add-count : goal.overflow_add-count
overflow_add-count c =
    let set : List ℕ = as_set (numbers (all_pieces c.args.shares.now c.args.registry.now.entries)) in
    let within = goes_within set c.loop-next.start c.window_from-window.result c.window_from-window.ensures in
    omega (arith, within, c.requires, length-map set piece_no, c.loop-next.invariant, c.count-count.ensures)

pub loop-next-preserved : goal.loop-next-preserved
loop-next-preserved c =
    let set : List ℕ = as_set (numbers (all_pieces c.args.shares.now c.args.registry.now.entries)) in
    let window = c.window_from-window.result in
    let goes = goes_over set c.loop-next.start window c.in-Some.next (sym c.next.ensures ∙ c.in-Some.is) c.window_from-window.ensures in
    let both : length (below c.in-Some.next set) ≡ length (below c.loop-next.start set) + length (listed window.start window.marks) =
    ap length goes.1 ∙ length-append (below c.loop-next.start set) (listed window.start window.marks) in
    omega (arith, both, c.loop-next.invariant, c.count-count.ensures)

pub overflow_cast-result : goal.overflow_cast-result
overflow_cast-result c =
    let set : List ℕ = as_set (numbers (all_pieces c.args.shares.now c.args.registry.now.entries)) in
    let within = goes_within set c.loop-next.start c.window_from-window.result c.window_from-window.ensures in
    omega (arith, within, c.requires, length-map set piece_no, c.loop-next.invariant, c.count-count.ensures)

pub returns-in-None : goal.returns-in-None
returns-in-None c =
    let set : List ℕ = as_set (numbers (all_pieces c.args.shares.now c.args.registry.now.entries)) in
    let window = c.window_from-window.result in
    let all : length set ≡ length (below c.loop-next.start set) + length (listed window.start window.marks) =
    ap length (goes_behind set c.loop-next.start window (sym c.next.ensures ∙ c.in-None.is) c.window_from-window.ensures)
    ∙ length-append (below c.loop-next.start set) (listed window.start window.marks) in
    omega (arith, all, c.loop-next.invariant, c.count-count.ensures, length-map set piece_no)
