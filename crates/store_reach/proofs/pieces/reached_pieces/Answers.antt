use Rattle.std.proofs.Common.{◌∙◌, ◌++◌, ℕ, List, map, sym, ap}
use Rattle.std.proofs.lemmas.List.{map-append}
use Rattle.blob_words.specs.declared.number.PieceNo.{PieceNo}
use Rattle.store_reach.specs.Reach.{all_pieces, numbers, piece_no}
use Rattle.store_reach.specs.Sets.{as_set}
use Rattle.store_reach.specs.Windows.{below, listed}
use Rattle.store_reach.proofs.Sets.{below_zero}
use Rattle.store_reach.proofs.Windows.{goes_behind, goes_over}
use Rattle.store_reach.proofs.pieces.reached_pieces.Goals as goal

pub loop-list-init : goal.loop-list-init
loop-list-init c =
    let set : List ℕ = as_set (numbers (all_pieces c.args.shares.now c.args.registry.now.entries)) in
    c.new-list.ensures ∙ sym (ap (map piece_no) (below_zero set))

pub loop-list-preserved : goal.loop-list-preserved
loop-list-preserved c =
    let set : List ℕ = as_set (numbers (all_pieces c.args.shares.now c.args.registry.now.entries)) in
    let window = c.window_from-window.result in
    let goes = goes_over set c.loop-list.start window c.in-Some.next (sym c.next.ensures ∙ c.in-Some.is) c.window_from-window.ensures in
    c.in_ok-list.ensures
    ∙ ap (λ (list : List PieceNo). list ++ map piece_no (listed window.start window.marks)) c.loop-list.invariant
    ∙ sym (map-append piece_no (below c.loop-list.start set) (listed window.start window.marks))
    ∙ sym (ap (map piece_no) goes.1)

pub returns-in-None : goal.returns-in-None
returns-in-None c =
    let set : List ℕ = as_set (numbers (all_pieces c.args.shares.now c.args.registry.now.entries)) in
    let window = c.window_from-window.result in
    let goes = goes_behind set c.loop-list.start window (sym c.next.ensures ∙ c.in-None.is) c.window_from-window.ensures in
    c.in_ok-list.ensures
    ∙ ap (λ (list : List PieceNo). list ++ map piece_no (listed window.start window.marks)) c.loop-list.invariant
    ∙ sym (map-append piece_no (below c.loop-list.start set) (listed window.start window.marks))
    ∙ sym (ap (map piece_no) goes)
