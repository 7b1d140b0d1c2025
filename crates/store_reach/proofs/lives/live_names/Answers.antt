use Rattle.std.proofs.Common.{◌≡◌, ◌∙◌, ◌++◌, ℕ, ◌+◌, ◌<◌, Bool, List, [], cond, length, sym, ap, arith, append_assoc, append-nil}
use Rattle.std.specs.Option.{option_to_list}
use Rattle.std.proofs.lemmas.List.{get_or_read}
use Rattle.blob_entries.specs.Book.{Book}
use Rattle.blob_entries.specs.Standing.{name_under}
use Rattle.store_reach.specs.Lives.{mark_at}
use Rattle.store_reach.proofs.Living.{live_end, live_from, live_next}
use Rattle.store_reach.proofs.lives.live_names.Goals as goal

pub loop-number-preserved : goal.loop-number-preserved
loop-number-preserved c =
    let book : Book = c.args.registry.now in
    let number : ℕ = c.loop-number.number in
    let marks : List Bool = c.in_ok-marks.marks.items in
    let live = c.in_ok-marks.ensures in
    let inside : number < length book.entries = omega (arith, c.loop-number-test.true, c.registered-number-end.ensures.entries) in
    let read : c.index.result.now ≡ mark_at marks number = get_or_read marks number _ (omega (arith, inside, live.0)) c.index.ensures _ in
    ap (λ (list : List ℕ). list ++ live_from book (number + 1)) c.in_ok-put_live.ensures
    ∙ append_assoc c.loop-number.list.items (cond c.index.result.now (option_to_list (name_under book number)) []) (live_from book (number + 1))
    ∙ ap (λ (mark : Bool). c.loop-number.list.items ++ (cond mark (option_to_list (name_under book number)) [] ++ live_from book (number + 1))) read
    ∙ ap (λ (list : List ℕ). c.loop-number.list.items ++ list) (sym (live_next book marks number c.registered-number-end.ensures.sound live inside))
    ∙ c.loop-number.invariant

pub returns : goal.returns
returns c =
    let book : Book = c.args.registry.now in
    let there : c.loop-number.number ≡ length book.entries =
    omega (arith, c.loop-number-test.false, c.loop-number.auto.number-end, c.registered-number-end.ensures.entries) in
    sym (append-nil c.loop-number.list.items)
    ∙ ap (λ (list : List ℕ). c.loop-number.list.items ++ list) (sym (ap (live_from book) there ∙ live_end book))
    ∙ c.loop-number.invariant
