use Rattle.std.proofs.Common.{◌≡◌, ◌∙◌, ◌++◌, ◌∷◌, [], ℕ, ◌+◌, ◌<◌, Bool, true, false, List, length, map, take, sym, ap, arith, append_assoc, append-nil}
use Rattle.std.specs.Prelude.{slice_index_or}
use Rattle.std.proofs.lemmas.List.{map-append}
use Rattle.blob_registry.specs.Dependents.{listed_if}
use Rattle.blob_words.specs.declared.number.PieceNo.{PieceNo}
use Rattle.store_reach.specs.Reach.{piece_no}
use Rattle.store_reach.specs.Windows.{listed, Marks}
use Rattle.store_reach.proofs.Listing.{listed_more}
use Rattle.store_reach.proofs.window.Window.list.Goals as goal
use Rattle.store_reach.proofs.window.Window.list.Goals.{then-mark+in_ok-push, else-mark}

lists_more : (start : ℕ) (marks : List Bool) (i : ℕ) (mark : Bool) (front : List PieceNo) → i < length marks → slice_index_or marks i false ≡ mark
    → front ++ map piece_no (listed start (take (i + 1) marks))
    ≡ (front ++ map piece_no (listed start (take i marks))) ++ map piece_no (listed_if mark (start + i))
lists_more start marks i mark front inside is =
    ap (λ (list : List ℕ). front ++ map piece_no list) (listed_more start marks i mark inside is)
    ∙ ap (λ (list : List PieceNo). front ++ list) (map-append piece_no (listed start (take i marks)) (listed_if mark (start + i)))
    ∙ sym (append_assoc front (map piece_no (listed start (take i marks))) (map piece_no (listed_if mark (start + i))))

pub loop-place-preserved : goal.loop-place-preserved
loop-place-preserved c =
    let so_far = c.loop-place.invariant in
    let place : ℕ = c.loop-place.place in
    let start : ℕ = c.args.self.now.start in
    let here : slice_index_or c.args.self.now.marks place false ≡ slice_index_or c.self.inside.marks place false =
    ap (λ (marks : List Bool). slice_index_or marks place false) (sym so_far.same) in
    let from : c.self.inside.start ≡ start = ap (λ (window : Marks). window.start) c.self.view_is in
    let size : length c.args.self.now.marks ≡ 4096 = ap length (sym so_far.same) ∙ c.self.told in
    elim c.if-mark.branch [
      | then-mark+in_ok-push w ↦ record {
        same = so_far.same;
        listed = w.list-is ∙ w.in_ok-push.ensures.ok ∙ ap (λ (n : ℕ). c.loop-place.list ++ piece_no (n + place) ∷ []) from
            ∙ ap (λ (list : List PieceNo). list ++ piece_no (start + place) ∷ []) so_far.listed
            ∙ sym (lists_more start c.args.self.now.marks place true c.args.list.now (omega (arith, c.loop-place-test.true, size)) (here ∙ w.if-mark.true));
      }
      | else-mark w ↦ record {
        same = so_far.same;
        listed = w.list-is ∙ so_far.listed ∙ sym (append-nil (c.args.list.now ++ map piece_no (listed start (take place c.args.self.now.marks))))
            ∙ sym (lists_more start c.args.self.now.marks place false c.args.list.now (omega (arith, c.loop-place-test.true, size)) (here ∙ w.if-mark.false));
      }
    ]
