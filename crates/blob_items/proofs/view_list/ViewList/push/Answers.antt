-- The start of one view more, and the sum with it.
use Rattle.std.proofs.Common.{◌≡◌, ℕ, ◌++◌, ◌∷◌, [], List, ap, ◌∙◌, arith}
use Rattle.std.proofs.lemmas.List.Sums.{sum_by_push}
use Rattle.blob_items.specs.declared.view.View.{View}
use Rattle.blob_items.specs.Starts.{starts_from}
use Rattle.blob_items.proofs.StartLemmas.{append_starts}
use Rattle.blob_items.proofs.view_list.ViewList.push.Goals as goal

pub invariant_of-self-2 : goal.invariant_of-self-2
invariant_of-self-2 c =
    let views = c.self.inside.views.items in
    let pushed = rw c.unwrap.ensures at c.push-2.ensures.items in
    let starts : starts_from 0 (views ++ c.args.view ∷ []) ≡ starts_from 0 views ++ c.self.inside.size ∷ [] =
    append_starts 0 views (c.args.view ∷ []) ∙ ap (λ (n : ℕ). starts_from 0 views ++ n ∷ []) (omega (arith, c.self.invariant.1)) in (
      rw (c.in_ok-push.ensures.items, starts, ← c.self.invariant.0) (pushed ∙ ap (λ (xs : List ℕ). xs ++ c.self.inside.size ∷ []) c.reserve.ensures.items),
      rw (c.in_ok-push.ensures.items) (omega (arith, c.self.invariant.1, sum_by_push (λ (v : View). v.len) views c.args.view)),
    )
