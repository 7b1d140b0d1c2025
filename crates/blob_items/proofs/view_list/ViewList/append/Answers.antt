-- The starts of the other views behind those of this list, and both sums.
use Rattle.std.proofs.Common.{◌≡◌, ℕ, ◌++◌, ap, ◌∙◌, arith}
use Rattle.std.proofs.lemmas.List.Sums.{sum_by-append}
use Rattle.blob_items.specs.declared.view.View.{View}
use Rattle.blob_items.specs.Starts.{starts_from}
use Rattle.blob_items.proofs.StartLemmas.{append_starts}
use Rattle.blob_items.proofs.view_list.ViewList.append.Goals as goal

pub invariant_of-self-2 : goal.invariant_of-self-2
invariant_of-self-2 c =
    let views = c.self.inside.views.items in
    let others = c.other.inside.views.items in
    let starts : starts_from 0 (views ++ others) ≡ starts_from 0 views ++ starts_from c.self.inside.size others =
    append_starts 0 views others ∙ ap (λ (n : ℕ). starts_from 0 views ++ starts_from n others) (omega (arith, c.self.invariant.1)) in
    let pushed = rw (c.reserve.ensures.items, c.as_slice-2.ensures.value) at c.push_starts.ensures in
    let appended = rw (c.as_slice.ensures.value) at c.in_ok-extend_from_slice.ensures.items in (
      rw (appended, starts, ← c.self.invariant.0) pushed,
      rw (appended) (omega (arith, c.self.invariant.1, c.other.invariant.1, sum_by-append (λ (v : View). v.len) views others)),
    )
