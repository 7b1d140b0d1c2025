use Rattle.std.proofs.Common.{◌≡◌, ◌+◌, ◌-◌, ◌++◌, ◌<◌, ◌≤◌, List, ℕ, Option, Some, arith, ap, cond, drop, sym, ◌∙◌}
use Rattle.std.specs.Prelude.{is_some, slice_get, slice_index}
use Rattle.std.proofs.lemmas.Option.{slice_get-get_or}
use Rattle.blob_entries.specs.declared.entry.Entry.{Entry}
use Rattle.blob_entries.specs.Book.{Book, entry_at}
use Rattle.blob_entries.specs.Standing.{name_if, standing}
use Rattle.blob_entries.proofs.Standing.{last_here, later_is, next_is, some_left, standing_more}
use Rattle.blob_entries.proofs.table.Table.nth_standing.Goals as goal

pub returns-then-left-here : goal.returns-then-left-here
returns-then-left-here c =
    let names : List ℕ = c.args.self.now.names in
    let entries : List (Option Entry) = c.args.self.now.entries in
    let i : ℕ = c.loop-number.number in
    let left : ℕ = c.loop-number.left in
    let held : Option Entry = entry_at entries i in
    let rest : List ℕ = standing (drop (i + 1) names) (drop (i + 1) entries) in
    let more = standing_more names entries i
    (omega (arith, c.loop-number-test.true, c.len-number-end.ensures.entries)) c.len-number-end.ensures.sound.sized in
    let below : left < cond (is_some held) 1 0 = omega (arith, c.if-left-here.true, c.count_at-here.ensures) in
    let last = last_here held left below in
    let name : slice_get names i ≡ Some (slice_index names i) = slice_get-get_or names i 0
    (omega (arith, c.loop-number-test.true, c.len-number-end.ensures.value)) in
    c.name_at.ensures ∙ ap (λ (b : Book). slice_get b.names i) c.self.view_is ∙ name ∙ sym (next_is held (slice_index names i) rest last.0)
    ∙ ap (slice_get (name_if held (slice_index names i) ++ rest)) (sym last.1) ∙ ap (λ (l : List ℕ). slice_get l left) (sym more) ∙ c.loop-number.invariant

pub loop-number-preserved : goal.loop-number-preserved
loop-number-preserved c =
    let names : List ℕ = c.args.self.now.names in
    let entries : List (Option Entry) = c.args.self.now.entries in
    let i : ℕ = c.loop-number.number in
    let left : ℕ = c.loop-number.left in
    let held : Option Entry = entry_at entries i in
    let rest : List ℕ = standing (drop (i + 1) names) (drop (i + 1) entries) in
    let more = standing_more names entries i
    (omega (arith, c.loop-number-test.true, c.len-number-end.ensures.entries)) c.len-number-end.ensures.sound.sized in
    let le : cond (is_some held) 1 0 ≤ left = omega (arith, c.if-left-here.false, c.count_at-here.ensures) in
    ap (λ (n : ℕ). slice_get rest (left - n)) c.count_at-here.ensures ∙ sym (later_is held (slice_index names i) left rest (some_left held left le))
    ∙ ap (λ (l : List ℕ). slice_get l left) (sym more) ∙ c.loop-number.invariant
