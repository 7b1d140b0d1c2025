-- Rows that are settled, one after the other.
use Rattle.std.proofs.Common.{◌≡◌, ℕ, ◌+◌, ◌<◌, List, length, take, get_or, refl, ap, subst, sym, ◌∙◌, arith}
use Rattle.std.specs.Prelude.{fold}
use Rattle.std.proofs.lemmas.List.Sums.{fold_more}
use Rattle.quota_queue.specs.Queue.{without}
use Rattle.blob_store.specs.declared.parts.Parts.{Parts}
use Rattle.blob_store.specs.declared.row.Row.{Row}
use Rattle.blob_store.specs.Dropping.{settled_by, CanSettle, RowsGo}
use Rattle.blob_store.proofs.PiecesGoing.{more_go, none_goes}

-- nothing went yet
pub none_go : (parts : Parts) → CanSettle parts → RowsGo parts.rows parts.quota.waiting parts parts
none_go parts can = record {
  settles = can;
  goes = none_goes parts;
  fewer = λ slot. omega arith;
  rest = refl;
  agrees = λ changes is. is;
}

-- more rows are settled
pub more_rows : (old between new : Parts) (rows next : List Row) (waiting queue : List (ℕ × ℕ)) → RowsGo rows waiting old between
    → RowsGo next queue between new → RowsGo next queue old new
more_rows old between new rows next waiting queue first second = record {
  settles = second.settles;
  goes = more_go old between new second.fewer first.goes second.goes;
  fewer = λ slot. let a = first.fewer slot in let b = second.fewer slot in omega (arith, a, b);
  rest = second.rest ∙ ap (λ (one : Parts). record one {
    shares = new.shares;
    rows = next;
    quota = record one.quota { used = new.quota.used; waiting = queue };
    pages = new.pages;
    recent = new.recent;
    held = new.held;
  }) first.rest;
  agrees = λ changes is. second.agrees changes (first.agrees changes is);
}

abbrev pub rows_by : List ℕ → List Row → List ℕ → List Row
rows_by names rows list = fold (settled_by names) rows list

abbrev pub queue_by : List (ℕ × ℕ) → List ℕ → List (ℕ × ℕ)
queue_by waiting list = fold (λ (one : List (ℕ × ℕ)) (name : ℕ). without name one) waiting list

-- the loop goes on with the next name
pub next_goes : (old between new : Parts) (list : List ℕ) (i name : ℕ) → i < length list → name ≡ get_or list i name
    → RowsGo (rows_by old.registry.names old.rows (take i list)) (queue_by old.quota.waiting (take i list)) old between
    → RowsGo (settled_by between.registry.names between.rows name) (without name between.quota.waiting) between new
    → RowsGo (rows_by old.registry.names old.rows (take (i + 1) list)) (queue_by old.quota.waiting (take (i + 1) list)) old new
next_goes old between new list i name less is first second =
    let names = ap (λ (one : Parts). one.registry.names) first.rest in
    let rows = ap (λ (one : Parts). one.rows) first.rest in
    let waiting = ap (λ (one : Parts). one.quota.waiting) first.rest in
    subst (λ (next : List Row). RowsGo next (queue_by old.quota.waiting (take (i + 1) list)) old new)
    ((λ j. settled_by (names j) (rows j) (is j)) ∙ sym (fold_more (settled_by old.registry.names) old.rows list i name less))
    (subst (λ (queue : List (ℕ × ℕ)). RowsGo (settled_by between.registry.names between.rows name) queue old new)
    ((λ j. without (is j) (waiting j))
    ∙ sym (fold_more (λ (one : List (ℕ × ℕ)) (each : ℕ). without each one) old.quota.waiting list i name less))
    (more_rows old between new (rows_by old.registry.names old.rows (take i list)) (settled_by between.registry.names between.rows name)
    (queue_by old.quota.waiting (take i list)) (without name between.quota.waiting) first second))
