-- What the row's bytes took is there to be given back, and then rows, counts and charges agree again.
use Rattle.std.proofs.Common.{◌≡◌, ℕ, ◌+◌, ◌-◌, ◌<◌, ◌≤◌, ◌==◌, List, Some, get_or, ap, subst, sym, ◌∙◌}
use Rattle.std.specs.Prelude.{count_by, slice_get, sum}
use Rattle.transport_plan.specs.Spans.{piece_count}
use Rattle.blob_store.specs.declared.row.Row.{Row}
use Rattle.blob_store.specs.Dropping.{settled_at, ChargedBeside, PiecesGo, RowsGo}
use Rattle.blob_store.specs.Rows.{gathered_bytes, gathered_pieces, sending_slots}
use Rattle.blob_store.proofs.SettledRow.{beside_written, held_enough, lengths_there, rows_go_gathered, rows_go_still, rows_go_written, slots_written}
use Rattle.blob_store.proofs.SettledRow.{used_enough, was_there}
use Rattle.blob_store.proofs.parts.Parts.settle_row.Goals as goal

-- the lengths that are read are those of the row
same_lengths : (rows seen : List Row) (number : ℕ) (row one : Row) (lengths : List ℕ) → slice_get rows number ≡ Some row → lengths ≡ one.lengths
    → one ≡ get_or seen number one → seen ≡ settled_at number rows → lengths ≡ row.lengths
same_lengths rows seen number row one lengths at read is same =
    read ∙ ap (λ (each : Row). each.lengths) is ∙ ap (λ (list : List Row). (get_or list number one).lengths) same
    ∙ lengths_there rows number row one at

pub give_back-requires-clause-used : goal.give_back-requires-clause-used
give_back-requires-clause-used c =
    let parts = c.args.self.now in
    let was = was_there parts.rows c.args.number c.settle-sending.result c.settle-sending.ensures.was in
    subst (λ (list : List ℕ). sum list ≤ parts.quota.used)
    (sym (same_lengths parts.rows c.as_slice.result.now c.args.number was.row c.index-as_slice-number.result c.as_slice-lengths.result.now was.at
    c.as_slice-lengths.ensures c.index-as_slice-number.is (c.as_slice.ensures ∙ c.settle-sending.ensures.rest)))
    (used_enough parts c.requires.settles c.args.number c.settle-sending.result was c.in-Gathering.field-0 c.in-Gathering.is)

pub give_back-requires-clause-held : goal.give_back-requires-clause-held
give_back-requires-clause-held c =
    let parts = c.args.self.now in
    let was = was_there parts.rows c.args.number c.settle-sending.result c.settle-sending.ensures.was in
    subst (λ (list : List ℕ). piece_count parts.limits.page list ≤ parts.held)
    (sym (same_lengths parts.rows c.as_slice.result.now c.args.number was.row c.index-as_slice-number.result c.as_slice-lengths.result.now was.at
    c.as_slice-lengths.ensures c.index-as_slice-number.is (c.as_slice.ensures ∙ c.settle-sending.ensures.rest)))
    (held_enough parts c.requires.settles c.args.number c.settle-sending.result was c.in-Gathering.field-0 c.in-Gathering.is)

pub returns-in-Gathering : goal.returns-in-Gathering
returns-in-Gathering c =
    let parts = c.args.self.now in
    let was = was_there parts.rows c.args.number c.settle-sending.result c.settle-sending.ensures.was in
    let same : c.as_slice-lengths.result.now ≡ was.row.lengths =
    same_lengths parts.rows c.as_slice.result.now c.args.number was.row c.index-as_slice-number.result c.as_slice-lengths.result.now was.at
    c.as_slice-lengths.ensures c.index-as_slice-number.is (c.as_slice.ensures ∙ c.settle-sending.ensures.rest) in
    subst (λ (rows : List Row). RowsGo (settled_at c.args.number parts.rows) parts.quota.waiting parts
    (record parts { rows = rows; quota = c.give_back.new.quota; held = c.give_back.new.held })) (sym c.settle-sending.ensures.rest)
    (rows_go_gathered parts c.requires.settles c.args.number c.settle-sending.result was c.in-Gathering.field-0 c.in-Gathering.is
    c.give_back.new.quota c.give_back.new.held
    (c.give_back.ensures.used ∙ ap (λ (list : List ℕ). record parts.quota { used = parts.quota.used - sum list }) same)
    (subst (λ (list : List ℕ). c.give_back.new.held + piece_count parts.limits.page list ≡ parts.held) same c.give_back.ensures.held))

pub unpin-requires-clause-charged : goal.unpin-requires-clause-charged
unpin-requires-clause-charged c =
    let parts = c.args.self.now in
    let was = was_there parts.rows c.args.number c.settle-sending.result c.settle-sending.ensures.was in
    subst (λ (slots : List ℕ). ChargedBeside slots 0 0 (record parts { rows = c.settle-sending.new.rows })) (sym c.as_slice-in-Writing.ensures)
    (subst (λ (rows : List Row). ChargedBeside c.in-Writing.slots 0 0 (record parts { rows = rows })) (sym c.settle-sending.ensures.rest)
    (beside_written parts c.requires.settles c.args.number c.settle-sending.result was c.in-Writing.slots c.in-Writing.field-1 c.in-Writing.is))

pub unpin-requires-clause-pieces : goal.unpin-requires-clause-pieces
unpin-requires-clause-pieces c slot some =
    let parts = c.args.self.now in
    let was = was_there parts.rows c.args.number c.settle-sending.result c.settle-sending.ensures.was in
    slots_written parts c.requires.settles c.args.number c.settle-sending.result was c.in-Writing.slots c.in-Writing.field-1 c.in-Writing.is slot
    (subst (λ (slots : List ℕ). 0 < count_by (λ (one : ℕ). one == slot) slots) c.as_slice-in-Writing.ensures some)

pub returns-in-Writing : goal.returns-in-Writing
returns-in-Writing c =
    let parts = c.args.self.now in
    let was = was_there parts.rows c.args.number c.settle-sending.result c.settle-sending.ensures.was in
    let new = c.unpin.new.self in
    rows_go_written parts c.requires.settles c.args.number c.settle-sending.result was c.in-Writing.slots c.in-Writing.field-1 c.in-Writing.is new
    c.unpin.ensures.charged
    (subst (λ (rows : List Row). PiecesGo (record parts { rows = rows }) new) c.settle-sending.ensures.rest c.unpin.ensures.goes)
    (c.unpin.ensures.rest
    ∙ ap (λ (rows : List Row). record parts {
      shares = new.shares;
      rows = rows;
      quota = record parts.quota { used = new.quota.used };
      pages = new.pages;
      recent = new.recent;
      held = new.held;
    }) c.settle-sending.ensures.rest)
    c.unpin.ensures.agrees

pub returns-in-Settled : goal.returns-in-Settled
returns-in-Settled c =
    let parts = c.args.self.now in
    let was = was_there parts.rows c.args.number c.settle-sending.result c.settle-sending.ensures.was in
    subst (λ (rows : List Row). RowsGo (settled_at c.args.number parts.rows) parts.quota.waiting parts (record parts { rows = rows }))
    (sym c.settle-sending.ensures.rest)
    (rows_go_still parts c.requires.settles c.args.number c.settle-sending.result was (ap gathered_bytes c.in-Settled.is) (ap gathered_pieces c.in-Settled.is)
    (ap sending_slots c.in-Settled.is))

pub returns : goal.returns
returns c =
    let parts = c.args.self.now in
    let was = was_there parts.rows c.args.number c.settle-sending.result c.settle-sending.ensures.was in
    subst (λ (rows : List Row). RowsGo (settled_at c.args.number parts.rows) parts.quota.waiting parts (record parts { rows = rows }))
    (sym c.settle-sending.ensures.rest)
    (rows_go_still parts c.requires.settles c.args.number c.settle-sending.result was (ap gathered_bytes c.in-Waiting.is) (ap gathered_pieces c.in-Waiting.is)
    (ap sending_slots c.in-Waiting.is))
