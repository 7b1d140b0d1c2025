use Rattle.std.proofs.Common.{◌≡◌, ◌∙◌, ℕ, List, Bool, false, ◌||◌, sym, ap, length, nat_lt}
use Rattle.blob_entries.specs.Book.{Book, entry_at}
use Rattle.blob_entries.specs.Leaving.{is_needed, is_rooted}
use Rattle.blob_registry.proofs.Depending.{depends_empty}
use Rattle.blob_registry.proofs.Sweeping.{unrooted}
use Rattle.blob_registry.proofs.weigh.lives_at.Goals as goal

pub returns-else-roots_at-gt0 : goal.returns-else-roots_at-gt0
returns-else-roots_at-gt0 c =
    let table : Book = c.args.table.now in
    let none : is_rooted (entry_at table.entries c.args.number) ≡ false = unrooted (entry_at table.entries c.args.number)
    (rw (← c.roots_at.ensures) c.if-roots_at-gt0.false) in
    ap (nat_lt 0) c.len.ensures ∙ ap (λ (list : List ℕ). nat_lt 0 (length list)) (c.list_at.ensures ∙ c.requires.kept.exact c.args.number)
    ∙ depends_empty table.names c.args.number 0 table.entries ∙ ap (λ (b : Bool). b || is_needed table.names c.args.number table.entries) (sym none)
