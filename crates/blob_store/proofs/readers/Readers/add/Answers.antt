-- A reader comes, or memory wants and all is as it was.
use Rattle.std.proofs.Common.{◌≡◌, ℕ, List, None, sym, ap, ◌∙◌, subst}
use Rattle.blob_store.specs.declared.readers.OpenReader.{OpenReader}
use Rattle.blob_store.specs.Owners.{Agree}
use Rattle.blob_store.specs.Readers.{reader_at, Opens}
use Rattle.blob_store.proofs.Opening.{opens}
use Rattle.blob_store.proofs.OwnedReaders.{agree_inserted, numbers_of, on_fault, on_success, removed_inserted, without}
use Rattle.blob_store.proofs.readers.Readers.add.Goals as goal

pub returns-then-is_err-clause-err : goal.returns-then-is_err-clause-err
returns-then-is_err-clause-err c =
    let readers = c.self.inside.by_number.entries in
    let absent : reader_at c.args.number.0 readers ≡ None =
    subst (λ (list : List (ℕ × OpenReader)). reader_at c.args.number.0 list ≡ None) (sym c.self.view_is) c.requires in
    c.remove.ensures.entries ∙ ap (without c.args.number.0) c.in_ok-insert.ensures.entries
    ∙ removed_inserted c.args.number.0 c.args.reader readers absent ∙ c.self.view_is

pub invariant_of-self-then-is_err : goal.invariant_of-self-then-is_err
invariant_of-self-then-is_err c =
    let readers = c.self.inside.by_number.entries in
    let absent : reader_at c.args.number.0 readers ≡ None =
    subst (λ (list : List (ℕ × OpenReader)). reader_at c.args.number.0 list ≡ None) (sym c.self.view_is) c.requires in
    let same =
    c.remove.ensures.entries ∙ ap (without c.args.number.0) c.in_ok-insert.ensures.entries
    ∙ removed_inserted c.args.number.0 c.args.reader readers absent in
    let stays = on_fault c.put_number.result c.if-is_err.ensures.value c.put_number.ensures.err in
    λ owner. stays owner ∙ c.self.invariant owner ∙ ap (numbers_of owner) (sym same)

pub invariant_of-self-else-is_err : goal.invariant_of-self-else-is_err
invariant_of-self-else-is_err c =
    let readers = c.self.inside.by_number.entries in
    let absent : reader_at c.args.number.0 readers ≡ None =
    subst (λ (list : List (ℕ × OpenReader)). reader_at c.args.number.0 list ≡ None) (sym c.self.view_is) c.requires in
    let comes = on_success c.put_number.result c.if-is_err.ensures.value c.put_number.ensures.ok in
    subst (λ (list : List (ℕ × OpenReader)). Agree list c.put_number.new.owners.entries) (sym c.in_ok-insert.ensures.entries)
    (agree_inserted readers c.self.inside.owners.entries c.put_number.new.owners.entries c.args.number.0 c.args.reader c.len-count.ensures.ordered absent
    c.self.invariant comes)

pub returns-clause-ok : goal.returns-clause-ok
returns-clause-ok c =
    let none = subst (λ (list : List (ℕ × OpenReader)). reader_at c.args.number.0 list ≡ None) (sym c.self.view_is) c.requires in
    subst (λ (old : List (ℕ × OpenReader)). Opens c.args.number.0 c.args.reader old c.insert.new.self.entries) c.self.view_is
    (opens c.args.number.0 c.args.reader c.self.inside.by_number.entries c.insert.new.self.entries c.len-count.ensures.ordered none
    c.in_ok-insert.ensures.entries)
