use Rattle.std.proofs.Common.{◌≡◌, ◌++◌, ◌∙◌, ℕ, List, sym, ap, refl, arith, subst}
use Rattle.std.specs.Prelude.{slice_index, is_some}
use Rattle.std.proofs.lemmas.Option.{get_or_from_slice_get}
use Rattle.blob_entries.specs.Book.{Book, entry_at}
use Rattle.blob_entries.specs.Sources.{sources_at}
use Rattle.blob_registry.specs.Numbers.{AreBelow}
use Rattle.blob_registry.specs.Passes.{ending_list}
use Rattle.blob_registry.proofs.Depending.{sources_below}
use Rattle.blob_registry.proofs.Keeping.{kept_looked, looked_below, whole_kept}
use Rattle.blob_registry.proofs.Striking.{on_ok}
use Rattle.blob_registry.proofs.look.look.Goals as goal

pub looked-requires-clause-whole : goal.looked-requires-clause-whole
looked-requires-clause-whole c = whole_kept c.args.table.now c.args.work.now c.requires.kept

pub looked-requires-clause-sources : goal.looked-requires-clause-sources
looked-requires-clause-sources c =
    let table : Book = c.args.table.now in
    rw (c.as_slice.ensures, c.in_ok-sources.ensures) (sources_below table.names table.entries c.args.number c.requires.sound)

pub returns-clause-kept : goal.returns-clause-kept
returns-clause-kept c =
    let table : Book = c.args.table.now in
    let sources : List ℕ = c.as_slice.result.now in
    let are : sources ≡ sources_at table.names (entry_at table.entries c.args.number) = c.as_slice.ensures ∙ c.in_ok-sources.ensures in
    let below : AreBelow c.args.number sources = subst (AreBelow c.args.number) (sym are)
    (sources_below table.names table.entries c.args.number c.requires.sound) in
    kept_looked table c.finish_at.new.self c.args.work.now c.looked.new.self c.args.number c.in_ok-end.end sources c.requires.sound
    (omega (arith, c.requires.inside, c.requires.sound.sized)) c.requires.kept
    c.in_ok-end.ensures.looks are below (λ is. c.looked.ensures.plain (c.is_some.ensures ∙ is)) (λ is. c.looked.ensures.ended (c.is_some.ensures ∙ is))

pub returns-clause-looked : goal.returns-clause-looked
returns-clause-looked c =
    let table : Book = c.args.table.now in
    let named : c.in-Some.name ≡ slice_index table.names c.args.number = sym
    (get_or_from_slice_get table.names c.args.number c.in-Some.name 0 (sym c.in-Some.ensures)) in
    on_ok c.note.result c.note.ensures (λ noted. record {
      ended = is_some c.in_ok-end.end;
      notes = record {
        result = c.in_ok-end.end;
        is = refl;
        looks = c.in_ok-end.ensures.looks;
        noted = noted
            ∙ ap (λ name. c.args.endings.now ++ ending_list name c.in_ok-end.end) named;
      };
      below = looked_below table c.args.work.now c.looked.new.self c.args.number (is_some c.in_ok-end.end) c.as_slice.result.now c.requires.sound
          (omega (arith, c.requires.inside, c.requires.sound.sized)) c.requires.kept
          (λ is. c.looked.ensures.plain (c.is_some.ensures ∙ is)) (λ is. c.looked.ensures.ended (c.is_some.ensures ∙ is));
    })
