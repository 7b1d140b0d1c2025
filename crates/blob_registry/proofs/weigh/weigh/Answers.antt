use Rattle.std.proofs.Common.{◌≡◌, ◌∙◌, ℕ, List, Bool, sym, arith, subst}
use Rattle.blob_entries.specs.Book.{Book, entry_at}
use Rattle.blob_entries.specs.Leaving.{Leaves}
use Rattle.blob_entries.specs.Sources.{sources_at}
use Rattle.blob_registry.specs.Numbers.{AreBelow}
use Rattle.blob_registry.proofs.Depending.{depends_none, sources_below}
use Rattle.blob_registry.proofs.Keeping.{kept_weighed, weighed_above, whole_kept}
use Rattle.blob_registry.proofs.Sweeping.{unneeded}
use Rattle.blob_registry.proofs.weigh.weigh.Goals as goal

pub leave_at-requires-clause-unneeded : goal.leave_at-requires-clause-unneeded
leave_at-requires-clause-unneeded c = λ dead. unneeded c.args.table.now c.args.number (sym c.lives_at-lives.ensures ∙ dead)

pub weighed-requires-clause-whole : goal.weighed-requires-clause-whole
weighed-requires-clause-whole c = whole_kept c.args.table.now c.args.work.now c.requires.kept

pub weighed-requires-clause-free : goal.weighed-requires-clause-free
weighed-requires-clause-free c = λ dead.
    let table : Book = c.args.table.now in
    c.requires.kept.exact c.args.number ∙ depends_none table.names c.args.number 0 table.entries
    (unneeded table c.args.number (sym c.lives_at-lives.ensures ∙ dead))

pub weighed-requires-clause-sources : goal.weighed-requires-clause-sources
weighed-requires-clause-sources c =
    let table : Book = c.args.table.now in
    rw (c.as_slice.ensures, c.in_ok-sources.ensures) (sources_below table.names table.entries c.args.number c.requires.sound)

pub returns-clause-kept : goal.returns-clause-kept
returns-clause-kept c =
    let table : Book = c.args.table.now in
    let sources : List ℕ = c.as_slice.result.now in
    let are : sources ≡ sources_at table.names (entry_at table.entries c.args.number) = c.as_slice.ensures ∙ c.in_ok-sources.ensures in
    let below : AreBelow c.args.number sources = subst (AreBelow c.args.number) (sym are)
    (sources_below table.names table.entries c.args.number c.requires.sound) in
    kept_weighed table c.leave_at.new.self c.args.work.now c.weighed.new.self c.args.number c.lives_at-lives.result sources c.requires.sound
    (omega (arith, c.requires.inside, c.requires.sound.sized)) c.requires.kept
    c.in_ok-leave_at.ensures.leaves c.lives_at-lives.ensures are below c.weighed.ensures.plain c.weighed.ensures.gone

pub returns-clause-weighed : goal.returns-clause-weighed
returns-clause-weighed c =
    let table : Book = c.args.table.now in
    let sources : List ℕ = c.as_slice.result.now in
    let are : sources ≡ sources_at table.names (entry_at table.entries c.args.number) = c.as_slice.ensures ∙ c.in_ok-sources.ensures in
    let below : AreBelow c.args.number sources = subst (AreBelow c.args.number) (sym are)
    (sources_below table.names table.entries c.args.number c.requires.sound) in
    let leaves = c.in_ok-leave_at.ensures.leaves in
    let lets_go = c.in_ok-leave_at.ensures.lets_go in
    record {
      goes = record {
        leaves = subst (λ (b : Bool). Leaves table c.leave_at.new.self c.args.number b) c.lives_at-lives.ensures leaves;
        noted = rw (← c.lives_at-lives.ensures) c.in_ok-note_gone.ensures;
        lets_go = rw (← c.lives_at-lives.ensures) lets_go;
      };
      above = weighed_above table c.args.work.now c.weighed.new.self c.args.number c.lives_at-lives.result sources
          (omega (arith, c.requires.inside, c.requires.sound.sized)) c.requires.kept below c.weighed.ensures.plain c.weighed.ensures.gone;
    }
