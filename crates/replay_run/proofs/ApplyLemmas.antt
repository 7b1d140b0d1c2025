-- A line with its answers is a legal group.
use Rattle.std.proofs.Common.{◌≡◌, ℕ, ◌==◌, false, true, not, [], ◌∷◌, map, filter, Option, None, Some, refl, sym, ◌∙◌, ap}
use Rattle.std.specs.Prelude.{option_to_list}
use Rattle.std.proofs.lemmas.Bool.{eq-eqb}
use Rattle.session_script.specs.declared.event.Event.{Event}
use Rattle.blob_words.specs.declared.limits.Limits.{Limits}
use Rattle.blob_words.specs.declared.tally.Tally.{Tally}
use Rattle.answer_text.specs.declared.answer.Answer.{Answer}
use Rattle.answer_text.specs.declared.answer.Answer.TheVariants as answers
use Rattle.replay_run.specs.declared.store.Store.{Store}
use Rattle.replay_run.specs.History.{History, heard, said, after, has_ended}
use Rattle.replay_run.specs.Pieces.{tally}
use Rattle.replay_run.specs.Own.{own}
use Rattle.replay_run.specs.Settle.{unfinished, unfinished_after}
use Rattle.replay_run.specs.Legal.{IsLegalGroup}
use Rattle.replay_run.specs.Stands.{Stands}

-- a further answer that a blob is done changes nothing that the store keeps
stands_done : (l : Limits) (s : Store) (h : History) (name : ℕ) → Stands l s h → Stands l s (said h (answers.Done name))
stands_done l s h name stands = record {
  same_limits = stands.same_limits;
  same_ended = stands.same_ended;
  same_renderers = stands.same_renderers;
  same_names = stands.same_names;
  same_blobs = stands.same_blobs;
  same_pieces = stands.same_pieces;
  same_readers = stands.same_readers;
  distinct = stands.distinct;
  inside = stands.inside;
  held = stands.held;
}

pub applied : (l : Limits) (h : History) (event : Event) (s : Store) (answer : Answer) (done : Option ℕ) (counted : Tally) → unfinished h ≡ [] → has_ended h
    ≡ false → own l h event ≡ Some answer
    → Stands l s (heard h event answer) → unfinished_after event answer [] ≡ option_to_list done → ((h' : History) → Stands l s h' → counted ≡ tally l h')
    → IsLegalGroup l h (record { event = event; answers = answer ∷ map answers.Done (option_to_list done); tally = counted })
    × Stands l s (after h event (answer ∷ map answers.Done (option_to_list done)))
    × (unfinished (after h event (answer ∷ map answers.Done (option_to_list done))) ≡ [])
applied l h event s answer None counted owed still first stands finishes counts =
    let none : unfinished (heard h event answer) ≡ [] = ap (unfinished_after event answer) owed ∙ finishes in (
      record {
        open_still = still;
        own_answer = answer;
        is_own = first;
        settles = ap (λ names. answer ∷ map answers.Done names) (sym none);
        counts = counts (heard h event answer) stands;
      },
      stands,
      none,
    )
applied l h event s answer (Some name) counted owed still first stands finishes counts =
    let one : unfinished (heard h event answer) ≡ name ∷ [] = ap (unfinished_after event answer) owed ∙ finishes in
    let same : (name == name) ≡ true = eq-eqb name name refl in
    let later = stands_done l s (heard h event answer) name stands in (
      record {
        open_still = still;
        own_answer = answer;
        is_own = first;
        settles = ap (λ names. answer ∷ map answers.Done names) (sym one);
        counts = counts (said (heard h event answer) (answers.Done name)) later;
      },
      later,
      ap (filter (λ (each : ℕ). not (name == each))) one ∙ rw same refl,
    )
