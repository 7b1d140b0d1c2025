-- The summary of two groups, written out.
use Rattle.std.proofs.Common.{◌≡◌, List, [], ◌∷◌, ◌++◌, lit<, refl}
use Rattle.std.specs.Prelude.{codes}
use Rattle.std.proofs.lemmas.Fmt.{decimal_digit}
use Rattle.session_script.specs.declared.event.Event.TheVariants as events
use Rattle.answer_text.specs.declared.answer.Answer.TheVariants as answers
use Rattle.answer_text.specs.declared.refusal.Refusal.TheVariants as refusals
use Rattle.answer_text.specs.declared.group.Group.{Group}
use Rattle.session_gen.specs.Summary.{Summary}

abbrev pub groups : List Group
groups =
    record {
      event = events.Count;
      answers =
          answers.Refused refusals.LimitsAgain ∷ answers.Done 5 ∷ answers.Job (record { 0 = 0 }) [] ∷ answers.Compacting (record { 0 = 1 }) (record { 0 = 0 })
          []
          ∷ answers.Paged (record { 0 = 0 }) (record { 0 = 0 }) [] ∷ answers.Given (record { 0 = 1 }) (7 ∷ 8 ∷ []) ∷ answers.Done 6 ∷ [];
      tally = record { pieces = 3; memory = 9; files = 1; disk = 4 };
    }
    ∷ record { event = events.Finish; answers = answers.Good ∷ []; tally = record { pieces = 4; memory = 5; files = 2; disk = 8 } } ∷ []

pub row : Summary groups ≡ codes "lines 2" ++ 10 ∷ codes "done 2" ++ 10 ∷ codes "jobs 1" ++ 10 ∷ codes "paged 1" ++ 10 ∷ codes "given 2" ++ 10
    ∷ codes "refused 1" ++ 10 ∷ codes "peak 9" ++ 10 ∷ codes "last 4 5 2 8" ++ 10 ∷ []
row =
    rw (
      decimal_digit 2 (lit< tt),
      decimal_digit 1 (lit< tt),
      decimal_digit 9 (lit< tt),
      decimal_digit 4 (lit< tt),
      decimal_digit 5 (lit< tt),
      decimal_digit 8 (lit< tt),
    ) refl
