-- What a store owes, read off contents. Own.
use Rattle.std.specs.Prelude.{ℕ, ◌+◌, ◌==◌, ◌&&◌, Bool, false, not, List, [], ◌∷◌, nat_le, is_none, Option, if◌then◌else◌}
use Rattle.std.specs.Option.{option_map_or}
use Rattle.std.specs.List.{list_any}
use Rattle.blob_words.specs.declared.status.Status.{Status}
use Rattle.answer_text.specs.declared.answer.Answer.{Answer}
use Rattle.answer_text.specs.declared.answer.Answer.TheVariants as answers
use Rattle.blob_model.specs.Session.{Session, page_limit}
use Rattle.blob_model.specs.History.{History, said}
use Rattle.blob_model.specs.Parts.{own_bytes}
use Rattle.blob_model.specs.Builds.{Build}
use Rattle.blob_model.specs.Standing.{is_done_status}
use Rattle.blob_model.specs.Tally.{memory}
use Rattle.blob_model.specs.Pieces.{Piece}
use Rattle.blob_model.specs.Pages.{Page}
use Rattle.blob_model.specs.Jobs.{Job}
use Rattle.blob_model.specs.Order.{named}
use Rattle.history_notions.specs.Kept.{ended_in}

-- a blob has not ended
abbrev pub is_unended : List (ℕ × Status) → Build → Bool
is_unended endings build = is_none (ended_in endings build.name)

-- a blob is lost where it is unfinished and not among those that live; it is dropped then
abbrev pub is_lost : List (ℕ × Status) → List Build → Build → Bool
is_lost endings lives build = is_none (ended_in endings build.name) && not (named build.name lives)

abbrev pub dropped : Build → Answer
dropped build = answers.Dropped build.name

-- whether the blob of this name is done
abbrev pub is_done_in : List (ℕ × Status) → ℕ → Bool
is_done_in endings name = option_map_or is_done_status (ended_in endings name) false

-- a blob that waits: its name and its own bytes
abbrev pub head : Build → ℕ × ℕ
head build = (build.name, own_bytes build.parts)

-- these are granted in order, while the first of them fits in memory
abbrev pub grants_to : Session → History → List (ℕ × ℕ) → List Answer
grants_to s h [] = []
grants_to s h (one ∷ more) =
    if nat_le (memory (page_limit s) h + one.1) s.limits.memory then answers.Granted one.0 ∷ grants_to s (said h (answers.Granted one.0)) more else []

-- a page file is due where it isn't one of those held and wasn't asked for
abbrev pub is_due_in : List ℕ → List ℕ → Page → Bool
is_due_in held asked page = not (list_any (λ (each : ℕ). each == page.number) held) && not (list_any (λ (number : ℕ). number == page.number) asked)

-- whether the blob of the piece is done, and the job doesn't name the piece
abbrev pub is_pageable : List (ℕ × Status) → Option Job → Piece → Bool
is_pageable endings job piece =
    is_done_in endings piece.blob && not (option_map_or (λ (one : Job). list_any (λ (named : ℕ). named == piece.number) one.pieces) job false)

abbrev pub number_of : Page → ℕ
number_of page = page.number
