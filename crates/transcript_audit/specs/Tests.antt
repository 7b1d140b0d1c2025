-- Tests on answers, each of which tells exactly what it is named for. Own.
use Rattle.std.specs.Prelude.{◌==◌, Bool, false, ◌||◌, ◌&&◌, true, Option, Some, List, [], ◌∷◌}
use Rattle.blob_words.specs.declared.number.PieceNo.{PieceNo}
use Rattle.blob_words.specs.declared.plan.Plan.{Plan}
use Rattle.blob_words.specs.declared.plan.Plan.TheVariants as plans
use Rattle.blob_words.specs.declared.status.Status.{Status}
use Rattle.blob_words.specs.declared.tally.Tally.{Tally}
use Rattle.answer_text.specs.declared.answer.Answer.{Answer}
use Rattle.answer_text.specs.declared.answer.Answer.TheVariants as answers
use Rattle.answer_text.specs.declared.refusal.Refusal.{Refusal}
use Rattle.blob_model.proofs.tested.Words as words
use Rattle.blob_model.proofs.tested.Answers as whole

-- whether two statuses, plans, refusals, lists of pieces or answers are one
abbrev pub same_status : Status → Status → Bool
same_status one other = words.same_status one other

abbrev pub same_plan : Plan → Plan → Bool
same_plan one other = words.same_plan one other

abbrev pub same_refusal : Refusal → Refusal → Bool
same_refusal one other = words.same_refusal one other

abbrev pub same_list : List PieceNo → List PieceNo → Bool
same_list one other = words.same_list one other

abbrev pub same_answer : Answer → Answer → Bool
same_answer one other = whole.same_answer one other

-- whether the answer is this list alone
abbrev pub is_only : Answer → List Answer → Bool
is_only answer [] = false
is_only answer (one ∷ []) = same_answer answer one
is_only answer (one ∷ second ∷ more) = false

-- whether it is one of these lists
abbrev pub is_among : Answer → List (List Answer) → Bool
is_among answer [] = false
is_among answer (list ∷ []) = is_only answer list
is_among answer (list ∷ next ∷ lists) = is_only answer list || is_among answer (next ∷ lists)

-- whether two answers are this list alone, and one of these lists
abbrev pub is_pair : Answer → Answer → List Answer → Bool
is_pair first second [] = false
is_pair first second (one ∷ []) = false
is_pair first second (one ∷ two ∷ []) = same_answer first one && same_answer second two
is_pair first second (one ∷ two ∷ three ∷ more) = false

abbrev pub is_pair_among : Answer → Answer → List (List Answer) → Bool
is_pair_among first second [] = false
is_pair_among first second (list ∷ []) = is_pair first second list
is_pair_among first second (list ∷ next ∷ lists) = is_pair first second list || is_pair_among first second (next ∷ lists)

-- whether each segment goes to a page file
abbrev pub is_file : Option Plan → Bool
is_file (Some (plans.File n)) = true
is_file plan = false

-- whether two lists of answers are one
abbrev pub same_answers : List Answer → List Answer → Bool
same_answers [] [] = true
same_answers [] (b ∷ bs) = false
same_answers (a ∷ xs) [] = false
same_answers (a ∷ xs) (b ∷ bs) = same_answer a b && same_answers xs bs

-- whether an answer is of a kind that settling has, and whether it is of one with many values
abbrev pub is_owed : Answer → Bool
is_owed (answers.Broken name status) = true
is_owed (answers.Dropped name) = true
is_owed (answers.Done name) = true
is_owed (answers.Removed file) = true
is_owed (answers.Left file) = true
is_owed (answers.Granted name) = true
is_owed (answers.Job job list) = true
is_owed (answers.Compacting job file list) = true
is_owed answer = false

abbrev pub is_wide : Answer → Bool
is_wide (answers.Told name size kind status) = true
is_wide (answers.Opened reader size kind) = true
is_wide (answers.Held blobs urls readers waits pages) = true
is_wide answer = false

-- whether two tallies are one
abbrev pub same_tally : Tally → Tally → Bool
same_tally one other = ((one.memory == other.memory) && (one.disk == other.disk)) && ((one.pieces == other.pieces) && (one.files == other.files))
