-- Each use of a page number stands at that number.
use Rattle.std.proofs.Common.{◌≡◌, ℕ, ◌+◌, List, [], ◌∷◌, ◌++◌, length, refl, ap, sym, ◌∙◌, arith, Option, Some, None, length-append}
use Rattle.answer_text.specs.declared.answer.Answer.{Answer}
use Rattle.answer_text.specs.declared.answer.Answer.TheVariants as answers
use Rattle.blob_model.specs.Session.{Session}
use Rattle.blob_model.specs.History.{History, start, heard, refused, said}
use Rattle.blob_model.specs.Pages.{Page, next_page, next_page_after, numbers, pages, pages_after}
use Rattle.blob_model.proofs.legal.Causes.{IsCaused}
use Rattle.blob_model.proofs.legal.PageNumbers.{Takes, heard_takes, said_takes}
use Rattle.store_laws.specs.PageLaws.{numbered_pages}
use Rattle.store_laws.specs.PageFiles.{writes, writes_after}

abbrev file_of : ℕ → List ℕ → Page
file_of number list = record { number = number; pieces = list }

-- a page file more
numbered_file : (n : ℕ) (xs : List (Option (List ℕ))) (list : List ℕ)
    → numbered_pages n (xs ++ Some list ∷ []) ≡ numbered_pages n xs ++ file_of (n + length xs) list ∷ []
numbered_file n [] list =
    let same : n ≡ n + length {A = Option (List ℕ)} [] = omega arith in
    ap (λ (k : ℕ). file_of k list ∷ []) same
numbered_file n (None ∷ xs) list =
    let same : (n + 1) + length xs ≡ n + length {A = Option (List ℕ)} (None ∷ xs) = omega arith in
    numbered_file (n + 1) xs list ∙ ap (λ (k : ℕ). numbered_pages (n + 1) xs ++ file_of k list ∷ []) same
numbered_file n (Some one ∷ xs) list =
    let same : (n + 1) + length xs ≡ n + length (Some one ∷ xs) = omega arith in
    ap (λ (files : List Page). file_of n one ∷ files)
    (numbered_file (n + 1) xs list ∙ ap (λ (k : ℕ). numbered_pages (n + 1) xs ++ file_of k list ∷ []) same)

-- a write more that failed
numbered_torn : (n : ℕ) (xs : List (Option (List ℕ))) → numbered_pages n (xs ++ None ∷ []) ≡ numbered_pages n xs
numbered_torn n [] = refl
numbered_torn n (None ∷ xs) = numbered_torn (n + 1) xs
numbered_torn n (Some one ∷ xs) = ap (λ (files : List Page). file_of n one ∷ files) (numbered_torn (n + 1) xs)

-- uses of page numbers, and the page files among them with the next number
abbrev Stand : List (Option (List ℕ)) → List Page → ℕ → Type 0
Stand ws files next = (numbered_pages 0 ws ≡ files) × (length ws ≡ next)

wrote : (ws : List (Option (List ℕ))) (files : List Page) (next number : ℕ) (list : List ℕ) → number ≡ next → Stand ws files next
    → Stand (ws ++ Some list ∷ []) (files ++ file_of number list ∷ []) (next + 1)
wrote ws files next number list takes at =
    let long = at.1 in
    let same : 0 + length ws ≡ number = omega (arith, takes, long) in (
      numbered_file 0 ws list ∙ ap (λ (k : ℕ). numbered_pages 0 ws ++ file_of k list ∷ []) same
          ∙ ap (λ (front : List Page). front ++ file_of number list ∷ []) at.0,
      omega (arith, length-append ws (Some list ∷ []), long),
    )

failed : (ws : List (Option (List ℕ))) (files : List Page) (next : ℕ) → Stand ws files next → Stand (ws ++ None ∷ []) files (next + 1)
failed ws files next at =
    let long = at.1 in
    let more : length (ws ++ None ∷ []) ≡ length ws + 1 = length-append ws (None ∷ []) in
    (numbered_torn 0 ws ∙ at.0, omega (arith, more, long))

step : (answer : Answer) (ws : List (Option (List ℕ))) (files : List Page) (next : ℕ) → Takes answer next → Stand ws files next
    → Stand (writes_after answer ws) (pages_after answer files) (next_page_after answer next)
step (answers.Stored file piece) ws files next takes at = wrote ws files next file.0 (piece.0 ∷ []) takes at
step (answers.Paged job file list) ws files next takes at = wrote ws files next file.0 (numbers list) takes at
step (answers.Moved job file list) ws files next takes at = wrote ws files next file.0 (numbers list) takes at
step (answers.StoreFailed file) ws files next takes at = failed ws files next at
step (answers.PageFailed job file) ws files next takes at = failed ws files next at
step (answers.MoveFailed job file) ws files next takes at = failed ws files next at
step answer ws files next takes at = at

stand : (s : Session) (h : History) → IsCaused s h → Stand (writes h) (pages h) (next_page h)
stand s start caused = (refl, refl)
stand s (heard h event answer) caused = step answer (writes h) (pages h) (next_page h) (heard_takes s h event answer caused.0) (stand s h caused.1)
stand s (refused h event why) caused = stand s h caused.2
stand s (said h answer) caused = step answer (writes h) (pages h) (next_page h) (said_takes s h answer caused.0) (stand s h caused.1)

-- where each answer has its cause
pub pages_in_turn : (s : Session) (h : History) → IsCaused s h → pages h ≡ numbered_pages 0 (writes h)
pages_in_turn s h caused = sym (stand s h caused).0

-- the next page number comes behind those used
pub writes_in_turn : (s : Session) (h : History) → IsCaused s h → length (writes h) ≡ next_page h
writes_in_turn s h caused = (stand s h caused).1
