-- Page files have rising numbers below the next one, and those asked for were written.
use Rattle.std.proofs.Common.{◌≡◌, ℕ, ◌+◌, ◌≤◌, true, List, [], ◌∷◌, ◌++◌, map, refl, ap, subst, sym, ◌∙◌, inl, inr, arith, Option, Some, None}
use Rattle.std.specs.Prelude.{IfSome}
use Rattle.answer_text.specs.declared.answer.Answer.{Answer}
use Rattle.answer_text.specs.declared.answer.Answer.TheVariants as answers
use Rattle.blob_words.specs.declared.number.JobNo.{JobNo}
use Rattle.session_script.specs.declared.event.Event.{Event}
use Rattle.blob_model.specs.Session.{Session, page_limit}
use Rattle.blob_model.specs.History.{History, start, heard, refused, said}
use Rattle.blob_model.specs.Pages.{Page, pages, pages_after, next_page, next_page_after}
use Rattle.blob_model.specs.Jobs.{in_flight}
use Rattle.blob_model.specs.Tally.{job_left}
use Rattle.blob_model.specs.Choice.{IsOneOf}
use Rattle.blob_model.specs.Own.{job_done, job_failed, source_of}
use Rattle.blob_model.specs.PageLaws.{RiseWithin, page_numbers}
use Rattle.blob_model.proofs.Lists.{false_true}
use Rattle.blob_model.proofs.legal.Causes.{is_idle, OwnCase, idle, breaks, stores, unstores, replies, loses, own_case, IsFurther, by_store, by_unstore, by_drop, by_break, by_done, by_removal, by_grant, by_page_job, by_compaction, IsHeard, IsCaused}

-- ---- numbers of page files

-- the page number that an answer takes
abbrev pub write_of : Answer → Option ℕ
write_of (answers.Stored file piece) = Some file.0
write_of (answers.StoreFailed file) = Some file.0
write_of (answers.Paged job file list) = Some file.0
write_of (answers.PageFailed job file) = Some file.0
write_of (answers.Moved job file list) = Some file.0
write_of (answers.MoveFailed job file) = Some file.0
write_of answer = None

-- an answer takes this number, or none
abbrev pub Takes : Answer → ℕ → Type 0
Takes answer next = IfSome (write_of answer) (λ (number : ℕ). number ≡ next)

idle_takes : (answer : Answer) (next : ℕ) → is_idle answer ≡ true → Takes answer next
idle_takes (answers.Stored file piece) next e = absurd (false_true e)
idle_takes (answers.StoreFailed file) next e = absurd (false_true e)
idle_takes (answers.Paged job file list) next e = absurd (false_true e)
idle_takes (answers.PageFailed job file) next e = absurd (false_true e)
idle_takes (answers.Moved job file list) next e = absurd (false_true e)
idle_takes (answers.MoveFailed job file) next e = absurd (false_true e)
idle_takes answer next e = tt

-- the first of two equal lists
pub same_first : (a b : Answer) (xs ys : List Answer) → (a ∷ xs) ≡ (b ∷ ys) → a ≡ b
same_first a b xs ys e = cc

reply_takes : (h : History) (job : JobNo) (source : Option ℕ) (list : List ℕ) (answer : Answer) (rest : List Answer) → IsOneOf (answer ∷ rest)
    ((job_done h job source list ∷ []) ∷ job_failed h job source list)
    → Takes answer (next_page h)
reply_takes h job source [] answer rest (inl e) = subst (λ (a : Answer). Takes a (next_page h)) (sym (same_first answer (answers.Empty job) rest [] e)) tt
reply_takes h job source [] answer rest (inr never) = absurd never
reply_takes h job None (number ∷ numbers) answer rest (inl e) = subst (λ (a : Answer). Takes a (next_page h)) (sym (same_first answer _ rest [] e)) refl
reply_takes h job None (number ∷ numbers) answer rest (inr (inl e)) = subst (λ (a : Answer). Takes a (next_page h)) (sym (same_first answer _ rest [] e)) refl
reply_takes h job None (number ∷ numbers) answer rest (inr (inr never)) = absurd never
reply_takes h job (Some file) (number ∷ numbers) answer rest (inl e) = subst (λ (a : Answer). Takes a (next_page h)) (sym (same_first answer _ rest [] e)) refl
reply_takes h job (Some file) (number ∷ numbers) answer rest (inr (inl e)) = subst (λ (a : Answer). Takes a (next_page h)) (sym (same_first answer _ rest [] e))
    refl
reply_takes h job (Some file) (number ∷ numbers) answer rest (inr (inr (inl e))) = subst (λ (a : Answer). Takes a (next_page h))
    (sym (same_first answer _ rest [] e)) tt
reply_takes h job (Some file) (number ∷ numbers) answer rest (inr (inr (inr never))) = absurd never

-- the first answer of a line takes the next number, or none
first_takes : (s : Session) (h : History) (event : Event) (answer : Answer) (rest : List Answer) → OwnCase s h event (answer ∷ rest)
    → Takes answer (next_page h)
first_takes s h event answer rest (idle one e free) = subst (λ (a : Answer). Takes a (next_page h)) (sym (same_first answer one rest [] e))
    (idle_takes one (next_page h) free)
first_takes s h event answer rest (breaks b status broken building e) = subst (λ (a : Answer). Takes a (next_page h)) (sym (same_first answer _ rest [] e)) tt
first_takes s h event answer rest (stores renderer b segment bytes n same at e) = subst (λ (a : Answer). Takes a (next_page h))
    (sym (same_first answer _ rest _ e)) tt
first_takes s h event answer rest (unstores renderer b segment bytes n same at e) = subst (λ (a : Answer). Takes a (next_page h))
    (sym (same_first answer _ rest _ e)) tt
first_takes s h event answer rest (replies job one same e reply done) = reply_takes h job (source_of (in_flight h)) (job_left (page_limit s) h) answer rest done
first_takes s h event answer rest (loses job same e) = subst (λ (a : Answer). Takes a (next_page h)) (sym (same_first answer _ rest [] e)) tt

pub heard_takes : (s : Session) (h : History) (event : Event) (answer : Answer) → IsHeard s h event answer → Takes answer (next_page h)
heard_takes s h event answer line = first_takes s h event answer line.rest (own_case s h event (answer ∷ line.rest) line.own)

pub said_takes : (s : Session) (h : History) (answer : Answer) → IsFurther s h answer → Takes answer (next_page h)
said_takes s h answer (by_store g renderer b segment bytes n same passes at e) =
    subst (λ (k : History). Takes answer (next_page k)) (sym same) (subst (λ (a : Answer). Takes a (next_page g)) (sym e) refl)
said_takes s h answer (by_unstore g renderer b segment bytes n same passes at e) =
    subst (λ (k : History). Takes answer (next_page k)) (sym same) (subst (λ (a : Answer). Takes a (next_page g)) (sym e) refl)
said_takes s h answer (by_drop build found begun unrooted e) = subst (λ (a : Answer). Takes a (next_page h)) (sym e) tt
said_takes s h answer (by_break build found begun status broken e) = subst (λ (a : Answer). Takes a (next_page h)) (sym e) tt
said_takes s h answer (by_done build found begun complete e) = subst (λ (a : Answer). Takes a (next_page h)) (sym e) tt
said_takes s h answer (by_removal number written left (inl e)) = subst (λ (a : Answer). Takes a (next_page h)) (sym e) tt
said_takes s h answer (by_removal number written left (inr e)) = subst (λ (a : Answer). Takes a (next_page h)) (sym e) tt
said_takes s h answer (by_grant build found e) = subst (λ (a : Answer). Takes a (next_page h)) (sym e) tt
said_takes s h answer (by_page_job number more may chosen e) = subst (λ (a : Answer). Takes a (next_page h)) (sym e) tt
said_takes s h answer (by_compaction file may found e) = subst (λ (a : Answer). Takes a (next_page h)) (sym e) tt

-- ---- they rise

rise_wider : (from below more : ℕ) (xs : List ℕ) → below ≤ more → RiseWithin from below xs → RiseWithin from more xs
rise_wider from below more [] low all = tt
rise_wider from below more (x ∷ xs) low all = let here = all.1 in (all.0, omega (arith, here, low), rise_wider (x + 1) below more xs low all.2)

rise_more : (from below : ℕ) (xs : List ℕ) → from ≤ below → RiseWithin from below xs → RiseWithin from (below + 1) (xs ++ below ∷ [])
rise_more from below [] low all = (low, omega arith, tt)
rise_more from below (x ∷ xs) low all = let here = all.1 in (all.0, omega (arith, here), rise_more (x + 1) below xs (omega (arith, here)) all.2)

numbers_more : (list : List Page) (file : Page) → map (λ (each : Page). each.number) (list ++ file ∷ []) ≡ map (λ (each : Page). each.number) list
    ++ file.number ∷ []
numbers_more [] file = refl
numbers_more (x ∷ list) file = ap (λ (xs : List ℕ). x.number ∷ xs) (numbers_more list file)

written_rise : (next number : ℕ) (list : List Page) (file : Page) → file.number ≡ number → number ≡ next
    → RiseWithin 0 next (map (λ (each : Page). each.number) list)
    → RiseWithin 0 (next + 1) (map (λ (each : Page). each.number) (list ++ file ∷ []))
written_rise next number list file same takes all =
    subst (RiseWithin 0 (next + 1)) (sym (numbers_more list file ∙ ap (λ (n : ℕ). map (λ (each : Page). each.number) list ++ n ∷ []) (same ∙ takes)))
    (rise_more 0 next (map (λ (each : Page). each.number) list) (omega arith) all)

rise_step : (answer : Answer) (next : ℕ) (list : List Page) → Takes answer next → RiseWithin 0 next (map (λ (each : Page). each.number) list)
    → RiseWithin 0 (next_page_after answer next) (map (λ (each : Page). each.number) (pages_after answer list))
rise_step (answers.Stored file piece) next list takes all = written_rise next file.0 list (record { number = file.0; pieces = piece.0 ∷ [] }) refl takes all
rise_step (answers.Paged job file more) next list takes all = written_rise next file.0 list _ refl takes all
rise_step (answers.Moved job file more) next list takes all = written_rise next file.0 list _ refl takes all
rise_step (answers.StoreFailed file) next list takes all = rise_wider 0 next (next + 1) (map (λ (each : Page). each.number) list) (omega arith) all
rise_step (answers.PageFailed job file) next list takes all = rise_wider 0 next (next + 1) (map (λ (each : Page). each.number) list) (omega arith) all
rise_step (answers.MoveFailed job file) next list takes all = rise_wider 0 next (next + 1) (map (λ (each : Page). each.number) list) (omega arith) all
rise_step answer next list takes all = all

pub pages_rise : (s : Session) (h : History) → IsCaused s h → RiseWithin 0 (next_page h) (page_numbers h)
pages_rise s start caused = tt
pages_rise s (heard h event answer) caused = rise_step answer (next_page h) (pages h) (heard_takes s h event answer caused.0) (pages_rise s h caused.1)
pages_rise s (refused h event why) caused = pages_rise s h caused.2
pages_rise s (said h answer) caused = rise_step answer (next_page h) (pages h) (said_takes s h answer caused.0) (pages_rise s h caused.1)
