-- Which texts are answers, refusals and plans, and what their readers say. Own.
use Rattle.std.specs.Prelude.{ℕ, ◌≡◌, ◌<◌, List, [], ◌∷◌, ◌++◌, codes, length, Result, Ok, Err}
use Rattle.std.specs.List.{AllByRecursion}
use Rattle.blob_words.specs.declared.counted.Counted.{Counted}
use Rattle.text_fields.specs.Kind.{Kind, number_32, number_64, name, file_name, content_type, some_bytes, broken, ending, status, switch, Spells, AllSpell}
use Rattle.text_fields.specs.declared.line_fault.LineFault.{LineFault}
use Rattle.text_fields.specs.declared.line_fault.LineFault.TheVariants as line_faults
use Rattle.text_fields.specs.Counted.{counted_fields}
use Rattle.answer_text.specs.Word.{word_text, refusal_text, plan_text}
use Rattle.answer_text.specs.declared.answer_word.AnswerWord.{AnswerWord}
use Rattle.answer_text.specs.declared.answer_word.AnswerWord.TheVariants as words
use Rattle.answer_text.specs.declared.plan_word.PlanWord.{PlanWord}
use Rattle.answer_text.specs.declared.plan_word.PlanWord.TheVariants as plan_words
use Rattle.answer_text.specs.declared.refusal_word.RefusalWord.{RefusalWord}
use Rattle.answer_text.specs.declared.refusal_word.RefusalWord.TheVariants as refusal_words
use Rattle.answer_text.specs.declared.text_fault.TextFault.{TextFault}
use Rattle.answer_text.specs.declared.text_fault.TextFault.TheVariants as faults

-- the details behind a refusal's word, but for `too-many`
abbrev pub refusal_kinds : RefusalWord → List Kind
refusal_kinds refusal_words.NoRenderer = number_32 ∷ []
refusal_kinds refusal_words.RendererUsed = number_32 ∷ []
refusal_kinds refusal_words.NameUsed = name ∷ []
refusal_kinds refusal_words.NoHandle = number_32 ∷ name ∷ []
refusal_kinds refusal_words.NoSuchHandle = number_32 ∷ []
refusal_kinds refusal_words.HandleTaken = number_32 ∷ []
refusal_kinds refusal_words.NoTransport = name ∷ []
refusal_kinds refusal_words.BadSegment = number_32 ∷ []
refusal_kinds refusal_words.SegmentTaken = number_32 ∷ []
refusal_kinds refusal_words.SegmentLength = number_64 ∷ []
refusal_kinds refusal_words.ReaderUsed = number_32 ∷ []
refusal_kinds refusal_words.NoReader = number_32 ∷ []
refusal_kinds refusal_words.Range = number_64 ∷ []
refusal_kinds refusal_words.UrlForm = []
refusal_kinds refusal_words.UrlTaken = []
refusal_kinds refusal_words.NoUrl = []
refusal_kinds refusal_words.NoJob = number_32 ∷ []
refusal_kinds refusal_words.StaleStamp = number_64 ∷ []
refusal_kinds refusal_words.NoFile = []
refusal_kinds refusal_words.TooMany = []
refusal_kinds refusal_words.LimitsAgain = []

abbrev pub IsRefusalFields : RefusalWord → List (List ℕ) → Type 0
IsRefusalFields refusal_words.TooMany texts = (counted : Counted) × (texts ≡ counted_fields counted)
IsRefusalFields word texts = AllSpell (refusal_kinds word) texts

-- the texts of a refusal
abbrev pub IsRefusal : List (List ℕ) → Type 0
IsRefusal [] = ⊥
IsRefusal (first ∷ own) = (word : RefusalWord) × (first ≡ refusal_text word) × IsRefusalFields word own

-- the fields behind a plan's word
abbrev pub plan_kinds : PlanWord → List Kind
plan_kinds plan_words.None = []
plan_kinds plan_words.Inline = []
plan_kinds plan_words.Shared = number_32 ∷ []
plan_kinds plan_words.File = number_32 ∷ []

-- the texts of a plan
abbrev pub IsPlan : List (List ℕ) → Type 0
IsPlan [] = ⊥
IsPlan (first ∷ own) = (word : PlanWord) × (first ≡ plan_text word) × AllSpell (plan_kinds word) own

-- the texts of one or more pieces
abbrev pub ArePieces : List (List ℕ) → Type 0
ArePieces texts = (0 < length texts) × AllByRecursion (Spells number_32) texts

-- a job and pieces
abbrev pub IsJob : List (List ℕ) → Type 0
IsJob [] = ⊥
IsJob (job ∷ pieces) = Spells number_32 job × ArePieces pieces

-- a job, a page and pieces
abbrev pub IsPaged : List (List ℕ) → Type 0
IsPaged [] = ⊥
IsPaged (job ∷ texts) = Spells number_32 job × IsJob texts

-- the fields behind an answer's word, but for those of a refusal, a plan or pieces
abbrev pub kinds_of : AnswerWord → List Kind
kinds_of words.Good = []
kinds_of words.Refused = []
kinds_of words.Planned = []
kinds_of words.Broken = name ∷ broken ∷ []
kinds_of words.Taken = number_32 ∷ []
kinds_of words.Stored = number_32 ∷ number_32 ∷ []
kinds_of words.StoreFailed = number_32 ∷ []
kinds_of words.Told = name ∷ number_64 ∷ content_type ∷ status ∷ []
kinds_of words.Revoked = []
kinds_of words.Nothing = []
kinds_of words.Opened = number_32 ∷ number_64 ∷ content_type ∷ []
kinds_of words.Given = number_32 ∷ some_bytes ∷ []
kinds_of words.Wait = number_32 ∷ []
kinds_of words.Ended = number_32 ∷ ending ∷ []
kinds_of words.FileChanged = number_32 ∷ file_name ∷ []
kinds_of words.PageFault = number_32 ∷ number_32 ∷ []
kinds_of words.HandleFailed = number_32 ∷ number_32 ∷ []
kinds_of words.Paged = []
kinds_of words.Empty = number_32 ∷ []
kinds_of words.PageFailed = number_32 ∷ number_32 ∷ []
kinds_of words.Moved = []
kinds_of words.MoveFailed = number_32 ∷ number_32 ∷ []
kinds_of words.MoveUnread = number_32 ∷ number_32 ∷ []
kinds_of words.LostJob = number_32 ∷ []
kinds_of words.Held = number_32 ∷ number_32 ∷ number_32 ∷ number_32 ∷ switch ∷ []
kinds_of words.Dropped = name ∷ []
kinds_of words.Done = name ∷ []
kinds_of words.Removed = number_32 ∷ []
kinds_of words.Left = number_32 ∷ []
kinds_of words.Granted = name ∷ []
kinds_of words.Job = []
kinds_of words.Compacting = []

abbrev pub IsAnswerFields : AnswerWord → List (List ℕ) → Type 0
IsAnswerFields words.Refused texts = IsRefusal texts
IsAnswerFields words.Planned texts = IsPlan texts
IsAnswerFields words.Paged texts = IsPaged texts
IsAnswerFields words.Moved texts = IsPaged texts
IsAnswerFields words.Job texts = IsJob texts
IsAnswerFields words.Compacting texts = IsPaged texts
IsAnswerFields word texts = AllSpell (kinds_of word) texts

-- the texts of an answer
abbrev pub IsAnswer : List (List ℕ) → Type 0
IsAnswer [] = ⊥
IsAnswer (first ∷ own) = (word : AnswerWord) × (first ≡ word_text word) × IsAnswerFields word own

-- the texts of a tally
abbrev pub tally_kinds : List Kind
tally_kinds = number_32 ∷ number_64 ∷ number_32 ∷ number_64 ∷ []

abbrev pub IsTally : List (List ℕ) → Type 0
IsTally [] = ⊥
IsTally (first ∷ own) = (first ≡ codes "=") × AllSpell tally_kinds own

-- what a fault of a field means for an answer
abbrev pub form_of : LineFault → TextFault
form_of line_faults.Memory = faults.Memory
form_of fault = faults.Form

-- what a refusal says: the texts spell no value; want of memory says nothing
abbrev pub Refuses : {S : Type 0} → (S → Type 0) → S → TextFault → Type 0
Refuses Is texts faults.Form = Is texts → ⊥
Refuses Is texts faults.Memory = Unit {0}

-- what a reader says: the value that the texts spell, or that they spell none
abbrev pub ReadsAs : {A S : Type 0} → (S → Type 0) → (A → Type 0) → (A → S) → S → Result A TextFault → Type 0
ReadsAs Is Has spell texts (Ok value) = Has value × (texts ≡ spell value)
ReadsAs Is Has spell texts (Err fault) = Refuses Is texts fault

-- some texts of these kinds stand in front
abbrev pub HasFront : List Kind → List (List ℕ) → Type 0
HasFront kinds texts = (front back : List (List ℕ)) × (texts ≡ front ++ back) × AllSpell kinds front

-- what a reader of the first few of some texts says, with the texts before and after the call
abbrev pub TakesAs : {A : Type 0} → List Kind → (A → Type 0) → (A → List (List ℕ)) → List (List ℕ) → List (List ℕ) → Result A TextFault → Type 0
TakesAs kinds Fit spell old new (Ok values) = Fit values × (old ≡ spell values ++ new)
TakesAs kinds Fit spell old new (Err fault) = Refuses (HasFront kinds) old fault
