-- What is kept in memory, as it is told.
use Rattle.std.proofs.Common.{◌≡◌, ℕ, suc, map, ap, ◌+◌, ◌<◌, List, Some, None, Option, length, refl, subst}
use Rattle.std.specs.Prelude.{IfSome}
use Rattle.std.specs.Option.{option_map}
use Rattle.blob_words.specs.declared.number.PageNo.{PageNo}
use Rattle.page_disk.specs.declared.change.Change.{Change}
use Rattle.page_disk.specs.declared.change.Change.TheVariants.{Put}
use Rattle.page_volumes.specs.Group.{told_more, Log}
use Rattle.page_volumes.specs.Kept.{noted, sealed, started, taken, Kept}
use Rattle.page_volumes.specs.Plain.{log_of}
use Rattle.std.proofs.Common.{◌++◌, ◌∷◌, []}

pub noted_told : (change : Change) (log : Option Kept) → option_map log_of (option_map (noted change) log) ≡ told_more change (option_map log_of log)
noted_told change None = refl
noted_told change (Some log) = refl

pub started_told : (log : Option Kept) → option_map log_of (option_map started log) ≡ option_map (λ (log : Log). record log { came = [] })
    (option_map log_of log)
started_told None = refl
started_told (Some log) = refl

pub taken_told : (bytes : List ℕ) (log : Option Kept) → option_map log_of (option_map (taken bytes) log)
    ≡ option_map (λ (log : Log). record log { came = log.came ++ bytes }) (option_map log_of log)
taken_told bytes None = refl
taken_told bytes (Some log) = refl

pub sealed_told : (page : PageNo) (log : Option Kept) → option_map log_of (option_map (sealed page) log)
    ≡ option_map (λ (log : Log). record { changes = log.changes ++ Put page log.came ∷ []; came = [] }) (option_map log_of log)
sealed_told page None = refl
sealed_told page (Some log) = refl

pub within_same : (found : Option ℕ) (one other : ℕ) → one ≡ other → IfSome found (λ k. k < one) → IfSome found (λ k. k < other)
within_same found one other same so = subst (λ n. IfSome found (λ k. k < n)) same so

pub map_length : {A B : Type 0} (f : A → B) (xs : List A) → length (map f xs) ≡ length xs
map_length f [] = refl
map_length f (x ∷ xs) = ap suc (map_length f xs)
