-- What is read off contents to decide a build line is what the history says.
use Rattle.std.proofs.Common.{◌≡◌, ℕ, zero, suc, ◌+◌, ◌-◌, ◌<◌, ◌≤◌, ◌==◌, ◌&&◌, ◌||◌, Bool, true, false, cond, not, List, [], ◌∷◌, ◌++◌, length, sum, Option, Some, None, refl, sym, ap, ◌∙◌, arith, length-append}
use Rattle.std.specs.Prelude.{filter, nat_lt, is_none, unwrap_or, slice_get, map}
use Rattle.std.specs.List.{list_any}
use Rattle.std.specs.Option.{option_map, option_map_or}
use Rattle.std.proofs.lemmas.Bool.{lt-ltb}
use Rattle.std.proofs.lemmas.Option.{slice_get-map}
use Rattle.blob_words.specs.declared.status.Status.{Status}
use Rattle.session_script.specs.declared.event.Part.{Part}
use Rattle.session_script.specs.declared.event.Part.TheVariants.{Embedded, Asked, FileRange, BlobRange, HandleRange}
use Rattle.blob_model.specs.Session.{Slot, Outside, Session}
use Rattle.blob_model.specs.History.{History}
use Rattle.blob_model.specs.Builds.{Build, builds, size_in}
use Rattle.blob_model.specs.Handles.{has_handle}
use Rattle.blob_model.specs.Standing.{is_broken, is_broken_status}
use Rattle.blob_model.specs.Recorded.{FileState}
use Rattle.blob_model.specs.Parts.{own_bytes, own_lengths, embedded}
use Rattle.blob_model.specs.Construct.{slot_size, is_invalid, is_lost_source, is_unrecorded}
use Rattle.history_notions.specs.declared.contents.Contents.{Contents}
use Rattle.history_notions.specs.Kept.{count_in}
use Rattle.history_notions.specs.Reach.{is_broken_in}
use Rattle.history_notions.specs.Silent.{silent, outside_of}
use Rattle.history_notions.specs.Follows.{Follows}
use Rattle.history_notions.specs.Planned.{has_handle_in, is_invalid_in, is_lost_in, is_unrecorded_in}

pub any_alike : {X : Type 0} (p q : X → Bool) (xs : List X) → ((x : X) → p x ≡ q x) → list_any p xs ≡ list_any q xs
any_alike p q [] same = refl
any_alike {X} p q (x ∷ xs) same = ap (λ (b : Bool). b || list_any p xs) (same x) ∙ ap (λ (b : Bool). q x || b) (any_alike p q xs same)

-- items that pass are there where one passes
pub any_count : {X : Type 0} (test : X → Bool) (xs : List X) → list_any test xs ≡ nat_lt 0 (length (filter test xs))
any_count test [] = refl
any_count {X} test (x ∷ xs) = by (test x) (any_count test xs)
  where
    by : (b : Bool) → list_any test xs ≡ nat_lt 0 (length (filter test xs)) → (b || list_any test xs)
        ≡ nat_lt 0 (length (cond b (x ∷ filter test xs) (filter test xs)))
    by true rest = sym (lt-ltb 0 (length (x ∷ filter test xs)) (omega arith))
    by false rest = rest

silent_size : (found : Option ℕ) → unwrap_or found 0 ≡ option_map_or (λ (object : Slot). object.size) (option_map silent found) 0
silent_size None = refl
silent_size (Some size) = refl

size_same : (s : Session) (h : History) (contents : Contents) → Follows s h contents → (slot : ℕ) → unwrap_or (slice_get contents.sizes slot) 0
    ≡ slot_size s.outside slot
size_same s h contents follows slot =
    silent_size (slice_get contents.sizes slot)
    ∙ ap (λ (found : Option Slot). option_map_or (λ (object : Slot). object.size) found 0) (sym (slice_get-map silent contents.sizes slot))
    ∙ ap (λ (outside : Outside). slot_size outside slot) follows.outside_is

handle_same : (s : Session) (h : History) (contents : Contents) → Follows s h contents → (renderer b : ℕ) → has_handle_in contents renderer b
    ≡ has_handle h renderer b
handle_same s h contents follows renderer b = ap (nat_lt 0) (follows.keeps.counts_are renderer b)

broken_here : (s : Session) (h : History) (contents : Contents) → Follows s h contents → (b : ℕ) → is_broken_in contents.kept.endings b ≡ is_broken h b
broken_here s h contents follows b = ap (λ (status : Option Status). option_map_or is_broken_status status false) (follows.keeps.ended_are b)

pub invalid_same : (s : Session) (h : History) (contents : Contents) → Follows s h contents → (renderer name : ℕ) (part : Part)
    → is_invalid_in contents renderer name part ≡ is_invalid s h renderer name part
invalid_same s h contents follows renderer name (BlobRange b off len) =
    ap (λ (bit : Bool). (b == name) || (bit && not (is_broken_in contents.kept.endings b) && nat_lt (size_in contents.builds b) (off + len)))
    (handle_same s h contents follows renderer b)
    ∙ ap (λ (bit : Bool). (b == name) || (has_handle h renderer b && not bit && nat_lt (size_in contents.builds b) (off + len)))
    (broken_here s h contents follows b)
    ∙ ap (λ (blobs : List Build). (b == name) || (has_handle h renderer b && not (is_broken h b) && nat_lt (size_in blobs b) (off + len))) follows.builds_are
invalid_same s h contents follows renderer name (HandleRange k off len) = ap (λ (size : ℕ). nat_lt size (off + len)) (size_same s h contents follows k)
invalid_same s h contents follows renderer name (Embedded bytes) = refl
invalid_same s h contents follows renderer name (Asked len) = refl
invalid_same s h contents follows renderer name (FileRange file off len stamp) = refl

pub lost_same : (s : Session) (h : History) (contents : Contents) → Follows s h contents → (renderer b : ℕ) → is_lost_in contents renderer b
    ≡ is_lost_source h renderer b
lost_same s h contents follows renderer b =
    ap (λ (bit : Bool). not bit || is_broken_in contents.kept.endings b) (handle_same s h contents follows renderer b)
    ∙ ap (λ (bit : Bool). not (has_handle h renderer b) || bit) (broken_here s h contents follows b)

pub unrecorded_same : (s : Session) (h : History) (contents : Contents) → Follows s h contents → (part : Part) → is_unrecorded_in contents part
    ≡ is_unrecorded h part
unrecorded_same s h contents follows (FileRange name off len stamp) = ap (λ (state : Option FileState). is_none state) (follows.keeps.recorded_is name)
unrecorded_same s h contents follows (Embedded bytes) = refl
unrecorded_same s h contents follows (Asked len) = refl
unrecorded_same s h contents follows (BlobRange b off len) = refl
unrecorded_same s h contents follows (HandleRange k off len) = refl
