-- What is read off contents about cells is what the history says.
use Rattle.std.proofs.Common.{◌≡◌, ℕ, suc, ◌&&◌, ◌||◌, Bool, true, false, cond, not, List, [], ◌∷◌, ◌++◌, length, map, Option, Some, None, refl, sym, ap, ◌∙◌}
use Rattle.std.specs.Prelude.{find, take_while, slice_get, is_some}
use Rattle.std.specs.List.{list_any}
use Rattle.std.specs.Option.{option_and_then, option_map}
use Rattle.std.proofs.lemmas.List.Sums.{take_while-cons}
use Rattle.std.proofs.lemmas.Option.{slice_get-map}
use Rattle.blob_words.specs.declared.number.ReaderId.{ReaderId}
use Rattle.blob_words.specs.declared.limits.Limits.{Limits}
use Rattle.blob_words.specs.declared.plan.Plan.{Plan}
use Rattle.blob_words.specs.declared.plan.Plan.TheVariants as plans
use Rattle.answer_text.specs.declared.answer.Answer.{Answer}
use Rattle.blob_model.specs.Session.{Slot, Outside, Session, page_limit}
use Rattle.blob_model.specs.History.{History}
use Rattle.blob_model.specs.Recorded.{FileState}
use Rattle.blob_model.specs.Builds.{Cell, sent, filed, lent, Build, builds, build_in}
use Rattle.blob_model.specs.Pieces.{Piece, pieces, piece_with}
use Rattle.blob_model.specs.Pages.{Page, pages}
use Rattle.blob_model.specs.Transport.{Arrival, arrivals, spans, byte_from, byte_by_plan}
use Rattle.blob_model.specs.Chunk.{gives, fails, file_of}
use Rattle.blob_model.specs.Value.{is_byte, tells_nothing, is_paged, value, agrees, agree}
use Rattle.blob_model.specs.Own.{page_fault, sent_fault, cell_fault, read_faults}
use Rattle.blob_model.proofs.Lists.{false_true}
use Rattle.history_notions.specs.declared.contents.Contents.{Contents}
use Rattle.history_notions.specs.declared.run.Source.{Source}
use Rattle.history_notions.specs.declared.run.Source.TheVariants as kinds
use Rattle.history_notions.specs.Kept.{Brought, arrivals_in}
use Rattle.history_notions.specs.Placed.{place_at}
use Rattle.history_notions.specs.Runs.{cell_at}
use Rattle.history_notions.specs.Silent.{silent}
use Rattle.history_notions.specs.Follows.{Follows}
use Rattle.transcript_audit.specs.declared.cells.At.{At}
use Rattle.transcript_audit.specs.Tests.{is_only, is_among}
use Rattle.transcript_audit.specs.Cells.{cell_of, file_in, fails_in, sent_fault_in, cell_fault_in, byte_by, agrees_in, agree_in}

pub fails_same : (s : Session) (h : History) (contents : Contents) → Follows s h contents → (cell : Cell) → fails_in contents.kept.notes cell ≡ fails h cell
fails_same s h contents follows (sent blob index) = refl
fails_same s h contents follows (filed name stamp index) = ap (λ (state : Option FileState). not (gives state stamp index)) (follows.keeps.recorded_is name)
fails_same s h contents follows (lent slot index) = refl

pub find_alike : (p q : Cell → Bool) → ((cell : Cell) → p cell ≡ q cell) → (cells : List Cell) → find p cells ≡ find q cells
find_alike p q same [] = refl
find_alike p q same (cell ∷ cells) =
    ap (λ (b : Bool). cond b (Some cell) (find p cells)) (same cell) ∙ ap (λ (rest : Option Cell). cond (q cell) (Some cell) rest) (find_alike p q same cells)

pub while_alike : (p q : Cell → Bool) → ((cell : Cell) → p cell ≡ q cell) → (cells : List Cell) → take_while p cells ≡ take_while q cells
while_alike p q same [] = refl
while_alike p q same (cell ∷ cells) =
    take_while-cons p cell cells
    ∙ ap (λ (b : Bool). cond b (cell ∷ take_while p cells) []) (same cell)
    ∙ ap (λ (rest : List Cell). cond (q cell) (cell ∷ rest) []) (while_alike p q same cells)
    ∙ sym (take_while-cons q cell cells)

-- what is found passes the test
pub found_passes : (test : Cell → Bool) (cells : List Cell) (cell : Cell) → find test cells ≡ Some cell → test cell ≡ true
found_passes test [] cell e = cc
found_passes test (x ∷ cells) cell e = by (test x) refl e (found_passes test cells cell)
  where
    by : (b : Bool) → test x ≡ b → cond b (Some x) (find test cells) ≡ Some cell → (find test cells ≡ Some cell → test cell ≡ true) → test cell ≡ true
    by true is f rest = let same : x ≡ cell = cc in sym (ap test same) ∙ is
    by false is f rest = rest f

pub file_known : (source : Source) (index : ℕ) (name : List ℕ) → Some name ≡ file_in source → file_of (cell_at source index) ≡ name
file_known (kinds.Sent blob) index name e = cc
file_known (kinds.Filed file stamp) index name e = cc
file_known (kinds.Lent slot) index name e = cc

pub no_file_fails : (contents : Contents) (source : Source) (index : ℕ) → None ≡ file_in source
    → fails_in contents.kept.notes (cell_at source index) ≡ true → ⊥
no_file_fails contents (kinds.Sent blob) index e f = false_true f
no_file_fails contents (kinds.Filed file stamp) index e f = cc
no_file_fails contents (kinds.Lent slot) index e f = false_true f

sent_fault_same : (s : Session) (h : History) (contents : Contents) → Follows s h contents → (reader : ReaderId) (found : Option Piece)
    → sent_fault_in contents.kept.pages contents.builds reader found ≡ sent_fault s h reader found
sent_fault_same s h contents follows reader None = refl
sent_fault_same s h contents follows reader (Some piece) =
    ap (λ (written : List Page). page_fault reader (place_at written contents.builds piece)) follows.keeps.pages_are
    ∙ ap (λ (blobs : List Build). page_fault reader (place_at (pages h) blobs piece)) follows.builds_are

pub fault_same : (s : Session) (h : History) (contents : Contents) → Follows s h contents → (reader : ReaderId) (cell : Cell)
    → cell_fault_in contents.kept.pages contents.builds contents.pieces reader cell ≡ cell_fault s h reader cell
fault_same s h contents follows reader (sent blob index) =
    ap (λ (list : List Piece). sent_fault_in contents.kept.pages contents.builds reader (piece_with list (sent blob index))) follows.pieces_are
    ∙ sent_fault_same s h contents follows reader (piece_with (pieces (page_limit s) h) (sent blob index))
fault_same s h contents follows reader (filed name stamp index) = refl
fault_same s h contents follows reader (lent slot index) = refl

or_false : (b : Bool) → b ≡ (b || false)
or_false true = refl
or_false false = refl

or_along : (a b c : Bool) → (a || (b || c)) ≡ ((a || b) || c)
or_along true b c = refl
or_along false b c = refl

among_more : (a : Answer) (list : List Answer) (lists : List (List Answer)) → is_among a (list ∷ lists) ≡ (is_only a list || is_among a lists)
among_more a list [] = or_false (is_only a list)
among_more a list (next ∷ lists) = refl

among_append : (a : Answer) (xs ys : List (List Answer)) → is_among a (xs ++ ys) ≡ (is_among a xs || is_among a ys)
among_append a [] ys = refl
among_append a (x ∷ xs) ys =
    among_more a x (xs ++ ys)
    ∙ ap (λ (b : Bool). is_only a x || b) (among_append a xs ys)
    ∙ or_along (is_only a x) (is_among a xs) (is_among a ys)
    ∙ ap (λ (b : Bool). b || is_among a ys) (sym (among_more a x xs))

-- a fault of one of the cells
pub faults_any : (s : Session) (h : History) (contents : Contents) → Follows s h contents → (reader : ReaderId) (a : Answer) (cells : List At)
    → list_any (λ (at : At). is_among a (cell_fault_in contents.kept.pages contents.builds contents.pieces reader (cell_of at))) cells
    ≡ is_among a (read_faults s h reader (map cell_of cells))
faults_any s h contents follows reader a [] = refl
faults_any s h contents follows reader a (at ∷ cells) =
    ap (λ (lists : List (List Answer)). is_among a lists || list_any (λ (each : At). is_among a
    (cell_fault_in contents.kept.pages contents.builds contents.pieces reader (cell_of each))) cells)
    (fault_same s h contents follows reader (cell_of at))
    ∙ ap (λ (b : Bool). is_among a (cell_fault s h reader (cell_of at)) || b) (faults_any s h contents follows reader a cells)
    ∙ sym (among_append a (cell_fault s h reader (cell_of at)) (read_faults s h reader (map cell_of cells)))

-- the bytes
by_plan_same : (l : Limits) (h : History) (came : List Brought) (build : Build) (index : ℕ) → arrivals_in came build.name ≡ arrivals h build.name
    → (plan : Option Plan)
    → byte_by l came build index plan ≡ byte_by_plan l h build index plan
by_plan_same l h came build index same (Some plans.Inline) = refl
by_plan_same l h came build index same plan = ap (λ (list : List Arrival). byte_from list 0 (spans l build) index) same

sent_same : (s : Session) (h : History) (contents : Contents) → Follows s h contents → (index byte : ℕ) (found : Option Build)
    → is_byte (option_and_then (λ (build : Build). byte_by contents.limits contents.kept.brought build index build.plan) found) byte
    ≡ is_byte (option_and_then (λ (build : Build). byte_by_plan s.limits h build index build.plan) found) byte
sent_same s h contents follows index byte None = refl
sent_same s h contents follows index byte (Some build) =
    ap (λ (l : Limits). is_byte (byte_by l contents.kept.brought build index build.plan) byte) follows.limits_are
    ∙ ap (λ (known : Option ℕ). is_byte known byte) (by_plan_same s.limits h contents.kept.brought build index
    (follows.keeps.arrivals_are build.name) build.plan)

lent_told : (index byte : ℕ) (found : Option ℕ)
    → is_some found
    ≡ (tells_nothing (option_map silent found) || is_byte (option_and_then (λ (bytes : List ℕ). slice_get bytes index) (option_and_then (λ
    (object : Slot). object.bytes) (option_map silent found))) byte)
lent_told index byte None = refl
lent_told index byte (Some size) = refl

agrees_same : (s : Session) (h : History) (contents : Contents) → Follows s h contents → (cell : Cell) (byte : ℕ)
    → agrees_in contents cell byte ≡ agrees s h cell byte
agrees_same s h contents follows (sent blob index) byte =
    ap (λ (blobs : List Build). is_byte (option_and_then (λ (build : Build). byte_by contents.limits contents.kept.brought build index build.plan)
    (build_in blobs blob)) byte) follows.builds_are
    ∙ sent_same s h contents follows index byte (build_in (builds (page_limit s) h) blob)
    ∙ ap
    (λ (o : Outside).
    (elim (o.disk_tells) as (λ (b : Bool). Bool) [ true ↦ false | false ↦ is_paged (page_limit s) h (sent blob index) ]) || is_byte (value s h
    (sent blob index)) byte)
    follows.outside_is
agrees_same s h contents follows (filed name stamp index) byte =
    ap (λ (told : Option (List ℕ)). is_byte (option_and_then (λ (bytes : List ℕ). slice_get bytes index) told) byte) (follows.keeps.contents_are name stamp)
agrees_same s h contents follows (lent slot index) byte =
    lent_told index byte (slice_get contents.sizes slot)
    ∙ ap
    (λ (found : Option Slot).
    tells_nothing found || is_byte (option_and_then (λ (bytes : List ℕ). slice_get bytes index) (option_and_then (λ
    (object : Slot). object.bytes) found)) byte)
    (sym (slice_get-map silent contents.sizes slot))
    ∙ ap
    (λ (o : Outside).
    tells_nothing (slice_get o.slots slot)
    || is_byte (option_and_then (λ (bytes : List ℕ). slice_get bytes index) (option_and_then (λ (object : Slot). object.bytes)
    (slice_get o.slots slot))) byte)
    follows.outside_is

pub agree_same : (s : Session) (h : History) (contents : Contents) → Follows s h contents → (cells : List Cell) (bytes : List ℕ)
    → agree_in contents cells bytes ≡ agree s h cells bytes
agree_same s h contents follows [] [] = refl
agree_same s h contents follows [] (byte ∷ bytes) = refl
agree_same s h contents follows (cell ∷ cells) [] = refl
agree_same s h contents follows (cell ∷ cells) (byte ∷ bytes) =
    ap (λ (b : Bool). b && agree_in contents cells bytes) (agrees_same s h contents follows cell byte)
    ∙ ap (λ (b : Bool). agrees s h cell byte && b) (agree_same s h contents follows cells bytes)

and_no : (b : Bool) → (b && false) ≡ false
and_no true = refl
and_no false = refl

pub no_agreement : (contents : Contents) (cells : List At) (bytes : List ℕ) → (length cells ≡ length bytes → ⊥)
    → agree_in contents (map cell_of cells) bytes ≡ false
no_agreement contents [] [] other = absurd (other refl)
no_agreement contents [] (byte ∷ bytes) other = refl
no_agreement contents (at ∷ cells) [] other = refl
no_agreement contents (at ∷ cells) (byte ∷ bytes) other =
    ap (λ (b : Bool). agrees_in contents (cell_of at) byte && b) (no_agreement contents cells bytes (λ same. other (ap suc same)))
    ∙ and_no (agrees_in contents (cell_of at) byte)
