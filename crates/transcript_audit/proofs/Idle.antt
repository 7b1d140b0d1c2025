-- Lists of settling that owe nothing.
use Rattle.std.proofs.Common.{◌≡◌, ℕ, ◌&&◌, Bool, true, false, not, List, [], ◌∷◌, ◌++◌, map, length, Option, refl, sym, ap, ◌∙◌, if◌then◌else◌}
use Rattle.std.specs.Prelude.{filter, find, reverse, is_none, nat_lt}
use Rattle.std.specs.List.{list_any, AllByRecursion}
use Rattle.std.specs.Option.{option_map, option_to_list}
use Rattle.std.proofs.lemmas.Bool.{or_parts}
use Rattle.blob_words.specs.declared.status.Status.{Status}
use Rattle.answer_text.specs.declared.answer.Answer.{Answer}
use Rattle.blob_model.specs.Session.{Session, page_limit}
use Rattle.blob_model.specs.History.{History, said_all}
use Rattle.blob_model.specs.Builds.{Build, builds}
use Rattle.blob_model.specs.Standing.{ended, is_unfinished}
use Rattle.blob_model.specs.Live.{is_live}
use Rattle.blob_model.specs.Pieces.{pieces}
use Rattle.blob_model.specs.Pages.{Page, pages}
use Rattle.blob_model.specs.Reached.{reached}
use Rattle.blob_model.specs.Tally.{files, in_page_of}
use Rattle.blob_model.specs.Settle.{drops, endings, is_due, removal, removals, may_start, can_move, compaction, compactions}
use Rattle.blob_model.proofs.Lists.{filter_none}
use Rattle.history_notions.specs.Kept.{ended_in}
use Rattle.history_notions.specs.declared.contents.Contents.{Contents}
use Rattle.history_notions.specs.Follows.{Follows}
use Rattle.transcript_audit.specs.Owed.{dropped, is_unended}
use Rattle.transcript_audit.proofs.Turned.{turned}

all_ended : (endings : List (ℕ × Status)) (h : History) (keep : Build → Bool) → ((name : ℕ) → ended_in endings name ≡ ended h name) → (list : List Build)
    → list_any (is_unended endings) list ≡ false → AllByRecursion (λ (build : Build). (is_unfinished h build.name && keep build) ≡ false) list
all_ended endings h keep same [] none = tt
all_ended endings h keep same (build ∷ list) none =
    let parts = or_parts (is_unended endings build) (list_any (is_unended endings) list) none in (
      ap (λ (status : Option Status). is_none status && keep build) (sym (same build.name)) ∙ ap (λ (b : Bool). b && keep build) parts.0,
      all_ended endings h keep same list parts.1,
    )

-- where all blobs have ended none is dropped
pub no_drops : (s : Session) (h : History) (contents : Contents) → Follows s h contents
    → list_any (is_unended contents.kept.endings) contents.builds ≡ false → [] ≡ drops s h
no_drops s h contents follows none =
    let keep : Build → Bool = λ build. not (is_live (page_limit s) h build.name) in
    let lost : Build → Bool = λ build. is_unfinished h build.name && keep build in
    let list : List Build = contents.builds in
    let empty : filter lost list ≡ [] = filter_none lost list (all_ended contents.kept.endings h keep follows.keeps.ended_are list none) in
    sym (ap (λ (some : List Build). reverse (map dropped some)) empty)
    ∙ turned dropped lost list
    ∙ ap (λ (each : List Build). map dropped (filter lost (reverse each))) follows.builds_are

nil_parts : (xs ys : List Answer) → xs ++ ys ≡ [] → (xs ≡ []) × (ys ≡ [])
nil_parts [] ys none = (refl, none)
nil_parts (x ∷ xs) ys none = absurd (cc none)

-- where nothing was dropped and nothing ended nothing is dropped behind that
pub no_more_drops : (s : Session) (h : History) → drops s h ++ endings s (said_all h (drops s h)) ≡ []
    → drops s (said_all (said_all h (drops s h)) (endings s (said_all h (drops s h)))) ≡ []
no_more_drops s h none =
    let k : History = said_all h (drops s h) in
    let parts = nil_parts (drops s h) (endings s k) none in
    ap (λ (list : List Answer). drops s (said_all k list)) parts.1
    ∙ ap (λ (list : List Answer). drops s (said_all h list)) parts.0
    ∙ parts.0

pub no_items : {X : Type 0} (list : List X) → length list ≡ 0 → list ≡ []
no_items [] none = refl
no_items (x ∷ list) none = absurd (cc none)

-- where there is no page file none is removed, and none is moved out of
pub no_removals : (s : Session) (unremoved : List ℕ) (h : History) → pages h ≡ [] → [] ≡ removals s unremoved h
no_removals s unremoved h none =
    sym (ap (λ (list : List Page). map (removal unremoved) (filter (is_due h (files (page_limit s) h)) list)) none)

never : (b : Bool) → ◌≡◌ {A = List Answer} [] (if b then [] else [])
never true = refl
never false = refl

pub no_compactions : (s : Session) (h : History) → pages h ≡ [] → [] ≡ compactions s h
no_compactions s h none =
    let blobs : List Build = builds (page_limit s) h in
    let list = reached (page_limit s) h in
    let thin : Page → Bool = can_move s h blobs (pieces (page_limit s) h) list in
    let holds : Page → Bool = λ page. nat_lt 0 (length (in_page_of h blobs page list)) in
    never (may_start h)
    ∙ sym (ap (λ (written : List Page). if may_start h then option_to_list (option_map (compaction s h) (find thin (filter holds written))) else []) none)
