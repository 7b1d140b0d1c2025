-- Whatever lives after a line's own answers lived before it, or the line built it.
use Rattle.std.proofs.Common.{◌≡◌, ℕ, ◌==◌, ◌⊎◌, true, false, ◌&&◌, List, [], ◌∷◌, ◌++◌, reverse, refl, ap, subst, sym, ◌∙◌, ⊎_elim, Option, Some, None, ℤ}
use Rattle.std.specs.List.{list_any}
use Rattle.blob_words.specs.declared.number.RendererId.{RendererId}
use Rattle.blob_words.specs.declared.status.Status.{Status}
use Rattle.session_script.specs.declared.event.Event.{Event}
use Rattle.session_script.specs.declared.event.Event.TheVariants as events
use Rattle.session_script.specs.declared.event.Part.{Part}
use Rattle.answer_text.specs.declared.answer.Answer.{Answer}
use Rattle.answer_text.specs.declared.answer.Answer.TheVariants as answers
use Rattle.answer_text.specs.declared.refusal.Refusal.{Refusal}
use Rattle.blob_model.specs.Session.{Session, page_limit}
use Rattle.blob_model.specs.History.{History, heard, refused, said, heard_first, said_all, after}
use Rattle.blob_model.specs.Builds.{Build, builds, slice_parts}
use Rattle.blob_model.specs.Handles.{count}
use Rattle.blob_model.specs.Live.{live_from, is_live, is_rooted}
use Rattle.blob_model.specs.Construct.{line_status, build_answer, build_answer_by}
use Rattle.blob_model.specs.Refusals.{refusal}
use Rattle.blob_model.specs.Own.{IsOwn, IsOwnBy, IsAccepted}
use Rattle.blob_model.specs.Laws.{is_build}
use Rattle.blob_model.proofs.Lists.{or_first}
use Rattle.blob_model.proofs.Lists.{or_second}
use Rattle.blob_model.specs.Order.{named}
use Rattle.blob_model.proofs.builds.Growth.{only_one}
use Rattle.blob_model.proofs.builds.Growth.{planned_first}
use Rattle.blob_model.proofs.kept.NewBlobs.{tests_fail}
use Rattle.blob_model.proofs.kept.NewBlobs.{found_named}
use Rattle.blob_model.proofs.kept.NewBlobs.{new_build}
use Rattle.blob_model.proofs.live.Roots.{HoldersSpawned}
use Rattle.blob_model.proofs.live.Roots.{holder_of}
use Rattle.blob_model.proofs.live.Roots.{one_case}
use Rattle.blob_model.proofs.memory.Shrinking.{Shrinks}
use Rattle.blob_model.proofs.memory.Shrinking.{live_sub}
use Rattle.blob_model.proofs.memory.Builds.{Adds}
use Rattle.blob_model.proofs.memory.Builds.{live_or}
use Rattle.blob_model.proofs.memory.Plans.{adds_by}
use Rattle.blob_model.proofs.memory.PlainAnswers.{is_plain}
use Rattle.blob_model.proofs.memory.PlainAnswers.{AllPlain}
use Rattle.blob_model.proofs.memory.PlainAnswers.{line_plain}
use Rattle.blob_model.proofs.memory.PlainAnswers.{plain_said}
use Rattle.blob_model.proofs.memory.PlainAnswers.{plain_heard}
use Rattle.blob_model.proofs.memory.Bounded.{Bounded}
use Rattle.blob_model.proofs.memory.Bounded.{build_roots}
use Rattle.store_laws.specs.Stands.{is_built_by, stood}

-- where roots and unfinished blobs only go, lives only go
pub live_shrinks : (page : ℕ) (h g : History) → Shrinks page h g → (name : ℕ) → is_live page g name ≡ true → is_live page h name ≡ true
live_shrinks page h g shrinks name e =
    let moved : list_any (λ (build : Build). build.name == name) (live_from page g (reverse (builds page h)) []) ≡ true =
    subst (λ (list : List Build). list_any (λ (build : Build). build.name == name) (live_from page g (reverse list) []) ≡ true) shrinks.blobs e in
    live_sub page h g (reverse (builds page h)) [] [] shrinks.roots shrinks.begun (λ test f. f) (λ (build : Build). build.name == name) moved

refused_shrinks : (page : ℕ) (h : History) (event : Event) (why : Refusal) → Shrinks page h (refused h event why)
refused_shrinks page h event why =
    record {
      blobs = refl;
      roots = λ name e. e;
      begun = λ name e. e;
      broken = λ name e. e;
      granted = λ name e. e;
      unlisted = λ number e. e;
    }

said_lives : (page : ℕ) (h : History) (list : List Answer) → AllPlain list → (name : ℕ) → is_live page (said_all h list) name ≡ true
    → is_live page h name ≡ true
said_lives page h [] all name e = e
said_lives page h (answer ∷ list) all name e = live_shrinks page h (said h answer) (plain_said page h answer all.0) name (said_lives page
    (said h answer) list all.1 name e)

first_lives : (s : Session) (h : History) (event : Event) (answer : Answer) → HoldersSpawned h → refusal s h event ≡ None → is_build event ≡ false
    → is_plain answer ≡ true
    → (name : ℕ) → is_live (page_limit s) (heard_first h event answer) name ≡ true → is_live (page_limit s) h name ≡ true
first_lives s h event (answers.Refused why) holders accepted other plain name e = live_shrinks (page_limit s) h (refused h event why)
    (refused_shrinks (page_limit s) h event why) name e
first_lives s h event answer holders accepted other plain name e = live_shrinks (page_limit s) h (heard h event answer)
    (plain_heard s h event answer holders accepted other plain) name e

plain_lives : (s : Session) (h : History) (event : Event) (own : List Answer) → HoldersSpawned h → refusal s h event ≡ None → is_build event ≡ false
    → AllPlain own
    → (name : ℕ) → is_live (page_limit s) (after h event own) name ≡ true → is_live (page_limit s) h name ≡ true
plain_lives s h event [] holders accepted other all name e = e
plain_lives s h event (answer ∷ more) holders accepted other all name e =
    first_lives s h event answer holders accepted other all.0 name (said_lives (page_limit s) (heard_first h event answer) more all.1 name e)

module _ (s : Session) (h : History) (event : Event) (renderer : RendererId) (built : ℕ) (kind : List ℕ) (parts : List Part) (bounded : Bounded s h)
    (fresh : named built (builds (page_limit s) h) ≡ false)
    (blobs : (plan : Answer) → plan ≡ build_answer s h renderer.0 built parts → builds (page_limit s)
    (heard h event plan) ≡ builds (page_limit s) h ++ new_build s h renderer.0 built kind parts ∷ [])
    (roots : (plan : Answer) (n : ℕ) → is_rooted (page_limit s) (heard h event plan) n ≡ true → (is_rooted (page_limit s) h n ≡ true) ⊎ ((n == built) ≡ true))
    (told : (status : Option Status) (name : ℕ) → is_built_by event (build_answer_by s h built parts status ∷ []) name ≡ (built == name)) where
  build_lives : (own : List Answer) → own ≡ build_answer s h renderer.0 built parts ∷ [] → (name : ℕ)
      → is_live (page_limit s) (after h event own) name ≡ true → stood (page_limit s) h event own name ≡ true
  build_lives own e name lives =
      let status = line_status s h renderer.0 built parts in
      let g = heard h event (build_answer s h renderer.0 built parts) in
      let x = new_build s h renderer.0 built kind parts in
      let adds : Adds (page_limit s) h g x = adds_by s h event renderer.0 built kind parts bounded.kept bounded.holders fresh blobs roots status refl in
      let there : is_live (page_limit s) g name ≡ true =
      subst (λ (now : History). is_live (page_limit s) now name ≡ true) (ap (after h event) e ∙ planned_first s h renderer.0 built event parts status) lives in
      let by : is_built_by event own name ≡ (built == name) = ap (λ (list : List Answer). is_built_by event list name) e ∙ told status name in
      ⊎_elim
      (λ (new : (built == name) ≡ true). or_first (is_built_by event own name) (is_live (page_limit s) h name) (by ∙ new))
      (λ (old : is_live (page_limit s) h name ≡ true). or_second (is_built_by event own name) (is_live (page_limit s) h name) old)
      (live_or (page_limit s) h g x adds (λ (build : Build). build.name == name) there)

pub told_build : (s : Session) (h : History) (renderer : RendererId) (built : ℕ) (kind : List ℕ) (parts : List Part) (status : Option Status) (name : ℕ)
    → is_built_by (events.Build renderer built kind parts) (build_answer_by s h built parts status ∷ []) name ≡ (built == name)
told_build s h renderer built kind parts None name = refl
told_build s h renderer built kind parts (Some status) name = refl

pub told_slice : (s : Session) (h : History) (renderer : RendererId) (built source : ℕ) (from to : Option ℤ) (kind : List ℕ) (parts : List Part)
    (status : Option Status) (name : ℕ)
    → is_built_by (events.Slice renderer built source from to kind) (build_answer_by s h built parts status ∷ []) name ≡ (built == name)
told_slice s h renderer built source from to kind parts None name = refl
told_slice s h renderer built source from to kind parts (Some status) name = refl

accepted_lives : (s : Session) (h : History) (event : Event) (own : List Answer) → Bounded s h → refusal s h event ≡ None → IsAccepted s h event own
    → (name : ℕ) → is_live (page_limit s) (after h event own) name ≡ true → stood (page_limit s) h event own name ≡ true
accepted_lives s h (events.Build renderer built kind parts) own bounded accepted one name e =
    let event = events.Build renderer built kind parts in
    build_lives s h (events.Build renderer built kind parts) renderer built kind parts bounded (sym (found_named (builds (page_limit s) h) built)
    ∙ (tests_fail s h (events.Build renderer built kind parts) accepted).1.0)
    (λ plan f. ap (λ (a : Answer). builds (page_limit s) (heard h (events.Build renderer built kind parts) a)) f)
    (λ plan n f. build_roots s h (heard h (events.Build renderer built kind parts) plan) renderer.0 built bounded.holders (λ holder m has. one_case
    ((renderer.0 == holder) && (built == m)) (count h holder m) has) n
    (λ held. let who = holder_of (heard h (events.Build renderer built kind parts) plan) n held in (who.0.number, who.1)) f)
    (told_build s h renderer built kind parts) own (only_one own (build_answer s h renderer.0 built parts ∷ []) one) name e
accepted_lives s h (events.Slice renderer built source from to kind) own bounded accepted one name e =
    let parts = slice_parts (builds (page_limit s) h) source from to in
    build_lives s h (events.Slice renderer built source from to kind) renderer built kind parts bounded
    (sym (found_named (builds (page_limit s) h) built) ∙ (tests_fail s h (events.Slice renderer built source from to kind) accepted).1.0)
    (λ plan f. ap (λ (a : Answer). builds (page_limit s) (heard h (events.Slice renderer built source from to kind) a)) f)
    (λ plan n f. build_roots s h (heard h (events.Slice renderer built source from to kind) plan) renderer.0 built bounded.holders
    (λ holder m has. one_case ((renderer.0 == holder) && (built == m)) (count h holder m) has) n
    (λ held. let who = holder_of (heard h (events.Slice renderer built source from to kind) plan) n held in (who.0.number, who.1)) f)
    (told_slice s h renderer built source from to kind parts) own (only_one own (build_answer s h renderer.0 built parts ∷ []) one) name e
accepted_lives s h event own bounded accepted one name e =
    or_second (is_built_by event own name) (is_live (page_limit s) h name) (plain_lives s h event own bounded.holders accepted refl
    (line_plain s h event own refl one) name e)

own_by_lives : (s : Session) (h : History) (event : Event) (why : Option Refusal) (own : List Answer) → refusal s h event ≡ why → Bounded s h
    → IsOwnBy s h event why own
    → (name : ℕ) → is_live (page_limit s) (after h event own) name ≡ true → stood (page_limit s) h event own name ≡ true
own_by_lives s h event (Some why) own at bounded is name e =
    let there : is_live (page_limit s) (refused h event why) name ≡ true = subst (λ (list : List Answer). is_live (page_limit s)
    (after h event list) name ≡ true) is e in
    or_second (is_built_by event own name) (is_live (page_limit s) h name) (live_shrinks (page_limit s) h (refused h event why)
    (refused_shrinks (page_limit s) h event why) name there)
own_by_lives s h event None own at bounded is name e = accepted_lives s h event own bounded at is name e

pub own_lives : (s : Session) (h : History) (event : Event) (own : List Answer) → Bounded s h → IsOwn s h event own
    → (name : ℕ) → is_live (page_limit s) (after h event own) name ≡ true → stood (page_limit s) h event own name ≡ true
own_lives s h event own bounded is name e = own_by_lives s h event (refusal s h event) own refl bounded is name e
