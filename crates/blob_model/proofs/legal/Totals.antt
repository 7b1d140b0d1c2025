-- No legal transcript passes the totals: the line that would is refused.
use Rattle.std.proofs.Common.{◌≡◌, ◌⊎◌, ℕ, ◌+◌, ◌≤◌, ◌==◌, Bool, true, false, ◌&&◌, not, List, [], ◌∷◌, ◌++◌, length, refl, subst, sym, inl, inr, arith, Option, Some, None, length-append}
use Rattle.std.specs.Prelude.{filter, is_none, nat_lt, nat_le, sum_by, bytes_eq, if◌then◌else◌}
use Rattle.std.specs.List.{AllByRecursion, list_any}
use Rattle.std.proofs.lemmas.Bool.{leb-false, ltb-false}
use Rattle.std.proofs.lemmas.List.Sums.{sum_by-cons}
use Rattle.std.proofs.lemmas.List.{length-map}
use Rattle.blob_words.specs.declared.plan.Plan.{Plan}
use Rattle.blob_words.specs.declared.status.Status.{Status}
use Rattle.session_script.specs.declared.event.Event.{Event}
use Rattle.session_script.specs.declared.event.Event.TheVariants as events
use Rattle.session_script.specs.declared.event.Part.{Part}
use Rattle.answer_text.specs.declared.answer.Answer.{Answer}
use Rattle.answer_text.specs.declared.answer.Answer.TheVariants as answers
use Rattle.answer_text.specs.declared.refusal.Refusal.{Refusal}
use Rattle.transport_plan.specs.Spans.{piece_count}
use Rattle.transport_plan.proofs.SpanLemmas.{pieces_length}
use Rattle.blob_model.specs.Session.{Session, page_limit}
use Rattle.blob_model.specs.History.{History, start, heard, refused, said}
use Rattle.blob_model.specs.Renderers.{spawned}
use Rattle.blob_model.specs.Recorded.{file_names}
use Rattle.blob_model.specs.Parts.{own_lengths, claims}
use Rattle.blob_model.specs.Builds.{Build, builds, parts_weight, plan_told, planned_weight, slice_parts}
use Rattle.blob_model.specs.Entries.{Entry, entries, resolved}
use Rattle.blob_model.specs.Readers.{OpenReader, readers, opened, fetched, advanced}
use Rattle.blob_model.specs.Pieces.{pieces, pieces_from, numbered, spans_of, planned_spans}
use Rattle.blob_model.specs.Construct.{line_status, build_answer, build_answer_by}
use Rattle.blob_model.specs.Refusals.{refusal, slot_refusals, claimed, piece_total, weight_total, fetch_refusals}
use Rattle.blob_model.specs.TotalLaws.{Totals}
use Rattle.blob_model.proofs.Lists.{append_second, false_true, filter_short, one_more, sum_more}
use Rattle.blob_model.proofs.kept.NewBlobs.{tests_fail, new_build}
use Rattle.blob_model.proofs.legal.PageNumbers.{same_first}
use Rattle.blob_model.proofs.legal.Causes.{IsHeard, IsCaused}

-- ---- pieces are as many as the spans of the blobs

numbered_count : (blob number : ℕ) (spans : List (ℕ × ℕ)) → length (numbered blob number spans) ≡ length spans
numbered_count blob number [] = refl
numbered_count blob number (span ∷ spans) = let rest = numbered_count blob (number + 1) spans in omega (arith, rest)

count_from : (page number : ℕ) (list : List Build) → length (pieces_from page number list) ≡ sum_by (λ (build : Build). length (spans_of page build)) list
count_from page number [] = refl
count_from page number (build ∷ list) =
    let whole = length-append (numbered build.name number (spans_of page build)) (pieces_from page (number + length (spans_of page build)) list) in
    let here = numbered_count build.name number (spans_of page build) in
    let rest = count_from page (number + length (spans_of page build)) list in
    let sum = sum_by-cons (λ (each : Build). length (spans_of page each)) build list in
    omega (arith, whole, here, rest, sum)

pub pieces_counted : (s : Session) (h : History) → length (pieces (page_limit s) h) ≡ piece_total s h
pieces_counted s h = count_from (page_limit s) 0 (builds (page_limit s) h)

-- ---- a line that builds

-- what a new blob adds to the pieces and to the views
new_pieces : (s : Session) (h : History) (renderer name : ℕ) (kind : List ℕ) (parts : List Part) → piece_total s h ≤ 65536
    → (is_none (line_status s h renderer name parts) && nat_lt 65536 (piece_total s h + piece_count (page_limit s) (own_lengths parts))) ≡ false
    → piece_total s h + length (spans_of (page_limit s) (new_build s h renderer name kind parts)) ≤ 65536
new_pieces s h renderer name kind parts low test = go (line_status s h renderer name parts) test
  where
    go : (status : Option Status) → (is_none status && nat_lt 65536 (piece_total s h + piece_count (page_limit s) (own_lengths parts))) ≡ false
        → piece_total s h + length (planned_spans (page_limit s) (new_build s h renderer name kind parts) (plan_told (build_answer_by s h name parts status))) ≤
        65536
    go (Some status) f = omega (arith, low)
    go None f =
        let few = ltb-false 65536 (piece_total s h + piece_count (page_limit s) (own_lengths parts)) f in
        let same = pieces_length (page_limit s) (own_lengths parts) 0 in
        omega (arith, few, same)

new_views : (s : Session) (h : History) (renderer name : ℕ) (kind : List ℕ) (parts : List Part) → weight_total s h ≤ 4194304
    → (is_none (line_status s h renderer name parts) && nat_lt 4194304 (weight_total s h + parts_weight (page_limit s) (builds (page_limit s) h) parts)) ≡ false
    → weight_total s h + (new_build s h renderer name kind parts).weight ≤ 4194304
new_views s h renderer name kind parts low test = go (line_status s h renderer name parts) test
  where
    go : (status : Option Status) → (is_none status && nat_lt 4194304 (weight_total s h + parts_weight (page_limit s) (builds (page_limit s) h) parts)) ≡ false
        → weight_total s h + planned_weight (page_limit s) (builds (page_limit s) h) parts (plan_told (build_answer_by s h name parts status)) ≤ 4194304
    go (Some status) f = omega (arith, low)
    go None f = ltb-false 4194304 (weight_total s h + parts_weight (page_limit s) (builds (page_limit s) h) parts) f

-- the blobs, pieces and views
pub record Built (s : Session) (list : List Build) : Type 0 where
  pub blobs : length list ≤ 65536
  pub spans : sum_by (λ (build : Build). length (spans_of (page_limit s) build)) list ≤ 65536
  pub weights : sum_by (λ (build : Build). build.weight) list ≤ 4194304

built_more : (s : Session) (h : History) (build : Build) → Built s (builds (page_limit s) h) → nat_le 65536 (length (builds (page_limit s) h)) ≡ false
    → piece_total s h + length (spans_of (page_limit s) build) ≤ 65536 → weight_total s h + build.weight ≤ 4194304
    → Built s (builds (page_limit s) h ++ build ∷ [])
built_more s h build before room few light = record {
  blobs = (let low = leb-false 65536 (length (builds (page_limit s) h)) room in let one = one_more (builds (page_limit s) h) build in omega (arith, low, one));
  spans = (let sum = sum_more (λ (each : Build). length (spans_of (page_limit s) each)) (builds (page_limit s) h) build in omega (arith, sum, few));
  weights = (let sum = sum_more (λ (each : Build). each.weight) (builds (page_limit s) h) build in omega (arith, sum, light));
}

built_heard : (s : Session) (h : History) (event : Event) (answer : Answer) → IsHeard s h event answer → Built s (builds (page_limit s) h)
    → Built s (builds (page_limit s) (heard h event answer))
built_heard s h (events.Build renderer name kind parts) answer line before = go line.own
  where
    go : ((answer ∷ line.rest) ≡ build_answer s h renderer.0 name parts ∷ []) ⊎ ⊥
        → Built s (builds (page_limit s) (heard h (events.Build renderer name kind parts) answer))
    go (inr never) = absurd never
    go (inl e) =
        let tests = append_second (λ (case : Bool × Refusal). case.0 ≡ false) (slot_refusals s (claimed s h) (claims parts)) _
        (tests_fail s h (events.Build renderer name kind parts) line.passes).1.1 in
        subst (λ (a : Answer). Built s (builds (page_limit s) (heard h (events.Build renderer name kind parts) a))) (sym (same_first answer _ line.rest [] e))
        (built_more s h (new_build s h renderer.0 name kind parts) before tests.0
        (new_pieces s h renderer.0 name kind parts before.spans tests.1.1.0) (new_views s h renderer.0 name kind parts before.weights tests.1.1.1.0))
built_heard s h (events.Slice renderer name source from to kind) answer line before = go line.own
  where
    parts : List Part
    parts = slice_parts (builds (page_limit s) h) source from to

    go : ((answer ∷ line.rest) ≡ build_answer s h renderer.0 name parts ∷ []) ⊎ ⊥
        → Built s (builds (page_limit s) (heard h (events.Slice renderer name source from to kind) answer))
    go (inr never) = absurd never
    go (inl e) =
        let tests = (tests_fail s h (events.Slice renderer name source from to kind) line.passes).1.1.1 in
        subst (λ (a : Answer). Built s (builds (page_limit s) (heard h (events.Slice renderer name source from to kind) a)))
        (sym (same_first answer _ line.rest [] e))
        (built_more s h (new_build s h renderer.0 name kind parts) before tests.0 few (new_views s h renderer.0 name kind parts before.weights tests.1.0))
      where
        few : piece_total s h + length (spans_of (page_limit s) (new_build s h renderer.0 name kind parts)) ≤ 65536
        few = none (plan_told (build_answer s h renderer.0 name parts))
          where
            none : (plan : Option Plan) → piece_total s h + length (planned_spans (page_limit s) (new_build s h renderer.0 name kind parts) plan) ≤ 65536
            none None = let low = before.spans in omega (arith, low)
            none (Some plan) = let low = before.spans in omega (arith, low)
built_heard s h event answer line before = before

pub all_built : (s : Session) (h : History) → IsCaused s h → Built s (builds (page_limit s) h)
all_built s start caused = record { blobs = omega arith; spans = omega arith; weights = omega arith }
all_built s (heard h event answer) caused = built_heard s h event answer caused.0 (all_built s h caused.1)
all_built s (refused h event why) caused = all_built s h caused.2
all_built s (said h answer) caused = all_built s h caused.1

-- ---- the other totals

renderers_heard : (s : Session) (h : History) (event : Event) (answer : Answer) → refusal s h event ≡ None → length (spawned h) ≤ 1024
    → length (spawned (heard h event answer)) ≤ 1024
renderers_heard s h (events.Spawn renderer origin) answer passes low =
    let room = leb-false 1024 (length (spawned h)) (tests_fail s h (events.Spawn renderer origin) passes).1.0 in
    let one = one_more (spawned h) (record { number = renderer.0; origin = origin }) in
    omega (arith, room, one)
renderers_heard s h event answer passes low = low

files_heard : (s : Session) (h : History) (event : Event) (answer : Answer) → refusal s h event ≡ None → length (file_names h) ≤ 16384
    → length (file_names (heard h event answer)) ≤ 16384
files_heard s h (events.File name stamp bytes) answer passes low = go (list_any (bytes_eq name) (file_names h))
    (tests_fail s h (events.File name stamp bytes) passes).1.0
  where
    go : (b : Bool) → (not b && nat_le 16384 (length (file_names h))) ≡ false → length (if b then file_names h else file_names h ++ name ∷ []) ≤ 16384
    go true test = low
    go false test =
        let room = leb-false 16384 (length (file_names h)) test in
        let one = one_more (file_names h) name in
        omega (arith, room, one)
files_heard s h event answer passes low = low

urls_heard : (s : Session) (h : History) (event : Event) (answer : Answer) → refusal s h event ≡ None → length (entries h) ≤ 16384
    → length (entries (heard h event answer)) ≤ 16384
urls_heard s h (events.Url renderer b text) answer passes low =
    let room = leb-false 16384 (length (entries h)) (tests_fail s h (events.Url renderer b text) passes).1.1.1.1.0 in
    let one = one_more (entries h) (record { text = text; blob = b; owner = renderer.0 }) in
    omega (arith, room, one)
urls_heard s h (events.Revoke renderer text) answers.Revoked passes low =
    let short = filter_short (λ (entry : Entry). not (bytes_eq entry.text text)) (entries h) in omega (arith, short, low)
urls_heard s h (events.Die renderer) answer passes low = let short = filter_short (λ (entry : Entry). not (entry.owner == renderer.0)) (entries h) in
    omega (arith, short, low)
urls_heard s h events.Finish answer passes low = omega arith
urls_heard s h event answer passes low = low

closed_short : (number : ℕ) (list : List OpenReader) → length list ≤ 4096 → length (filter (λ (reader : OpenReader). not (reader.number == number)) list) ≤ 4096
closed_short number list low = let short = filter_short (λ (reader : OpenReader). not (reader.number == number)) list in omega (arith, short, low)

readers_heard : (s : Session) (h : History) (event : Event) (answer : Answer) → refusal s h event ≡ None → length (readers (page_limit s) h) ≤ 4096
    → length (readers (page_limit s) (heard h event answer)) ≤ 4096
readers_heard s h (events.Read renderer reader b off len) answer passes low =
    let room = leb-false 4096 (length (readers (page_limit s) h)) (tests_fail s h (events.Read renderer reader b off len) passes).1.1.1.1.0 in
    let one = one_more (readers (page_limit s) h) (opened (page_limit s) h renderer.0 reader.0 b off len) in
    omega (arith, room, one)
readers_heard s h (events.Fetch renderer reader text off len) answer passes low =
    go (resolved h renderer.0 text) (tests_fail s h (events.Fetch renderer reader text off len) passes).1
  where
    go : (found : Option Entry) → AllByRecursion (λ (case : Bool × Refusal). case.0 ≡ false) (fetch_refusals s h reader found off len)
        → length (readers (page_limit s) h ++ fetched (page_limit s) h renderer.0 reader.0 found off len) ≤ 4096
    go None tests = absurd (false_true (sym tests.0))
    go (Some entry) tests =
        let room = leb-false 4096 (length (readers (page_limit s) h)) tests.1.1.0 in
        let one = one_more (readers (page_limit s) h) (opened (page_limit s) h renderer.0 reader.0 entry.blob off len) in
        omega (arith, room, one)
readers_heard s h (events.Step reader) (answers.Given number bytes) passes low =
    let same = length-map (readers (page_limit s) h) (advanced reader.0 (length bytes)) in omega (arith, same, low)
readers_heard s h (events.Step reader) (answers.Ended number status) passes low = closed_short reader.0 (readers (page_limit s) h) low
readers_heard s h (events.Step reader) (answers.FileChanged number name) passes low = closed_short reader.0 (readers (page_limit s) h) low
readers_heard s h (events.Step reader) (answers.PageFault number file) passes low = closed_short reader.0 (readers (page_limit s) h) low
readers_heard s h (events.Step reader) (answers.HandleFailed number slot) passes low = closed_short reader.0 (readers (page_limit s) h) low
readers_heard s h (events.Cancel renderer reader) answer passes low = closed_short reader.0 (readers (page_limit s) h) low
readers_heard s h (events.Die renderer) answer passes low =
    let short = filter_short (λ (reader : OpenReader). not (reader.owner == renderer.0)) (readers (page_limit s) h) in omega (arith, short, low)
readers_heard s h events.Finish answer passes low = omega arith
readers_heard s h event answer passes low = low

-- ---- all of them

record Others (s : Session) (h : History) : Type 0 where
  renderers : length (spawned h) ≤ 1024
  files : length (file_names h) ≤ 16384
  urls : length (entries h) ≤ 16384
  open_readers : length (readers (page_limit s) h) ≤ 4096

others : (s : Session) (h : History) → IsCaused s h → Others s h
others s start caused = record { renderers = omega arith; files = omega arith; urls = omega arith; open_readers = omega arith }
others s (heard h event answer) caused =
    let before = others s h caused.1 in
    record {
      renderers = renderers_heard s h event answer caused.0.passes before.renderers;
      files = files_heard s h event answer caused.0.passes before.files;
      urls = urls_heard s h event answer caused.0.passes before.urls;
      open_readers = readers_heard s h event answer caused.0.passes before.open_readers;
    }
others s (refused h event why) caused = let before = others s h caused.2 in
    record { renderers = before.renderers; files = before.files; urls = before.urls; open_readers = before.open_readers }
others s (said h answer) caused = let before = others s h caused.1 in
    record { renderers = before.renderers; files = before.files; urls = before.urls; open_readers = before.open_readers }

pub totals_hold : (s : Session) (h : History) → IsCaused s h → Totals s h
totals_hold s h caused =
    let built = all_built s h caused in
    let rest = others s h caused in
    record {
      renderers = rest.renderers;
      files = rest.files;
      blobs = built.blobs;
      all_pieces = (let same = pieces_counted s h in let few = built.spans in omega (arith, same, few));
      views = built.weights;
      urls = rest.urls;
      open_readers = rest.open_readers;
    }
