-- No two groups have one text, and no group's text stands in front of another's.
use Rattle.std.proofs.Common.{◌≡◌, ℕ, ◌<◌, ◌^◌, Bool, true, false, List, [], ◌∷◌, ◌++◌, decimal, codes, refl, sym, ap, ◌∙◌}
use Rattle.std.specs.List.{AllByRecursion, flat_map}
use Rattle.std.proofs.lemmas.Fmt.{decimal_injective}
use Rattle.blob_words.specs.declared.number.PageNo.{PageNo}
use Rattle.blob_words.specs.declared.number.PieceNo.{PieceNo}
use Rattle.blob_words.specs.declared.plan.Plan.{Plan}
use Rattle.blob_words.specs.declared.plan.Plan.TheVariants as plans
use Rattle.blob_words.specs.declared.tally.Tally.{Tally}
use Rattle.session_script.specs.Line.{line_of}
use Rattle.text_fields.specs.Reading.{split}
use Rattle.text_fields.specs.Status.{switch_word}
use Rattle.session_script.proofs.Injective.{line_injective, same_job, same_reader, same_renderer}
use Rattle.text_fields.proofs.Spellings.{same_32, same_hex, same_name}
use Rattle.session_script.specs.declared.event.Event.{Event}
use Rattle.text_fields.proofs.Counts.{same_counted}
use Rattle.text_fields.proofs.Words.{same_status}
use Rattle.answer_text.specs.Text.{refusal_word_of, refusal_fields, plan_fields, piece_fields, word_of, answer_fields, answer_text, tally_fields, tally_text, answer_line, tally_line, group_text, groups_text, RefusalHasText, PlanHasText, HasText, TallyHasText, GroupHasText}
use Rattle.answer_text.specs.Word.{word_text}
use Rattle.answer_text.specs.declared.answer.Answer.{Answer}
use Rattle.answer_text.specs.declared.answer.Answer.TheVariants as answers
use Rattle.answer_text.specs.declared.group.Group.{Group}
use Rattle.answer_text.specs.declared.refusal.Refusal.{Refusal}
use Rattle.answer_text.specs.declared.refusal.Refusal.TheVariants as refusals
use Rattle.answer_text.proofs.Answers.{answer_feedless, tally_feedless, split-answer_text, split-tally_text}
use Rattle.answer_text.proofs.Feeds.{line_apart}
use Rattle.answer_text.proofs.GroupLemmas.{answer_no_tally, answers_rest, event_feedless, event_rest, group_rest, line_rest}
use Rattle.answer_text.proofs.Words.{same_word, same_refusal_word}

behind : {A : Type 0} (x y : A) (xs ys : List A) → x ∷ xs ≡ y ∷ ys → xs ≡ ys
behind x y xs ys e = cc

first : {A : Type 0} (x y : A) (xs ys : List A) → x ∷ xs ≡ y ∷ ys → x ≡ y
first x y xs ys e = cc

same_page : (f g : PageNo) → f.0 < 2 ^ 32 → g.0 < 2 ^ 32 → decimal f.0 ≡ decimal g.0 → f ≡ g
same_page f g fits less same = let made : ℕ → PageNo = λ n. record { 0 = n } in ap made (same_32 f.0 g.0 fits less same)

same_piece : (p q : PieceNo) → p.0 < 2 ^ 32 → q.0 < 2 ^ 32 → decimal p.0 ≡ decimal q.0 → p ≡ q
same_piece p q fits less same = let made : ℕ → PieceNo = λ n. record { 0 = n } in ap made (same_32 p.0 q.0 fits less same)

same_switch : (x y : Bool) → switch_word x ≡ switch_word y → x ≡ y
same_switch true true same = refl
same_switch true false same = cc same
same_switch false true same = cc same
same_switch false false same = refl

same_pieces : (ps qs : List PieceNo) → AllByRecursion (λ (p : PieceNo). p.0 < 2 ^ 32) ps → AllByRecursion (λ (p : PieceNo). p.0 < 2 ^ 32) qs → piece_fields ps
    ≡ piece_fields qs → ps ≡ qs
same_pieces [] [] fits less same = refl
same_pieces [] (q ∷ qs) fits less same = cc same
same_pieces (p ∷ ps) [] fits less same = cc same
same_pieces (p ∷ ps) (q ∷ qs) fits less same =
    let is_p : p ≡ q = same_piece p q fits.0 less.0 (first _ _ _ _ same) in
    let is_ps : ps ≡ qs = same_pieces ps qs fits.1 less.1 (behind _ _ _ _ same) in
    cc (is_p, is_ps)

refusal_back : (r s : Refusal) → RefusalHasText r → RefusalHasText s → refusal_word_of r ≡ refusal_word_of s → refusal_fields r ≡ refusal_fields s → r ≡ s
refusal_back (refusals.NoRenderer r) (refusals.NoRenderer r') fits fits' word same =
    let is_r : r ≡ r' = same_renderer r r' fits fits' (cc same) in
    ap refusals.NoRenderer is_r
refusal_back (refusals.RendererUsed r) (refusals.RendererUsed r') fits fits' word same =
    let is_r : r ≡ r' = same_renderer r r' fits fits' (cc same) in
    ap refusals.RendererUsed is_r
refusal_back (refusals.NameUsed b) (refusals.NameUsed b') fits fits' word same =
    let is_b : b ≡ b' = same_name b b' fits fits' (cc same) in
    ap refusals.NameUsed is_b
refusal_back (refusals.NoHandle r b) (refusals.NoHandle r' b') fits fits' word same =
    let is_r : r ≡ r' = same_renderer r r' fits.0 fits'.0 (cc same) in
    let is_b : b ≡ b' = same_name b b' fits.1 fits'.1 (cc same) in
    cc (is_r, is_b)
refusal_back (refusals.NoSuchHandle k) (refusals.NoSuchHandle k') fits fits' word same =
    let is_k : k ≡ k' = same_32 k k' fits fits' (cc same) in
    ap refusals.NoSuchHandle is_k
refusal_back (refusals.HandleTaken k) (refusals.HandleTaken k') fits fits' word same =
    let is_k : k ≡ k' = same_32 k k' fits fits' (cc same) in
    ap refusals.HandleTaken is_k
refusal_back (refusals.NoTransport b) (refusals.NoTransport b') fits fits' word same =
    let is_b : b ≡ b' = same_name b b' fits fits' (cc same) in
    ap refusals.NoTransport is_b
refusal_back (refusals.BadSegment n) (refusals.BadSegment n') fits fits' word same =
    let is_n : n ≡ n' = same_32 n n' fits fits' (cc same) in
    ap refusals.BadSegment is_n
refusal_back (refusals.SegmentTaken n) (refusals.SegmentTaken n') fits fits' word same =
    let is_n : n ≡ n' = same_32 n n' fits fits' (cc same) in
    ap refusals.SegmentTaken is_n
refusal_back (refusals.SegmentLength n) (refusals.SegmentLength n') fits fits' word same =
    let is_n : n ≡ n' = decimal_injective n n' fits fits' (cc same) in
    ap refusals.SegmentLength is_n
refusal_back (refusals.ReaderUsed q) (refusals.ReaderUsed q') fits fits' word same =
    let is_q : q ≡ q' = same_reader q q' fits fits' (cc same) in
    ap refusals.ReaderUsed is_q
refusal_back (refusals.NoReader q) (refusals.NoReader q') fits fits' word same =
    let is_q : q ≡ q' = same_reader q q' fits fits' (cc same) in
    ap refusals.NoReader is_q
refusal_back (refusals.Range size) (refusals.Range size') fits fits' word same =
    let is_size : size ≡ size' = decimal_injective size size' fits fits' (cc same) in
    ap refusals.Range is_size
refusal_back refusals.UrlForm refusals.UrlForm fits fits' word same = refl
refusal_back refusals.UrlTaken refusals.UrlTaken fits fits' word same = refl
refusal_back refusals.NoUrl refusals.NoUrl fits fits' word same = refl
refusal_back (refusals.NoJob j) (refusals.NoJob j') fits fits' word same =
    let is_j : j ≡ j' = same_job j j' fits fits' (cc same) in
    ap refusals.NoJob is_j
refusal_back (refusals.StaleStamp last) (refusals.StaleStamp last') fits fits' word same =
    let is_last : last ≡ last' = decimal_injective last last' fits fits' (cc same) in
    ap refusals.StaleStamp is_last
refusal_back refusals.NoFile refusals.NoFile fits fits' word same = refl
refusal_back (refusals.TooMany x) (refusals.TooMany y) fits fits' word same = ap refusals.TooMany (same_counted x y same)
refusal_back refusals.LimitsAgain refusals.LimitsAgain fits fits' word same = refl
refusal_back r s fits fits' word same = cc word

plan_back : (p q : Plan) → PlanHasText p → PlanHasText q → plan_fields p ≡ plan_fields q → p ≡ q
plan_back plans.None plans.None fits fits' same = refl
plan_back plans.Inline plans.Inline fits fits' same = refl
plan_back (plans.Shared n) (plans.Shared m) fits fits' same = ap plans.Shared (same_32 n m fits fits' (cc same))
plan_back (plans.File n) (plans.File m) fits fits' same = ap plans.File (same_32 n m fits fits' (cc same))
plan_back plans.OutOfMemory q fits fits' same = absurd fits
plan_back (plans.TooMany x) q fits fits' same = absurd fits
plan_back p plans.OutOfMemory fits fits' same = absurd fits'
plan_back p (plans.TooMany x) fits fits' same = absurd fits'
plan_back p q fits fits' same = cc same

answer_back : (a b : Answer) → HasText a → HasText b → word_of a ≡ word_of b → answer_fields a ≡ answer_fields b → a ≡ b
answer_back answers.Good answers.Good fits fits' word same = refl
answer_back (answers.Refused r) (answers.Refused s) fits fits' word same =
    ap answers.Refused (refusal_back r s fits fits' (same_refusal_word _ _ (first _ _ _ _ same)) (behind _ _ _ _ same))
answer_back (answers.Planned p) (answers.Planned q) fits fits' word same = ap answers.Planned (plan_back p q fits fits' same)
answer_back (answers.Broken b status) (answers.Broken b' status') fits fits' word same =
    let is_b : b ≡ b' = same_name b b' fits.0 fits'.0 (cc same) in
    let is_status : status ≡ status' = same_status status status' (cc same) in
    cc (is_b, is_status)
answer_back (answers.Taken seg) (answers.Taken seg') fits fits' word same =
    let is_seg : seg ≡ seg' = same_32 seg seg' fits fits' (cc same) in
    ap answers.Taken is_seg
answer_back (answers.Stored f p) (answers.Stored f' p') fits fits' word same =
    let is_f : f ≡ f' = same_page f f' fits.0 fits'.0 (cc same) in
    let is_p : p ≡ p' = same_piece p p' fits.1 fits'.1 (cc same) in
    cc (is_f, is_p)
answer_back (answers.StoreFailed f) (answers.StoreFailed f') fits fits' word same =
    let is_f : f ≡ f' = same_page f f' fits fits' (cc same) in
    ap answers.StoreFailed is_f
answer_back (answers.Told b size kind status) (answers.Told b' size' kind' status') fits fits' word same =
    let is_b : b ≡ b' = same_name b b' fits.0 fits'.0 (cc same) in
    let is_size : size ≡ size' = decimal_injective size size' fits.1 fits'.1 (cc same) in
    let is_kind : kind ≡ kind' = same_hex kind kind' fits.2.0 fits'.2.0 (cc same) in
    let is_status : status ≡ status' = same_status status status' (cc same) in
    cc (is_b, is_size, is_kind, is_status)
answer_back answers.Revoked answers.Revoked fits fits' word same = refl
answer_back answers.Nothing answers.Nothing fits fits' word same = refl
answer_back (answers.Opened q size kind) (answers.Opened q' size' kind') fits fits' word same =
    let is_q : q ≡ q' = same_reader q q' fits.0 fits'.0 (cc same) in
    let is_size : size ≡ size' = decimal_injective size size' fits.1 fits'.1 (cc same) in
    let is_kind : kind ≡ kind' = same_hex kind kind' fits.2.0 fits'.2.0 (cc same) in
    cc (is_q, is_size, is_kind)
answer_back (answers.Given q octets) (answers.Given q' octets') fits fits' word same =
    let is_q : q ≡ q' = same_reader q q' fits.0 fits'.0 (cc same) in
    let is_octets : octets ≡ octets' = same_hex octets octets' fits.1.0 fits'.1.0 (cc same) in
    cc (is_q, is_octets)
answer_back (answers.Wait q) (answers.Wait q') fits fits' word same =
    let is_q : q ≡ q' = same_reader q q' fits fits' (cc same) in
    ap answers.Wait is_q
answer_back (answers.Ended q status) (answers.Ended q' status') fits fits' word same =
    let is_q : q ≡ q' = same_reader q q' fits.0 fits'.0 (cc same) in
    let is_status : status ≡ status' = same_status status status' (cc same) in
    cc (is_q, is_status)
answer_back (answers.FileChanged q file) (answers.FileChanged q' file') fits fits' word same =
    let is_q : q ≡ q' = same_reader q q' fits.0 fits'.0 (cc same) in
    let is_file : file ≡ file' = cc same in
    cc (is_q, is_file)
answer_back (answers.PageFault q f) (answers.PageFault q' f') fits fits' word same =
    let is_q : q ≡ q' = same_reader q q' fits.0 fits'.0 (cc same) in
    let is_f : f ≡ f' = same_page f f' fits.1 fits'.1 (cc same) in
    cc (is_q, is_f)
answer_back (answers.HandleFailed q k) (answers.HandleFailed q' k') fits fits' word same =
    let is_q : q ≡ q' = same_reader q q' fits.0 fits'.0 (cc same) in
    let is_k : k ≡ k' = same_32 k k' fits.1 fits'.1 (cc same) in
    cc (is_q, is_k)
answer_back (answers.Paged j f ps) (answers.Paged j' f' ps') fits fits' word same =
    let is_j : j ≡ j' = same_job j j' fits.0 fits'.0 (cc same) in
    let is_f : f ≡ f' = same_page f f' fits.1 fits'.1 (cc same) in
    let is_ps : ps ≡ ps' = same_pieces ps ps' fits.2.1 fits'.2.1 (behind _ _ _ _ (behind _ _ _ _ same)) in
    cc (is_j, is_f, is_ps)
answer_back (answers.Empty j) (answers.Empty j') fits fits' word same =
    let is_j : j ≡ j' = same_job j j' fits fits' (cc same) in
    ap answers.Empty is_j
answer_back (answers.PageFailed j f) (answers.PageFailed j' f') fits fits' word same =
    let is_j : j ≡ j' = same_job j j' fits.0 fits'.0 (cc same) in
    let is_f : f ≡ f' = same_page f f' fits.1 fits'.1 (cc same) in
    cc (is_j, is_f)
answer_back (answers.Moved j f ps) (answers.Moved j' f' ps') fits fits' word same =
    let is_j : j ≡ j' = same_job j j' fits.0 fits'.0 (cc same) in
    let is_f : f ≡ f' = same_page f f' fits.1 fits'.1 (cc same) in
    let is_ps : ps ≡ ps' = same_pieces ps ps' fits.2.1 fits'.2.1 (behind _ _ _ _ (behind _ _ _ _ same)) in
    cc (is_j, is_f, is_ps)
answer_back (answers.MoveFailed j f) (answers.MoveFailed j' f') fits fits' word same =
    let is_j : j ≡ j' = same_job j j' fits.0 fits'.0 (cc same) in
    let is_f : f ≡ f' = same_page f f' fits.1 fits'.1 (cc same) in
    cc (is_j, is_f)
answer_back (answers.MoveUnread j f) (answers.MoveUnread j' f') fits fits' word same =
    let is_j : j ≡ j' = same_job j j' fits.0 fits'.0 (cc same) in
    let is_f : f ≡ f' = same_page f f' fits.1 fits'.1 (cc same) in
    cc (is_j, is_f)
answer_back (answers.LostJob j) (answers.LostJob j') fits fits' word same =
    let is_j : j ≡ j' = same_job j j' fits fits' (cc same) in
    ap answers.LostJob is_j
answer_back (answers.Held blobs urls readers waiting paging) (answers.Held blobs' urls' readers' waiting' paging') fits fits' word same =
    let is_blobs : blobs ≡ blobs' = same_32 blobs blobs' fits.0 fits'.0 (cc same) in
    let is_urls : urls ≡ urls' = same_32 urls urls' fits.1 fits'.1 (cc same) in
    let is_readers : readers ≡ readers' = same_32 readers readers' fits.2 fits'.2 (cc same) in
    let is_waiting : waiting ≡ waiting' = same_32 waiting waiting' fits.3 fits'.3 (cc same) in
    let is_paging : paging ≡ paging' = same_switch paging paging' (cc same) in
    cc (is_blobs, is_urls, is_readers, is_waiting, is_paging)
answer_back (answers.Dropped b) (answers.Dropped b') fits fits' word same =
    let is_b : b ≡ b' = same_name b b' fits fits' (cc same) in
    ap answers.Dropped is_b
answer_back (answers.Done b) (answers.Done b') fits fits' word same =
    let is_b : b ≡ b' = same_name b b' fits fits' (cc same) in
    ap answers.Done is_b
answer_back (answers.Removed f) (answers.Removed f') fits fits' word same =
    let is_f : f ≡ f' = same_page f f' fits fits' (cc same) in
    ap answers.Removed is_f
answer_back (answers.Left f) (answers.Left f') fits fits' word same =
    let is_f : f ≡ f' = same_page f f' fits fits' (cc same) in
    ap answers.Left is_f
answer_back (answers.Granted b) (answers.Granted b') fits fits' word same =
    let is_b : b ≡ b' = same_name b b' fits fits' (cc same) in
    ap answers.Granted is_b
answer_back (answers.Job j ps) (answers.Job j' ps') fits fits' word same =
    let is_j : j ≡ j' = same_job j j' fits.0 fits'.0 (cc same) in
    let is_ps : ps ≡ ps' = same_pieces ps ps' fits.1.1 fits'.1.1 (behind _ _ _ _ same) in
    cc (is_j, is_ps)
answer_back (answers.Compacting j f ps) (answers.Compacting j' f' ps') fits fits' word same =
    let is_j : j ≡ j' = same_job j j' fits.0 fits'.0 (cc same) in
    let is_f : f ≡ f' = same_page f f' fits.1 fits'.1 (cc same) in
    let is_ps : ps ≡ ps' = same_pieces ps ps' fits.2.1 fits'.2.1 (behind _ _ _ _ (behind _ _ _ _ same)) in
    cc (is_j, is_f, is_ps)
answer_back a b fits fits' word same = cc word

-- an answer is told by its text
pub answer_injective : (a b : Answer) → HasText a → HasText b → answer_text a ≡ answer_text b → a ≡ b
answer_injective a b fits fits' same =
    let parted : word_text (word_of a) ∷ answer_fields a ≡ word_text (word_of b) ∷ answer_fields b =
    sym (split-answer_text a fits) ∙ ap (split 32) same ∙ split-answer_text b fits' in
    answer_back a b fits fits' (same_word _ _ (first _ _ _ _ parted)) (behind _ _ _ _ parted)

tally_injective : (t u : Tally) → TallyHasText t → TallyHasText u → tally_text t ≡ tally_text u → t ≡ u
tally_injective t u fits fits' same =
    let parted : tally_fields t ≡ tally_fields u = behind _ _ _ _ (sym (split-tally_text t fits) ∙ ap (split 32) same ∙ split-tally_text u fits') in
    let is_pieces : t.pieces ≡ u.pieces = same_32 t.pieces u.pieces fits.0 fits'.0 (cc parted) in
    let is_memory : t.memory ≡ u.memory = decimal_injective t.memory u.memory fits.1 fits'.1 (cc parted) in
    let is_files : t.files ≡ u.files = same_32 t.files u.files fits.2 fits'.2 (cc parted) in
    let is_disk : t.disk ≡ u.disk = decimal_injective t.disk u.disk fits.3 fits'.3 (cc parted) in
    let made : ℕ → ℕ → ℕ → ℕ → Tally = λ a b c d. record { pieces = a; memory = b; files = c; disk = d } in
    made_same made t.pieces u.pieces t.memory u.memory t.files u.files t.disk u.disk is_pieces is_memory is_files is_disk
  where
    made_same : (made : ℕ → ℕ → ℕ → ℕ → Tally) (a a' b b' c c' d d' : ℕ) → a ≡ a' → b ≡ b' → c ≡ c' → d ≡ d' → made a b c d ≡ made a' b' c' d'
    made_same made a a' b b' c c' d d' p q r s = cc (p, q, r, s)

-- answers, a tally and more
lines_back : (xs ys : List Answer) (t u : Tally) (r s : List ℕ) → AllByRecursion HasText xs → AllByRecursion HasText ys → TallyHasText t → TallyHasText u
    → flat_map answer_line xs ++ (tally_line t ++ r) ≡ flat_map answer_line ys ++ (tally_line u ++ s) → (xs ≡ ys) × (t ≡ u) × (r ≡ s)
lines_back [] [] t u r s fits fits' fit fit' same =
    let line = line_apart (tally_text t) (tally_text u) r s (tally_feedless t fit) (tally_feedless u fit')
    (sym (line_rest (tally_text t) r) ∙ same ∙ line_rest (tally_text u) s) in
    (refl, tally_injective t u fit fit' line.0, line.1)
lines_back [] (y ∷ ys) t u r s fits fits' fit fit' same =
    let line = line_apart (tally_text t) (answer_text y) r (flat_map answer_line ys ++ (tally_line u ++ s)) (tally_feedless t fit) (answer_feedless y fits'.0)
    (sym (line_rest (tally_text t) r) ∙ same ∙ answers_rest y ys (tally_line u ++ s)) in
    absurd (answer_no_tally y t fits'.0 fit (sym line.0))
lines_back (x ∷ xs) [] t u r s fits fits' fit fit' same =
    let line = line_apart (answer_text x) (tally_text u) (flat_map answer_line xs ++ (tally_line t ++ r)) s (answer_feedless x fits.0) (tally_feedless u fit')
    (sym (answers_rest x xs (tally_line t ++ r)) ∙ same ∙ line_rest (tally_text u) s) in
    absurd (answer_no_tally x u fits.0 fit' line.0)
lines_back (x ∷ xs) (y ∷ ys) t u r s fits fits' fit fit' same =
    let line = line_apart (answer_text x) (answer_text y) (flat_map answer_line xs ++ (tally_line t ++ r)) (flat_map answer_line ys ++ (tally_line u ++ s))
    (answer_feedless x fits.0) (answer_feedless y fits'.0)
    (sym (answers_rest x xs (tally_line t ++ r)) ∙ same ∙ answers_rest y ys (tally_line u ++ s)) in
    let one : x ≡ y = answer_injective x y fits.0 fits'.0 line.0 in
    let more = lines_back xs ys t u r s fits.1 fits'.1 fit fit' line.1 in
    (cc (one, more.0), more.1, more.2)

line_behind : (e f : List ℕ) → codes "> " ++ e ≡ codes "> " ++ f → e ≡ f
line_behind e f same = cc same

-- a text has one group in front
pub groups_apart : (g h : Group) (r s : List ℕ) → GroupHasText g → GroupHasText h → group_text g ++ r ≡ group_text h ++ s → (g ≡ h) × (r ≡ s)
groups_apart g h r s fits fits' same =
    let line = line_apart (codes "> " ++ line_of g.event) (codes "> " ++ line_of h.event) (flat_map answer_line g.answers ++ (tally_line g.tally ++ r))
    (flat_map answer_line h.answers ++ (tally_line h.tally ++ s))
    (event_feedless g.event fits.0) (event_feedless h.event fits'.0)
    (sym (event_rest g.event (flat_map answer_line g.answers ++ (tally_line g.tally ++ r))) ∙ sym (group_rest g r) ∙ same ∙ group_rest h s
    ∙ event_rest h.event (flat_map answer_line h.answers ++ (tally_line h.tally ++ s))) in
    let is_event = line_injective g.event h.event fits.0 fits'.0 (line_behind _ _ line.0) in
    let rest = lines_back g.answers h.answers g.tally h.tally r s fits.1 fits'.1 fits.2 fits'.2 line.1 in
    let made : Event → List Answer → Tally → Group = λ e a t. record { event = e; answers = a; tally = t } in
    (group_same made g.event h.event g.answers h.answers g.tally h.tally is_event rest.0 rest.1, rest.2)
  where
    group_same : (made : Event → List Answer → Tally → Group) (e e' : Event) (a a' : List Answer) (t t' : Tally) → e ≡ e' → a ≡ a' → t ≡ t' → made e a t
        ≡ made e' a' t'
    group_same made e e' a a' t t' p q r = cc (p, q, r)

group_some : (g : Group) (gs : List Group) → [] ≡ groups_text (g ∷ gs) → ⊥
group_some g gs same = cc same

-- a text spells at most one list of groups
pub lists_apart : (gs hs : List Group) → AllByRecursion GroupHasText gs → AllByRecursion GroupHasText hs → groups_text gs ≡ groups_text hs → gs ≡ hs
lists_apart [] [] fits fits' same = refl
lists_apart [] (h ∷ hs) fits fits' same = absurd (group_some h hs same)
lists_apart (g ∷ gs) [] fits fits' same = absurd (group_some g gs (sym same))
lists_apart (g ∷ gs) (h ∷ hs) fits fits' same =
    let one = groups_apart g h (groups_text gs) (groups_text hs) fits.0 fits'.0 same in
    let more : gs ≡ hs = lists_apart gs hs fits.1 fits'.1 one.1 in
    cc (one.0, more)
