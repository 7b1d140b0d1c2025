-- No two events have one line.
use Rattle.std.proofs.Common.{◌≡◌, ℕ, ◌<◌, ◌^◌, List, [], ◌∷◌, map, decimal, refl, sym, ap, ◌∙◌}
use Rattle.std.specs.List.{AllByRecursion}
use Rattle.std.proofs.lemmas.Fmt.{decimal_injective}
use Rattle.blob_words.specs.declared.number.JobNo.{JobNo}
use Rattle.blob_words.specs.declared.number.ReaderId.{ReaderId}
use Rattle.blob_words.specs.declared.number.RendererId.{RendererId}
use Rattle.session_script.specs.Line.{word_of, event_fields, line_of, limit_numbers, letter_of, part_fields, part_text, PartHasText, HasSpelling}
use Rattle.text_fields.specs.Reading.{split}
use Rattle.session_script.specs.Word.{word_text, letter_text}
use Rattle.session_script.specs.declared.event.Event.{Event}
use Rattle.session_script.specs.declared.event.Event.TheVariants as events
use Rattle.session_script.specs.declared.event.Part.{Part}
use Rattle.session_script.specs.declared.event.Part.TheVariants as parts
use Rattle.session_script.proofs.Limits.{decimals_injective, limits_small, same_limits}
use Rattle.session_script.proofs.Lines.{split-line_of}
use Rattle.session_script.proofs.Visible.{split-part_text}
use Rattle.session_script.proofs.Words.{same_word, same_letter}
use Rattle.text_fields.proofs.Spellings.{same_32, same_hex, same_len, same_name, same_place}

-- ---- fields

pub same_renderer : (r s : RendererId) → r.0 < 2 ^ 32 → s.0 < 2 ^ 32 → decimal r.0 ≡ decimal s.0 → r ≡ s
same_renderer r s fits less same = let made : ℕ → RendererId = λ n. record { 0 = n } in ap made (same_32 r.0 s.0 fits less same)

pub same_reader : (q s : ReaderId) → q.0 < 2 ^ 32 → s.0 < 2 ^ 32 → decimal q.0 ≡ decimal s.0 → q ≡ s
same_reader q s fits less same = let made : ℕ → ReaderId = λ n. record { 0 = n } in ap made (same_32 q.0 s.0 fits less same)

pub same_job : (j s : JobNo) → j.0 < 2 ^ 32 → s.0 < 2 ^ 32 → decimal j.0 ≡ decimal s.0 → j ≡ s
same_job j s fits less same = let made : ℕ → JobNo = λ n. record { 0 = n } in ap made (same_32 j.0 s.0 fits less same)

-- ---- parts

behind : {A : Type 0} (x y : A) (xs ys : List A) → x ∷ xs ≡ y ∷ ys → xs ≡ ys
behind x y xs ys e = cc

part_back : (p q : Part) → PartHasText p → PartHasText q → letter_of p ≡ letter_of q → part_fields p ≡ part_fields q → p ≡ q
part_back (parts.Embedded bytes) (parts.Embedded bytes') fits fits' letter same = ap parts.Embedded (same_hex bytes bytes' fits fits' (cc same))
part_back (parts.Asked len) (parts.Asked len') fits fits' letter same = ap parts.Asked (decimal_injective len len' fits fits' (cc same))
part_back (parts.FileRange name off len stamp) (parts.FileRange name' off' len' stamp') fits fits' letter same =
    let is_name : name ≡ name' = cc same in
    let is_off : off ≡ off' = decimal_injective off off' fits.1 fits'.1 (cc same) in
    let is_len : len ≡ len' = decimal_injective len len' fits.2 fits'.2 (cc same) in
    let is_stamp : stamp ≡ stamp' = decimal_injective stamp stamp' fits.3 fits'.3 (cc same) in
    cc (is_name, is_off, is_len, is_stamp)
part_back (parts.BlobRange b off len) (parts.BlobRange b' off' len') fits fits' letter same =
    let is_b : b ≡ b' = same_name b b' fits.0 fits'.0 (cc same) in
    let is_off : off ≡ off' = decimal_injective off off' fits.1 fits'.1 (cc same) in
    let is_len : len ≡ len' = decimal_injective len len' fits.2 fits'.2 (cc same) in
    cc (is_b, is_off, is_len)
part_back (parts.HandleRange k off len) (parts.HandleRange k' off' len') fits fits' letter same =
    let is_k : k ≡ k' = same_32 k k' fits.0 fits'.0 (cc same) in
    let is_off : off ≡ off' = decimal_injective off off' fits.1 fits'.1 (cc same) in
    let is_len : len ≡ len' = decimal_injective len len' fits.3 fits'.3 (cc same) in
    cc (is_k, is_off, is_len)
part_back p q fits fits' letter same = cc letter

same_part : (p q : Part) → PartHasText p → PartHasText q → part_text p ≡ part_text q → p ≡ q
same_part p q fits fits' same =
    let parted : letter_text (letter_of p) ∷ part_fields p ≡ letter_text (letter_of q) ∷ part_fields q =
    sym (split-part_text p fits) ∙ ap (split 58) same ∙ split-part_text q fits' in
    part_back p q fits fits' (same_letter (letter_of p) (letter_of q) (cc parted)) (behind _ _ _ _ parted)

same_parts : (ps qs : List Part) → AllByRecursion PartHasText ps → AllByRecursion PartHasText qs → map part_text ps ≡ map part_text qs → ps ≡ qs
same_parts [] [] fits fits' same = refl
same_parts [] (q ∷ qs) fits fits' same = cc same
same_parts (p ∷ ps) [] fits fits' same = cc same
same_parts (p ∷ ps) (q ∷ qs) fits fits' same =
    let first : p ≡ q = same_part p q fits.0 fits'.0 (cc same) in
    let rest : ps ≡ qs = same_parts ps qs fits.1 fits'.1 (behind _ _ _ _ same) in
    cc (first, rest)

-- ---- events

inject : (e f : Event) → HasSpelling e → HasSpelling f → word_of e ≡ word_of f → event_fields e ≡ event_fields f → e ≡ f
inject (events.Limits l) (events.Limits m) fits fits' word same =
    ap events.Limits (same_limits l m (decimals_injective (limit_numbers l) (limit_numbers m) (limits_small l) (limits_small m) same))
inject (events.Limits2 l) (events.Limits2 m) fits fits' word same =
    ap events.Limits2 (same_limits l m (decimals_injective (limit_numbers l) (limit_numbers m) (limits_small l) (limits_small m) same))
inject (events.Build r b kind all) (events.Build r' b' kind' all') fits fits' word same =
    let is_r : r ≡ r' = same_renderer r r' fits.0 fits'.0 (cc same) in
    let is_b : b ≡ b' = same_name b b' fits.1 fits'.1 (cc same) in
    let is_kind : kind ≡ kind' = same_hex kind kind' fits.2.0 fits'.2.0 (cc same) in
    let is_all : all ≡ all' = same_parts all all' fits.4 fits'.4 (behind _ _ _ _ (behind _ _ _ _ (behind _ _ _ _ same))) in
    cc (is_r, is_b, is_kind, is_all)
inject (events.Spawn r origin) (events.Spawn r' origin') fits fits' word same =
    let is_r : r ≡ r' = same_renderer r r' fits.0 fits'.0 (cc same) in
    let is_origin : origin ≡ origin' = cc same in
    cc (is_r, is_origin)
inject (events.Die r) (events.Die r') fits fits' word same =
    let is_r : r ≡ r' = same_renderer r r' fits fits' (cc same) in
    ap events.Die is_r
inject (events.File name stamp bytes) (events.File name' stamp' bytes') fits fits' word same =
    let is_name : name ≡ name' = cc same in
    let is_stamp : stamp ≡ stamp' = decimal_injective stamp stamp' fits.1 fits'.1 (cc same) in
    let is_bytes : bytes ≡ bytes' = same_hex bytes bytes' fits.2 fits'.2 (cc same) in
    cc (is_name, is_stamp, is_bytes)
inject (events.Gone name) (events.Gone name') fits fits' word same =
    let is_name : name ≡ name' = cc same in
    ap events.Gone is_name
inject (events.Slice r b src start end kind) (events.Slice r' b' src' start' end' kind') fits fits' word same =
    let is_r : r ≡ r' = same_renderer r r' fits.0 fits'.0 (cc same) in
    let is_b : b ≡ b' = same_name b b' fits.1 fits'.1 (cc same) in
    let is_src : src ≡ src' = same_name src src' fits.2 fits'.2 (cc same) in
    let is_start : start ≡ start' = same_place start start' fits.3 fits'.3 (cc same) in
    let is_end : end ≡ end' = same_place end end' fits.4 fits'.4 (cc same) in
    let is_kind : kind ≡ kind' = same_hex kind kind' fits.5.0 fits'.5.0 (cc same) in
    cc (is_r, is_b, is_src, is_start, is_end, is_kind)
inject (events.Segment r b seg bytes) (events.Segment r' b' seg' bytes') fits fits' word same =
    let is_r : r ≡ r' = same_renderer r r' fits.0 fits'.0 (cc same) in
    let is_b : b ≡ b' = same_name b b' fits.1 fits'.1 (cc same) in
    let is_seg : seg ≡ seg' = same_32 seg seg' fits.2 fits'.2 (cc same) in
    let is_bytes : bytes ≡ bytes' = same_hex bytes bytes' fits.3 fits'.3 (cc same) in
    cc (is_r, is_b, is_seg, is_bytes)
inject (events.Pass r to b) (events.Pass r' to' b') fits fits' word same =
    let is_r : r ≡ r' = same_renderer r r' fits.0 fits'.0 (cc same) in
    let is_to : to ≡ to' = same_renderer to to' fits.1 fits'.1 (cc same) in
    let is_b : b ≡ b' = same_name b b' fits.2 fits'.2 (cc same) in
    cc (is_r, is_to, is_b)
inject (events.Drop r b) (events.Drop r' b') fits fits' word same =
    let is_r : r ≡ r' = same_renderer r r' fits.0 fits'.0 (cc same) in
    let is_b : b ≡ b' = same_name b b' fits.1 fits'.1 (cc same) in
    cc (is_r, is_b)
inject (events.Stat r b) (events.Stat r' b') fits fits' word same =
    let is_r : r ≡ r' = same_renderer r r' fits.0 fits'.0 (cc same) in
    let is_b : b ≡ b' = same_name b b' fits.1 fits'.1 (cc same) in
    cc (is_r, is_b)
inject (events.Url r b text) (events.Url r' b' text') fits fits' word same =
    let is_r : r ≡ r' = same_renderer r r' fits.0 fits'.0 (cc same) in
    let is_b : b ≡ b' = same_name b b' fits.1 fits'.1 (cc same) in
    let is_text : text ≡ text' = cc same in
    cc (is_r, is_b, is_text)
inject (events.Revoke r text) (events.Revoke r' text') fits fits' word same =
    let is_r : r ≡ r' = same_renderer r r' fits.0 fits'.0 (cc same) in
    let is_text : text ≡ text' = cc same in
    cc (is_r, is_text)
inject (events.Read r q b off len) (events.Read r' q' b' off' len') fits fits' word same =
    let is_r : r ≡ r' = same_renderer r r' fits.0 fits'.0 (cc same) in
    let is_q : q ≡ q' = same_reader q q' fits.1 fits'.1 (cc same) in
    let is_b : b ≡ b' = same_name b b' fits.2 fits'.2 (cc same) in
    let is_off : off ≡ off' = decimal_injective off off' fits.3 fits'.3 (cc same) in
    let is_len : len ≡ len' = same_len len len' fits.4 fits'.4 (cc same) in
    cc (is_r, is_q, is_b, is_off, is_len)
inject (events.Fetch r q text off len) (events.Fetch r' q' text' off' len') fits fits' word same =
    let is_r : r ≡ r' = same_renderer r r' fits.0 fits'.0 (cc same) in
    let is_q : q ≡ q' = same_reader q q' fits.1 fits'.1 (cc same) in
    let is_text : text ≡ text' = cc same in
    let is_off : off ≡ off' = decimal_injective off off' fits.3 fits'.3 (cc same) in
    let is_len : len ≡ len' = same_len len len' fits.4 fits'.4 (cc same) in
    cc (is_r, is_q, is_text, is_off, is_len)
inject (events.Step q) (events.Step q') fits fits' word same =
    let is_q : q ≡ q' = same_reader q q' fits fits' (cc same) in
    ap events.Step is_q
inject (events.Cancel r q) (events.Cancel r' q') fits fits' word same =
    let is_r : r ≡ r' = same_renderer r r' fits.0 fits'.0 (cc same) in
    let is_q : q ≡ q' = same_reader q q' fits.1 fits'.1 (cc same) in
    cc (is_r, is_q)
inject (events.Disk j) (events.Disk j') fits fits' word same =
    let is_j : j ≡ j' = same_job j j' fits fits' (cc same) in
    ap events.Disk is_j
inject (events.Lost j) (events.Lost j') fits fits' word same =
    let is_j : j ≡ j' = same_job j j' fits fits' (cc same) in
    ap events.Lost is_j
inject events.Count events.Count fits fits' word same = refl
inject events.Finish events.Finish fits fits' word same = refl
inject e f fits fits' word same = cc word

-- an event is told by its line
pub line_injective : (e f : Event) → HasSpelling e → HasSpelling f → line_of e ≡ line_of f → e ≡ f
line_injective e f fits fits' same =
    let parted : word_text (word_of e) ∷ event_fields e ≡ word_text (word_of f) ∷ event_fields f =
    sym (split-line_of e fits) ∙ ap (split 32) same ∙ split-line_of f fits' in
    inject e f fits fits' (same_word (word_of e) (word_of f) (cc parted)) (behind _ _ _ _ parted)
