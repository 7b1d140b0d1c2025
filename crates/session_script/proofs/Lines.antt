-- Lines and their events: what is spelled is read, and has no fault.
use Rattle.std.proofs.Common.{◌≡◌, ◌≢◌, ℕ, ◌⊎◌, ◌≤◌, List, [], ◌∷◌, length, map, decimal, false, ◌==◌, Result, Ok, Err, IfErr, inl, inr, refl, sym, ap, ◌∙◌, subst, arith}
use Rattle.std.specs.List.{AllByRecursion, list_any}
use Rattle.std.proofs.lemmas.List.{length-map}
use Rattle.blob_words.specs.BlobName.{name_text}
use Rattle.blob_words.specs.declared.limits.Limits.{Limits}
use Rattle.session_script.specs.Reading.{ReadsEvent}
use Rattle.session_script.specs.Fault.{IsPart, IsPartFault, IsFirstPartFault, IsBuildFault, IsLimitsFault, IsOwnFault, IsWordsFault, IsLineFault, kinds_of, kinds_of_letter}
use Rattle.text_fields.specs.Fields.{joined, hex_text}
use Rattle.text_fields.specs.Kind.{AllSpell, IsFirstFault}
use Rattle.session_script.specs.Line.{word_of, event_fields, line_of, limit_numbers, part_text, PartHasText, HasSpelling}
use Rattle.text_fields.specs.Reading.{split, IsReading}
use Rattle.session_script.specs.Word.{word_text}
use Rattle.session_script.specs.declared.event.Event.{Event}
use Rattle.session_script.specs.declared.event.Event.TheVariants as events
use Rattle.session_script.specs.declared.event.Part.{Part}
use Rattle.session_script.specs.declared.letter.Letter.{Letter}
use Rattle.session_script.specs.declared.letter.Letter.TheVariants as letters
use Rattle.text_fields.specs.declared.line_fault.LineFault.{LineFault}
use Rattle.text_fields.specs.declared.line_fault.LineFault.TheVariants.{Memory}
use Rattle.session_script.specs.declared.word.Word.{Word}
use Rattle.session_script.specs.declared.word.Word.TheVariants as words
use Rattle.session_script.proofs.Limits.{limits_small, limits_taken}
use Rattle.text_fields.proofs.Splits.{joined-split}
use Rattle.text_fields.proofs.Visible.{AreVisible, all_visible, split-visible, feedless}
use Rattle.session_script.proofs.Visible.{is_part, parts_visible, word_visible}
use Rattle.session_script.proofs.Words.{same_word, same_letter}
use Rattle.text_fields.proofs.Faults.{first_no_fault, row_no_fault}

same_first : {A : Type 0} (x y : A) (xs ys : List A) → x ∷ xs ≡ y ∷ ys → x ≡ y
same_first x y xs ys e = cc

same_rest : {A : Type 0} (x y : A) (xs ys : List A) → x ∷ xs ≡ y ∷ ys → xs ≡ ys
same_rest x y xs ys e = cc

-- what the fields behind a line's word are read to, the line is
pub line_read : (line first : List ℕ) (own : List (List ℕ)) (word : Word) (r : Result Event LineFault)
    → split 32 line ≡ first ∷ own → first ≡ word_text word → ReadsEvent word own r → IsReading IsLineFault HasSpelling line_of line r
line_read line first own word (Ok event) parted is_word is_read =
    let same : first ∷ own ≡ word_text (word_of event) ∷ event_fields event = cc (is_word ∙ ap word_text (sym is_read.0.1), is_read.1) in
    (is_read.0.0, sym (joined-split 32 line) ∙ ap (joined 32) (parted ∙ same))
line_read line first own word (Err fault) parted is_word (inl memory) = inl memory
line_read line first own word (Err fault) parted is_word (inr wrong) = inr (subst (IsWordsFault fault) (sym parted) (inr (word, is_word, wrong)))

-- each letter has a field behind it
none_alone : (letter : Letter) → AllSpell (kinds_of_letter letter) [] → ⊥
none_alone letters.Embedded all = absurd all
none_alone letters.Asked all = absurd all
none_alone letters.FileRange all = absurd all
none_alone letters.BlobRange all = absurd all
none_alone letters.HandleRange all = absurd all

pub part_no_fault : (fault : LineFault) (texts : List (List ℕ)) → IsPart texts → IsPartFault fault texts → ⊥
part_no_fault fault [] part wrong = absurd wrong
part_no_fault fault (first ∷ []) part wrong = none_alone part.0 part.2
part_no_fault fault (first ∷ second ∷ own) part (inl none) = none.0 part.0 part.1
part_no_fault fault (first ∷ second ∷ own) part (inr wrong) =
    let same : part.0 ≡ wrong.0 = same_letter part.0 wrong.0 (sym part.1 ∙ wrong.1) in
    row_no_fault (kinds_of_letter wrong.0) fault (second ∷ own) (subst (λ (l : Letter). AllSpell (kinds_of_letter l) (second ∷ own)) same part.2) wrong.2

parts_no_fault : (all : List Part) (fault : LineFault) → AllByRecursion PartHasText all → IsFirstPartFault fault (map part_text all) → ⊥
parts_no_fault [] fault fits wrong = absurd wrong
parts_no_fault (part ∷ all) fault fits (inl here) = part_no_fault fault (split 58 (part_text part)) (is_part part fits.0) here
parts_no_fault (part ∷ all) fault fits (inr behind) = parts_no_fault all fault fits.1 behind.1

limits_spelled : (l : Limits) → AllSpell (kinds_of words.Limits) (map decimal (limit_numbers l))
limits_spelled l =
    let small = limits_small l in (
      (l.memory, small.0, refl),
      (
        (l.disk, small.1.0, refl),
        (
          (l.big, small.1.1.0, refl),
          (
            (l.inline_max, small.1.1.1.0, refl),
            ((l.segment, small.1.1.1.1.0, refl), ((l.page, small.1.1.1.1.1.0, refl), ((l.chunk, small.1.1.1.1.1.1.0, refl), tt))),
          ),
        ),
      ),
    )

limits_no_fault : (l : Limits) (fault : LineFault) → IsLimitsFault fault (map decimal (limit_numbers l)) → ⊥
limits_no_fault l fault (inl row) = row_no_fault (kinds_of words.Limits) fault (map decimal (limit_numbers l)) (limits_spelled l) row
limits_no_fault l fault (inr refused) = limits_taken l refused.0 refused.1 refused.2 refused.3

build_behind : (fault : LineFault) (r b kind : List ℕ) (all : List Part) → AllSpell (kinds_of words.Build) (r ∷ b ∷ kind ∷ []) → AllByRecursion PartHasText all
    → IsFirstFault (kinds_of words.Build) fault (r ∷ b ∷ kind ∷ map part_text all)
    ⊎ (AllSpell (kinds_of words.Build) (r ∷ b ∷ kind ∷ []) × IsFirstPartFault fault (map part_text all)) → ⊥
build_behind fault r b kind all heads fits (inl first) = first_no_fault (kinds_of words.Build) fault (r ∷ b ∷ kind ∷ []) heads first
build_behind fault r b kind all heads fits (inr behind) = parts_no_fault all fault fits behind.1

build_no_fault : (fault : LineFault) (r b kind : List ℕ) (all : List Part) → AllSpell (kinds_of words.Build) (r ∷ b ∷ kind ∷ []) → length all ≤ 1024
    → AllByRecursion PartHasText all → IsBuildFault fault (r ∷ b ∷ kind ∷ map part_text all) → ⊥
build_no_fault fault r b kind all heads few fits (inl count) =
    let len : length (map part_text all) ≡ length all = length-map all part_text in count.0 (omega arith, omega (arith, len))
build_no_fault fault r b kind all heads few fits (inr wrong) = build_behind fault r b kind all heads fits wrong.1

-- the fields of an event have no fault
own_no_fault : (event : Event) → HasSpelling event → (fault : LineFault) → IsOwnFault (word_of event) fault (event_fields event) → ⊥
own_no_fault (events.Limits l) fits fault wrong = limits_no_fault l fault wrong
own_no_fault (events.Limits2 l) fits fault wrong = limits_no_fault l fault wrong
own_no_fault (events.Build r b kind all) fits fault wrong =
    build_no_fault fault _ _ _ all ((r.0, fits.0, refl), ((b, fits.1, refl), ((kind, fits.2.0, fits.2.1, refl), tt))) fits.3 fits.4 wrong
own_no_fault (events.Spawn r origin) fits fault wrong = row_no_fault (kinds_of words.Spawn) fault (event_fields (events.Spawn r origin))
    ((r.0, fits.0, refl), (fits.1, tt)) wrong
own_no_fault (events.Die r) fits fault wrong = row_no_fault (kinds_of words.Die) fault (event_fields (events.Die r)) ((r.0, fits, refl), tt) wrong
own_no_fault (events.File name stamp bytes) fits fault wrong = row_no_fault (kinds_of words.File) fault (event_fields (events.File name stamp bytes))
    (fits.0, ((stamp, fits.1, refl), ((bytes, fits.2, refl), tt))) wrong
own_no_fault (events.Gone name) fits fault wrong = row_no_fault (kinds_of words.Gone) fault (event_fields (events.Gone name)) (fits, tt) wrong
own_no_fault (events.Slice r b src start end kind) fits fault wrong = row_no_fault (kinds_of words.Slice) fault
    (event_fields (events.Slice r b src start end kind)) (
      (r.0, fits.0, refl),
      ((b, fits.1, refl), ((src, fits.2, refl), ((start, fits.3, refl), ((end, fits.4, refl), ((kind, fits.5.0, fits.5.1, refl), tt))))),
    ) wrong
own_no_fault (events.Segment r b seg bytes) fits fault wrong = row_no_fault (kinds_of words.Segment) fault (event_fields (events.Segment r b seg bytes))
    ((r.0, fits.0, refl), ((b, fits.1, refl), ((seg, fits.2, refl), ((bytes, fits.3, refl), tt)))) wrong
own_no_fault (events.Pass r to b) fits fault wrong = row_no_fault (kinds_of words.Pass) fault (event_fields (events.Pass r to b))
    ((r.0, fits.0, refl), ((to.0, fits.1, refl), ((b, fits.2, refl), tt))) wrong
own_no_fault (events.Drop r b) fits fault wrong = row_no_fault (kinds_of words.Drop) fault (event_fields (events.Drop r b))
    ((r.0, fits.0, refl), ((b, fits.1, refl), tt)) wrong
own_no_fault (events.Stat r b) fits fault wrong = row_no_fault (kinds_of words.Stat) fault (event_fields (events.Stat r b))
    ((r.0, fits.0, refl), ((b, fits.1, refl), tt)) wrong
own_no_fault (events.Url r b text) fits fault wrong = row_no_fault (kinds_of words.Url) fault (event_fields (events.Url r b text))
    ((r.0, fits.0, refl), ((b, fits.1, refl), (fits.2, tt))) wrong
own_no_fault (events.Revoke r text) fits fault wrong = row_no_fault (kinds_of words.Revoke) fault (event_fields (events.Revoke r text))
    ((r.0, fits.0, refl), (fits.1, tt)) wrong
own_no_fault (events.Read r q b off len) fits fault wrong = row_no_fault (kinds_of words.Read) fault (event_fields (events.Read r q b off len))
    ((r.0, fits.0, refl), ((q.0, fits.1, refl), ((b, fits.2, refl), ((off, fits.3, refl), ((len, fits.4, refl), tt))))) wrong
own_no_fault (events.Fetch r q text off len) fits fault wrong = row_no_fault (kinds_of words.Fetch) fault (event_fields (events.Fetch r q text off len))
    ((r.0, fits.0, refl), ((q.0, fits.1, refl), (fits.2, ((off, fits.3, refl), ((len, fits.4, refl), tt))))) wrong
own_no_fault (events.Step q) fits fault wrong = row_no_fault (kinds_of words.Step) fault (event_fields (events.Step q)) ((q.0, fits, refl), tt) wrong
own_no_fault (events.Cancel r q) fits fault wrong = row_no_fault (kinds_of words.Cancel) fault (event_fields (events.Cancel r q))
    ((r.0, fits.0, refl), ((q.0, fits.1, refl), tt)) wrong
own_no_fault (events.Disk j) fits fault wrong = row_no_fault (kinds_of words.Disk) fault (event_fields (events.Disk j)) ((j.0, fits, refl), tt) wrong
own_no_fault (events.Lost j) fits fault wrong = row_no_fault (kinds_of words.Lost) fault (event_fields (events.Lost j)) ((j.0, fits, refl), tt) wrong
own_no_fault events.Count fits fault wrong = row_no_fault (kinds_of words.Count) fault (event_fields events.Count) tt wrong
own_no_fault events.Finish fits fault wrong = row_no_fault (kinds_of words.Finish) fault (event_fields events.Finish) tt wrong

-- the words of an event are visible
own_visible : (event : Event) → HasSpelling event → AllByRecursion AreVisible (event_fields event)
own_visible (events.Limits l) fits = all_visible (kinds_of words.Limits) (event_fields (events.Limits l)) (limits_spelled l)
own_visible (events.Limits2 l) fits = all_visible (kinds_of words.Limits) (event_fields (events.Limits2 l)) (limits_spelled l)
own_visible (events.Build r b kind all) fits =
    let heads = all_visible (kinds_of words.Build) (decimal r.0 ∷ name_text b ∷ hex_text kind ∷ [])
    ((r.0, fits.0, refl), ((b, fits.1, refl), ((kind, fits.2.0, fits.2.1, refl), tt))) in
    (heads.0, (heads.1.0, (heads.1.1.0, parts_visible all fits.4)))
own_visible (events.Spawn r origin) fits = all_visible (kinds_of words.Spawn) (event_fields (events.Spawn r origin)) ((r.0, fits.0, refl), (fits.1, tt))
own_visible (events.Die r) fits = all_visible (kinds_of words.Die) (event_fields (events.Die r)) ((r.0, fits, refl), tt)
own_visible (events.File name stamp bytes) fits = all_visible (kinds_of words.File) (event_fields (events.File name stamp bytes))
    (fits.0, ((stamp, fits.1, refl), ((bytes, fits.2, refl), tt)))
own_visible (events.Gone name) fits = all_visible (kinds_of words.Gone) (event_fields (events.Gone name)) (fits, tt)
own_visible (events.Slice r b src start end kind) fits = all_visible (kinds_of words.Slice) (event_fields (events.Slice r b src start end kind))
    ((r.0, fits.0, refl), ((b, fits.1, refl), ((src, fits.2, refl), ((start, fits.3, refl), ((end, fits.4, refl), ((kind, fits.5.0, fits.5.1, refl), tt))))))
own_visible (events.Segment r b seg bytes) fits = all_visible (kinds_of words.Segment) (event_fields (events.Segment r b seg bytes))
    ((r.0, fits.0, refl), ((b, fits.1, refl), ((seg, fits.2, refl), ((bytes, fits.3, refl), tt))))
own_visible (events.Pass r to b) fits = all_visible (kinds_of words.Pass) (event_fields (events.Pass r to b))
    ((r.0, fits.0, refl), ((to.0, fits.1, refl), ((b, fits.2, refl), tt)))
own_visible (events.Drop r b) fits = all_visible (kinds_of words.Drop) (event_fields (events.Drop r b)) ((r.0, fits.0, refl), ((b, fits.1, refl), tt))
own_visible (events.Stat r b) fits = all_visible (kinds_of words.Stat) (event_fields (events.Stat r b)) ((r.0, fits.0, refl), ((b, fits.1, refl), tt))
own_visible (events.Url r b text) fits = all_visible (kinds_of words.Url) (event_fields (events.Url r b text))
    ((r.0, fits.0, refl), ((b, fits.1, refl), (fits.2, tt)))
own_visible (events.Revoke r text) fits = all_visible (kinds_of words.Revoke) (event_fields (events.Revoke r text)) ((r.0, fits.0, refl), (fits.1, tt))
own_visible (events.Read r q b off len) fits = all_visible (kinds_of words.Read) (event_fields (events.Read r q b off len))
    ((r.0, fits.0, refl), ((q.0, fits.1, refl), ((b, fits.2, refl), ((off, fits.3, refl), ((len, fits.4, refl), tt)))))
own_visible (events.Fetch r q text off len) fits = all_visible (kinds_of words.Fetch) (event_fields (events.Fetch r q text off len))
    ((r.0, fits.0, refl), ((q.0, fits.1, refl), (fits.2, ((off, fits.3, refl), ((len, fits.4, refl), tt)))))
own_visible (events.Step q) fits = all_visible (kinds_of words.Step) (event_fields (events.Step q)) ((q.0, fits, refl), tt)
own_visible (events.Cancel r q) fits = all_visible (kinds_of words.Cancel) (event_fields (events.Cancel r q)) ((r.0, fits.0, refl), ((q.0, fits.1, refl), tt))
own_visible (events.Disk j) fits = all_visible (kinds_of words.Disk) (event_fields (events.Disk j)) ((j.0, fits, refl), tt)
own_visible (events.Lost j) fits = all_visible (kinds_of words.Lost) (event_fields (events.Lost j)) ((j.0, fits, refl), tt)
own_visible events.Count fits = all_visible (kinds_of words.Count) (event_fields events.Count) tt
own_visible events.Finish fits = all_visible (kinds_of words.Finish) (event_fields events.Finish) tt

-- the line of an event is parted at its spaces into the event's word and fields
pub split-line_of : (event : Event) → HasSpelling event → split 32 (line_of event) ≡ word_text (word_of event) ∷ event_fields event
split-line_of event fits = split-visible (word_text (word_of event)) (event_fields event) (word_visible (word_of event)) (own_visible event fits)

-- the line of an event has no line feed in it
pub line_of-feedless : (event : Event) → HasSpelling event → list_any (λ byte. byte == 10) (line_of event) ≡ false
line_of-feedless event fits = feedless (word_text (word_of event)) (event_fields event) (word_visible (word_of event)) (own_visible event fits)

words_no_fault : (event : Event) → HasSpelling event → (fault : LineFault) → IsWordsFault fault (word_text (word_of event) ∷ event_fields event) → ⊥
words_no_fault event fits fault (inl none) = none.0 (word_of event) refl
words_no_fault event fits fault (inr wrong) =
    let same : word_of event ≡ wrong.0 = same_word (word_of event) wrong.0 wrong.1 in
    own_no_fault event fits fault (subst (λ (w : Word). IsOwnFault w fault (event_fields event)) (sym same) wrong.2)

-- the line of an event has no fault
pub line_no_fault : (event : Event) → HasSpelling event → (fault : LineFault) → IsLineFault fault (line_of event) → ⊥
line_no_fault event fits fault wrong = words_no_fault event fits fault (subst (IsWordsFault fault) (split-line_of event fits) wrong)

-- a line that is not read, but for want of memory, spells no event
pub line_refused : (line : List ℕ) (r : Result Event LineFault) → IsReading IsLineFault HasSpelling line_of line r
    → IfErr r (λ fault. fault ≢ Memory → (event : Event) → HasSpelling event → line ≢ line_of event)
line_refused line (Ok event) is_read = tt
line_refused line (Err fault) (inl memory) = λ other event fits same. other memory
line_refused line (Err fault) (inr wrong) = λ other event fits same. line_no_fault event fits fault (subst (IsLineFault fault) same wrong)
