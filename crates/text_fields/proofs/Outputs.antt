-- Bytes that are put one after the other.
use Rattle.std.proofs.Common.{◌≡◌, ℕ, ◌<◌, ◌≤◌, List, [], ◌∷◌, ◌++◌, length, take, drop, Option, OnOk, Result, Ok, Err, inl, inr, refl, sym, ap, ◌∙◌, subst, arith}
use Rattle.std.specs.Io.KnownBytes.{Appends}
use Rattle.std.proofs.KnownBytes.{Appends-trans, Appends-nil}
use Rattle.std.proofs.lemmas.List.{append_assoc, append-nil, length-append, length-drop, take-append-drop, take_at}
use Rattle.hex.specs.Hex.{encode_lower, encode_with, lower_digits}
use Rattle.hex_lanes.proofs.Spelling.{encode_with-append}
use Rattle.blob_words.specs.declared.fault.Failed.{Failed}
use Rattle.blob_source.specs.Faults.{Rose}
use Rattle.text_fields.specs.Output.{Output, output, Puts, Stops, IsPut, IsStreamed}

-- a count that rose later rose since before
pub rose_earlier : (a b c : ℕ) → a ≤ b → Rose b c → Rose a c
rose_earlier a b c later (inl more) = inl (omega arith)
rose_earlier a b c later (inr most) = inr most

-- what was ahead of bytes, with more bytes behind them
more_behind : (ahead s t gone rest : List ℕ) → ahead ++ s ≡ gone ++ rest → ahead ++ (s ++ t) ≡ gone ++ (rest ++ t)
more_behind ahead s t gone rest parts =
    sym (append_assoc ahead s t) ∙ ap (λ (front : List ℕ). front ++ t) parts ∙ append_assoc gone rest t

-- the bytes that were ahead and these, then those that are ahead and more
further : (ahead s mid t gone gone' rest : List ℕ) → ahead ++ s ≡ gone ++ mid → mid ++ t ≡ gone' ++ rest
    → ahead ++ (s ++ t) ≡ (gone ++ gone') ++ rest
further ahead s mid t gone gone' rest first second =
    more_behind ahead s t gone mid first ∙ ap (λ (behind : List ℕ). gone ++ behind) second ∙ sym (append_assoc gone gone' rest)

-- bytes are put, and then more are
pub puts_then : (a b c : Output) (s t : List ℕ) (r : Result (Unit {0}) Failed) → Puts a b s → IsPut b c t r → IsPut a c (s ++ t) r
puts_then a b c s t (Ok done) first second = record {
  gone = first.gone ++ second.gone;
  appended = Appends-trans a.held b.held c.held first.gone second.gone first.appended second.appended;
  parts = further a.ahead s b.ahead t first.gone second.gone c.ahead first.parts second.parts;
  later = omega (arith, first.later, second.later);
}
puts_then a b c s t (Err failed) first second = record {
  gone = first.gone ++ second.gone;
  missing = second.missing;
  appended = Appends-trans a.held b.held c.held first.gone second.gone first.appended second.appended;
  parts = further a.ahead s b.ahead t first.gone second.gone second.missing first.parts second.parts;
  lacks = second.lacks;
  rose = rose_earlier a.faults b.faults c.faults first.later second.rose;
  later = omega (arith, first.later, second.later);
}

-- the sink failed before, so it lacks all that comes after
pub stops_early : (a b : Output) (s t : List ℕ) → Stops a b s → Stops a b (s ++ t)
stops_early a b s t stop = record {
  gone = stop.gone;
  missing = stop.missing ++ t;
  appended = stop.appended;
  parts = more_behind a.ahead s t stop.gone stop.missing stop.parts;
  lacks = omega (arith, stop.lacks, length-append stop.missing t);
  rose = stop.rose;
  later = stop.later;
}

-- what was put first failed: so did the whole
pub first_stops : (a b : Output) (s t : List ℕ) (failed : Failed) → IsPut a b s (Err failed) → IsPut a b (s ++ t) (Err failed)
first_stops a b s t failed stop = stops_early a b s t stop

-- a front of some bytes went through an empty buffer to the sink
pub record GoneThrough (held held' : Option (List ℕ)) (faults faults' : ℕ) (bytes rest : List ℕ) : Type 0 where
  pub gone : List ℕ
  pub appended : Appends held held' gone
  pub parts : bytes ≡ gone ++ rest
  pub later : faults ≤ faults'

-- a buffer is not written whole
pub flush_stops : (held held' : Option (List ℕ)) (faults faults' n : ℕ) (ahead ahead' text : List ℕ) → text ≡ ahead → n < length text
    → Appends held held' (take n text) → Rose faults faults' → faults ≤ faults' → Stops (output held faults ahead) (output held' faults' ahead') []
flush_stops held held' faults faults' n ahead ahead' text same some cut rose later = record {
  gone = take n text;
  missing = drop n text;
  appended = cut;
  parts = append-nil ahead ∙ sym same ∙ sym (take-append-drop n text);
  lacks = omega (arith, length-drop n text);
  rose = rose;
  later = later;
}

pub through_more : (held0 held held' : Option (List ℕ)) (faults0 faults faults' : ℕ) (bytes rest front after : List ℕ)
    → GoneThrough held0 held faults0 faults bytes rest → rest ≡ front ++ after → Appends held held' front → faults ≤ faults'
    → GoneThrough held0 held' faults0 faults' bytes after
through_more held0 held held' faults0 faults faults' bytes rest front after through parts put later = record {
  gone = through.gone ++ front;
  appended = Appends-trans held0 held held' through.gone front through.appended put;
  parts = through.parts ∙ ap (λ (behind : List ℕ). through.gone ++ behind) parts ∙ sym (append_assoc through.gone front after);
  later = omega (arith, through.later, later);
}

pub through_stops : (held0 held held' : Option (List ℕ)) (faults0 faults faults' n : ℕ) (bytes rest front after ahead ahead' : List ℕ)
    → GoneThrough held0 held faults0 faults bytes rest → rest ≡ front ++ after → n < length front → Appends held held' (take n front)
    → Rose faults faults' → faults ≤ faults' → ahead ≡ [] → Stops (output held0 faults0 ahead) (output held' faults' ahead') bytes
through_stops held0 held held' faults0 faults faults' n bytes rest front after ahead ahead' through parts some cut rose later none =
    let whole : rest ≡ take n front ++ (drop n front ++ after) =
    parts ∙ ap (λ (f : List ℕ). f ++ after) (sym (take-append-drop n front)) ∙ append_assoc (take n front) (drop n front) after in record {
      gone = through.gone ++ take n front;
      missing = drop n front ++ after;
      appended = Appends-trans held0 held held' through.gone (take n front) through.appended cut;
      parts = ap (λ (a : List ℕ). a ++ bytes) none ∙ through.parts ∙ ap (λ (behind : List ℕ). through.gone ++ behind) whole
          ∙ sym (append_assoc through.gone (take n front) (drop n front ++ after));
      lacks = omega (arith, length-append (drop n front) after, length-drop n front);
      rose = rose_earlier faults0 faults faults' through.later rose;
      later = omega (arith, through.later, later);
    }

-- the digits of a front of some bytes were put
pub record ArePut (old new : Output) (bytes rest : List ℕ) : Type 0 where
  pub front : List ℕ
  pub put : Puts old new (encode_lower front)
  pub parts : bytes ≡ front ++ rest

nothing_put : (a : Output) → Puts a a []
nothing_put a = record {
  gone = [];
  appended = Appends-nil a.held;
  parts = append-nil a.ahead;
  later = omega arith;
}

pub digits_none : (a : Output) (bytes : List ℕ) → ArePut a a bytes bytes
unfolding encode_with
digits_none a bytes = record {
  front = [];
  put = nothing_put a;
  parts = refl;
}

pub digits_more : (a b c : Output) (bytes rest chunk after : List ℕ) → ArePut a b bytes rest → rest ≡ chunk ++ after
    → Puts b c (encode_lower chunk) → ArePut a c bytes after
digits_more a b c bytes rest chunk after so_far parts put = record {
  front = so_far.front ++ chunk;
  put = subst (Puts a c) (sym (encode_with-append lower_digits so_far.front chunk)) (puts_then a b c _ _ (Ok tt) so_far.put put);
  parts = so_far.parts ∙ ap (λ (behind : List ℕ). so_far.front ++ behind) parts ∙ sym (append_assoc so_far.front chunk after);
}

pub digits_stop : (a b c : Output) (bytes rest chunk after : List ℕ) (failed : Failed) → ArePut a b bytes rest → rest ≡ chunk ++ after
    → Stops b c (encode_lower chunk) → Stops a c (encode_lower bytes)
digits_stop a b c bytes rest chunk after failed so_far parts stop =
    let whole : encode_lower bytes ≡ encode_lower so_far.front ++ (encode_lower chunk ++ encode_lower after) =
    ap encode_lower (so_far.parts ∙ ap (λ (behind : List ℕ). so_far.front ++ behind) parts)
    ∙ encode_with-append lower_digits so_far.front (chunk ++ after)
    ∙ ap (λ (behind : List ℕ). encode_lower so_far.front ++ behind) (encode_with-append lower_digits chunk after) in
    subst (Stops a c) (sym whole) (puts_then a b c _ _ (Err failed) so_far.put (stops_early b c _ _ stop))

pub digits_all : (a b : Output) (bytes rest : List ℕ) → ArePut a b bytes rest → length rest ≡ 0 → Puts a b (encode_lower bytes)
digits_all a b bytes [] so_far none = subst (λ (all : List ℕ). Puts a b (encode_lower all)) (sym (so_far.parts ∙ append-nil so_far.front)) so_far.put
digits_all a b bytes (byte ∷ rest) so_far none = absurd (omega arith)

pub put_alone : (a b : Output) (s : List ℕ) (r : Result (Unit {0}) Failed) → IsPut a b s r → IsPut a b (s ++ []) r
put_alone a b s r put = subst (λ (t : List ℕ). IsPut a b t r) (sym (append-nil s)) put

-- what went through an empty buffer, and left it empty where all was written, was streamed
pub streamed : (held held' : Option (List ℕ)) (faults faults' : ℕ) (ahead0 ahead text : List ℕ) (r : Result (Unit {0}) Failed) → ahead0 ≡ []
    → IsPut (output held faults ahead0) (output held' faults' ahead) (text ++ []) r → OnOk r (ahead ≡ []) → IsStreamed held held' faults faults' text r
streamed held held' faults faults' ahead0 ahead text (Ok done) none put empty =
    let whole : text ≡ put.gone = sym (append-nil text) ∙ ap (λ (before : List ℕ). before ++ (text ++ [])) (sym none) ∙ put.parts ∙ ap
    (λ (behind : List ℕ). put.gone ++ behind) empty ∙ append-nil put.gone in
    (subst (Appends held held') (sym whole) put.appended, put.later)
streamed held held' faults faults' ahead0 ahead text (Err failed) none stop empty =
    let whole : text ≡ stop.gone ++ stop.missing = sym (append-nil text) ∙ ap (λ (before : List ℕ). before ++ (text ++ [])) (sym none) ∙ stop.parts in
    let front : take (length stop.gone) text ≡ stop.gone = ap (take (length stop.gone)) whole ∙ take_at stop.gone stop.missing (length stop.gone) refl in (
      length stop.gone,
      omega (arith, stop.lacks, length-append stop.gone stop.missing, ap length whole),
      subst (Appends held held') (sym front) stop.appended,
      stop.rose,
      stop.later,
    )

-- the same where the first bytes are known by another term
pub word_then : (a b c : Output) (s s' t : List ℕ) (r : Result (Unit {0}) Failed) → s ≡ s' → Puts a b s → IsPut b c t r → IsPut a c (s' ++ t) r
word_then a b c s s' t r same first second = puts_then a b c s' t r (subst (Puts a b) same first) second

pub word_stops : (a b : Output) (s s' t : List ℕ) → s ≡ s' → Stops a b s → Stops a b (s' ++ t)
word_stops a b s s' t same stop = stops_early a b s' t (subst (Stops a b) same stop)

pub put_as : (a b : Output) (s s' : List ℕ) (r : Result (Unit {0}) Failed) → s ≡ s' → IsPut a b s r → IsPut a b s' r
put_as a b s s' r same put = subst (λ (t : List ℕ). IsPut a b t r) same put
