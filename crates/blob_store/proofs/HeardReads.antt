-- A step of an open reader is heard, whether it waits, reads bytes or closes the reader.
use Rattle.std.proofs.Common.{◌≡◌, ℕ, ◌+◌, ◌-◌, ◌≤◌, ◌⊎◌, Bool, true, false, List, [], ◌∷◌, ◌++◌, drop, length, min, take, Option, Some, None, Bor, refl, sym, ap, subst, ◌∙◌, inl, inr, arith, length-drop}
use Rattle.std.specs.Prelude.{if◌then◌else◌, option_and_then, IsSome, IsSomeAnd}
use Rattle.std.specs.Option.{option_copied, option_map}
use Rattle.std.specs.List.{AllByRecursion}
use Rattle.std.proofs.lemmas.List.{length-take, take-append-le, take-take, take_min}
use Rattle.blob_words.specs.declared.limits.Limits.{Limits}
use Rattle.blob_words.specs.declared.number.ReaderId.{ReaderId}
use Rattle.blob_words.specs.declared.status.Status.{Status}
use Rattle.blob_words.specs.declared.status.Status.TheVariants as statuses
use Rattle.session_script.specs.declared.event.Event.TheVariants as events
use Rattle.answer_text.specs.declared.answer.Answer.{Answer}
use Rattle.answer_text.specs.declared.answer.Answer.TheVariants as answers
use Rattle.answer_text.specs.declared.group.Group.{Group}
use Rattle.data_handles.specs.Table.{Table as HandleTable}
use Rattle.page_disk.specs.declared.change.Change.{Change}
use Rattle.blob_items.specs.Cells.{cells, total}
use Rattle.blob_items.specs.declared.view.View.{View}
use Rattle.blob_items.proofs.CellLemmas.{length_cells}
use Rattle.blob_entries.specs.Book.{changed, entry_of, views_of, Book}
use Rattle.blob_entries.specs.Changes.{held_less}
use Rattle.blob_entries.specs.Statuses.{is_done, is_pending}
use Rattle.blob_entries.specs.declared.entry.Entry.{Entry}
use Rattle.range_reader.specs.Bytes.{origins, AreBytesOf}
use Rattle.range_reader.specs.Ends.{StepEnds}
use Rattle.range_reader.specs.Places.{Course, ViewLies}
use Rattle.range_reader.specs.Steps.{asked, next_cells, Asked}
use Rattle.range_reader.specs.declared.step_end.StepEnd.{StepEnd}
use Rattle.range_reader.specs.declared.step_end.StepEnd.TheVariants.{Bytes, End}
use Rattle.blob_model.specs.History.{history_from, start, History}
use Rattle.blob_model.specs.Legal.{IsLegalFrom}
use Rattle.blob_model.specs.Live.{is_live}
use Rattle.blob_model.specs.Own.{IsAccepted}
use Rattle.blob_model.specs.Session.{page_limit, Session}
use Rattle.blob_model.specs.Standing.{is_done_status}
use Rattle.store_laws.specs.Stands.{Stands}
use Rattle.store_laws.specs.StepLaws.{ends_reader, read_numbers, step_answer, touched_all, unread_answer}
use Rattle.store_laws.proofs.Resting.{rests_when_settled}
use Rattle.store_laws.proofs.Unread.{step_unread}
use Rattle.blob_store.specs.Reading.{IsClosing, IsReading}
use Rattle.blob_store.specs.Readers.{reader_at, Closes}
use Rattle.blob_store.specs.Says.{scene, IsHeard}
use Rattle.blob_store.specs.Seen.{parts_of}
use Rattle.blob_store.specs.Steps.{AreReadable, IsStepped}
use Rattle.blob_store.specs.Whole.{Whole}
use Rattle.blob_store.specs.declared.parts.Parts.{Parts}
use Rattle.blob_store.specs.declared.readers.OpenReader.{OpenReader}
use Rattle.blob_store.proofs.Closing.{closing, closing_said, heard_asked, stands_still}
use Rattle.blob_store.proofs.HeardSteps.{heard_end, heard_given, heard_wait, open_there, step_accepted}
use Rattle.blob_store.proofs.HeardTables.{open_said}
use Rattle.blob_store.proofs.Reading.{views_lie, whole_read}

abbrev Open : Type 0
Open = List (ℕ × OpenReader)

-- the views of a blob that is done
done_views : (book : Book) (name : ℕ) (entry : Entry) → entry_of book name ≡ Some entry → entry.status ≡ statuses.Done
    → views_of book name ≡ Some entry.views
done_views book name entry at done =
    ap (option_and_then (λ (one : Entry). if is_done one.status then Some one.views else None)) at
    ∙ ap (λ (status : Status). if is_done status then Some entry.views else None) done

-- those that were found are its entry's
pub found_views : (result : Option (Bor (List View))) (views : Bor (List View)) (parts : Parts) (number blob place room : ℕ)
    (reading : IsReading parts number blob place room) → option_copied result ≡ views_of parts.registry blob → result ≡ Some views
    → views.now ≡ reading.entry.views
found_views result views parts number blob place room reading found is =
    some_same (sym (ap option_copied is) ∙ found ∙ done_views parts.registry blob reading.entry reading.at reading.done)
  where
    some_same : Some views.now ≡ Some reading.entry.views → views.now ≡ reading.entry.views
    some_same e = cc e

-- the entry of a status
pub entry_with : (held : Option Entry) (status : Status) → option_map (λ (one : Entry). one.status) held ≡ Some status
    → (entry : Entry) × (held ≡ Some entry) × (entry.status ≡ status)
entry_with None status is = absurd (cc is)
entry_with (Some entry) status is = (entry, refl, cc is)

-- as many bytes as cells
as_many : (byte : ℕ × ℕ → Option ℕ) (list : List (ℕ × ℕ)) (bytes : List ℕ) → AreBytesOf byte list bytes → length bytes ≡ length list
as_many byte [] [] are = refl
as_many byte [] (one ∷ bytes) are = absurd are
as_many byte (cell ∷ list) [] are = absurd are
as_many byte (cell ∷ list) (one ∷ bytes) are = let rest = as_many byte list bytes are.1 in omega (arith, rest)

-- so many taken are all that were to be taken
taken_so : {X : Type 0} (m count : ℕ) (xs : List X) → count ≡ length (take m xs) → take count xs ≡ take m xs
taken_so m count xs is = ap (λ (n : ℕ). take n xs) (is ∙ length-take m xs) ∙ take_min m xs

module _ (s : Session) (groups : List Group) (parts : Parts) (told : Option (List Change)) (table : HandleTable) (legal : IsLegalFrom s start groups)
    (stands : Stands s (history_from start groups) (parts_of parts) told table) (reader : ReaderId) (open_reader : OpenReader)
    (there : reader_at reader.0 parts.readers ≡ Some open_reader) where
  abbrev h : History
  h = history_from start groups

  -- an answer that closes the reader
  pub heard_left : (answer : Answer) (final : Parts) → ends_reader answer ≡ true → IsAccepted s h (events.Step reader) (answer ∷ [])
      → Closes reader.0 parts.readers final.readers
      → IsSomeAnd (reader_at reader.0 parts.readers) (λ (one : OpenReader). final
      ≡ record parts { registry = changed parts.registry one.blob held_less; readers = final.readers })
      → IsHeard s h (events.Step reader) (answer ∷ []) (scene final told table)
  heard_left answer final ends accepts closes rest =
      subst (λ (one : Parts). IsHeard s h (events.Step reader) (answer ∷ []) (scene one told table))
      (sym (subst (λ (held : Option OpenReader). IsSomeAnd held (λ (one : OpenReader). final
      ≡ record parts { registry = changed parts.registry one.blob held_less; readers = final.readers })) there rest))
      (heard_end s groups parts told table legal stands reader open_reader there answer (changed parts.registry open_reader.blob held_less)
      final.readers ends accepts refl closes)

  module _ (entry : Entry) (at : entry_of parts.registry open_reader.blob ≡ Some entry) where
    unread : is_done_status entry.status ≡ false → IsAccepted s h (events.Step reader) (unread_answer reader entry.status ∷ [])
    unread other =
        step_unread s h (is_live (page_limit s) h) (parts_of parts) told table stands.between (rests_when_settled s groups legal).ends reader
        (open_said reader.0 open_reader) entry (open_there s groups parts told table legal stands reader open_reader there) at other

    -- of an unfinished blob
    pub heard_pending : is_pending entry.status ≡ true → IsHeard s h (events.Step reader) (answers.Wait reader ∷ []) (scene parts told table)
    heard_pending pending =
        heard_wait s groups parts told table legal stands reader open_reader there (by entry.status pending (unread (other entry.status pending)))
      where
        other : (status : Status) → is_pending status ≡ true → is_done_status status ≡ false
        other statuses.Done is = absurd (cc is)
        other status is = refl

        by : (status : Status) → is_pending status ≡ true → IsAccepted s h (events.Step reader) (unread_answer reader status ∷ [])
            → IsAccepted s h (events.Step reader) (answers.Wait reader ∷ [])
        by status is =
            subst (λ (b : Bool). IsAccepted s h (events.Step reader) ((if b then answers.Wait reader else answers.Ended reader status) ∷ [])) is

    -- of one that isn't done any more, or that is read to its end
    pub over_accepted : Whole parts → AreReadable parts.shares told table → is_pending entry.status ≡ false
        → (is_done entry.status ≡ false) ⊎ (open_reader.course.place ≡ open_reader.course.stop)
        → IsAccepted s h (events.Step reader) (answers.Ended reader entry.status ∷ [])
    over_accepted whole readable settled over = by (is_done entry.status) refl over
      where
        broken : (status : Status) → is_done status ≡ false → is_done_status status ≡ false
        broken statuses.Done is = is
        broken status is = refl

        complete : (status : Status) → is_done status ≡ true → status ≡ statuses.Done
        complete statuses.Done is = refl
        complete status is = absurd (cc is)

        by : (b : Bool) → is_done entry.status ≡ b → (b ≡ false) ⊎ (open_reader.course.place ≡ open_reader.course.stop)
            → IsAccepted s h (events.Step reader) (answers.Ended reader entry.status ∷ [])
        by false is over =
            subst (λ (b : Bool). IsAccepted s h (events.Step reader) ((if b then answers.Wait reader else answers.Ended reader entry.status) ∷ [])) settled
            (unread (broken entry.status is))
        by true is (inl other) = absurd (cc other)
        by true is (inr over) =
            let done = complete entry.status is in
            subst (λ (status : Status). IsAccepted s h (events.Step reader) (answers.Ended reader status ∷ [])) (sym done)
            (step_accepted s groups parts told table legal stands reader open_reader there entry at done
            (views_lie parts told table whole readable open_reader.blob entry at) 0 (omega (arith, over)) 0 0 open_reader.course
            (asked parts.files told table 0 0) [] End (over, refl, refl))

-- ---- of a blob that is done

module _ (parts : Parts) (told : Option (List Change)) (table : HandleTable) (whole : Whole parts) (readable : AreReadable parts.shares told table)
    (reader : ReaderId) (blob place room : ℕ) (reading : IsReading parts reader.0 blob place room) where
  abbrev lie : AllByRecursion (ViewLies (origins parts.files told table) parts.shares) reading.entry.views
  lie = views_lie parts told table whole readable blob reading.entry reading.at

  pub views_so : (views : List View) → views ≡ reading.entry.views → AllByRecursion (ViewLies (origins parts.files told table) parts.shares) views
  views_so views same = subst (AllByRecursion (ViewLies (origins parts.files told table) parts.shares)) (sym same) lie

  at_blob : entry_of parts.registry reading.reader.blob ≡ Some reading.entry
  at_blob = ap (entry_of parts.registry) reading.blob_is ∙ reading.at

  module _ (views : List View) (same : views ≡ reading.entry.views) (length_out faults meter : ℕ) (new : Asked) (out : List ℕ) (end : StepEnd) (later : Open)
      (sized : length_out ≡ room)
      (stepped : IsSomeAnd (reader_at reader.0 parts.readers) (λ (one : OpenReader). IsStepped reader.0 one parts.shares views length_out
      (asked parts.files told table faults meter) new out end parts.readers later)) where
    abbrev old : Asked
    old = asked parts.files told table faults meter

    here : IsStepped reader.0 reading.reader parts.shares reading.entry.views room old new out end parts.readers later
    here =
        subst (λ (list : List View). IsStepped reader.0 reading.reader parts.shares list room old new out end parts.readers later) same
        (subst (λ (n : ℕ). IsStepped reader.0 reading.reader parts.shares views n old new out end parts.readers later) sized
        (subst (λ (held : Option OpenReader). IsSomeAnd held (λ (one : OpenReader). IsStepped reader.0 one parts.shares views length_out old new out end
        parts.readers later)) reading.there stepped))

    enough : (s : Session) (groups : List Group) → IsLegalFrom s start groups → Stands s (history_from start groups) (parts_of parts) told table
        → min room (reading.reader.course.stop - reading.reader.course.place)
        ≡ min (reading.reader.course.stop - reading.reader.course.place) s.limits.chunk
    enough s groups legal stands =
        let one = reading.room_is in
        let two : parts.limits.chunk ≡ s.limits.chunk = ap (λ (limits : Limits). limits.chunk) stands.between.same_limits in
        let three = reading.place_is in
        omega (arith, one, two, three)

    accepted : (s : Session) (groups : List Group) → IsLegalFrom s start groups → Stands s (history_from start groups) (parts_of parts) told table
        → IsAccepted s (history_from start groups) (events.Step reader) (step_answer reader parts.shares reading.entry.views out end ∷ [])
    accepted s groups legal stands =
        step_accepted s groups parts told table legal stands reader reading.reader reading.there reading.entry at_blob reading.done lie room
        (enough s groups legal stands) faults meter here.course new out end here.ends

    -- bytes were read
    module _ (count : ℕ) (is : end ≡ Bytes count) where
      given : StepEnds parts.shares reading.entry.views room reading.reader.course here.course old new out (Bytes count)
      given =
          subst (λ (one : StepEnd). StepEnds parts.shares reading.entry.views room reading.reader.course here.course old new out one) is here.ends

      pub read_within : place + count ≤ total views
      read_within =
          let one = given.0 in
          let some = given.1 in
          let at = reading.place_is in
          let long = length-take (min room (reading.reader.course.stop - reading.reader.course.place))
          (drop reading.reader.course.place (cells reading.entry.views)) in
          let left = length-drop reading.reader.course.place (cells reading.entry.views) in
          let all = length_cells reading.entry.views in
          let totals = ap (λ (list : List View). total list) same in
          omega (arith, one, some, at, long, left, all, totals)

      -- the cells that were read are the next ones
      next_so : take count (drop place (cells views)) ≡ next_cells reading.reader.course room reading.entry.views
      next_so =
          ap (λ (list : List View). take count (drop place (cells list))) same
          ∙ ap (λ (n : ℕ). take count (drop n (cells reading.entry.views))) (sym reading.place_is)
          ∙ taken_so (min room (reading.reader.course.stop - reading.reader.course.place)) count
          (drop reading.reader.course.place (cells reading.entry.views)) given.0

      module _ (recent : List (ℕ × ℕ))
          (used : recent ≡ touched_all parts.recent (read_numbers parts.shares (take count (drop place (cells views))))) where
        pub given_whole : Whole (record parts { recent = recent; readers = later })
        given_whole =
            whole_read parts whole reader.0 reading.reader here.course later reading.there (ap (λ (course : Course). course.size) given.2) here.moves recent
            (read_numbers parts.shares (take count (drop place (cells views)))) used

        pub given_heard : (s : Session) (groups : List Group) → IsLegalFrom s start groups → Stands s (history_from start groups) (parts_of parts) told table
            → (now : Option (List Change)) → now ≡ told → (full : ℕ) → full ≡ room → (bytes rest : List ℕ) → bytes ≡ take count (take full (out ++ rest))
            → IsHeard s (history_from start groups) (events.Step reader) (answers.Given reader bytes ∷ [])
            (scene (record parts { recent = recent; readers = later }) now new.from.handles)
        given_heard s groups legal stands now told_so full filled bytes rest are =
            subst (λ (changes : Option (List Change)). IsHeard s (history_from start groups) (events.Step reader) (answers.Given reader bytes ∷ [])
            (scene (record parts { recent = recent; readers = later }) changes new.from.handles)) (sym told_so)
            (subst (λ (list : List ℕ). IsHeard s (history_from start groups) (events.Step reader) (answers.Given reader list ∷ [])
            (scene (record parts { recent = recent; readers = later }) told new.from.handles)) (sym (are ∙ cut))
            (heard_asked s (history_from start groups) (events.Step reader) (answers.Given reader (take count out) ∷ [])
            (record parts { recent = recent; readers = later }) told table parts.files parts.shares reading.entry.views room reading.reader.course here.course
            faults meter new out end here.ends
            (heard_given s groups parts told table legal stands reader reading.reader reading.there reading.entry at_blob reading.done lie room
            (enough s groups legal stands) (take count out) recent later here.course
            (subst (λ (one : StepEnd). IsAccepted s (history_from start groups) (events.Step reader)
            (step_answer reader parts.shares reading.entry.views out one ∷ [])) is (accepted s groups legal stands))
            (used ∙ ap (λ (list : List (ℕ × ℕ)). touched_all parts.recent (read_numbers parts.shares list)) next_so)
            (given.2 ∙ ap (λ (n : ℕ). record reading.reader.course { place = reading.reader.course.place + n }) long) here.moves)))
          where
            long : count ≡ length (take count out)
            long = given.0 ∙ sym (as_many _ (next_cells reading.reader.course room reading.entry.views) (take count out) given.3.bytes_are)

            cut : take count (take full (out ++ rest)) ≡ take count out
            cut =
                let size = length-take (min room (reading.reader.course.stop - reading.reader.course.place))
                (drop reading.reader.course.place (cells reading.entry.views)) in
                let one = given.0 in
                let short = length-take count out in
                let low : count ≤ full = omega (arith, size, one, filled) in
                let here : count ≤ length out = omega (arith, short, long) in
                take-take count full (out ++ rest) low ∙ take-append-le count out rest here

    -- none were
    module _ (other : (count : ℕ) → end ≡ Bytes count → ⊥) where
      closes_here : IsClosing parts.shares reading.entry.views end
      closes_here = closing parts.shares reading.entry.views room reading.reader.course here.course old new out end other here.ends

      pub read_none : IsClosing parts.shares views end
      read_none = subst (λ (list : List View). IsClosing parts.shares list end) (sym same) closes_here

      pub readers_stay : later ≡ parts.readers
      readers_stay =
          here.stays (stands_still parts.shares reading.entry.views room reading.reader.course here.course old new out end closes_here here.ends)

      pub stayed_whole : Whole (record parts { readers = later })
      stayed_whole = subst (λ (list : Open). Whole (record parts { readers = list })) (sym readers_stay) whole

      pub stayed_there : IsSome (reader_at reader.0 later)
      stayed_there =
          subst (λ (list : Open). IsSome (reader_at reader.0 list)) (sym readers_stay)
          (subst (λ (held : Option OpenReader). IsSome held) (sym reading.there) refl)

      pub closing_heard : (s : Session) (groups : List Group) → IsLegalFrom s start groups → Stands s (history_from start groups) (parts_of parts) told table
          → (now : Option (List Change)) → now ≡ told
          → (answer : Answer) (final : Parts) → answer ≡ step_answer reader parts.shares views [] end → Closes reader.0 later final.readers
          → IsSomeAnd (reader_at reader.0 later) (λ (one : OpenReader). final
          ≡ record parts { registry = changed parts.registry one.blob held_less; readers = final.readers })
          → IsHeard s (history_from start groups) (events.Step reader) (answer ∷ []) (scene final now new.from.handles)
      closing_heard s groups legal stands now told_so answer final is closes rest =
          subst (λ (changes : Option (List Change)). IsHeard s (history_from start groups) (events.Step reader) (answer ∷ [])
          (scene final changes new.from.handles)) (sym told_so)
          (heard_asked s (history_from start groups) (events.Step reader) (answer ∷ []) final told table parts.files parts.shares reading.entry.views room
          reading.reader.course here.course faults meter new out end
          here.ends
          (heard_left s groups parts told table legal stands reader reading.reader reading.there answer final ends
          (subst (λ (one : Answer). IsAccepted s (history_from start groups) (events.Step reader) (one ∷ [])) (sym said) (accepted s groups legal stands))
          (subst (λ (list : Open). Closes reader.0 list final.readers) readers_stay closes)
          (subst (λ (list : Open). IsSomeAnd (reader_at reader.0 list) (λ (one : OpenReader). final
          ≡ record parts { registry = changed parts.registry one.blob held_less; readers = final.readers })) readers_stay rest)))
        where
          short : (step_answer reader parts.shares reading.entry.views out end ≡ step_answer reader parts.shares reading.entry.views [] end)
              × (ends_reader (step_answer reader parts.shares reading.entry.views out end) ≡ true)
          short = closing_said reader parts.shares reading.entry.views out end closes_here

          said : answer ≡ step_answer reader parts.shares reading.entry.views out end
          said = is ∙ ap (λ (list : List View). step_answer reader parts.shares list [] end) same ∙ sym short.0

          ends : ends_reader answer ≡ true
          ends = ap ends_reader said ∙ short.1
