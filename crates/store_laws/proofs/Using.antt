-- Each piece of a blob that is done was used.
use Rattle.std.proofs.Common.{◌≡◌, ℕ, ◌+◌, ◌==◌, ◌||◌, Bool, true, false, not, cond, List, [], ◌∷◌, ◌++◌, map, length, Option, Some, None, refl, sym, ap, subst, ◌∙◌, inl, inr, append_assoc}
use Rattle.std.specs.Prelude.{filter, fold}
use Rattle.std.specs.Option.{option_map_or}
use Rattle.std.specs.List.{AllByRecursion, list_any}
use Rattle.std.proofs.lemmas.Bool.{eq-eqb, eqb-true}
use Rattle.blob_words.specs.declared.limits.Limits.{Limits}
use Rattle.blob_words.specs.declared.status.Status.{Status}
use Rattle.blob_words.specs.declared.status.Status.TheVariants as statuses
use Rattle.session_script.specs.declared.event.Event.{Event}
use Rattle.session_script.specs.declared.event.Event.TheVariants as events
use Rattle.answer_text.specs.declared.answer.Answer.{Answer}
use Rattle.answer_text.specs.declared.answer.Answer.TheVariants as answers
use Rattle.blob_model.specs.Builds.{builds, Build, Cell}
use Rattle.blob_model.specs.Chunk.{chunk}
use Rattle.blob_model.specs.History.{heard, refused, said, start, History}
use Rattle.blob_model.specs.Order.{named}
use Rattle.blob_model.specs.Pieces.{numbered, piece_with, pieces, pieces_from, pieces_of, spans_of, Piece}
use Rattle.blob_model.specs.Readers.{reader_at, OpenReader}
use Rattle.blob_model.specs.Session.{page_limit, Session}
use Rattle.blob_model.specs.Standing.{ended, ended_after, is_broken_status, is_done, is_done_status}
use Rattle.blob_model.specs.Victims.{last_uses, memory_piece, used, used_by_answer, used_by_cell, used_by_chunk, used_by_line}
use Rattle.blob_model.proofs.Lists.{all_append, any_append_second, false_true, for_each, for_both, found_some, or_first, or_second}
use Rattle.blob_model.proofs.builds.Order.{Distinct}
use Rattle.blob_model.proofs.bytes.Arrivals.{done_came, grown_heard}
use Rattle.blob_model.proofs.legal.Causes.{is_idle, is_reply, OwnCase, idle, breaks, stores, unstores, replies, loses, own_case, IsFurther, by_store, by_unstore, by_drop, by_break, by_done, by_removal, by_grant, by_page_job, by_compaction, IsCaused}
use Rattle.blob_model.proofs.legal.PageNumbers.{same_first}
use Rattle.blob_model.proofs.legal.Steps.{distinct_of, kept_caused}
use Rattle.store_laws.specs.StepLaws.{AreUsed}
use Rattle.store_laws.proofs.Stepped.{member_used}

-- ---- who is used stays so

abbrev Member : List ℕ → ℕ → Type 0
Member uses n = list_any (λ (each : ℕ). each == n) uses ≡ true

kept_fold : (numbers uses : List ℕ) (n : ℕ) → Member uses n → Member (fold used uses numbers) n
kept_fold [] uses n there = there
kept_fold (one ∷ numbers) uses n there = kept_fold numbers (used uses one) n (member_used uses one n there)

new_fold : (numbers uses : List ℕ) (n : ℕ) → Member numbers n → Member (fold used uses numbers) n
new_fold [] uses n there = absurd (false_true there)
new_fold (one ∷ numbers) uses n there = go (one == n) refl there (new_fold numbers (used uses one) n)
  where
    go : (b : Bool) → (one == n) ≡ b → (b || list_any (λ (each : ℕ). each == n) numbers) ≡ true
        → (Member numbers n → Member (fold used (used uses one) numbers) n) → Member (fold used (used uses one) numbers) n
    go true at is rest =
        kept_fold numbers (used uses one) n
        (any_append_second (λ (each : ℕ). each == n) (filter (λ (each : ℕ). not (each == one)) uses) (one ∷ []) (or_first (one == n) false at))
    go false at is rest = rest is

kept_chunk : (page : ℕ) (h : History) (cells : List Cell) (uses : List ℕ) (n : ℕ) → Member uses n → Member (fold (used_by_cell page h) uses cells) n
kept_chunk page h [] uses n there = there
kept_chunk page h (cell ∷ cells) uses n there =
    kept_chunk page h cells (used_by_cell page h uses cell) n (kept_fold (memory_piece page h (piece_with (pieces page h) cell)) uses n there)

kept_line : (l : Limits) (h : History) (event : Event) (answer : Answer) (uses : List ℕ) (n : ℕ) → Member uses n → Member (used_by_line l h event answer uses) n
kept_line l h (events.Step reader) (answers.Given number bytes) uses n there = by (reader_at l.page h reader.0)
  where
    by : (found : Option OpenReader) → Member (used_by_chunk l h found uses) n
    by None = there
    by (Some reader) = kept_chunk l.page h (chunk l h reader) uses n there
kept_line l h event answer uses n there = there

kept_answer : (page : ℕ) (h : History) (answer : Answer) (uses : List ℕ) (n : ℕ) → Member uses n → Member (used_by_answer page h answer uses) n
kept_answer page h (answers.Done b) uses n there = kept_fold (map (λ (piece : Piece). piece.number) (pieces_of page h b)) uses n there
kept_answer page h answer uses n there = there

-- ---- who gets done

abbrev IsDoneBy : Option Status → Type 0
IsDoneBy found = option_map_or is_done_status found false ≡ true

broken_undone : (status : Status) → is_broken_status status ≡ true → is_done_status status ≡ false
broken_undone statuses.Done e = absurd (false_true e)
broken_undone status e = refl

done_or : (b : Bool) (status : Status) (before : Option Status) → is_done_status status ≡ false → IsDoneBy (cond b (Some status) before) → IsDoneBy before
done_or true status before undone is = absurd (false_true (sym undone ∙ is))
done_or false status before undone is = is

idle_done : (answer : Answer) (name : ℕ) (before : Option Status) → is_idle answer ≡ true → IsDoneBy (ended_after answer name before) → IsDoneBy before
idle_done (answers.Done b) name before e is = absurd (false_true e)
idle_done (answers.Broken b status) name before e is = absurd (false_true e)
idle_done (answers.Dropped b) name before e is = absurd (false_true e)
idle_done answer name before e is = is

reply_done : (answer : Answer) (name : ℕ) (before : Option Status) → is_reply answer ≡ true → IsDoneBy (ended_after answer name before) → IsDoneBy before
reply_done (answers.Done b) name before e is = absurd (false_true e)
reply_done (answers.Broken b status) name before e is = absurd (false_true e)
reply_done (answers.Dropped b) name before e is = absurd (false_true e)
reply_done answer name before e is = is

-- by no line
first_done : (s : Session) (h : History) (event : Event) (answer : Answer) (rest : List Answer) (name : ℕ) → OwnCase s h event (answer ∷ rest)
    → IsDoneBy (ended_after answer name (ended h name)) → is_done h name ≡ true
first_done s h event answer rest name (idle one e free) is =
    idle_done one name (ended h name) free (subst (λ (a : Answer). IsDoneBy (ended_after a name (ended h name))) (same_first answer one rest [] e) is)
first_done s h event answer rest name (breaks b status broken building e) is =
    done_or (b == name) status (ended h name) (broken_undone status broken)
    (subst (λ (a : Answer). IsDoneBy (ended_after a name (ended h name))) (same_first answer _ rest [] e) is)
first_done s h event answer rest name (stores renderer b segment bytes n same at e) is =
    subst (λ (a : Answer). IsDoneBy (ended_after a name (ended h name))) (same_first answer _ rest _ e) is
first_done s h event answer rest name (unstores renderer b segment bytes n same at e) is =
    subst (λ (a : Answer). IsDoneBy (ended_after a name (ended h name))) (same_first answer _ rest _ e) is
first_done s h event answer rest name (replies job one same e reply done) is =
    reply_done one name (ended h name) reply (subst (λ (a : Answer). IsDoneBy (ended_after a name (ended h name))) (same_first answer one rest [] e) is)
first_done s h event answer rest name (loses job same e) is =
    subst (λ (a : Answer). IsDoneBy (ended_after a name (ended h name))) (same_first answer _ rest [] e) is

-- ---- pieces of blobs

-- those of a blob are among its own
abbrev IsOwnOf : List Piece → Piece → Type 0
IsOwnOf list piece =
    (name : ℕ) → (name == piece.blob) ≡ true
    → list_any (λ (each : ℕ). each == piece.number) (map (λ (each : Piece). each.number) (filter (λ (each : Piece). each.blob == name) list)) ≡ true

own_member : (list : List Piece) → AllByRecursion (IsOwnOf list) list
own_member [] = tt
own_member (piece ∷ list) = (
  λ name e. here name (eq-eqb piece.blob name (sym (eqb-true name piece.blob e))),
  for_each (IsOwnOf list) (IsOwnOf (piece ∷ list)) list (λ one f name e. later name (piece.blob == name) one.number (f name e)) (own_member list),
)
  where
    here : (name : ℕ) → (piece.blob == name) ≡ true
        → Member (map (λ (each : Piece). each.number) (filter (λ (each : Piece). each.blob == name) (piece ∷ list))) piece.number
    here name e =
        subst (λ (b : Bool). Member (map (λ (each : Piece). each.number)
        (cond b (piece ∷ filter (λ (each : Piece). each.blob == name) list) (filter (λ (each : Piece). each.blob == name) list))) piece.number) (sym e)
        (or_first (piece.number == piece.number) _ (eq-eqb piece.number piece.number refl))

    later : (name : ℕ) (b : Bool) (m : ℕ) → Member (map (λ (each : Piece). each.number) (filter (λ (each : Piece). each.blob == name) list)) m
        → Member (map (λ (each : Piece). each.number)
        (cond b (piece ∷ filter (λ (each : Piece). each.blob == name) list) (filter (λ (each : Piece). each.blob == name) list))) m
    later name true m is = or_second (piece.number == m) _ is
    later name false m is = is

-- those of blobs are named
numbered_named : (list : List Build) (blob number : ℕ) (spans : List (ℕ × ℕ)) → named blob list ≡ true
    → AllByRecursion (λ (piece : Piece). named piece.blob list ≡ true) (numbered blob number spans)
numbered_named list blob number [] is = tt
numbered_named list blob number (span ∷ spans) is = (is, numbered_named list blob (number + 1) spans is)

all_named : (page number : ℕ) (list : List Build) → AllByRecursion (λ (piece : Piece). named piece.blob list ≡ true) (pieces_from page number list)
all_named page number [] = tt
all_named page number (build ∷ list) =
    all_append (λ (piece : Piece). named piece.blob (build ∷ list) ≡ true) (numbered build.name number (spans_of page build))
    (pieces_from page (number + length (spans_of page build)) list)
    (numbered_named (build ∷ list) build.name number (spans_of page build) (or_first (build.name == build.name) _ (eq-eqb build.name build.name refl)))
    (for_each (λ (piece : Piece). named piece.blob list ≡ true) (λ (piece : Piece). named piece.blob (build ∷ list) ≡ true)
    (pieces_from page (number + length (spans_of page build)) list) (λ piece is. or_second (build.name == piece.blob) _ is)
    (all_named page (number + length (spans_of page build)) list))

split_pieces : (page number : ℕ) (xs ys : List Build)
    → (from : ℕ) × (pieces_from page number (xs ++ ys) ≡ pieces_from page number xs ++ pieces_from page from ys)
split_pieces page number [] ys = (number, refl)
split_pieces page number (x ∷ xs) ys =
    let rest = split_pieces page (number + length (spans_of page x)) xs ys in (
      rest.0,
      ap (λ (list : List Piece). numbered x.name number (spans_of page x) ++ list) rest.1 ∙ sym
          (append_assoc (numbered x.name number (spans_of page x)) (pieces_from page (number + length (spans_of page x)) xs) (pieces_from page (rest.0) ys)),
    )

-- names that differ are in one of two parts
apart_parts : (xs ys : List Build) (name : ℕ) → Distinct (xs ++ ys) → named name xs ≡ true → named name ys ≡ true → ⊥
apart_parts [] ys name distinct one other = false_true one
apart_parts (x ∷ xs) ys name distinct one other = go (x.name == name) refl one (apart_parts xs ys name distinct.1)
  where
    go : (b : Bool) → (x.name == name) ≡ b → (b || named name xs) ≡ true → (named name xs ≡ true → named name ys ≡ true → ⊥) → ⊥
    go true at is rest =
        let there : named x.name (xs ++ ys) ≡ true =
        any_append_second (λ (build : Build). build.name == x.name) xs ys (subst (λ (n : ℕ). named n ys ≡ true) (sym (eqb-true x.name name at)) other) in
        false_true (sym distinct.0 ∙ there)
    go false at is rest = rest is other

-- ---- the law

module _ (s : Session) where
  abbrev Uses : History → Piece → Type 0
  Uses h piece = is_done h piece.blob ≡ true → Member (last_uses s.limits h) piece.number

  further : (h : History) (answer : Answer) (piece : Piece) → IsFurther s h answer → IsOwnOf (pieces (page_limit s) h) piece → Uses h piece
      → Uses (said h answer) piece
  further h answer piece (by_done build found begun complete e) own before is =
      go (build.name == piece.blob) refl (subst (λ (a : Answer). IsDoneBy (ended_after a piece.blob (ended h piece.blob))) e is)
    where
      go : (b : Bool) → (build.name == piece.blob) ≡ b → IsDoneBy (cond b (Some statuses.Done) (ended h piece.blob))
          → Member (used_by_answer (page_limit s) h answer (last_uses s.limits h)) piece.number
      go true at is =
          subst (λ (a : Answer). Member (used_by_answer (page_limit s) h a (last_uses s.limits h)) piece.number) (sym e)
          (new_fold (map (λ (each : Piece). each.number) (pieces_of (page_limit s) h build.name)) (last_uses s.limits h) piece.number
          (own build.name at))
      go false at is = kept_answer (page_limit s) h answer (last_uses s.limits h) piece.number (before is)
  further h answer piece (by_drop build found begun unrooted e) own before is =
      kept_answer (page_limit s) h answer (last_uses s.limits h) piece.number
      (before (done_or (build.name == piece.blob) statuses.Dereferenced (ended h piece.blob) refl
      (subst (λ (a : Answer). IsDoneBy (ended_after a piece.blob (ended h piece.blob))) e is)))
  further h answer piece (by_break build found begun status broken e) own before is =
      kept_answer (page_limit s) h answer (last_uses s.limits h) piece.number
      (before (done_or (build.name == piece.blob) status (ended h piece.blob) (broken_undone status broken)
      (subst (λ (a : Answer). IsDoneBy (ended_after a piece.blob (ended h piece.blob))) e is)))
  further h answer piece (by_store g renderer b segment bytes n same passes at e) own before is =
      kept_answer (page_limit s) h answer (last_uses s.limits h) piece.number
      (before (subst (λ (a : Answer). IsDoneBy (ended_after a piece.blob (ended h piece.blob))) e is))
  further h answer piece (by_unstore g renderer b segment bytes n same passes at e) own before is =
      kept_answer (page_limit s) h answer (last_uses s.limits h) piece.number
      (before (subst (λ (a : Answer). IsDoneBy (ended_after a piece.blob (ended h piece.blob))) e is))
  further h answer piece (by_removal number written left (inl e)) own before is =
      kept_answer (page_limit s) h answer (last_uses s.limits h) piece.number
      (before (subst (λ (a : Answer). IsDoneBy (ended_after a piece.blob (ended h piece.blob))) e is))
  further h answer piece (by_removal number written left (inr e)) own before is =
      kept_answer (page_limit s) h answer (last_uses s.limits h) piece.number
      (before (subst (λ (a : Answer). IsDoneBy (ended_after a piece.blob (ended h piece.blob))) e is))
  further h answer piece (by_grant build found e) own before is =
      kept_answer (page_limit s) h answer (last_uses s.limits h) piece.number
      (before (subst (λ (a : Answer). IsDoneBy (ended_after a piece.blob (ended h piece.blob))) e is))
  further h answer piece (by_page_job number more may chosen e) own before is =
      kept_answer (page_limit s) h answer (last_uses s.limits h) piece.number
      (before (subst (λ (a : Answer). IsDoneBy (ended_after a piece.blob (ended h piece.blob))) e is))
  further h answer piece (by_compaction file may found e) own before is =
      kept_answer (page_limit s) h answer (last_uses s.limits h) piece.number
      (before (subst (λ (a : Answer). IsDoneBy (ended_after a piece.blob (ended h piece.blob))) e is))

  pub done_used : (h : History) → IsCaused s h → AreUsed s h
  done_used start caused = tt
  done_used (heard h event answer) caused =
      let grown = grown_heard s h event answer in
      let split = split_pieces (page_limit s) 0 (builds (page_limit s) h) grown.more in
      let whole : pieces (page_limit s) (heard h event answer) ≡ pieces (page_limit s) h ++ pieces_from (page_limit s) (split.0) grown.more =
      ap (pieces_from (page_limit s) 0) grown.blobs ∙ split.1 in
      subst (AllByRecursion (Uses (heard h event answer))) (sym whole)
      (all_append (Uses (heard h event answer)) (pieces (page_limit s) h) (pieces_from (page_limit s) (split.0) grown.more)
      (for_each (Uses h) (Uses (heard h event answer)) (pieces (page_limit s) h)
      (λ piece before is. kept_line s.limits h event answer (last_uses s.limits h) piece.number (before (was_done h event answer caused piece.blob is)))
      (done_used h caused.1))
      (for_each (λ (piece : Piece). named piece.blob grown.more ≡ true) (Uses (heard h event answer)) (pieces_from (page_limit s) (split.0) grown.more)
      (λ piece name is.
      absurd (apart_parts (builds (page_limit s) h) grown.more piece.blob
      (subst Distinct grown.blobs (distinct_of s (heard h event answer) (kept_caused s (heard h event answer) caused)))
      (was_built h caused.1 piece.blob (was_done h event answer caused piece.blob is)) name))
      (all_named (page_limit s) (split.0) grown.more)))
    where
      was_done : (h : History) (event : Event) (answer : Answer) → IsCaused s (heard h event answer) → (name : ℕ) → is_done (heard h event answer) name ≡ true
          → is_done h name ≡ true
      was_done h event answer caused name is =
          first_done s h event answer caused.0.rest name (own_case s h event (answer ∷ caused.0.rest) caused.0.own) is

      was_built : (h : History) → IsCaused s h → (name : ℕ) → is_done h name ≡ true → named name (builds (page_limit s) h) ≡ true
      was_built h caused name is =
          let came = done_came s h caused name is in
          found_some (λ (build : Build). build.name == name) (builds (page_limit s) h) came.build came.found
  done_used (refused h event why) caused = done_used h caused.2
  done_used (said h answer) caused =
      for_both (IsOwnOf (pieces (page_limit s) h)) (Uses h) (Uses (said h answer)) (pieces (page_limit s) h)
      (λ piece own before. further h answer piece caused.0 own before) (own_member (pieces (page_limit s) h)) (done_used h caused.1)
