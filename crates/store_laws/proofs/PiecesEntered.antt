-- The pieces that a pass enters are read off the items in their homes.
use Rattle.std.proofs.Common.{◌≡◌, ℕ, ◌==◌, ◌||◌, Bool, true, false, cond, List, [], ◌∷◌, Option, Some, None, map, refl, ap, subst, sym, ◌∙◌}
use Rattle.std.specs.Prelude.{filter, filter_map, flat_map, fold}
use Rattle.std.specs.List.{cons_option, list_any, AllByRecursion}
use Rattle.std.specs.Option.{option_map_or}
use Rattle.std.proofs.lemmas.Bool.{eq-eqb, eqb-true}
use Rattle.std.proofs.lemmas.List.Folds.{list_any-append}
use Rattle.answer_text.specs.declared.answer.Answer.{Answer}
use Rattle.answer_text.specs.declared.answer.Answer.TheVariants as answers
use Rattle.blob_words.specs.declared.status.Status.{Status}
use Rattle.blob_words.specs.declared.status.Status.TheVariants as statuses
use Rattle.item_shares.specs.declared.shares.Share.{Share}
use Rattle.blob_entries.specs.Book.{Book}
use Rattle.blob_entries.specs.Counted.{SameItems}
use Rattle.blob_entries.specs.Statuses as code
use Rattle.blob_registry.specs.Passes.{Finishes}
use Rattle.blob_registry.specs.declared.ended_blob.EndedBlob.{EndedBlob}
use Rattle.page_files.specs.Files.{Files}
use Rattle.quota_queue.specs.Queue.{Queue}
use Rattle.blob_model.specs.Builds.{Build, builds}
use Rattle.blob_model.specs.History.{History, said_all}
use Rattle.blob_model.specs.Pieces.{Piece, pieces}
use Rattle.blob_model.specs.Session.{Session, page_limit}
use Rattle.blob_model.specs.Settle.{ending_answers, endings, endings_of}
use Rattle.blob_model.specs.Standing.{ended, ended_after, is_done, is_done_status}
use Rattle.blob_model.specs.Victims.{with_length}
use Rattle.blob_model.proofs.Lists.{all_append, false_true, for_each, or_first, or_second}
use Rattle.blob_model.proofs.builds.PieceNumbers.{all_by_number, pieces_numbered}
use Rattle.blob_model.proofs.live.Agreement.{said_append}
use Rattle.blob_model.proofs.settled.Endings.{one_by}
use Rattle.registry_laws.specs.Agree.{AgreesInMarks}
use Rattle.registry_laws.specs.Laws.{ending_answer, Describes}
use Rattle.store_laws.specs.Cells.{piece_in}
use Rattle.store_laws.specs.Items.{holds_piece, piece_at}
use Rattle.store_laws.specs.Pageable.{pageable_at, PiecesAreEntered}
use Rattle.store_laws.specs.Passing.{after_pass, done_pieces, ended_names, entered, pieces_entered, rows_passed}
use Rattle.store_laws.specs.Rows.{Row}
use Rattle.store_laws.specs.Stands.{ContentsStand}
use Rattle.store_laws.specs.Swept.{queue_left}
use Rattle.store_laws.specs.Uses.{held_pieces, own_pieces, pageable_of}
use Rattle.store_laws.proofs.OrderLeft.{done_over, not_gathered}
use Rattle.store_laws.proofs.Pageable.{pieces_may_be_paged}
use Rattle.store_laws.proofs.PassContents.{endings_are, pass_stands}
use Rattle.store_laws.proofs.PassKeeps.{endings_keep}
use Rattle.store_laws.proofs.PassUses.{ended_kept}

-- ---- who got done in a pass is done behind it

-- whether the answer says that the blob is done
abbrev says_done : ℕ → Answer → Bool
says_done name answer = option_map_or is_done_status (ended_after answer name None) false

said_done : (answer : Answer) (name : ℕ) (before : Option Status) → says_done name answer ≡ true
    → option_map_or is_done_status (ended_after answer name before) false ≡ true
said_done (answers.Done b) name before e = by (b == name) e
  where
    by : (c : Bool) → option_map_or is_done_status (cond c (Some statuses.Done) None) false ≡ true
        → option_map_or is_done_status (cond c (Some statuses.Done) before) false ≡ true
    by true e = e
    by false e = absurd (false_true e)
said_done (answers.Broken b status) name before e = by (b == name) e
  where
    by : (c : Bool) → option_map_or is_done_status (cond c (Some status) None) false ≡ true
        → option_map_or is_done_status (cond c (Some status) before) false ≡ true
    by true e = e
    by false e = absurd (false_true e)
said_done (answers.Dropped b) name before e = by (b == name) e
  where
    by : (c : Bool) → option_map_or is_done_status (cond c (Some statuses.Dereferenced) None) false ≡ true
        → option_map_or is_done_status (cond c (Some statuses.Dereferenced) before) false ≡ true
    by true e = e
    by false e = absurd (false_true e)
said_done answer name before e = absurd (false_true e)

done_after : (s : Session) (g : History) (list : List Build) (name : ℕ) → list_any (says_done name) (endings_of s g list) ≡ true
    → is_done (said_all g (endings_of s g list)) name ≡ true
done_after s g [] name e = absurd (false_true e)
done_after s g (build ∷ list) name e =
    ap (λ (h : History). is_done h name) (said_append g (ending_answers s g build) (endings_of s next list))
    ∙ go (list_any (says_done name) (ending_answers s g build)) refl (done_after s next list name)
    (sym (list_any-append (says_done name) (ending_answers s g build) (endings_of s next list)) ∙ e)
  where
    next : History
    next = said_all g (ending_answers s g build)

    here : list_any (says_done name) (ending_answers s g build) ≡ true → is_done next name ≡ true
    here =
        one_by s g build (λ (xs : List Answer). list_any (says_done name) xs ≡ true → is_done (said_all g xs) name ≡ true)
        (λ none. absurd (false_true none)) (λ answer is some. said_done answer name (ended g name) (last (says_done name answer) some))
      where
        last : (b : Bool) → (b || false) ≡ true → b ≡ true
        last true e = e
        last false e = e

    go : (b : Bool) → list_any (says_done name) (ending_answers s g build) ≡ b
        → (list_any (says_done name) (endings_of s next list) ≡ true → is_done (said_all next (endings_of s next list)) name ≡ true)
        → (b || list_any (says_done name) (endings_of s next list)) ≡ true → is_done (said_all next (endings_of s next list)) name ≡ true
    go true at rest some =
        ap (λ (o : Option Status). option_map_or is_done_status o false) (ended_kept s next list name (done_over next name (here at))) ∙ here at
    go false at rest some = rest some

each_said : (list : List EndedBlob)
    → AllByRecursion (λ (end : EndedBlob). code.is_done end.status ≡ true → list_any (says_done end.name) (map ending_answer list) ≡ true) list
each_said [] = tt
each_said (end ∷ list) = (
  λ done. or_first (says_done end.name (ending_answer end)) (list_any (says_done end.name) (map ending_answer list))
      (ap (λ (b : Bool). says_done end.name (cond b (answers.Done end.name) (answers.Broken end.name end.status))) done
      ∙ ap (λ (b : Bool). option_map_or is_done_status (cond b (Some statuses.Done) None) false) (eq-eqb end.name end.name refl)),
  for_each (λ (one : EndedBlob). code.is_done one.status ≡ true → list_any (says_done one.name) (map ending_answer list) ≡ true)
      (λ (one : EndedBlob). code.is_done one.status ≡ true → list_any (says_done one.name) (map ending_answer (end ∷ list)) ≡ true) list
      (λ one is done. or_second (says_done one.name (ending_answer end)) (list_any (says_done one.name) (map ending_answer list)) (is done))
      (each_said list),
)

-- ---- lists

pub same_map : (f g : ℕ → Option (ℕ × ℕ)) (list : List ℕ) → AllByRecursion (λ (n : ℕ). f n ≡ g n) list → filter_map f list ≡ filter_map g list
same_map f g [] same = refl
same_map f g (n ∷ list) same = λ i. cons_option (same.0 i) (same_map f g list same.1 i)

-- ---- behind the pass

module _ (s : Session) (h : History) (stands : ℕ → Bool) (book : Book) (shares : List (Option Share)) (rows : List (Option Row)) (quota : Queue)
    (files : Files) (order : List (ℕ × ℕ)) (contents : ContentsStand s h stands book shares rows quota files order) (tell : Describes s h book)
    (in_marks : AgreesInMarks s h book) (now : Book) (later : List (Option Share)) (list : List EndedBlob) (finishes : Finishes book now list)
    (same : SameItems book.entries now.entries shares later) (home : ℕ → ℕ)
    (homes : (number : ℕ) → holds_piece later number ≡ true → piece_at later (home number) ≡ Some number) where
  abbrev g : History
  g = after_pass s h

  abbrev rows_now : List (Option Row)
  rows_now = rows_passed s h rows

  behind : ContentsStand s g stands now later rows_now (queue_left quota (ended_names list) 0) files
      (fold entered order (pieces_entered s h later rows list))
  behind = pass_stands s h stands book shares rows quota files order contents tell in_marks now later list finishes same 0

  abbrev IsSo : ℕ → Type 0
  IsSo number =
      with_length (pageable_of (page_limit s) g (held_pieces (page_limit s) g later rows_now)) number ≡ pageable_at later files.job home number

  one_so : (one : Piece) → piece_in (pieces (page_limit s) g) one.number ≡ Some one → is_done g one.blob ≡ true → IsSo one.number
  one_so one found done =
      pieces_may_be_paged s g stands now later rows_now (queue_left quota (ended_names list) 0) files
      (fold entered order (pieces_entered s h later rows list)) behind one found done
      (not_gathered s g stands (builds (page_limit s) g) rows_now behind.rows_stand one.blob (done_over g one.blob done)) (home one.number)
      (homes one.number)

  numbers_so : (name : ℕ) → is_done g name ≡ true → (some : List Piece)
      → AllByRecursion (λ (piece : Piece). piece_in (pieces (page_limit s) g) piece.number ≡ Some piece) some
      → AllByRecursion IsSo (map (λ (piece : Piece). piece.number) (filter (λ (piece : Piece). piece.blob == name) some))
  numbers_so name done [] all = tt
  numbers_so name done (piece ∷ some) all = go (piece.blob == name) refl (numbers_so name done some all.1)
    where
      go : (b : Bool) → (piece.blob == name) ≡ b
          → AllByRecursion IsSo (map (λ (each : Piece). each.number) (filter (λ (each : Piece). each.blob == name) some))
          → AllByRecursion IsSo (map (λ (each : Piece). each.number)
          (cond {A = List Piece} b (piece ∷ filter (λ (each : Piece). each.blob == name) some) (filter (λ (each : Piece). each.blob == name) some)))
      go true is rest = (one_so piece all.0 (ap (is_done g) (eqb-true piece.blob name is) ∙ done), rest)
      go false is rest = rest

  own_so : (name : ℕ) → is_done g name ≡ true → AllByRecursion IsSo (own_pieces (page_limit s) h name)
  own_so name done =
      subst (λ (all : List Piece). AllByRecursion IsSo (map (λ (piece : Piece). piece.number) (filter (λ (piece : Piece). piece.blob == name) all)))
      (endings_keep (λ (one : History). pieces (page_limit s) one) (λ one name. refl) (λ one name status. refl) s h)
      (numbers_so name done (pieces (page_limit s) g) (all_by_number 0 (pieces (page_limit s) g) (pieces_numbered (page_limit s) 0 (builds (page_limit s) g))))

  ends_so : (some : List EndedBlob) → AllByRecursion (λ (end : EndedBlob). code.is_done end.status ≡ true → is_done g end.name ≡ true) some
      → AllByRecursion IsSo (flat_map (done_pieces s h) some)
  ends_so [] all = tt
  ends_so (end ∷ some) all =
      all_append IsSo (done_pieces s h end) (flat_map (done_pieces s h) some) (go (code.is_done end.status) refl) (ends_so some all.1)
    where
      go : (b : Bool) → code.is_done end.status ≡ b → AllByRecursion IsSo (cond b (own_pieces (page_limit s) h end.name) [])
      go true is = own_so end.name (all.0 is)
      go false is = tt

  are : map ending_answer list ≡ endings s h
  are = endings_are s h book now list tell in_marks finishes

  pub entered_so : pieces_entered s h later rows list ≡ filter_map (pageable_at later files.job home) (flat_map (done_pieces s h) list)
  entered_so =
      same_map (with_length (pageable_of (page_limit s) g (held_pieces (page_limit s) g later rows_now))) (pageable_at later files.job home)
      (flat_map (done_pieces s h) list)
      (ends_so list
      (for_each (λ (end : EndedBlob). code.is_done end.status ≡ true → list_any (says_done end.name) (map ending_answer list) ≡ true)
      (λ (end : EndedBlob). code.is_done end.status ≡ true → is_done g end.name ≡ true) list
      (λ end is done.
      done_after s h (builds (page_limit s) h) end.name
      (subst (λ (xs : List Answer). list_any (says_done end.name) xs ≡ true) are (is done))) (each_said list)))

pub pieces_are_entered : PiecesAreEntered
pieces_are_entered s h stands book shares rows quota files order contents tell in_marks now later list finishes same home homes =
    entered_so s h stands book shares rows quota files order contents tell in_marks now later list finishes same home homes
