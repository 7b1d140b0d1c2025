-- The histories between the lists of settling, where a step may fail to remove page files, and the answers of a group. Own.
use Rattle.std.specs.Prelude.{List, ◌++◌}
use Rattle.answer_text.specs.declared.answer.Answer.{Answer}
use Rattle.blob_model.specs.Session.{Session}
use Rattle.blob_model.specs.History.{History, said_all}
use Rattle.blob_model.specs.Settle.{compactions, drops, endings, grants, page_jobs}

-- after the drops of list 1, the endings of list 2 and the drops of list 3, each after the one before
abbrev pub after_drops : Session → History → History
after_drops s h = said_all h (drops s h)

abbrev pub after_endings : Session → History → History
after_endings s h = said_all (after_drops s h) (endings s (after_drops s h))

abbrev pub after_late_drops : Session → History → History
after_late_drops s h = said_all (after_endings s h) (drops s (after_endings s h))

-- after the removals of list 4, which are these, the grants of list 5, the page job of list 6 and the compaction of list 7
abbrev pub after_removals : Session → List Answer → History → History
after_removals s removed h = said_all (after_late_drops s h) removed

abbrev pub after_grants : Session → List Answer → History → History
after_grants s removed h = said_all (after_removals s removed h) (grants s (after_removals s removed h))

abbrev pub after_page_jobs : Session → List Answer → History → History
after_page_jobs s removed h = said_all (after_grants s removed h) (page_jobs s (after_grants s removed h))

abbrev pub after_all : Session → List Answer → History → History
after_all s removed h = said_all (after_page_jobs s removed h) (compactions s (after_page_jobs s removed h))

-- a line's own answers and the lists, one after the other, where the history with its own answers is this
abbrev pub answers_of : Session → List Answer → List Answer → History → List Answer
answers_of s own removed h =
    ((((((own ++ drops s h) ++ endings s (after_drops s h)) ++ drops s (after_endings s h)) ++ removed) ++ grants s
    (after_removals s removed h)) ++ page_jobs s (after_grants s removed h)) ++ compactions s (after_page_jobs s removed h)
