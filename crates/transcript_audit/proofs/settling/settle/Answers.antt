-- The seven lists, each after the answers of those before it.
use Rattle.std.proofs.Common.{◌≡◌, ℕ, ◌++◌, List, subst, sym, ap, ◌∙◌}
use Rattle.std.specs.Option.{option_to_list}
use Rattle.answer_text.specs.declared.answer.Answer.{Answer}
use Rattle.blob_model.specs.History.{History, said_all}
use Rattle.blob_model.specs.Settle.{drops, endings, removals, grants, page_jobs, compactions, settle}
use Rattle.history_notions.specs.FollowsCourse.{FollowsCourse}
use Rattle.transcript_audit.proofs.Passes.{said_seven, seven}
use Rattle.transcript_audit.proofs.Idle.{no_more_drops}
use Rattle.transcript_audit.proofs.settling.settle.Goals as goal

pub returns : goal.returns
returns c = λ s h follows.
    let unremoved : List ℕ = c.args.unremoved.now in
    let l1 : c.in_ok-lost.lost ≡ drops s h = c.in_ok-lost.ensures s h follows.follows in
    let h1 : History = said_all h (drops s h) in
    let f1 : FollowsCourse s h1 c.give_all.new.course =
    subst (λ (list : List Answer). FollowsCourse s (said_all h list) c.give_all.new.course) l1 (c.in_ok-give_all.ensures.follows s h follows) in
    let o1 : c.give_all.new.owed ≡ drops s h =
    c.in_ok-give_all.ensures.owed ∙ ap (λ (list : List Answer). list ++ c.in_ok-lost.lost) c.new-owed.ensures ∙ l1 in
    let e2 = c.in_ok-endings.ensures s h1 f1 in
    let h2 : History = said_all h1 (endings s h1) in
    let o2 : c.endings.new.owed ≡ drops s h ++ endings s h1 = e2.0 ∙ ap (λ (list : List Answer). list ++ endings s h1) o1 in
    let e3 = c.in_ok-put_orphans.ensures s h2 e2.1 (λ none. no_more_drops s h (sym o2 ∙ none)) in
    let h3 : History = said_all h2 (drops s h2) in
    let o3 : c.put_orphans.new.owed ≡ (drops s h ++ endings s h1) ++ drops s h2 = e3.0 ∙ ap (λ (list : List Answer). list ++ drops s h2) o2 in
    let l4 : c.in_ok-gone.gone ≡ removals s unremoved h3 = c.in_ok-gone.ensures s h3 e3.1.follows in
    let h4 : History = said_all h3 (removals s unremoved h3) in
    let f4 : FollowsCourse s h4 c.give_all-2.new.course =
    subst (λ (list : List Answer). FollowsCourse s (said_all h3 list) c.give_all-2.new.course) l4 (c.in_ok-give_all-2.ensures.follows s h3 e3.1) in
    let o4 : c.give_all-2.new.owed ≡ ((drops s h ++ endings s h1) ++ drops s h2) ++ removals s unremoved h3 =
    c.in_ok-give_all-2.ensures.owed
    ∙ ap (λ (list : List Answer). list ++ c.in_ok-gone.gone) o3
    ∙ ap (λ (list : List Answer). ((drops s h ++ endings s h1) ++ drops s h2) ++ list) l4 in
    let e5 = c.in_ok-grants.ensures s h4 f4 in
    let h5 : History = said_all h4 (grants s h4) in
    let o5 : c.grants.new.owed ≡ (((drops s h ++ endings s h1) ++ drops s h2) ++ removals s unremoved h3) ++ grants s h4 =
    e5.0 ∙ ap (λ (list : List Answer). list ++ grants s h4) o4 in
    let l6 : option_to_list c.in_ok-job.job ≡ page_jobs s h5 = c.in_ok-job.ensures s h5 e5.1 in
    let h6 : History = said_all h5 (page_jobs s h5) in
    let f6 : FollowsCourse s h6 c.give_one.new.course =
    subst (λ (list : List Answer). FollowsCourse s (said_all h5 list) c.give_one.new.course) l6 (c.in_ok-give_one.ensures.follows s h5 e5.1) in
    let o6 : c.give_one.new.owed ≡ ((((drops s h ++ endings s h1) ++ drops s h2) ++ removals s unremoved h3) ++ grants s h4) ++ page_jobs s h5 =
    c.in_ok-give_one.ensures.owed
    ∙ ap (λ (list : List Answer). list ++ option_to_list c.in_ok-job.job) o5
    ∙ ap (λ (list : List Answer). ((((drops s h ++ endings s h1) ++ drops s h2) ++ removals s unremoved h3) ++ grants s h4) ++ list) l6 in
    let l7 : option_to_list c.in_ok-moved.moved ≡ compactions s h6 = c.in_ok-moved.ensures s h6 f6.follows in
    let f7 : FollowsCourse s (said_all h6 (compactions s h6)) c.give_one-2.new.course =
    subst (λ (list : List Answer). FollowsCourse s (said_all h6 list) c.give_one-2.new.course) l7 (c.in_ok-give_one-2.ensures.follows s h6 f6) in
    let whole : c.give_one-2.new.owed ≡ settle s unremoved h =
    c.in_ok-give_one-2.ensures.owed
    ∙ ap (λ (list : List Answer). list ++ option_to_list c.in_ok-moved.moved) o6
    ∙ ap (λ (list : List Answer). (((((drops s h ++ endings s h1) ++ drops s h2) ++ removals s unremoved h3) ++ grants s h4) ++ page_jobs s h5) ++ list) l7
    ∙ seven (drops s h) (endings s h1) (drops s h2) (removals s unremoved h3) (grants s h4) (page_jobs s h5) (compactions s h6) in
    let ends : said_all h6 (compactions s h6) ≡ said_all h c.give_one-2.new.owed =
    sym
    (ap (said_all h) whole ∙ said_seven h (drops s h) (endings s h1) (drops s h2) (removals s unremoved h3) (grants s h4) (page_jobs s h5) (compactions s h6))
    in
    (whole, subst (λ (k : History). FollowsCourse s k c.give_one-2.new.course) ends f7)
