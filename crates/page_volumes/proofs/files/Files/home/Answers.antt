use Rattle.std.proofs.Common.{◌≡◌, ℕ, suc, ◌+◌, arith, List, None, get_or, take, ap, ◌∙◌, subst, sym}
use Rattle.std.proofs.lemmas.Bool.{eq-eqb, ne_eqb}
use Rattle.std.proofs.lemmas.Option.{slice_get-get_or}
use Rattle.page_volumes.specs.declared.filed.Filed.{Filed}
use Rattle.page_volumes.specs.Group.{home_of}
use Rattle.page_volumes.specs.Kept.{Book}
use Rattle.page_volumes.proofs.Filing
use Rattle.page_volumes.proofs.files.Files.home.Goals as goal

abbrev blank : Filed
blank = record { page = record { 0 = 0 }; home = None }

more : (n : ℕ) → suc n ≡ n + 1
more n = omega arith

pub returns-then-page-file : goal.returns-then-page-file
returns-then-page-file c =
    let files = c.as_slice-file-items.result.now in
    let i = c.loop-file.file-index in
    let page = c.args.page.0 in
    let items : files ≡ c.args.self.now.filed = c.as_slice-file-items.ensures.value ∙ ap (λ (book : Book). book.filed) c.self.view_is in
    let none = subst (λ (some : List Filed). home_of page (take i some) ≡ None) (sym items) c.loop-file.invariant in
    sym (Filing.home_found page files i (get_or files i blank) (slice_get-get_or files i blank c.loop-file-test.true) none
    (eq-eqb page (get_or files i blank).page.0 c.if-page-file.true)) ∙ ap (home_of page) items

pub loop-file-preserved : goal.loop-file-preserved
loop-file-preserved c =
    let files = c.as_slice-file-items.result.now in
    let i = c.loop-file.file-index in
    let page = c.args.page.0 in
    let items : files ≡ c.args.self.now.filed = c.as_slice-file-items.ensures.value ∙ ap (λ (book : Book). book.filed) c.self.view_is in
    let none = subst (λ (some : List Filed). home_of page (take i some) ≡ None) (sym items) c.loop-file.invariant in
    subst (λ (some : List Filed). home_of page (take (i + 1) some) ≡ None) items
    (subst (λ n. home_of page (take n files) ≡ None) (more i) (Filing.home_not_found page files i (get_or files i blank)
    (slice_get-get_or files i blank c.loop-file-test.true) none (ne_eqb page (get_or files i blank).page.0 c.if-page-file.false)))
