use Rattle.std.proofs.Common.{◌≡◌, ℕ, suc, ◌+◌, arith, Some, None, map, option_and_then, take, ap, ◌∙◌, subst, sym}
use Rattle.std.specs.Prelude.{slice_get}
use Rattle.std.proofs.lemmas.Bool.{eq-eqb, ne_eqb}
use Rattle.std.proofs.lemmas.Option.{slice_get-get_or}
use Rattle.page_volumes.specs.Seen.{file_of}
use Rattle.page_volumes.specs.Shelf.{page_file}
use Rattle.page_volumes.proofs.Shelved
use Rattle.page_volumes.proofs.shelf.bytes_of.Goals as goal

more : (n : ℕ) → suc n ≡ n + 1
more n = omega arith

pub returns-then-page-file : goal.returns-then-page-file
returns-then-page-file c =
    let files = c.args.files.now in
    let i = c.loop-file.file-index in
    let page = c.args.page.0 in
    let file = c.file-item.result in
    let there : slice_get files i ≡ Some file = slice_get-get_or files i file c.loop-file-test.true ∙ ap Some (sym c.file-item.is) in
    c.slice_of.ensures ∙ ap (λ found. option_and_then (λ whole. whole) found)
    (sym (Shelved.file_found page files i file there c.loop-file.invariant (eq-eqb page file.page.0 c.if-page-file.true)))

pub loop-file-preserved : goal.loop-file-preserved
loop-file-preserved c =
    let files = c.args.files.now in
    let i = c.loop-file.file-index in
    let page = c.args.page.0 in
    let file = c.file-item.result in
    let there : slice_get files i ≡ Some file = slice_get-get_or files i file c.loop-file-test.true ∙ ap Some (sym c.file-item.is) in
    subst (λ n. file_of page (map page_file (take n files)) ≡ None) (more i)
    (Shelved.file_not_found page files i file there c.loop-file.invariant (ne_eqb page file.page.0 c.if-page-file.false))
