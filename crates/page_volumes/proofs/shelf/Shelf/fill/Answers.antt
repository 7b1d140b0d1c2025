use Rattle.std.proofs.Common.{◌≡◌, ◌+◌, ◌≤◌, List, Some, drop, length, map, option_and_then, take, ap, ◌∙◌, subst, sym}
use Rattle.std.specs.Prelude.{IsSomeAnd}
use Rattle.std.specs.Option.{option_copied}
use Rattle.page_disk.proofs.Found.{found_so, some_found}
use Rattle.page_volumes.specs.declared.stored.Stored.{Stored}
use Rattle.page_volumes.specs.Seen.{file_of}
use Rattle.page_volumes.specs.Shelf.{page_file, Shelved}
use Rattle.page_volumes.proofs.Shelved as shelved
use Rattle.page_volumes.proofs.shelf.Shelf.fill.Goals as goal

pub unwrap-bytes-requires : goal.unwrap-bytes-requires
unwrap-bytes-requires c =
    let page = c.args.page.0 in
    let found : option_copied c.bytes_of.result ≡ option_and_then (λ whole. whole) (file_of page c.args.self.now.files)
    = c.bytes_of.ensures ∙ ap (λ (items : List Stored). option_and_then (λ whole. whole) (file_of page (map page_file items))) c.as_slice.ensures.value ∙ ap
    (λ (shelf : Shelved). option_and_then (λ whole. whole) (file_of page shelf.files)) c.self.view_is in
    some_found (λ bytes. c.args.off + length c.args.out.now ≤ length bytes) c.bytes_of.result _ found
    (shelved.joined (λ bytes. c.args.off + length c.args.out.now ≤ length bytes) (file_of page c.args.self.now.files) c.requires)

pub fill_from-requires : goal.fill_from-requires
fill_from-requires c =
    let page = c.args.page.0 in
    let found : option_copied c.bytes_of.result ≡ option_and_then (λ whole. whole) (file_of page c.args.self.now.files)
    = c.bytes_of.ensures ∙ ap (λ (items : List Stored). option_and_then (λ whole. whole) (file_of page (map page_file items))) c.as_slice.ensures.value ∙ ap
    (λ (shelf : Shelved). option_and_then (λ whole. whole) (file_of page shelf.files)) c.self.view_is in
    let there : Some c.unwrap-bytes.result.now ≡ option_and_then (λ whole. whole) (file_of page c.args.self.now.files) =
    ap option_copied (sym c.unwrap-bytes.ensures) ∙ found in
    found_so (λ bytes. c.args.off + length c.args.out.now ≤ length bytes) c.unwrap-bytes.result.now _ there
    (shelved.joined (λ bytes. c.args.off + length c.args.out.now ≤ length bytes) (file_of page c.args.self.now.files) c.requires)

pub returns : goal.returns
returns c =
    let page = c.args.page.0 in
    let found : option_copied c.bytes_of.result ≡ option_and_then (λ whole. whole) (file_of page c.args.self.now.files)
    = c.bytes_of.ensures ∙ ap (λ (items : List Stored). option_and_then (λ whole. whole) (file_of page (map page_file items))) c.as_slice.ensures.value ∙ ap
    (λ (shelf : Shelved). option_and_then (λ whole. whole) (file_of page shelf.files)) c.self.view_is in
    let there : Some c.unwrap-bytes.result.now ≡ option_and_then (λ whole. whole) (file_of page c.args.self.now.files) =
    ap option_copied (sym c.unwrap-bytes.ensures) ∙ found in
    shelved.parted (λ bytes. c.fill_from.new.out ≡ take (length c.args.out.now) (drop c.args.off bytes)) (file_of page c.args.self.now.files)
    (subst (λ found. IsSomeAnd found (λ bytes. c.fill_from.new.out ≡ take (length c.args.out.now) (drop c.args.off bytes))) there c.fill_from.ensures)
