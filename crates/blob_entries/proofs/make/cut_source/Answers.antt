use Rattle.std.proofs.Common.{◌≡◌, Option, [], ap, sym}
use Rattle.std.specs.Option.{option_map_or}
use Rattle.blob_entries.specs.declared.entry.Entry.{Entry}
use Rattle.blob_entries.proofs.Cuts.{cut_is}
use Rattle.blob_entries.specs.Contents.{source_views}
use Rattle.blob_entries.proofs.make.cut_source.Goals as goal

pub returns-in-Some : goal.returns-in-Some
returns-in-Some c =
    let is : source_views c.args.names.now c.args.entries.now c.args.name ≡ c.in-Some.entry.now.views = ap
    (λ (held : Option Entry). option_map_or (λ (entry : Entry). entry.views) held []) (sym c.in-Some.ensures) in
    rw is (cut_is c.in-Some.entry.now.views c.args.off c.args.len c.cut.result c.cut.ensures.cells c.cut.ensures.total c.cut.ensures.count)
