use Rattle.std.proofs.Common.{ap, ◌∙◌}
use Rattle.file_table.specs.Files.{note_of}
use Rattle.blob_words.proofs.Keyed.{lookup_seen}
use Rattle.file_table.proofs.table.FileTable.find.Goals as goal

pub returns : goal.returns
returns c =
    let name = c.as_slice.ensures.bytes in
    let found = lookup_seen c.args.name.now c.self.inside.notes.entries in
    rw name at c.get.ensures.value ∙ found ∙ ap (note_of c.args.name.now) c.self.view_is
