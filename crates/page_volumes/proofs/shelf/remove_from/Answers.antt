-- The closure only tests.
use Rattle.std.proofs.Common.{◌==◌, not, map, rules, ap, ◌∙◌}
use Rattle.std.proofs.lemmas.Fn.{filter_same}
use Rattle.page_volumes.specs.declared.stored.Stored.{Stored}
use Rattle.page_volumes.specs.Shelf.{page_file}
use Rattle.page_volumes.proofs.Shelved.{map_without}
use Rattle.page_volumes.proofs.shelf.remove_from.Goals as goal

pub returns-clause-items : goal.returns-clause-items
returns-clause-items c = ap (map page_file) (filter_same _ (λ (file : Stored). not (c.args.page.0 == file.page.0)) _ (λ x b f' h. search rules) _ _
    c.retain.ensures.filtered) ∙ map_without c.args.page.0 c.args.files.now.items
