-- The closure only tests.
use Rattle.std.proofs.Common.{◌==◌, not, rules}
use Rattle.std.proofs.lemmas.Fn.{filter_same}
use Rattle.page_volumes.specs.declared.filed.Filed.{Filed}
use Rattle.page_volumes.proofs.files.remove_from.Goals as goal

pub returns-clause-items : goal.returns-clause-items
returns-clause-items c = filter_same _ (λ (file : Filed). not (c.args.page.0 == file.page.0)) _ (λ x b f' h. search rules) _ _ c.retain.ensures.filtered
