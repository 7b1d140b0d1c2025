-- Where there is no blob nothing is put.
use Rattle.std.proofs.Common.{◌≡◌, ◌++◌, Option, None, map, sym, ap, ◌∙◌, append-nil}
use Rattle.std.specs.Prelude.{slice_get}
use Rattle.std.specs.Option.{option_to_list}
use Rattle.std.proofs.lemmas.Option.{slice_get_past}
use Rattle.blob_model.specs.Builds.{Build}
use Rattle.transcript_audit.specs.Owed.{head}
use Rattle.transcript_audit.proofs.grants.put_head.Goals as goal

pub returns-in-None : goal.returns-in-None
returns-in-None c =
    let none : slice_get c.args.builds.now c.args.place ≡ None = slice_get_past c.args.builds.now c.args.place (c.in-None.ensures.lookup.3) in
    sym (append-nil c.args.heads.now) ∙ sym (ap (λ (found : Option Build). c.args.heads.now ++ map head (option_to_list found)) none)
