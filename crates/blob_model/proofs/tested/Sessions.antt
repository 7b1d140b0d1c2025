-- Lists of worked sessions that are legal, or that are not, by the test.
use Rattle.std.proofs.Common.{◌≡◌, Bool, true, false, not, List, [], ◌∷◌, refl}
use Rattle.std.specs.List.{list_all}
use Rattle.std.proofs.lemmas.Bool.{and_parts}
use Rattle.blob_model.specs.History.{start}
use Rattle.blob_model.specs.Legal.{session}
use Rattle.blob_model.specs.Worked.{Worked, AllLegal, AllIllegal}
use Rattle.blob_model.proofs.Lists.{false_true}
use Rattle.blob_model.proofs.tested.Transcripts.{is_legal_from, legal_by, illegal_by}

-- whether the session passes
abbrev pub passes : Worked → Bool
passes worked = is_legal_from (session worked.outside worked.version worked.limits) start worked.groups

pub all_legal : (list : List Worked) → list_all passes list ≡ true → AllLegal list
all_legal [] e = tt
all_legal (worked ∷ list) e =
    let parts = and_parts (passes worked) (list_all passes list) e in
    (legal_by worked.outside worked.version worked.limits worked.groups parts.0, all_legal list parts.1)

not_passes : (b : Bool) → not b ≡ true → b ≡ false
not_passes true e = absurd (false_true e)
not_passes false e = refl

pub all_illegal : (list : List Worked) → list_all (λ (worked : Worked). not (passes worked)) list ≡ true → AllIllegal list
all_illegal [] e = tt
all_illegal (worked ∷ list) e =
    let parts = and_parts (not (passes worked)) (list_all (λ (each : Worked). not (passes each)) list) e in
    (illegal_by worked.outside worked.version worked.limits worked.groups (not_passes (passes worked) parts.0), all_illegal list parts.1)
