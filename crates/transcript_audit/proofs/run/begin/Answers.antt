-- A first line of either version.
use Rattle.std.proofs.Common.{◌≡◌, true, sym, ◌∙◌}
use Rattle.blob_words.specs.declared.version.Version.TheVariants.{One, Two}
use Rattle.transcript_audit.specs.Runs.{is_quiet}
use Rattle.transcript_audit.proofs.Verdicts.{quiet_opening}
use Rattle.transcript_audit.proofs.run.begin.Goals as goal

pub returns-in_ok-run-in-Limits : goal.returns-in_ok-run-in-Limits
returns-in_ok-run-in-Limits c =
    let quiet : is_quiet c.args.group.now ≡ true = sym c.is_quiet.ensures ∙ c.if-not-is_quiet.false in
    (One, c.in-Limits.limits, quiet_opening c.args.group.now One c.in-Limits.limits quiet c.in-Limits.is, c.in_ok-run-in-Limits.ensures)

pub returns-in_ok-run-in-Limits2 : goal.returns-in_ok-run-in-Limits2
returns-in_ok-run-in-Limits2 c =
    let quiet : is_quiet c.args.group.now ≡ true = sym c.is_quiet.ensures ∙ c.if-not-is_quiet.false in
    (Two, c.in-Limits2.limits, quiet_opening c.args.group.now Two c.in-Limits2.limits quiet c.in-Limits2.is, c.in_ok-run-in-Limits2.ensures)
