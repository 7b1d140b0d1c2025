use Rattle.std.proofs.Common.{◌≡◌, drop}
use Rattle.std.specs.Prelude.{reverse}
use Rattle.blob_model.specs.Session.{Session, page_limit}
use Rattle.blob_model.specs.History.{History}
use Rattle.history_notions.specs.Follows.{Follows}
use Rattle.history_notions.proofs.Living.{IsPassed}
use Rattle.history_notions.proofs.contents.Contents.live.Given as goal

abbrev pub invariant-loop-back : goal.invariant-loop-back
invariant-loop-back l = (s : Session) (h : History) → Follows s h l.self → IsPassed (page_limit s) h l.self.builds (drop l.back (reverse l.self.builds))
    l.places l.wanted
