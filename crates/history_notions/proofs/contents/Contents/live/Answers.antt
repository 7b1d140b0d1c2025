-- The blobs are looked at from the last on.
use Rattle.std.proofs.Common.{◌≡◌, ℕ, ◌-◌, List, [], length, get_or, sym, ap, ◌∙◌, arith}
use Rattle.std.specs.Prelude.{reverse}
use Rattle.blob_model.specs.Builds.{Build}
use Rattle.blob_model.specs.Live.{live_from}
use Rattle.blob_model.specs.Session.{page_limit}
use Rattle.history_notions.specs.Chosen.{items_at}
use Rattle.history_notions.proofs.Living.{passed_next, passed_all, turned_whole}
use Rattle.history_notions.proofs.contents.Contents.live.Goals as goal

pub loop-back-preserved : goal.loop-back-preserved
loop-back-preserved c = λ s h follows.
    let items : List Build = c.args.self.now.builds in
    let build : Build = c.index-builds-place.result in
    let k : ℕ = length c.as_slice-builds.result.now - 1 - c.loop-back.back in
    let at : k ≡ length items - 1 - c.loop-back.back = ap (λ (list : List Build). length list - 1 - c.loop-back.back) c.as_slice-builds.ensures in
    let is : build ≡ get_or items k build = c.index-builds-place.is ∙ ap (λ (list : List Build). get_or list k build) c.as_slice-builds.ensures in
    rw ((c.in_ok-look_at.ensures s h follows).0, (c.in_ok-look_at.ensures s h follows).1)
    (passed_next (page_limit s) h items c.loop-back.back k build c.loop-back.places c.loop-back.wanted
    (omega (arith, ap (length {A = Build}) c.as_slice-builds.ensures)) at is (c.loop-back.invariant s h follows))

pub returns : goal.returns
returns c = λ s h follows.
    let items : List Build = c.args.self.now.builds in
    ap (items_at items) (turned_whole c.loop-back.places c.reverse.new.self (c.reverse.ensures.after ∙ ap (reverse {A = ℕ}) c.as_mut_slice.ensures.value))
    ∙ passed_all (page_limit s) h items c.loop-back.back c.loop-back.places c.loop-back.wanted
    (omega (arith, ap (length {A = Build}) c.as_slice-builds.ensures)) (c.loop-back.invariant s h follows)
    ∙ ap (λ (list : List Build). live_from (page_limit s) h (reverse list) []) follows.builds_are
