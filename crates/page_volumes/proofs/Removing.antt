-- A call of a page of which no file is known, and one that only reads.
use Rattle.std.proofs.Common.{◌≡◌, ℕ, List, Some, None, Option, sym, ap, ◌∙◌, subst}
use Rattle.std.specs.Prelude.{IfSome, IsSomeAnd, Result, Ok, Err}
use Rattle.blob_words.specs.declared.fault.Failed.{Failed}
use Rattle.blob_words.specs.declared.number.PageNo.{PageNo}
use Rattle.page_volumes.specs.Acts.{Acts}
use Rattle.page_volumes.specs.Group
use Rattle.page_volumes.specs.Group.{home_of, object_at, writer_of, Slot}
use Rattle.page_volumes.specs.Seen.{AreOf, Seen}
use Rattle.page_volumes.specs.Seen as volume
use Rattle.page_volumes.proofs.Acted.{acts_failed, acts_good, unchanged}

pub removes_none : (page : PageNo) (old : Group.Group) (new : List Slot) (result : Result (Unit {0}) Failed) → home_of page.0 old.files ≡ None
    → Acts (writer_of old.slots) old.slots new (λ before after. volume.Removes page.0 before result after)
    → Group.Removes page old result (record old { slots = new })
removes_none page old new (Ok done) is acts = subst (λ home. Group.RemovesFrom page old home (Ok done) (record old { slots = new })) (sym is)
    (ap (λ (slots : List Slot). record old { slots = slots }) (acts_good (volume.removed page.0) (writer_of old.slots) old.slots new acts))
removes_none page old new (Err failed) is acts =
    let fails = acts_failed (λ seen. seen) (writer_of old.slots) old.slots new acts in
    let counts : Group.Counts (writer_of old.slots) old (record old { slots = new }) =
    record { count = fails.count; rose = fails.rose; is = ap (λ (slots : List Slot). record old { slots = slots }) fails.is } in
    subst (λ home. Group.RemovesFrom page old home (Err failed) (record old { slots = new })) (sym is) counts

-- what a read gave is of the volume that was asked
pub acts_read : (page off : ℕ) (out : List ℕ) (k : ℕ) (old new : List Slot) → Acts k old new (λ before after. (after ≡ before) × AreOf page off out before)
    → (new ≡ old) × IfSome (object_at old k) (AreOf page off out)
acts_read page off out k old new acts = (
  acts_good (λ seen. seen) k old new (record { after = acts.after; acts = same (object_at old k) acts.acts; is = acts.is }) ∙ unchanged k old,
  read (object_at old k) acts.acts,
)
  where
    same : (object : Option Seen) → IsSomeAnd object (λ before. (acts.after ≡ before) × AreOf page off out before)
        → IsSomeAnd object (λ before. acts.after ≡ before)
    same None so = absurd so
    same (Some before) so = so.0

    read : (object : Option Seen) → IsSomeAnd object (λ before. (acts.after ≡ before) × AreOf page off out before) → IfSome object (AreOf page off out)
    read None so = absurd so
    read (Some before) so = so.1
