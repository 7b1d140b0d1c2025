-- Behind the late drops what is held is what is reached, and is charged so.
use Rattle.std.proofs.Common.{[], refl, ◌∙◌}
use Rattle.blob_model.specs.Builds.{builds}
use Rattle.blob_model.specs.Live.{is_live}
use Rattle.blob_model.specs.Session.{page_limit}
use Rattle.blob_model.proofs.builds.Order.{ordered_distinct}
use Rattle.store_laws.specs.LateLaws.{LateKeeps}
use Rattle.store_laws.proofs.Closing.{held_reached}
use Rattle.store_laws.proofs.PageCharges.{disk_told}
use Rattle.store_laws.proofs.PiecesWithin.{gathered_apart, gathered_unnamed}
use Rattle.store_laws.proofs.Slots.{slot_reached}
use Rattle.store_laws.proofs.Tallies.{used_is_memory}

pub late_keeps : LateKeeps
late_keeps = record {
  keeps = λ s h parts told table late swept counts unheld unasked used.
      let distinct = ordered_distinct [] (builds (page_limit s) h) late.course.rest.ordered in
      record {
        counted = record { emptied = swept.emptied; counts = counts; viewed = swept.viewed };
        apart = gathered_apart s h (is_live (page_limit s) h) parts.shares parts.rows late.course late.between.contents.rows_stand distinct unheld;
        paged = record {
          in_turn = late.course.in_turn;
          unasked = unasked;
          unnamed = gathered_unnamed s h (is_live (page_limit s) h) parts.shares parts.rows late.course late.between.contents.rows_stand distinct unheld;
        };
        used = used;
      };
  reaches = λ s h parts told table late kept.
      let contents = late.between.contents in
      let told_disk = disk_told s h (is_live (page_limit s) h) parts.book parts.shares parts.rows parts.quota parts.pages parts.recent contents (λ name. refl)
      late.course.rest kept.counted kept.apart kept.paged in
      record {
        held = held_reached s h (is_live (page_limit s) h) parts.book parts.shares parts.rows parts.quota parts.pages parts.recent contents (λ name. refl)
            late.course.rest kept.counted;
        slots = λ k. slot_reached s h (is_live (page_limit s) h) parts.book parts.shares parts.rows parts.quota parts.pages parts.recent contents (λ name. refl)
            late.course.rest kept.counted k;
        used = kept.used
            ∙ used_is_memory s h (is_live (page_limit s) h) parts.book parts.shares parts.rows parts.quota parts.pages parts.recent contents (λ name. refl)
            late.course.rest kept.counted kept.apart;
        charged = told_disk.charged;
        many = told_disk.many;
      };
}
