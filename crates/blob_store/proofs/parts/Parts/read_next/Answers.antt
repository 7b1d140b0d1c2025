-- A step of a reader of a blob that is done: the views lie in what can be read, and what it leaves is heard.
use Rattle.std.proofs.Common.{List, [], sym, subst, ap, ◌∙◌}
use Rattle.blob_items.specs.declared.view.View.{View}
use Rattle.store_laws.specs.StepLaws.{step_answer}
use Rattle.blob_store.specs.Reading.{IsClosing}
use Rattle.blob_store.specs.Says.{Says}
use Rattle.blob_store.specs.Whole.{IsWhole}
use Rattle.blob_store.proofs.HeardReads.{closing_heard, found_views, given_heard, given_whole, read_none, read_within, stayed_there, stayed_whole, views_so}
use Rattle.blob_store.proofs.parts.Parts.read_next.Goals as goal

pub step-end-requires-clause-lie : goal.step-end-requires-clause-lie
unfolding IsWhole
step-end-requires-clause-lie g c =
    let same = found_views c.views_of.result c.unwrap-views.result c.args.self.now c.args.reader.0 c.args.blob c.args.place c.args.room c.requires.reading
    c.views_of.ensures c.unwrap-views.ensures in
    views_so c.args.self.now _ _ c.requires.whole c.requires.readable c.args.reader c.args.blob c.args.place c.args.room c.requires.reading
    c.unwrap-views.result.now same

pub touch_read-requires-clause-room : goal.touch_read-requires-clause-room
unfolding IsWhole
touch_read-requires-clause-room g c =
    let same = found_views c.views_of.result c.unwrap-views.result c.args.self.now c.args.reader.0 c.args.blob c.args.place c.args.room c.requires.reading
    c.views_of.ensures c.unwrap-views.ensures in
    let sized = c.as_mut_slice.ensures.len ∙ c.in-Ok.ensures.len in
    read_within c.args.self.now _ _ c.requires.whole c.requires.readable c.args.reader c.args.blob c.args.place c.args.room c.requires.reading
    c.unwrap-views.result.now same _ _ _ _ _ _ _ sized c.step-end.ensures.stepped c.in-Bytes.count c.in-Bytes.is

pub returns-in-Bytes-clause-whole : goal.returns-in-Bytes-clause-whole
unfolding IsWhole
returns-in-Bytes-clause-whole g c =
    let same = found_views c.views_of.result c.unwrap-views.result c.args.self.now c.args.reader.0 c.args.blob c.args.place c.args.room c.requires.reading
    c.views_of.ensures c.unwrap-views.ensures in
    let sized = c.as_mut_slice.ensures.len ∙ c.in-Ok.ensures.len in
    given_whole c.args.self.now _ _ c.requires.whole c.requires.readable c.args.reader c.args.blob c.args.place c.args.room c.requires.reading
    c.unwrap-views.result.now same _ _ _ _ _ _ _ sized c.step-end.ensures.stepped c.in-Bytes.count c.in-Bytes.is c.touch_read.new.recent c.touch_read.ensures

pub returns-in-Bytes-clause-says : goal.returns-in-Bytes-clause-says
unfolding IsWhole Says
returns-in-Bytes-clause-says g c s groups legal still stands =
    let same = found_views c.views_of.result c.unwrap-views.result c.args.self.now c.args.reader.0 c.args.blob c.args.place c.args.room c.requires.reading
    c.views_of.ensures c.unwrap-views.ensures in
    let sized = c.as_mut_slice.ensures.len ∙ c.in-Ok.ensures.len in
    given_heard c.args.self.now _ _ c.requires.whole c.requires.readable c.args.reader c.args.blob c.args.place c.args.room c.requires.reading
    c.unwrap-views.result.now same _ _ _ _ _ _ _ sized c.step-end.ensures.stepped c.in-Bytes.count c.in-Bytes.is c.touch_read.new.recent c.touch_read.ensures
    s groups legal stands _ c.step-end.ensures.same _ c.in-Ok.ensures.len c.from_vec.result _ (c.from_vec.ensures ∙ c.truncate.ensures.items)

pub closing_answer-requires : goal.closing_answer-requires
unfolding IsWhole
closing_answer-requires g c =
    let same = found_views c.views_of.result c.unwrap-views.result c.args.self.now c.args.reader.0 c.args.blob c.args.place c.args.room c.requires.reading
    c.views_of.ensures c.unwrap-views.ensures in
    let sized = c.as_mut_slice.ensures.len ∙ c.in-Ok.ensures.len in
    subst (λ (views : List View). IsClosing c.args.self.now.shares views c.step-end.result) (sym c.as_slice.ensures)
    (read_none c.args.self.now _ _ c.requires.whole c.requires.readable c.args.reader c.args.blob c.args.place c.args.room c.requires.reading
    c.unwrap-views.result.now same _ _ _ _ _ _ _ sized c.step-end.ensures.stepped c.in_default-end.not-Bytes)

pub end_reader-requires : goal.end_reader-requires
unfolding IsWhole
end_reader-requires g c =
    let same = found_views c.views_of.result c.unwrap-views.result c.args.self.now c.args.reader.0 c.args.blob c.args.place c.args.room c.requires.reading
    c.views_of.ensures c.unwrap-views.ensures in
    let sized = c.as_mut_slice.ensures.len ∙ c.in-Ok.ensures.len in
    record {
      whole = stayed_whole c.args.self.now _ _ c.requires.whole c.requires.readable c.args.reader c.args.blob c.args.place c.args.room c.requires.reading
          c.unwrap-views.result.now same _ _ _ _ _ _ _ sized c.step-end.ensures.stepped c.in_default-end.not-Bytes;
      there = stayed_there c.args.self.now _ _ c.requires.whole c.requires.readable c.args.reader c.args.blob c.args.place c.args.room c.requires.reading
          c.unwrap-views.result.now same _ _ _ _ _ _ _ sized c.step-end.ensures.stepped c.in_default-end.not-Bytes;
    }

pub returns : goal.returns
unfolding IsWhole Says
returns g c =
    let same = found_views c.views_of.result c.unwrap-views.result c.args.self.now c.args.reader.0 c.args.blob c.args.place c.args.room c.requires.reading
    c.views_of.ensures c.unwrap-views.ensures in
    let sized = c.as_mut_slice.ensures.len ∙ c.in-Ok.ensures.len in
    record {
      whole = c.end_reader.ensures.whole;
      closed = c.step-end.ensures.closed;
      same = c.step-end.ensures.same;
      says = λ s groups legal still stands.
          closing_heard c.args.self.now _ _ c.requires.whole c.requires.readable c.args.reader c.args.blob c.args.place c.args.room c.requires.reading
          c.unwrap-views.result.now same _ _ _ _ _ _ _ sized c.step-end.ensures.stepped c.in_default-end.not-Bytes
          s groups legal stands _ c.step-end.ensures.same
          c.in_ok-answer.answer c.end_reader.new.self
          (c.in_ok-answer.ensures
          ∙ ap (λ (views : List View). step_answer c.args.reader c.args.self.now.shares views [] c.step-end.result) c.as_slice.ensures)
          c.end_reader.ensures.closed c.end_reader.ensures.rest;
      err = tt;
    }
