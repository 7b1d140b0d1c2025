-- A blob that may come can be added, or breaks.
use Rattle.std.proofs.Common.{◌≡◌, Option, Some, None, true, false, refl, sym, ap, subst, ◌∙◌}
use Rattle.std.specs.Prelude.{fold, is_some}
use Rattle.blob_words.specs.declared.plan.Plan.{Plan}
use Rattle.blob_words.specs.declared.status.Status.{Status}
use Rattle.answer_text.specs.declared.answer.Answer.TheVariants as answers
use Rattle.data_handles.specs.Boxes.{of_table}
use Rattle.data_handles.specs.Table.{Table}
use Rattle.data_handles.specs.contracts.boxed.BoxedDataHandle.TheImpl.{seen-value}
use Rattle.store_laws.specs.Deciding.{line_status_in}
use Rattle.store_laws.proofs.Claiming.{free_so}
use Rattle.store_laws.proofs.RangesHeld.{planned_held}
use Rattle.blob_store.specs.Adding.{CanAdd, IsAdded}
use Rattle.blob_store.specs.Admitting.{ComesBy}
use Rattle.store_laws.specs.Claiming.{claimed_by}
use Rattle.blob_store.specs.Laying.{first_piece}
use Rattle.blob_store.specs.Seen.{parts_of}
use Rattle.blob_store.specs.Whole.{IsWhole}
use Rattle.blob_store.proofs.AddedWhole.{added_grows}
use Rattle.blob_store.proofs.CanAdd.{breaks_so, few_bytes, may_add}
use Rattle.blob_store.proofs.Objects.{objects_come}
use Rattle.blob_store.proofs.parts.Parts.admit.Goals as goal

pub add_broken-requires-clause-can : goal.add_broken-requires-clause-can
add_broken-requires-clause-can g c =
    let table : Table = of_table (seen-value (g.dyn-1.0, g.dyn-1.1)).it c.args.handles.now in
    record {
      alive = c.requires.may.alive;
      fresh = c.requires.may.fresh;
      broken = breaks_so c.args.self.now table c.args.renderer.0 c.args.name c.args.parts.now c.in-Some.why
          (sym c.in_ok-why.ensures.value ∙ c.in-Some.is);
    }

pub claim_all-requires : goal.claim_all-requires
claim_all-requires g c =
    free_so true (of_table (seen-value (g.dyn-1.0, g.dyn-1.1)).it c.args.handles.now) c.args.parts.now c.requires.may.slots

pub plan_for-requires : goal.plan_for-requires
plan_for-requires g c =
    let table : Table = of_table (seen-value (g.dyn-1.0, g.dyn-1.1)).it c.args.handles.now in
    few_bytes c.args.self.now table c.args.renderer.0 c.args.name c.args.parts.now (sym c.in_ok-why.ensures.value ∙ c.in-None.is)

pub add_planned-requires-clause-can : goal.add_planned-requires-clause-can
unfolding IsWhole
add_planned-requires-clause-can g c =
    let table : Table = of_table (seen-value (g.dyn-1.0, g.dyn-1.1)).it c.args.handles.now in
    may_add c.args.self.now c.requires.whole table c.requires.objects c.args.renderer c.args.name c.args.parts.now (c.in_ok-why.ensures.ends c.in-None.is)
    (sym c.in_ok-why.ensures.value ∙ c.in-None.is) c.in_ok-plan-in-None.plan c.in_ok-plan-in-None.ensures.value c.in_ok-plan-in-None.ensures.fits
    c.used-used.ensures.bound c.requires.may

pub claim_all-requires-in-None : goal.claim_all-requires-in-None
claim_all-requires-in-None g c =
    free_so false (of_table (seen-value (g.dyn-1.0, g.dyn-1.1)).it c.args.handles.now) c.args.parts.now c.requires.may.slots

pub returns-in_ok-add_planned-in-None-clause-admits : goal.returns-in_ok-add_planned-in-None-clause-admits
unfolding IsWhole
returns-in_ok-add_planned-in-None-clause-admits g c =
    let table : Table = of_table (seen-value (g.dyn-1.0, g.dyn-1.1)).it c.args.handles.now in
    let stands : line_status_in (parts_of c.args.self.now) table c.args.renderer.0 c.args.name c.args.parts.now ≡ None =
    sym c.in_ok-why.ensures.value ∙ c.in-None.is in
    let can : CanAdd c.args.renderer c.args.name c.in_ok-plan-in-None.plan c.args.parts.now c.args.self.now =
    may_add c.args.self.now c.requires.whole table c.requires.objects c.args.renderer c.args.name c.args.parts.now (c.in_ok-why.ensures.ends c.in-None.is)
    stands c.in_ok-plan-in-None.plan c.in_ok-plan-in-None.ensures.value c.in_ok-plan-in-None.ensures.fits c.used-used.ensures.bound c.requires.may in
    record {
      comes = subst (λ (status : Option Status). ComesBy c.args.renderer c.args.name c.args.kind.now c.args.parts.now c.args.self.now
          (answers.Planned c.in_ok-plan-in-None.plan) c.add_planned.new.self status) (sym stands) (
            ap answers.Planned c.in_ok-plan-in-None.ensures.value,
            subst (λ (plan : Plan). CanAdd c.args.renderer c.args.name plan c.args.parts.now c.args.self.now) c.in_ok-plan-in-None.ensures.value can,
            subst (λ (plan : Plan).
                IsAdded c.args.renderer c.args.name c.args.kind.now plan c.args.parts.now c.args.self.now c.add_planned.new.self)
                c.in_ok-plan-in-None.ensures.value c.in_ok-add_planned-in-None.ensures.added,
          );
      handles = c.claim_all-in-None.ensures.claimed
          ∙ ap (λ (status : Option Status). fold (claimed_by (is_some status)) table c.args.parts.now) (sym stands);
    }

pub returns-in_ok-add_planned-in-None-clause-objects : goal.returns-in_ok-add_planned-in-None-clause-objects
unfolding IsWhole
returns-in_ok-add_planned-in-None-clause-objects g c =
    let table : Table = of_table (seen-value (g.dyn-1.0, g.dyn-1.1)).it c.args.handles.now in
    let can : CanAdd c.args.renderer c.args.name c.in_ok-plan-in-None.plan c.args.parts.now c.args.self.now =
    may_add c.args.self.now c.requires.whole table c.requires.objects c.args.renderer c.args.name c.args.parts.now (c.in_ok-why.ensures.ends c.in-None.is)
    (sym c.in_ok-why.ensures.value ∙ c.in-None.is) c.in_ok-plan-in-None.plan c.in_ok-plan-in-None.ensures.value c.in_ok-plan-in-None.ensures.fits
    c.used-used.ensures.bound c.requires.may in
    let grows = added_grows c.args.renderer c.args.name c.args.kind.now c.in_ok-plan-in-None.plan c.args.parts.now c.args.self.now c.add_planned.new.self
    c.in_ok-add_planned-in-None.ensures.added can in
    objects_come c.args.self.now.shares c.add_planned.new.self.shares table (of_table (seen-value (g.dyn-1.0, g.dyn-1.1)).it c.claim_all-in-None.new.handles)
    false c.args.parts.now
    (planned_held c.args.self.now.limits.page (first_piece c.args.self.now) c.in_ok-plan-in-None.plan c.args.parts.now c.args.self.now.shares
    c.add_planned.new.self.shares grows.put.weighs) c.requires.objects c.claim_all-in-None.ensures.keeps c.claim_all-in-None.ensures.has

pub returns-in_ok-add_broken-in-Some-clause-admits : goal.returns-in_ok-add_broken-in-Some-clause-admits
returns-in_ok-add_broken-in-Some-clause-admits g c =
    let table : Table = of_table (seen-value (g.dyn-1.0, g.dyn-1.1)).it c.args.handles.now in
    let broke : line_status_in (parts_of c.args.self.now) table c.args.renderer.0 c.args.name c.args.parts.now ≡ Some c.in-Some.why =
    sym c.in_ok-why.ensures.value ∙ c.in-Some.is in
    record {
      comes = subst (λ (status : Option Status). ComesBy c.args.renderer c.args.name c.args.kind.now c.args.parts.now c.args.self.now
          (answers.Broken c.args.name c.in-Some.why) c.add_broken.new.self status) (sym broke) (
            refl,
            record {
              alive = c.requires.may.alive;
              fresh = c.requires.may.fresh;
              broken = breaks_so c.args.self.now table c.args.renderer.0 c.args.name c.args.parts.now c.in-Some.why broke;
            },
            c.in_ok-add_broken-in-Some.ensures.breaks,
          );
      handles = c.claim_all.ensures.claimed ∙ ap (λ (status : Option Status). fold (claimed_by (is_some status)) table c.args.parts.now) (sym broke);
    }
