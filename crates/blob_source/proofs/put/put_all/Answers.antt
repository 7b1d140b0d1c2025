use Rattle.std.proofs.Common.{arith, ◌∙◌}
use Rattle.std.proofs.lemmas.Bool.Decides.{nat_tests}
use Rattle.blob_source.proofs.Puts.{went_more, went_short}
use Rattle.blob_source.proofs.put.put_all.Goals as goal

pub loop-rest-preserved : goal.loop-rest-preserved
loop-rest-preserved g c = record {
  good = c.in-Ok.ensures.good ∙ c.loop-rest.invariant.good;
  went =
      went_more _ (g.K.Sink.held c.loop-rest.out) _ _ c.loop-rest.rest.now _ c.in-Ok.count c.loop-rest.invariant.went c.in-Ok.ensures.bytes
      c.split_at.ensures.back;
}

pub returns-in-Err-clause-err : goal.returns-in-Err-clause-err
returns-in-Err-clause-err g c =
    went_short _ (g.K.Sink.held c.loop-rest.out) _ _ c.loop-rest.rest.now c.loop-rest.invariant.went c.in-Err.ensures.bytes (grind (arith, nat_tests))
