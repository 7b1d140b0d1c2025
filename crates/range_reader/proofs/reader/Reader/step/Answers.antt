use Rattle.std.proofs.Common.{◌≡◌, ◌+◌, ◌-◌, ◌≤◌, ◌∙◌, length, min, take, refl, sym, subst, arith}
use Rattle.std.proofs.lemmas.List.{length-take-le, take_at}
use Rattle.blob_items.specs.Cells.{total, IsPlaceOf}
use Rattle.blob_items.proofs.CutLemmas.{first_within}
use Rattle.range_reader.specs.Places.{Course}
use Rattle.range_reader.proofs.NextCells.{asked_count, read_asked, stops_asked, stops_end}
use Rattle.range_reader.proofs.reader.Reader.step.Goals as goal

pub read_views-requires-clause-within : goal.read_views-requires-clause-within
read_views-requires-clause-within g c =
    rw c.as_slice.ensures (first_within c.args.views.now c.self.inside.place (c.in-Some.first, c.in-Some.skipped) c.in-Some.ensures)

pub returns-in-Ok-clause-ends : goal.returns-in-Ok-clause-ends
returns-in-Ok-clause-ends g c =
    let views = c.args.views.now in
    let out = c.args.out.now in
    let count = c.min-count.result in
    let is : IsPlaceOf views c.args.self.now.place (c.in-Some.first, c.in-Some.skipped) = subst (λ (reader : Course). IsPlaceOf views reader.place
    (c.in-Some.first, c.in-Some.skipped)) c.self.view_is c.in-Some.ensures in
    let count_is : count ≡ min (c.args.self.now.stop - c.args.self.now.place) (length out) = subst (λ (reader : Course). count ≡ min
    (reader.stop - reader.place) (length out)) c.self.view_is (omega (arith, c.min-count.ensures)) in
    let fits : c.args.self.now.stop ≤ total views = subst (λ (reader : Course). reader.stop ≤ total views) c.self.view_is (omega (
      arith,
      subst (λ
          (reader : Course). total views ≡ reader.size) (sym c.self.view_is) c.requires.size,
      c.self.invariant.1,
    )) in
    let long : length (take count out) ≡ count = length-take-le count out (omega (arith, count_is)) in
    let given : length c.read_views.new.out ≡ count = c.read_views.auto.out ∙ long in (
      count_is ∙ omega (arith, asked_count c.args.self.now views (length out) fits),
      omega (arith, c.min-count.ensures, c.if-left-eq0.false, c.requires.room),
      subst (λ (reader : Course). record { size = c.self.inside.size; place = c.self.inside.place + count; stop = c.self.inside.stop }
          ≡ record reader { place = reader.place + count }) c.self.view_is refl,
      read_asked c.args.shares.now _ _ c.args.self.now views c.as_slice.result.now out c.read_views.new.out _ count c.in-Some.first c.in-Some.skipped
          c.as_slice.ensures is count_is (take_at c.read_views.new.out _ count given) c.in-Ok.ensures.ok,
    )

pub returns-in-Err-clause-ends : goal.returns-in-Err-clause-ends
returns-in-Err-clause-ends g c =
    let views = c.args.views.now in
    let out = c.args.out.now in
    let count = c.min-count.result in
    let is : IsPlaceOf views c.args.self.now.place (c.in-Some.first, c.in-Some.skipped) = subst (λ (reader : Course). IsPlaceOf views reader.place
    (c.in-Some.first, c.in-Some.skipped)) c.self.view_is c.in-Some.ensures in
    let count_is : count ≡ min (c.args.self.now.stop - c.args.self.now.place) (length out) = subst (λ (reader : Course). count ≡ min
    (reader.stop - reader.place) (length out)) c.self.view_is (omega (arith, c.min-count.ensures)) in
    rw c.end.ensures
    (stops_end c.args.shares.now views (length out) c.args.self.now _ _ _ c.in-Err.stop.view c.in-Err.stop.fault
    (stops_asked c.args.shares.now _ _ c.args.self.now views c.as_slice.result.now out count c.in-Some.first c.in-Some.skipped c.in-Err.stop.view
    c.in-Err.stop.fault c.as_slice.ensures is count_is c.in-Err.ensures.err))
