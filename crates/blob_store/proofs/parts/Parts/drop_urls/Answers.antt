-- One URL after the other goes, and then none is left.
use Rattle.std.proofs.Common.{refl, sym, ap, subst}
use Rattle.blob_entries.specs.Book.{Book}
use Rattle.store_laws.specs.TableLaws.{no_url, one_url}
use Rattle.blob_store.specs.declared.parts.Parts.{Parts}
use Rattle.blob_store.specs.Whole.{IsWhole, Whole}
use Rattle.blob_store.proofs.Leaving.{held_named, rerooted_by, urls_leave, whole_unlinked}
use Rattle.blob_store.proofs.parts.Parts.drop_urls.Goals as goal

pub loop-name-init : goal.loop-name-init
unfolding IsWhole
loop-name-init c = record {
  whole = c.requires;
  same = record { names = refl; entries = refl };
  went = no_url c.args.renderer.0 c.args.self.now.urls;
  rest = refl;
}

pub let_go-requires : goal.let_go-requires
let_go-requires c =
    held_named c.loop-name.self c.args.renderer.0 c.in-Some.name c.remove_owner.new.self c.loop-name.invariant.whole c.in-Some.ensures.goes

pub loop-name-preserved : goal.loop-name-preserved
loop-name-preserved c =
    let parts = c.loop-name.self in
    let was = c.loop-name.invariant in
    record {
      whole = subst (λ (book : Book). Whole (record parts { registry = book; urls = c.remove_owner.new.self })) (sym c.let_go.ensures)
          (whole_unlinked parts c.args.renderer.0 c.in-Some.name c.remove_owner.new.self was.whole c.in-Some.ensures.first c.in-Some.ensures.rest
          c.in-Some.ensures.goes);
      same = rerooted_by c.args.self.now.registry parts.registry c.let_go.new.self c.in-Some.name was.same c.let_go.ensures;
      went = one_url c.args.renderer.0 c.in-Some.name c.args.self.now.urls parts.urls c.remove_owner.new.self was.went c.in-Some.ensures.goes;
      rest = ap (λ (one : Parts). record one { registry = c.let_go.new.self; urls = c.remove_owner.new.self }) was.rest;
    }

pub returns-clause-urls : goal.returns-clause-urls
returns-clause-urls c =
    urls_leave c.args.renderer.0 c.args.self.now.urls c.loop-name.self.urls c.remove_owner.new.self c.loop-name.invariant.went
    c.in_default.ensures.none.0 c.in_default.ensures.none.1
