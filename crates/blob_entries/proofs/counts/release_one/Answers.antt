-- What a release says, as counts.
use Rattle.std.proofs.Common.{◌≡◌, [], ◌∙◌, ap, sym, arith, append-nil, Option}
use Rattle.std.specs.Option.{option_map_or}
use Rattle.item_shares.specs.declared.item.Item.{Item}
use Rattle.std.specs.Option.{option_to_list}
use Rattle.blob_entries.proofs.Counting.{held_is, released_at}
use Rattle.blob_entries.specs.Counts.{freed_at}
use Rattle.blob_entries.proofs.counts.release_one.Goals as goal

pub release-requires : goal.release-requires
release-requires c = held_is c.args.shares.now c.args.slot c.requires

pub returns-in-None : goal.returns-in-None
returns-in-None c =
    let is = released_at c.args.shares.now c.release.new.self c.args.slot c.release.result c.requires c.release.ensures.last c.release.ensures.others in
    let none : [] ≡ freed_at c.args.shares.now c.args.slot 0 = ap option_to_list (sym c.in-None.is) ∙ is.freed in
    record {
      counts = is.counts;
      items = is.items;
      freed = rw (← none) (sym (append-nil _));
      weighs = λ weight.
          let nothing : option_map_or weight c.release.result 0 ≡ 0 = ap (λ (o : Option Item). option_map_or weight o 0) c.in-None.is in
          omega (arith, c.release.ensures.weighs weight, nothing);
    }
