use Rattle.std.proofs.Common.{◌≡◌, ◌+◌, ◌-◌, ◌≤◌, length, take, drop, sym, ap, ◌∙◌, arith}
use Rattle.std.proofs.Math.ListN.{drop_of_length-le}
use Rattle.std.proofs.lemmas.List.{length-drop, take_rest}
use Rattle.blob_source.specs.Memory.{Feed}
use Rattle.blob_source.proofs.AheadLemmas.{split_front}
use Rattle.blob_source.proofs.memory_source.MemorySourceSource.read.Goals as goal

pub returns-clause-bytes : goal.returns-clause-bytes
returns-clause-bytes c =
    let bytes = c.self.inside.bytes in
    let start = c.self.inside.at in
    let count = c.min-count.result in
    let left : take (length c.as_slice.result.now - start) (drop start c.as_slice.result.now) ≡ drop start bytes =
    take_rest c.as_slice.result.now start ∙ ap (drop start) c.as_slice.ensures in
    let front : take count c.copy_front.new.to ≡ take count (drop start bytes) = c.copy_front.ensures.front ∙ ap (take count) left in (
      sym (ap (λ (feed : Feed). feed.left) c.self.view_is) ∙ split_front bytes _ start count front,
      λ none some.
          let past : length bytes ≤ start + count = omega (arith, ap length left, length-drop start bytes) in drop_of_length-le bytes past,
    )
