-- How many there are are the model's, and fit their words.
use Rattle.std.proofs.Common.{ℕ, List, length, ap, ◌∙◌, arith}
use Rattle.blob_store.specs.Says.{Says}
use Rattle.blob_store.specs.Whole.{IsWhole}
use Rattle.blob_store.proofs.Few.{standing_few, waiting_few}
use Rattle.blob_store.proofs.Heard.{heard_counts}
use Rattle.blob_store.proofs.parts.Parts.count.Goals as goal

pub few-blobs-requires : goal.few-blobs-requires
few-blobs-requires c =
    let few = standing_few c.args.self.now.registry.names c.args.self.now.registry.entries in
    omega (arith, few, c.len.ensures, c.registered-most.ensures.names)

pub few-waiting-requires : goal.few-waiting-requires
unfolding IsWhole
few-waiting-requires c =
    let few = waiting_few c.args.self.now.registry.names c.args.self.now.rows in
    let same = ap (λ (list : List (ℕ × ℕ)). length list) c.requires.blobs.waits in
    omega (arith, few, same, c.waiting.ensures.value, c.registered-most.ensures.names)

pub returns : goal.returns
unfolding Says
returns c told table s groups legal still stands =
    heard_counts s groups c.args.self.now told table legal stands c.few-blobs.result c.few-urls.result c.few-readers.result c.few-waiting.result
    c.paging.result (c.few-blobs.ensures ∙ c.len.ensures) (c.few-urls.ensures ∙ c.count.ensures.value) (c.few-readers.ensures ∙ c.count-2.ensures)
    (c.few-waiting.ensures ∙ c.waiting.ensures.value) c.paging.ensures
