use Rattle.std.proofs.Common.{◌≡◌, ◌+◌, ◌<◌, ◌^◌, ◌++◌, drop}
use Rattle.blob_model.specs.Parts.{own_lengths}
use Rattle.transport_plan.specs.Spans.{piece_count}
use Rattle.store_laws.specs.PartLaws.{recipe_of}
use Rattle.blob_store.proofs.building.recipe.recipe.Given as goal

abbrev pub invariant-loop-part : goal.invariant-loop-part
invariant-loop-part l = record {
  steps : l.recipe ++ recipe_of l.page l.number (drop l.taken l.views) (drop l.part-index l.parts) ≡ recipe_of l.page l.first l.views l.parts;
  few : l.number + piece_count l.page (own_lengths (drop l.part-index l.parts)) < 2 ^ 32;
}
