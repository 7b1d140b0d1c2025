-- The entry that resolves among the history's, by the history's origins.
use Rattle.std.proofs.Common.{◌≡◌, ℕ, ◌==◌, List, [], ap, ◌∙◌}
use Rattle.std.specs.Prelude.{find}
use Rattle.std.specs.Option.{option_map_or}
use Rattle.blob_model.specs.Renderers.{Renderer, spawned}
use Rattle.blob_model.specs.Entries.{Entry, entries, before_fragment}
use Rattle.history_notions.specs.Kept.{is_open_to}
use Rattle.history_notions.proofs.kept.Kept.resolved.Goals as goal

pub returns : goal.returns
returns c = λ h keeps.
    let number : ℕ = c.args.renderer.0 in
    c.resolved_in.ensures
    ∙ ap (find (is_open_to c.as_slice-spawned.result.now c.before_fragment-front.result.now c.origin_of-origin.result.now))
    (c.as_slice-entries.ensures.value ∙ keeps.entries_are)
    ∙ ap (λ (list : List Renderer). find (is_open_to list c.before_fragment-front.result.now c.origin_of-origin.result.now) (entries h))
    (c.as_slice-spawned.ensures ∙ keeps.spawned_are)
    ∙ ap (λ (front : List ℕ). find (is_open_to (spawned h) front c.origin_of-origin.result.now) (entries h))
    (c.before_fragment-front.ensures ∙ ap before_fragment c.as_slice-whole.ensures.bytes)
    ∙ ap (λ (origin : List ℕ). find (is_open_to (spawned h) (before_fragment c.args.text.now) origin) (entries h))
    (c.origin_of-origin.ensures
    ∙ ap (λ (list : List Renderer). option_map_or (λ (one : Renderer). one.origin) (find (λ (one : Renderer). one.number == number) list) [])
    (c.as_slice-spawned.ensures ∙ keeps.spawned_are))
