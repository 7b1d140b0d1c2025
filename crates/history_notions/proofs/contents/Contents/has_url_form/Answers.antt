-- The form of the history's origins.
use Rattle.std.proofs.Common.{◌≡◌, ℕ, ◌==◌, List, [], ap, ◌∙◌}
use Rattle.std.specs.Prelude.{find}
use Rattle.std.specs.Option.{option_map_or}
use Rattle.blob_model.specs.Renderers.{Renderer, origin_of}
use Rattle.blob_model.specs.Entries.{is_url_of}
use Rattle.history_notions.specs.Kept.{origin_in}
use Rattle.history_notions.proofs.contents.Contents.has_url_form.Goals as goal

pub returns : goal.returns
returns c = λ s h follows.
    let origin : c.origin_of-origin.result.now ≡ origin_of h c.args.r.0 =
    c.origin_of-origin.ensures ∙ ap (λ (spawned : List Renderer). origin_in spawned c.args.r.0) (c.as_slice.ensures ∙ follows.keeps.spawned_are) in
    c.in_ok-has_form.ensures
    ∙ ap (λ (front : List ℕ). is_url_of front c.as_slice-2.result.now) origin
    ∙ ap (is_url_of (origin_of h c.args.r.0)) c.as_slice-2.ensures.bytes
