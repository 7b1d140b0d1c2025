-- The blob at the first place of the name.
use Rattle.std.proofs.Common.{rules, ◌≡◌, ℕ, List, Option, Some, None, sym, ap, ◌∙◌}
use Rattle.std.specs.Prelude.{slice_get}
use Rattle.std.specs.Option.{option_copied}
use Rattle.blob_model.specs.Builds.{Build, build_in}
use Rattle.history_notions.specs.Firsts.{first_of}
use Rattle.history_notions.proofs.FirstPlaces.{got_at, at_place, first_found}
use Rattle.history_notions.proofs.blobs.Blobs.find.Goals as goal

pub returns-in-Some : goal.returns-in-Some
returns-in-Some c =
    let list : List Build = c.self.inside.list.items in
    let first : Some c.in-Some.place.now ≡ first_of list c.args.name = search rules in
    let there : option_copied c.get-in-Some.result ≡ slice_get list c.in-Some.place.now =
    got_at c.get-in-Some.result c.deref.result.now c.in-Some.place.now c.get-in-Some.ensures.lookup.1
    c.get-in-Some.ensures.lookup.3 ∙ ap (λ (builds : List Build). slice_get builds c.in-Some.place.now) c.deref.ensures.value in
    there ∙ ap (at_place list) first ∙ first_found list c.args.name ∙ ap (λ (builds : List Build). build_in builds c.args.name) c.self.view_is

pub returns-in-None : goal.returns-in-None
returns-in-None c =
    let list : List Build = c.self.inside.list.items in
    let first : first_of list c.args.name ≡ None = search rules in
    ap (at_place list) (sym first) ∙ first_found list c.args.name ∙ ap (λ (builds : List Build). build_in builds c.args.name) c.self.view_is
