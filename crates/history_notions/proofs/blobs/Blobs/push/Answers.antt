-- The first places, with one blob more.
use Rattle.std.proofs.Common.{rules, ◌≡◌, ℕ, ◌++◌, ◌∷◌, [], List, length, sym, ap, ◌∙◌}
use Rattle.std.specs.Ordering.{nat_cmp}
use Rattle.std.specs.BTreeMap as tree
use Rattle.blob_model.specs.Builds.{Build}
use Rattle.history_notions.specs.Firsts.{first_of, first_after}
use Rattle.history_notions.proofs.FirstPlaces.{first_more}
use Rattle.history_notions.proofs.blobs.Blobs.push.Goals as goal

pub invariant_of-self-2 : goal.invariant_of-self-2
invariant_of-self-2 c = λ name.
    let old : List Build = c.self.inside.list.items in
    let noted : tree.get nat_cmp c.note.new.firsts name ≡ first_after c.args.build.name (length old) name (first_of old name) = search rules in
    let pushed : c.push.new.self.items ≡ old ++ c.args.build ∷ [] = search rules in
    noted ∙ sym (first_more old c.args.build name) ∙ ap (λ (list : List Build). first_of list name) (sym pushed)
