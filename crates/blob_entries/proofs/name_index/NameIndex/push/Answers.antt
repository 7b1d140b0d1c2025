-- The index agrees with the names, with one name more.
use Rattle.std.proofs.lemmas.List.{length_push}
use Rattle.std.proofs.Common.{rules, ◌≡◌, ◌<◌, ◌++◌, ◌+◌, ◌∷◌, [], ℕ, None, List, length, arith}
use Rattle.std.specs.Ordering.{nat_cmp}
use Rattle.std.specs.BTreeMap as tree
use Rattle.blob_entries.proofs.Numbers.{number_registered}
use Rattle.blob_entries.specs.Names.{number_of}
use Rattle.blob_entries.proofs.name_index.NameIndex.push.Goals as goal

pub invariant_of-self-2 : goal.invariant_of-self-2
invariant_of-self-2 c =
    let old : List ℕ = c.self.inside.names.items in
    let fresh : number_of c.args.name old ≡ None = rw c.self.view_is c.requires.fresh in
    let few : length old < 65536 = rw c.self.view_is c.requires.room in
    let step = number_registered in
    let numbers : (name : ℕ) → tree.get nat_cmp c.insert.new.self name ≡ number_of name (old ++ c.args.name ∷ []) = λ name. search (rules, step) in
    let long : length (old ++ c.args.name ∷ []) ≡ length old + 1 = length_push old c.args.name in
    let pushed = rw c.unwrap.ensures at c.push.ensures.items in
    rw (pushed, c.in_ok-reserve.ensures.items) (omega arith, numbers)
