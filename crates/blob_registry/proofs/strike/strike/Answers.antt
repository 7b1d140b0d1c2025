use Rattle.std.proofs.Common.{◌∙◌, ℕ, List, sym, nat_eq}
use Rattle.std.proofs.lemmas.List.Quantifiers.{position-Some}
use Rattle.blob_registry.proofs.Numbers.{ends_some, nowhere, without_at, without_nowhere, without_popped}
use Rattle.blob_registry.proofs.strike.strike.Goals as goal

pub returns-then-ends_in : goal.returns-then-ends_in
returns-then-ends_in c =
    let ends = sym c.ends_in.ensures ∙ c.if-ends_in.true in
    without_popped c.args.number c.args.list.now c.pop-last.new.self c.pop-last.result ends c.requires c.pop-last.ensures.items
    (c.pop-last.ensures.some.1 (ends_some c.args.number c.args.list.now ends))

pub returns-in-Some : goal.returns-in-Some
returns-in-Some c =
    let list : List ℕ = c.args.list.now in
    let at = rw c.as_slice.ensures at c.in-Some.ensures in
    let first = position-Some (λ (other : ℕ). nat_eq other c.args.number) list c.in-Some.place 0 (sym at) in
    c.remove-struck.ensures.rest ∙ without_at c.args.number list c.in-Some.place first.0 first.1 first.2

pub returns-in_default : goal.returns-in_default
returns-in_default c =
    let list : List ℕ = c.args.list.now in
    let at = rw c.as_slice.ensures at c.in_default.ensures in
    without_nowhere c.args.number list (nowhere (λ (other : ℕ). nat_eq other c.args.number) list (sym at))
