-- There is room for a piece in memory, which may be the latest.
use Rattle.std.proofs.Common.{◌≡◌, ℕ, ◌++◌, [], ◌∷◌, false, List, length, sym, ap, subst, ◌∙◌, arith}
use Rattle.std.specs.List.{AllByRecursion}
use Rattle.recent_items.specs.Recent.{is_there}
use Rattle.blob_store.specs.Stored.{IsInMemory}
use Rattle.blob_store.proofs.Using.{entered_in_memory, fewer_used, taken_out}
use Rattle.blob_store.proofs.parts.Parts.enter_piece.Goals as goal

pub enter-requires-clause-absent : goal.enter-requires-clause-absent
enter-requires-clause-absent c =
    let number = c.args.number in
    subst (λ (order : List (ℕ × ℕ)). is_there number order ≡ false) (sym c.leave.ensures) (taken_out number c.args.self.now.recent)

pub enter-requires-clause-room : goal.enter-requires-clause-room
enter-requires-clause-room c =
    let parts = c.args.self.now in
    let left = ap (λ (order : List (ℕ × ℕ)). length order) c.leave.ensures in
    let few = fewer_used parts.shares parts.homes c.args.number parts.recent c.requires.number c.requires.enters.order c.victims-none.ensures.apart in
    omega (arith, left, few, c.requires.enters.most)

pub returns-clause-enters : goal.returns-clause-enters
returns-clause-enters c =
    let parts = c.args.self.now in
    record {
      order =
          subst (AllByRecursion (IsInMemory parts.shares parts.homes))
          (sym (c.in_ok-entered.ensures.ok ∙ ap (λ (order : List (ℕ × ℕ)). order ++ (c.args.number, c.in-Some.len) ∷ []) c.leave.ensures))
          (entered_in_memory parts.shares parts.homes c.args.number c.in-Some.len parts.recent c.requires.number c.requires.enters.order
          (sym c.in-Some.ensures));
      in_turn = c.requires.enters.in_turn;
      most = c.requires.enters.most;
      each_row = c.requires.enters.each_row;
    }
