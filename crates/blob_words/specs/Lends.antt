-- What a list ends as, once a loan of its items has ended. Own.
use Rattle.std.specs.Prelude.{List, ◌++◌, drop, length, take}
use Rattle.std.specs.Borrow.{Array, Fml, Lends, MutBor, RattleType}
use Rattle.blob_words.specs.contracts.list.ItemList.{the_row}

-- the list has the items that were last behind the slice, and its length stays
abbrev pub LendsItems : (T : RattleType) → MutBor (List T.Denot) → MutBor (List T.Denot) → Fml
LendsItems T list slice =
    Lends (the_row T) (Array T 0) list slice (λ items. take (length list.now) (items ++ drop (length items) list.now))
