-- The order of bytes that are kept as keys: byte by byte, and the shorter first.
use Rattle.std.specs.Prelude.{ℕ, List, Vec}
use Rattle.std.specs.declared.alloc.Global.{Global}
use Rattle.std.specs.declared.cmp.Ordering.{Ordering}
use Rattle.std.specs.Ordering.{nat_cmp}
use Rattle.std.specs.Cmp.Lexicographic.{slice_cmp}

-- how bytes stand to a key
abbrev pub order_of : List ℕ → Vec ℕ Global → Ordering
order_of bytes key = slice_cmp nat_cmp bytes key.items

-- how two keys stand to each other
abbrev pub key_cmp : Vec ℕ Global → Vec ℕ Global → Ordering
key_cmp one other = slice_cmp nat_cmp one.items other.items
