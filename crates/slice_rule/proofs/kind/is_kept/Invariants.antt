use Rattle.std.proofs.Common.{◌≡◌, true, take}
use Rattle.std.specs.List.{list_all}
use Rattle.slice_rule.specs.Kind.{is_type_byte}
use Rattle.slice_rule.proofs.kind.is_kept.Given as goal

-- the bytes seen so far may all stand in a type
abbrev pub invariant-loop-byte : goal.invariant-loop-byte
invariant-loop-byte l = list_all is_type_byte (take l.byte-index l.text) ≡ true
