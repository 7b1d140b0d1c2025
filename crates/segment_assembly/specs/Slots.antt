-- How an assembly keeps its segments: in one buffer, with a flag for each that came.
use Rattle.std.specs.Prelude.{ℕ, ◌≡◌, ◌<◌, ◌^◌, Bool, not, List, [], ◌∷◌, Option, Some, None, length, sum, take, drop, count_by, if◌then◌else◌}
use Rattle.std.specs.Int.{div_ceil}
use Rattle.segment_assembly.specs.Assembly.{Sending}
use Rattle.segment_assembly.specs.declared.assembly.Assembly.TheInside.{Inside}

-- the segments of a buffer that came, by their number
abbrev pub slots : ℕ → List Bool → List ℕ → List (Option (List ℕ))
slots size [] bytes = []
slots size (came ∷ rest) bytes = (if came then Some (take size bytes) else None) ∷ slots size rest (drop size bytes)

-- what an assembly stands for
abbrev pub sending_of : Inside → Sending
sending_of assembly =
    record {
      parts = assembly.parts.items;
      segment = assembly.segment;
      page = assembly.page;
      taken = slots assembly.segment assembly.came.items assembly.bytes.items;
    }

-- the buffer is as long as the parts, there is a flag for each segment, and the flags that are not set are counted
pub record IsWhole (assembly : Inside) : Type 0 where
  pub some_segment : 0 < assembly.segment
  pub some_page : 0 < assembly.page
  pub own : assembly.own ≡ sum assembly.parts.items
  pub buffer : length assembly.bytes.items ≡ assembly.own
  pub flags : length assembly.came.items ≡ div_ceil assembly.own assembly.segment
  pub few : length assembly.came.items < 2 ^ 32
  pub missing : assembly.missing ≡ count_by not assembly.came.items
