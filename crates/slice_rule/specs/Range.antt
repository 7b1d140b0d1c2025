-- Which bytes a slice of a blob takes. File API, `slice(start, end)`.
use Rattle.std.specs.Prelude.{ℕ, suc, ◌-◌, min, ℤ, pos, negsuc, Option, None, Some}

-- a position in `size` bytes: a negative one becomes max(size + position, 0), as ◌-◌ stops at 0; any other becomes min(position, size)
abbrev pub position : ℕ → ℤ → ℕ
position size (pos n) = min n size
position size (negsuc n) = size - suc n

-- a position that may be left out: a missing start is 0, a missing end is the size
abbrev pub place_of : ℕ → ℕ → Option ℤ → ℕ
place_of size missing None = missing
place_of size missing (Some at) = position size at

-- relStart and span: the slice has max(relEnd - relStart, 0) bytes from relStart on
abbrev pub slice_of : ℕ → Option ℤ → Option ℤ → ℕ × ℕ
slice_of size start end = (place_of size 0 start, place_of size size end - place_of size 0 start)
