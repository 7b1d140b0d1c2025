-- Blob handles: how often a renderer holds a blob. File API's lifetimes; renderers as holders are own.
use Rattle.std.specs.Prelude.{ℕ, ◌+◌, ◌-◌, ◌==◌, ◌&&◌, Bool, nat_lt, if◌then◌else◌}
use Rattle.std.specs.List.{list_any}
use Rattle.session_script.specs.declared.event.Event.{Event}
use Rattle.session_script.specs.declared.event.Event.TheVariants as events
use Rattle.blob_model.specs.History.{History, start, heard, refused, said}
use Rattle.blob_model.specs.Renderers.{Renderer, spawned}

-- the builder holds its blob once, a `pass` line adds one, a `drop` line takes one, and a dead renderer holds nothing
abbrev pub count_after : Event → ℕ → ℕ → ℕ → ℕ
count_after (events.Build renderer b kind parts) holder name before = if renderer.0 == holder && b == name then 1 else before
count_after (events.Slice renderer b source from to kind) holder name before = if renderer.0 == holder && b == name then 1 else before
count_after (events.Pass renderer to b) holder name before = if to.0 == holder && b == name then before + 1 else before
count_after (events.Drop renderer b) holder name before = if renderer.0 == holder && b == name then before - 1 else before
count_after (events.Die renderer) holder name before = if renderer.0 == holder then 0 else before
count_after events.Finish holder name before = 0
count_after event holder name before = before

-- how many handles on the blob the renderer has
abbrev pub count : History → ℕ → ℕ → ℕ
count start holder name = 0
count (heard h event answer) holder name = count_after event holder name (count h holder name)
count (refused h event why) holder name = count h holder name
count (said h answer) holder name = count h holder name

abbrev pub has_handle : History → ℕ → ℕ → Bool
has_handle h holder name = nat_lt 0 (count h holder name)

-- whether some renderer holds the blob
abbrev pub is_held : History → ℕ → Bool
is_held h name = list_any (λ (renderer : Renderer). has_handle h renderer.number name) (spawned h)
