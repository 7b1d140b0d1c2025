-- Which renderers there are, who holds a blob, and which blobs live. File API's lifetimes; renderers as holders are own.
use Rattle.std.specs.Prelude.{ℕ, ◌==◌, Bool, false, ◌||◌, List, [], ◌∷◌, ◌++◌, Option, None, Some, is_some, if◌then◌else◌}
use Rattle.std.specs.List.{list_any}
use Rattle.blob_words.specs.declared.number.RendererId.{RendererId}
use Rattle.session_script.specs.declared.event.Event.{Event}
use Rattle.session_script.specs.declared.event.Event.TheVariants as events
use Rattle.answer_text.specs.declared.answer.Answer.{Answer}
use Rattle.answer_text.specs.declared.answer.Answer.TheVariants as answers
use Rattle.replay_run.specs.History.{History, start, heard, said}
use Rattle.replay_run.specs.Readers.{OpenReader, readers}

-- an accepted `spawn` line makes a renderer
abbrev pub renderers_after : Event → Answer → List ℕ → List ℕ
renderers_after (events.Spawn renderer origin) answers.Good renderers = renderers ++ renderer.0 ∷ []
renderers_after event answer renderers = renderers

-- the renderers that were spawned; they live until the `end` line
abbrev pub renderers : History → List ℕ
renderers start = []
renderers (heard h event answer) = renderers_after event answer (renderers h)
renderers (said h answer) = renderers h

-- whether the renderer was spawned
abbrev pub is_spawned : History → ℕ → Bool
is_spawned h renderer = list_any (λ (known : ℕ). renderer == known) (renderers h)

-- its builder holds a blob from its build until it drops the blob; at the `end` line nobody holds any
abbrev pub holder_after : Event → Answer → ℕ → Option RendererId → Option RendererId
holder_after (events.Build renderer built kind parts) (answers.Planned plan) name holder = if built == name then Some renderer else holder
holder_after (events.Drop renderer dropped) answers.Good name holder = if dropped == name then None else holder
holder_after events.Finish answer name holder = None
holder_after event answer name holder = holder

-- the renderer that has a handle on the blob of this name, if one has
abbrev pub holder : History → ℕ → Option RendererId
holder start name = None
holder (heard h event answer) name = holder_after event answer name (holder h name)
holder (said h answer) name = holder h name

-- whether the holder is this renderer
abbrev pub is_holder : RendererId → Option RendererId → Bool
is_holder renderer None = false
is_holder renderer (Some holding) = renderer.0 == holding.0

-- whether the renderer has a handle on the blob
abbrev pub has_handle : History → RendererId → ℕ → Bool
has_handle h renderer name = is_holder renderer (holder h name)

-- whether an open reader reads the blob
abbrev pub is_read : List OpenReader → ℕ → Bool
is_read readers name = list_any (λ (reader : OpenReader). name == reader.blob) readers

-- a blob lives while a renderer has a handle on it or an open reader reads it
abbrev pub is_live : History → ℕ → Bool
is_live h name = is_some (holder h name) || is_read (readers h) name
