-- Which refusal of `spawn`, `drop` and `stat` applies, as the table of renderers tells.
use Rattle.std.proofs.Common.{◌≡◌, ℕ, zero, suc, ◌==◌, Bool, true, false, not, List, [], ◌∷◌, refl, ap, subst, sym, ◌∙◌, Option, Some, None, cond, arith}
use Rattle.std.specs.Prelude.{is_none, is_some, length, nat_le, nat_lt, if◌then◌else◌}
use Rattle.std.specs.Option.{option_map}
use Rattle.std.proofs.lemmas.Bool.{lt-ltb, ne_eqb}
use Rattle.blob_words.specs.declared.counted.Counted.TheVariants as counted
use Rattle.blob_words.specs.declared.number.RendererId.{RendererId}
use Rattle.session_script.specs.declared.event.Event.{Event}
use Rattle.session_script.specs.declared.event.Event.TheVariants as events
use Rattle.answer_text.specs.declared.answer.Answer.{Answer}
use Rattle.answer_text.specs.declared.answer.Answer.TheVariants as answers
use Rattle.answer_text.specs.declared.refusal.Refusal.{Refusal}
use Rattle.answer_text.specs.declared.refusal.Refusal.TheVariants as refusals
use Rattle.data_handles.specs.Table.{Table as HandleTable}
use Rattle.page_disk.specs.declared.change.Change.{Change}
use Rattle.renderer_table.specs.Table.{Table, count_of, drop_fault, living_of, spawn_fault}
use Rattle.renderer_table.specs.declared.fault.DropFault.{DropFault}
use Rattle.renderer_table.specs.declared.fault.DropFault.TheVariants as drops
use Rattle.renderer_table.specs.declared.fault.SpawnFault.{SpawnFault}
use Rattle.renderer_table.specs.declared.fault.SpawnFault.TheVariants as spawns
use Rattle.renderer_table.specs.declared.living.Living.{Living}
use Rattle.blob_model.specs.Choice.{first_that}
use Rattle.blob_model.specs.Handles.{has_handle}
use Rattle.blob_model.specs.History.{History}
use Rattle.blob_model.specs.Own.{IsAccepted, IsOwn, IsOwnBy}
use Rattle.blob_model.specs.Refusals.{refusal}
use Rattle.blob_model.specs.Renderers.{is_alive, is_spawned, origin_of, spawned}
use Rattle.blob_model.specs.Session.{Session}
use Rattle.store_laws.specs.LineLaws.{handle_refusal}
use Rattle.store_laws.specs.Stands.{Between, Parts}

-- ---- own answers

pub own_refused : (s : Session) (h : History) (event : Event) (why : Refusal) → refusal s h event ≡ Some why → IsOwn s h event (answers.Refused why ∷ [])
own_refused s h event why is = subst (λ (found : Option Refusal). IsOwnBy s h event found (answers.Refused why ∷ [])) (sym is) refl

pub own_accepted : (s : Session) (h : History) (event : Event) (own : List Answer) → refusal s h event ≡ None → IsAccepted s h event own → IsOwn s h event own
own_accepted s h event own is accepts = subst (λ (found : Option Refusal). IsOwnBy s h event found own) (sym is) accepts

-- ---- tests in a row

abbrev spawn_faults : Bool → Bool → Option SpawnFault
spawn_faults used full = if used then Some spawns.Used else if full then Some spawns.Full else None

was_used : (renderer : RendererId) (used full : Bool) → spawn_faults used full ≡ Some spawns.Used
    → first_that ((used, refusals.RendererUsed renderer) ∷ (full, refusals.TooMany counted.Renderers) ∷ []) ≡ Some (refusals.RendererUsed renderer)
was_used renderer true full e = refl
was_used renderer false true e = absurd (cc e)
was_used renderer false false e = absurd (cc e)

was_full : (renderer : RendererId) (used full : Bool) → spawn_faults used full ≡ Some spawns.Full
    → first_that ((used, refusals.RendererUsed renderer) ∷ (full, refusals.TooMany counted.Renderers) ∷ []) ≡ Some (refusals.TooMany counted.Renderers)
was_full renderer true full e = absurd (cc e)
was_full renderer false true e = refl
was_full renderer false false e = absurd (cc e)

was_neither : (renderer : RendererId) (used full : Bool) → spawn_faults used full ≡ None
    → first_that ((used, refusals.RendererUsed renderer) ∷ (full, refusals.TooMany counted.Renderers) ∷ []) ≡ None
was_neither renderer true full e = absurd (cc e)
was_neither renderer false true e = absurd (cc e)
was_neither renderer false false e = refl

handle_tests : (renderer : RendererId) (name : ℕ) (held : Option Living) (n : ℕ)
    → first_that ((not (is_some held), refusals.NoRenderer renderer) ∷ (not (nat_lt 0 n), refusals.NoHandle renderer name) ∷ [])
    ≡ (if is_none held then Some (refusals.NoRenderer renderer) else if n == 0 then Some (refusals.NoHandle renderer name) else None)
handle_tests renderer name None n = refl
handle_tests renderer name (Some one) zero = refl
handle_tests renderer name (Some one) (suc n) =
    ap (λ (b : Bool). first_that ((not (is_some (Some one)), refusals.NoRenderer renderer) ∷ (not b, refusals.NoHandle renderer name) ∷ []))
    (lt-ltb 0 (suc n) (omega arith))
    ∙ sym (ap (λ (b : Bool). cond b (Some (refusals.NoHandle renderer name)) None) (ne_eqb (suc n) 0 (λ same. absurd (omega (arith, same)))))

-- ---- lines

module _ (s : Session) (h : History) (stands : ℕ → Bool) (parts : Parts) (told : Option (List Change)) (table : HandleTable)
    (between : Between s h stands parts told table) where
  pub spawn_used : (renderer : RendererId) (origin : List ℕ) → spawn_fault renderer.0 parts.renderers ≡ Some spawns.Used
      → refusal s h (events.Spawn renderer origin) ≡ Some (refusals.RendererUsed renderer)
  spawn_used renderer origin due =
      was_used renderer (is_spawned h renderer.0) (nat_le 1024 (length (spawned h)))
      (sym (ap (λ (b : Bool). spawn_faults b (nat_le 1024 (length parts.renderers.spawned))) (between.tables.renderers.spawned renderer.0)
      ∙ ap (λ (n : ℕ). spawn_faults (is_spawned h renderer.0) (nat_le 1024 n)) between.tables.renderers.many) ∙ due)

  pub spawn_full : (renderer : RendererId) (origin : List ℕ) → spawn_fault renderer.0 parts.renderers ≡ Some spawns.Full
      → refusal s h (events.Spawn renderer origin) ≡ Some (refusals.TooMany counted.Renderers)
  spawn_full renderer origin due =
      was_full renderer (is_spawned h renderer.0) (nat_le 1024 (length (spawned h)))
      (sym (ap (λ (b : Bool). spawn_faults b (nat_le 1024 (length parts.renderers.spawned))) (between.tables.renderers.spawned renderer.0)
      ∙ ap (λ (n : ℕ). spawn_faults (is_spawned h renderer.0) (nat_le 1024 n)) between.tables.renderers.many) ∙ due)

  pub spawn_accepted : (renderer : RendererId) (origin : List ℕ) → spawn_fault renderer.0 parts.renderers ≡ None
      → refusal s h (events.Spawn renderer origin) ≡ None
  spawn_accepted renderer origin due =
      was_neither renderer (is_spawned h renderer.0) (nat_le 1024 (length (spawned h)))
      (sym (ap (λ (b : Bool). spawn_faults b (nat_le 1024 (length parts.renderers.spawned))) (between.tables.renderers.spawned renderer.0)
      ∙ ap (λ (n : ℕ). spawn_faults (is_spawned h renderer.0) (nat_le 1024 n)) between.tables.renderers.many) ∙ due)

  -- whether a renderer is alive
  pub alive_known : (number : ℕ) → is_some (living_of number parts.renderers) ≡ is_alive h number
  alive_known number = go (living_of number parts.renderers) (is_alive h number) (between.tables.renderers.living number)
    where
      go : (held : Option Living) (b : Bool) → option_map (λ (one : Living). one.origin) held ≡ (if b then Some (origin_of h number) else None)
          → is_some held ≡ b
      go None true e = absurd (cc e)
      go None false e = refl
      go (Some one) true e = refl
      go (Some one) false e = absurd (cc e)

  handle_known : (renderer : RendererId) (name : ℕ)
      → first_that ((not (is_alive h renderer.0), refusals.NoRenderer renderer) ∷ (not (has_handle h renderer.0 name), refusals.NoHandle renderer name) ∷ [])
      ≡ handle_refusal renderer name parts.renderers
  handle_known renderer name =
      ap (λ (b : Bool). first_that ((not b, refusals.NoRenderer renderer) ∷ (not (has_handle h renderer.0 name), refusals.NoHandle renderer name) ∷ []))
      (sym (alive_known renderer.0))
      ∙ ap (λ (n : ℕ). first_that ((not (is_some (living_of renderer.0 parts.renderers)), refusals.NoRenderer renderer)
      ∷ (not (nat_lt 0 n), refusals.NoHandle renderer name) ∷ []))
      (sym (between.tables.renderers.counts renderer.0 name))
      ∙ handle_tests renderer name (living_of renderer.0 parts.renderers) (count_of renderer.0 name parts.renderers)

  pub stat_refusal : (renderer : RendererId) (name : ℕ) → refusal s h (events.Stat renderer name) ≡ handle_refusal renderer name parts.renderers
  stat_refusal renderer name = handle_known renderer name

  pub drop_refusal : (renderer : RendererId) (name : ℕ) → refusal s h (events.Drop renderer name) ≡ handle_refusal renderer name parts.renderers
  drop_refusal renderer name = handle_known renderer name

-- the fault of a table is the refusal of the line
module _ (renderer : RendererId) (name : ℕ) (table : Table) where
  abbrev faults : Option Living → Bool → Option DropFault
  faults held b = if is_none held then Some (drops.NoRenderer renderer) else if b then Some drops.NoHandle else None

  abbrev refuses : Option Living → Bool → Option Refusal
  refuses held b = if is_none held then Some (refusals.NoRenderer renderer) else if b then Some (refusals.NoHandle renderer name) else None

  pub drop_no_renderer : (other : RendererId) → drop_fault renderer name table ≡ Some (drops.NoRenderer other)
      → handle_refusal renderer name table ≡ Some (refusals.NoRenderer other)
  drop_no_renderer other due = go (living_of renderer.0 table) (count_of renderer.0 name table == 0) due
    where
      go : (held : Option Living) (b : Bool) → faults held b ≡ Some (drops.NoRenderer other) → refuses held b ≡ Some (refusals.NoRenderer other)
      go None b e = let same : renderer ≡ other = cc in ap (λ (r : RendererId). Some (refusals.NoRenderer r)) same
      go (Some one) true e = absurd (cc e)
      go (Some one) false e = absurd (cc e)

  pub drop_no_handle : drop_fault renderer name table ≡ Some drops.NoHandle → handle_refusal renderer name table ≡ Some (refusals.NoHandle renderer name)
  drop_no_handle due = go (living_of renderer.0 table) (count_of renderer.0 name table == 0) due
    where
      go : (held : Option Living) (b : Bool) → faults held b ≡ Some drops.NoHandle → refuses held b ≡ Some (refusals.NoHandle renderer name)
      go None b e = absurd (cc e)
      go (Some one) true e = refl
      go (Some one) false e = absurd (cc e)

  pub drop_none : drop_fault renderer name table ≡ None → handle_refusal renderer name table ≡ None
  drop_none due = go (living_of renderer.0 table) (count_of renderer.0 name table == 0) due
    where
      go : (held : Option Living) (b : Bool) → faults held b ≡ None → refuses held b ≡ None
      go None b e = absurd (cc e)
      go (Some one) true e = absurd (cc e)
      go (Some one) false e = refl
