-- In a legal transcript who owns a URL was spawned.
use Rattle.std.proofs.Common.{◌≡◌, ◌==◌, true, not, [], ◌∷◌}
use Rattle.std.specs.Prelude.{bytes_eq, None}
use Rattle.session_script.specs.declared.event.Event.{Event}
use Rattle.session_script.specs.declared.event.Event.TheVariants as events
use Rattle.answer_text.specs.declared.answer.Answer.{Answer}
use Rattle.answer_text.specs.declared.answer.Answer.TheVariants as answers
use Rattle.blob_model.specs.Session.{Session}
use Rattle.blob_model.specs.History.{History, heard, refused, said, start}
use Rattle.blob_model.specs.Entries.{Entry, entries}
use Rattle.blob_model.specs.Refusals.{refusal}
use Rattle.blob_model.specs.Renderers.{Renderer, is_spawned, spawned}
use Rattle.blob_model.proofs.Lists.{all_more, any_append_first, filter_all, for_each}
use Rattle.blob_model.proofs.kept.NewBlobs.{tests_fail}
use Rattle.blob_model.proofs.legal.Causes.{IsCaused}
use Rattle.blob_model.proofs.live.Roots.{alive_spawned}
use Rattle.store_laws.specs.LineLaws.{AreOwned}

abbrev IsOwned : History → Entry → Type 0
IsOwned h entry = is_spawned h entry.owner ≡ true

owned_heard : (s : Session) (h : History) (event : Event) (answer : Answer) → refusal s h event ≡ None → AreOwned h → AreOwned (heard h event answer)
owned_heard s h (events.Spawn renderer origin) answer passes all =
    for_each (IsOwned h) (IsOwned (heard h (events.Spawn renderer origin) answer)) (entries h)
    (λ entry known. any_append_first (λ (one : Renderer). one.number == entry.owner) (spawned h)
    (record { number = renderer.0; origin = origin } ∷ []) known) all
owned_heard s h (events.Url renderer b text) answer passes all =
    all_more (IsOwned h) (entries h) (record { text = text; blob = b; owner = renderer.0 }) all
    (alive_spawned h renderer.0 (tests_fail s h (events.Url renderer b text) passes).0)
owned_heard s h (events.Revoke renderer text) answers.Revoked passes all =
    filter_all (IsOwned h) (λ (entry : Entry). not (bytes_eq entry.text text)) (entries h) all
owned_heard s h (events.Die renderer) answer passes all =
    filter_all (IsOwned h) (λ (entry : Entry). not (entry.owner == renderer.0)) (entries h) all
owned_heard s h events.Finish answer passes all = tt
owned_heard s h event answer passes all = all

pub owners_spawned : (s : Session) (h : History) → IsCaused s h → AreOwned h
owners_spawned s start caused = tt
owners_spawned s (heard h event answer) caused = owned_heard s h event answer caused.0.passes (owners_spawned s h caused.1)
owners_spawned s (refused h event why) caused = owners_spawned s h caused.2
owners_spawned s (said h answer) caused = owners_spawned s h caused.1
