-- Which refusal applies to the line that makes a URL, as the tables tell.
use Rattle.std.proofs.Common.{◌≡◌, ℕ, zero, suc, ◌==◌, ◌<◌, ◌≤◌, Bool, true, false, not, List, [], ◌∷◌, length, refl, ap, sym, ◌∙◌, Option, Some, None, cond, arith}
use Rattle.std.specs.Prelude.{is_none, is_some, nat_le, nat_lt, if◌then◌else◌}
use Rattle.std.specs.Option.{option_map}
use Rattle.std.proofs.lemmas.Bool.{le-leb, leb-true, lt-ltb, ne_eqb}
use Rattle.blob_words.specs.declared.counted.Counted.TheVariants as counted
use Rattle.blob_words.specs.declared.number.RendererId.{RendererId}
use Rattle.session_script.specs.declared.event.Event.TheVariants as events
use Rattle.answer_text.specs.declared.refusal.Refusal.{Refusal}
use Rattle.answer_text.specs.declared.refusal.Refusal.TheVariants as refusals
use Rattle.data_handles.specs.Table.{Table as HandleTable}
use Rattle.page_disk.specs.declared.change.Change.{Change}
use Rattle.renderer_table.specs.Counted.{origin_at}
use Rattle.renderer_table.specs.Table.{count_of, living_of}
use Rattle.renderer_table.specs.declared.living.Living.{Living}
use Rattle.url_store.specs.Urls.{url_at}
use Rattle.url_store.specs.declared.url.Url.{Url}
use Rattle.blob_model.specs.Choice.{first_that}
use Rattle.blob_model.specs.Entries.{Entry, entries, entry_at, is_url_of}
use Rattle.blob_model.specs.Handles.{has_handle}
use Rattle.blob_model.specs.History.{History}
use Rattle.blob_model.specs.Refusals.{refusal}
use Rattle.blob_model.specs.Renderers.{is_alive, origin_of}
use Rattle.blob_model.specs.Session.{Session}
use Rattle.store_laws.specs.LineLaws.{handle_refusal}
use Rattle.store_laws.specs.Stands.{Between, Parts}
use Rattle.store_laws.specs.Tables.{url_of}
use Rattle.store_laws.proofs.LineRefusals.{alive_known}

-- ---- tests in a row

-- the tests on a handle, and others behind them
pub handle_cases : RendererId → ℕ → Option Living → ℕ → List (Bool × Refusal) → Option Refusal
handle_cases renderer name held n rest =
    first_that ((not (is_some held), refusals.NoRenderer renderer) ∷ (not (nat_lt 0 n), refusals.NoHandle renderer name) ∷ rest)

abbrev handle_fault : RendererId → ℕ → Option Living → ℕ → Option Refusal
handle_fault renderer name held n =
    if is_none held then Some (refusals.NoRenderer renderer) else if n == 0 then Some (refusals.NoHandle renderer name) else None

pub handle_first : (renderer : RendererId) (name : ℕ) (held : Option Living) (n : ℕ) (rest : List (Bool × Refusal)) (why : Refusal)
    → handle_fault renderer name held n ≡ Some why → handle_cases renderer name held n rest ≡ Some why
unfolding handle_cases
handle_first renderer name None n rest why due = due
handle_first renderer name (Some one) zero rest why due = due
handle_first renderer name (Some one) (suc n) rest why due =
    absurd (cc (sym (ap (λ (b : Bool). cond b (Some (refusals.NoHandle renderer name)) None) (ne_eqb (suc n) 0 (λ same. absurd (omega (arith, same))))) ∙ due))

pub handle_left : (renderer : RendererId) (name : ℕ) (held : Option Living) (n : ℕ) (rest : List (Bool × Refusal)) → handle_fault renderer name held n ≡ None
    → handle_cases renderer name held n rest ≡ first_that rest
unfolding handle_cases
handle_left renderer name None n rest due = absurd (cc due)
handle_left renderer name (Some one) zero rest due = absurd (cc due)
handle_left renderer name (Some one) (suc n) rest due =
    ap (λ (b : Bool). first_that ((false, refusals.NoRenderer renderer) ∷ (not b, refusals.NoHandle renderer name) ∷ rest))
    (lt-ltb 0 (suc n) (omega arith))

-- the tests on a URL itself
abbrev url_cases : Bool → Bool → ℕ → List (Bool × Refusal)
url_cases formed taken many =
    (not formed, refusals.UrlForm) ∷ (taken, refusals.UrlTaken) ∷ (nat_le 16384 many, refusals.TooMany counted.Urls) ∷ []

-- ---- the line

module _ (s : Session) (h : History) (stands : ℕ → Bool) (parts : Parts) (told : Option (List Change)) (table : HandleTable)
    (between : Between s h stands parts told table) where
  -- the origin of a renderer that lives
  pub origin_known : (number : ℕ) (origin : List ℕ) → origin_at number parts.renderers ≡ Some origin → origin ≡ origin_of h number
  origin_known number origin at = by (is_alive h number) (sym at ∙ between.tables.renderers.living number)
    where
      by : (b : Bool) → Some origin ≡ (if b then Some (origin_of h number) else None) → origin ≡ origin_of h number
      by true e = cc e
      by false e = absurd (cc e)

  -- the tests on a handle, with others behind them
  pub handled : (renderer : RendererId) (name : ℕ) (rest : List (Bool × Refusal))
      → first_that ((not (is_alive h renderer.0), refusals.NoRenderer renderer) ∷ (not (has_handle h renderer.0 name), refusals.NoHandle renderer name) ∷ rest)
      ≡ handle_cases renderer name (living_of renderer.0 parts.renderers) (count_of renderer.0 name parts.renderers) rest
  unfolding handle_cases
  handled renderer name rest =
      ap (λ (b : Bool). first_that ((not b, refusals.NoRenderer renderer) ∷ (not (has_handle h renderer.0 name), refusals.NoHandle renderer name) ∷ rest))
      (sym (alive_known s h stands parts told table between renderer.0))
      ∙ ap (λ (n : ℕ). first_that ((not (is_some (living_of renderer.0 parts.renderers)), refusals.NoRenderer renderer)
      ∷ (not (nat_lt 0 n), refusals.NoHandle renderer name) ∷ rest)) (sym (between.tables.renderers.counts renderer.0 name))

  url_known : (renderer : RendererId) (name : ℕ) (text : List ℕ) → refusal s h (events.Url renderer name text)
      ≡ handle_cases renderer name (living_of renderer.0 parts.renderers) (count_of renderer.0 name parts.renderers)
      (url_cases (is_url_of (origin_of h renderer.0) text) (is_some (url_at text parts.urls)) (length parts.urls))
  url_known renderer name text =
      handled renderer name (url_cases (is_url_of (origin_of h renderer.0) text) (is_some (entry_at (entries h) text)) (length (entries h)))
      ∙ ap (λ (b : Bool). behind renderer name (url_cases (is_url_of (origin_of h renderer.0) text) b (length (entries h))))
      (sym (ap (λ (found : Option Url). is_some found) (between.tables.urls_stand.each text) ∙ mapped (entry_at (entries h) text)))
      ∙ ap (λ (n : ℕ). behind renderer name (url_cases (is_url_of (origin_of h renderer.0) text) (is_some (url_at text parts.urls)) n))
      (sym between.tables.urls_stand.many)
    where
      behind : RendererId → ℕ → List (Bool × Refusal) → Option Refusal
      behind one blob rest = handle_cases one blob (living_of one.0 parts.renderers) (count_of one.0 blob parts.renderers) rest

      mapped : (found : Option Entry) → is_some (option_map (url_of (origin_of h)) found) ≡ is_some found
      mapped None = refl
      mapped (Some entry) = refl

  pub url_unhandled : (renderer : RendererId) (name : ℕ) (text : List ℕ) (why : Refusal) → handle_refusal renderer name parts.renderers ≡ Some why
      → refusal s h (events.Url renderer name text) ≡ Some why
  url_unhandled renderer name text why due =
      url_known renderer name text
      ∙ handle_first renderer name (living_of renderer.0 parts.renderers) (count_of renderer.0 name parts.renderers)
      (url_cases (is_url_of (origin_of h renderer.0) text) (is_some (url_at text parts.urls)) (length parts.urls)) why due

  module _ (renderer : RendererId) (name : ℕ) (text : List ℕ) (due : handle_refusal renderer name parts.renderers ≡ None) where
    url_left : refusal s h (events.Url renderer name text)
        ≡ first_that (url_cases (is_url_of (origin_of h renderer.0) text) (is_some (url_at text parts.urls)) (length parts.urls))
    url_left =
        url_known renderer name text
        ∙ handle_left renderer name (living_of renderer.0 parts.renderers) (count_of renderer.0 name parts.renderers)
        (url_cases (is_url_of (origin_of h renderer.0) text) (is_some (url_at text parts.urls)) (length parts.urls)) due

    pub url_formless : is_url_of (origin_of h renderer.0) text ≡ false → refusal s h (events.Url renderer name text) ≡ Some refusals.UrlForm
    url_formless form =
        url_left ∙ ap (λ (b : Bool). first_that (url_cases b (is_some (url_at text parts.urls)) (length parts.urls))) form

    module _ (form : is_url_of (origin_of h renderer.0) text ≡ true) where
      formed : refusal s h (events.Url renderer name text) ≡ first_that (url_cases true (is_some (url_at text parts.urls)) (length parts.urls))
      formed = url_left ∙ ap (λ (b : Bool). first_that (url_cases b (is_some (url_at text parts.urls)) (length parts.urls))) form

      pub url_taken : is_some (url_at text parts.urls) ≡ true → refusal s h (events.Url renderer name text) ≡ Some refusals.UrlTaken
      url_taken is = formed ∙ ap (λ (b : Bool). first_that (url_cases true b (length parts.urls))) is

      module _ (free : url_at text parts.urls ≡ None) where
        untaken : refusal s h (events.Url renderer name text) ≡ first_that (url_cases true false (length parts.urls))
        untaken = formed ∙ ap (λ (found : Option Url). first_that (url_cases true (is_some found) (length parts.urls))) free

        pub url_full : 16384 ≤ length parts.urls → refusal s h (events.Url renderer name text) ≡ Some (refusals.TooMany counted.Urls)
        url_full many =
            untaken ∙ ap (λ (b : Bool). first_that ((false, refusals.UrlForm) ∷ (false, refusals.UrlTaken) ∷ (b, refusals.TooMany counted.Urls) ∷ []))
            (le-leb 16384 (length parts.urls) many)

        pub url_accepted : length parts.urls < 16384 → refusal s h (events.Url renderer name text) ≡ None
        url_accepted few =
            untaken ∙ ap (λ (b : Bool). first_that ((false, refusals.UrlForm) ∷ (false, refusals.UrlTaken) ∷ (b, refusals.TooMany counted.Urls) ∷ []))
            (above (nat_le 16384 (length parts.urls)) refl)
          where
            above : (b : Bool) → nat_le 16384 (length parts.urls) ≡ b → b ≡ false
            above true at = absurd (let more = leb-true 16384 (length parts.urls) at in omega (arith, more, few))
            above false at = refl
