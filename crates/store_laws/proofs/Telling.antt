-- What stands under a name tells the blob of that name: what `stat` answers.
use Rattle.std.proofs.Common.{◌≡◌, ℕ, suc, ◌+◌, ◌==◌, Bool, true, false, List, [], ◌∷◌, map, refl, ap, subst, sym, ◌∙◌, Option, Some, None, cond, inl, arith}
use Rattle.std.specs.Prelude.{option_and_then, unwrap_or, if◌then◌else◌}
use Rattle.std.specs.Option.{option_map, option_map_or}
use Rattle.std.proofs.lemmas.Bool.{eq-eqb, eqb-true}
use Rattle.blob_words.specs.declared.number.RendererId.{RendererId}
use Rattle.blob_words.specs.declared.status.Status.{Status}
use Rattle.blob_words.specs.declared.status.Status.TheVariants as statuses
use Rattle.session_script.specs.declared.event.Event.TheVariants as events
use Rattle.answer_text.specs.declared.answer.Answer.TheVariants as answers
use Rattle.data_handles.specs.Table.{Table as HandleTable}
use Rattle.page_disk.specs.declared.change.Change.{Change}
use Rattle.blob_entries.specs.Book.{entry_at, entry_of}
use Rattle.blob_entries.specs.Names.{number_of}
use Rattle.blob_entries.specs.Statuses.{is_broken}
use Rattle.blob_entries.specs.declared.entry.Entry.{Entry}
use Rattle.blob_model.specs.Builds.{Build, build_in, builds, size_in}
use Rattle.blob_model.specs.History.{History}
use Rattle.blob_model.specs.Own.{IsAccepted, kind_in, pending_status, status_of}
use Rattle.blob_model.specs.Session.{Session, page_limit}
use Rattle.blob_model.specs.Standing.{ended, is_broken_status}
use Rattle.blob_model.specs.Standing.{is_broken as was_broken}
use Rattle.blob_model.specs.Transport.{has_all}
use Rattle.blob_model.specs.Waits.{is_waiting}
use Rattle.store_laws.specs.Outlines.{Outline, outline, outline_of}
use Rattle.store_laws.specs.Stands.{Between, Parts}
use Rattle.store_laws.proofs.Paired.{AreOutlined, by_first, first_of, rest_of}

-- the blob of a name, and what its entry says of it
pub record IsBuiltAs (s : Session) (h : History) (list : List Build) (name : ℕ) (entry : Entry) : Type 0 where
  pub build : Build
  pub found : build_in list name ≡ Some build
  pub same_name : build.name ≡ name
  pub outline_is : outline entry ≡ outline_of s h build

module _ (s : Session) (h : History) (stands : ℕ → Bool) (name : ℕ) (entry : Entry) where
  one_more : (build : Build) (list : List Build) → (name == build.name) ≡ false → IsBuiltAs s h list name entry → IsBuiltAs s h (build ∷ list) name entry
  one_more build list other is = record {
    build = is.build;
    found = ap (λ (b : Bool). cond b (Some build) (build_in list name)) (turned (build.name == name) refl) ∙ is.found;
    same_name = is.same_name;
    outline_is = is.outline_is;
  }
    where
      turned : (b : Bool) → (build.name == name) ≡ b → b ≡ false
      turned false at = refl
      turned true at =
          let here : (name == build.name) ≡ true = eq-eqb name build.name (sym (eqb-true build.name name at)) in
          let bad : true ≡ false = sym here ∙ other in absurd (cc bad)

  entry_built : (list : List Build) (entries : List (Option Entry)) → AreOutlined s h stands list entries
      → option_and_then (entry_at entries) (number_of name (map (λ (build : Build). build.name) list)) ≡ Some entry → IsBuiltAs s h list name entry
  entry_built [] entries e at = absurd (cc at)
  entry_built (build ∷ list) [] e at = absurd (cc e)
  entry_built (build ∷ list) (held ∷ entries) e at =
      go (name == build.name) refl (number_of name (map (λ (one : Build). one.name) list)) refl at
      (λ later. entry_built list entries (rest_of s h stands build list held entries e) later)
    where
      here : (name == build.name) ≡ true → held ≡ Some entry → IsBuiltAs s h (build ∷ list) name entry
      here same is =
          by_first s h stands (λ (one : Option Entry). one ≡ Some entry → IsBuiltAs s h (build ∷ list) name entry) build held
          (first_of s h stands build list held entries e)
          (λ off bad. absurd (cc bad))
          (λ one tells at_one.
          let equal : one ≡ entry = cc in
          record {
            build = build;
            found = ap (λ (b : Bool). cond b (Some build) (build_in list name)) (eq-eqb build.name name (sym (eqb-true name build.name same)));
            same_name = sym (eqb-true name build.name same);
            outline_is = sym (ap outline equal) ∙ tells.outline_is;
          })
          is

      go : (b : Bool) → (name == build.name) ≡ b → (found : Option ℕ) → number_of name (map (λ (one : Build). one.name) list) ≡ found
          → option_and_then (entry_at (held ∷ entries)) (cond b (Some 0) (option_map (λ (number : ℕ). number + 1) found)) ≡ Some entry
          → (option_and_then (entry_at entries) (number_of name (map (λ (one : Build). one.name) list)) ≡ Some entry → IsBuiltAs s h list name entry)
          → IsBuiltAs s h (build ∷ list) name entry
      go true same found there is rest = here same is
      go false same None there is rest = absurd (cc is)
      go false same (Some number) there is rest =
          let next : number + 1 ≡ suc number = omega arith in
          let later : entry_at entries number ≡ Some entry = subst (λ (n : ℕ). entry_at (held ∷ entries) n ≡ Some entry) next is in
          one_more build list same (rest (ap (option_and_then (entry_at entries)) there ∙ later))

-- entries and histories call the same statuses broken
broken_so : (status : Status) → is_broken status ≡ is_broken_status status
broken_so statuses.InvalidArguments = refl
broken_so statuses.OutOfMemory = refl
broken_so statuses.FileWriteFailed = refl
broken_so statuses.SourceDied = refl
broken_so statuses.ReferencedBlobBroken = refl
broken_so statuses.ReferencedFileUnavailable = refl
broken_so status = refl

module _ (s : Session) (h : History) (stands : ℕ → Bool) (parts : Parts) (told : Option (List Change)) (table : HandleTable)
    (between : Between s h stands parts told table) (name : ℕ) (entry : Entry) (at : entry_of parts.book name ≡ Some entry) where
  pub built : IsBuiltAs s h (builds (page_limit s) h) name entry
  built =
      entry_built s h stands name entry (builds (page_limit s) h) parts.book.entries between.contents.outlines_stand
      (ap (λ (names : List ℕ). option_and_then (entry_at parts.book.entries) (number_of name names)) (sym between.contents.names) ∙ at)

  pub size_told : entry.size ≡ size_in (builds (page_limit s) h) name
  size_told =
      ap (λ (o : Outline). o.size) built.outline_is
      ∙ sym (ap (λ (o : Option Build). option_map_or (λ (build : Build). (outline_of s h build).size) o 0) built.found)

  pub kind_told : entry.kind ≡ kind_in (builds (page_limit s) h) name
  kind_told =
      ap (λ (o : Outline). o.kind) built.outline_is ∙ sym (ap (λ (o : Option Build). option_map_or (λ (build : Build). build.kind) o []) built.found)

  status_told : entry.status ≡ status_of s h name
  status_told =
      ap (λ (o : Outline). o.status) built.outline_is
      ∙ ap (λ (n : ℕ). unwrap_or (ended h n) (pending_status s h built.build)) built.same_name
      ∙ sym (ap (λ (o : Option Build). unwrap_or (ended h name) (option_map_or (pending_status s h) o statuses.PendingTransport)) built.found)

  -- what stands there is broken where the blob is
  pub broken_told : is_broken entry.status ≡ was_broken h name
  broken_told = ap is_broken status_told ∙ by (ended h name)
    where
      pending_by : (waits all : Bool)
          → is_broken (if waits then statuses.PendingQuota else (if all then statuses.PendingReferencedBlobs else statuses.PendingTransport)) ≡ false
      pending_by true all = refl
      pending_by false true = refl
      pending_by false false = refl

      pending : (found : Option Build) → is_broken (option_map_or (pending_status s h) found statuses.PendingTransport) ≡ false
      pending None = refl
      pending (Some build) = pending_by (is_waiting h build) (has_all s.limits h build)

      by : (found : Option Status)
          → is_broken (unwrap_or found (option_map_or (pending_status s h) (build_in (builds (page_limit s) h) name) statuses.PendingTransport))
          ≡ option_map_or is_broken_status found false
      by None = pending (build_in (builds (page_limit s) h) name)
      by (Some status) = broken_so status

  -- what is told is what the history says
  pub stat_accepted : (renderer : RendererId) → IsAccepted s h (events.Stat renderer name) (answers.Told name entry.size entry.kind entry.status ∷ [])
  stat_accepted renderer =
      inl (ap (λ (size : ℕ). answers.Told name size entry.kind entry.status ∷ []) size_told
      ∙ ap (λ (kind : List ℕ). answers.Told name (size_in (builds (page_limit s) h) name) kind entry.status ∷ []) kind_told
      ∙ ap (λ (status : Status).
      answers.Told name (size_in (builds (page_limit s) h) name) (kind_in (builds (page_limit s) h) name) status ∷ []) status_told)
