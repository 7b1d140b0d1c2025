-- What the plain store finds is what the history has.
use Rattle.std.proofs.Common.{◌≡◌, ℕ, ◌==◌, Bool, true, false, ◌||◌, List, [], ◌∷◌, length, map, filter, Option, None, Some, refl, sym, ◌∙◌, ap, ⊎_elim}
use Rattle.std.specs.Prelude.{find, is_some}
use Rattle.std.specs.Option.{option_map, option_map_or, option_copied}
use Rattle.std.specs.Borrow.{Bor}
use Rattle.std.specs.List.{list_any}
use Rattle.std.proofs.lemmas.Bool.{cases_Bool, eqb-true, or_parts, or_left}
use Rattle.std.proofs.lemmas.List.FromFn.{length-map-range_with_len}
use Rattle.blob_words.specs.declared.limits.Limits.{Limits}
use Rattle.blob_words.specs.declared.number.ReaderId.{ReaderId}
use Rattle.blob_words.specs.declared.number.RendererId.{RendererId}
use Rattle.replay_run.specs.declared.store.Store.{Store}
use Rattle.replay_run.specs.declared.store.reader.Reader.{Reader}
use Rattle.replay_run.specs.History.{History}
use Rattle.replay_run.specs.Builds.{Build, builds, build_of, is_built, sent, cells, size_of}
use Rattle.replay_run.specs.Readers.{OpenReader, readers}
use Rattle.replay_run.specs.Live.{is_spawned, holder, is_holder, has_handle, is_read, is_live}
use Rattle.replay_run.specs.Shelf.{blob_at, is_held_by, is_held, bytes_in}
use Rattle.replay_run.specs.Open.{reader_at, some_reads}
use Rattle.replay_run.specs.Stands.{Stands, blob_of, reader_of}

-- ---- lists

pub find_passes : {X : Type 0} (p : X → Bool) (xs : List X) (x : X) → find p xs ≡ Some x → p x ≡ true
find_passes p [] x found = cc
find_passes p (y ∷ ys) x found =
    ⊎_elim
    (λ (here : p y ≡ true). let same : Some y ≡ Some x = rw here at found in let is : y ≡ x = cc in ap p (sym is) ∙ here)
    (λ (there : p y ≡ false). find_passes p ys x (rw there at found))
    (cases_Bool (p y))

pub find_none : {X : Type 0} (p : X → Bool) (xs : List X) → find p xs ≡ None → list_any p xs ≡ false
find_none p [] none = refl
find_none p (x ∷ xs) none =
    ⊎_elim
    (λ (here : p x ≡ true). let wrong : Some x ≡ None = rw here at none in cc)
    (λ (there : p x ≡ false). rw there (find_none p xs (rw there at none)))
    (cases_Bool (p x))

pub some-find : {X : Type 0} (p : X → Bool) (xs : List X) → is_some (find p xs) ≡ list_any p xs
some-find p [] = refl
some-find p (x ∷ xs) = ⊎_elim (λ (here : p x ≡ true). rw here refl) (λ (there : p x ≡ false). rw there (some-find p xs)) (cases_Bool (p x))

pub find-map : {X Y : Type 0} (f : X → Y) (p : Y → Bool) (xs : List X) → find p (map f xs) ≡ option_map f (find (λ x. p (f x)) xs)
find-map f p [] = refl
find-map f p (x ∷ xs) = ⊎_elim (λ (here : p (f x) ≡ true). rw here refl) (λ (there : p (f x) ≡ false). rw there (find-map f p xs)) (cases_Bool (p (f x)))

pub any-map : {X Y : Type 0} (f : X → Y) (p : Y → Bool) (xs : List X) → list_any p (map f xs) ≡ list_any (λ x. p (f x)) xs
any-map f p [] = refl
any-map f p (x ∷ xs) = ap (λ b. p (f x) || b) (any-map f p xs)

pub is_some-copied : {X : Type 0} (o : Option (Bor X)) → is_some (option_copied o) ≡ is_some o
is_some-copied None = refl
is_some-copied (Some x) = refl

-- ---- the blobs

module _ (l : Limits) (h : History) (name : ℕ) where
  abbrev live : Build → Bool
  live build = is_live h build.name

  abbrev here : Build → Bool
  here build = name == build.name

  -- a live blob has its row
  rows_at-live : is_live h name ≡ true → (some : List Build) → blob_at (map (blob_of l h) (filter live some)) name ≡ option_map (blob_of l h) (find here some)
  rows_at-live alive [] = refl
  rows_at-live alive (build ∷ some) =
      ⊎_elim
      (
      λ (same : (name == build.name) ≡ true).
      let kept : is_live h build.name ≡ true = ap (is_live h) (sym (eqb-true name build.name same)) ∙ alive in
      rw (kept, same) refl
      )
      (
      λ (other : (name == build.name) ≡ false).
      ⊎_elim
      (λ (kept : is_live h build.name ≡ true). rw (kept, other) (rows_at-live alive some))
      (λ (gone : is_live h build.name ≡ false). rw (gone, other) (rows_at-live alive some))
      (cases_Bool (is_live h build.name))
      )
      (cases_Bool (name == build.name))

  -- a blob that isn't live has none
  rows_at-dead : is_live h name ≡ false → (some : List Build) → blob_at (map (blob_of l h) (filter live some)) name ≡ None
  rows_at-dead dead [] = refl
  rows_at-dead dead (build ∷ some) =
      ⊎_elim
      (
      λ (same : (name == build.name) ≡ true).
      let gone : is_live h build.name ≡ false = ap (is_live h) (sym (eqb-true name build.name same)) ∙ dead in
      rw gone (rows_at-dead dead some)
      )
      (
      λ (other : (name == build.name) ≡ false).
      ⊎_elim
      (λ (kept : is_live h build.name ≡ true). rw (kept, other) (rows_at-dead dead some))
      (λ (gone : is_live h build.name ≡ false). rw gone (rows_at-dead dead some))
      (cases_Bool (is_live h build.name))
      )
      (cases_Bool (name == build.name))

-- the bytes that were sent for the blob of this name
abbrev pub sent_of : History → ℕ → List ℕ
sent_of h name = option_map_or sent (build_of h name) []

size_in : (o : Option Build) → length (option_map_or cells o []) ≡ length (option_map_or sent o [])
size_in None = refl
size_in (Some build) = length-map-range_with_len (λ (index : ℕ). record { blob = build.name; index = index }) 0 (length (sent build))

pub size_of-sent : (h : History) (name : ℕ) → size_of h name ≡ length (sent_of h name)
size_of-sent h name = size_in (build_of h name)

nobody : (renderer : RendererId) (o : Option RendererId) → is_some o ≡ false → is_holder renderer o ≡ false
nobody renderer None none = refl
nobody renderer (Some holding) none = cc

module _ (l : Limits) (s : Store) (h : History) (stands : Stands l s h) where
  pub blob_at-live : (name : ℕ) → is_live h name ≡ true → blob_at s.shelf.blobs name ≡ option_map (blob_of l h) (build_of h name)
  blob_at-live name alive = ap (λ blobs. blob_at blobs name) stands.same_blobs ∙ rows_at-live l h name alive (builds h)

  pub blob_at-dead : (name : ℕ) → is_live h name ≡ false → blob_at s.shelf.blobs name ≡ None
  blob_at-dead name dead = ap (λ blobs. blob_at blobs name) stands.same_blobs ∙ rows_at-dead l h name dead (builds h)

  pub is_spawned-keys : (renderer : ℕ) → list_any (λ (known : ℕ). renderer == known) s.renderers.keys ≡ is_spawned h renderer
  is_spawned-keys renderer = ap (list_any (λ (known : ℕ). renderer == known)) stands.same_renderers

  pub is_built-keys : (name : ℕ) → list_any (λ (known : ℕ). name == known) s.names.keys ≡ is_built h name
  is_built-keys name = ap (list_any (λ (known : ℕ). name == known)) stands.same_names ∙ any-map (λ (build : Build). build.name) (λ (known : ℕ). name == known)
      (builds h)

  holds_in : (renderer : RendererId) (name : ℕ) (o : Option Build) → build_of h name ≡ o → is_held_by renderer (option_map (blob_of l h) o)
      ≡ has_handle h renderer name
  holds_in renderer name None found =
      let none : holder h name ≡ None = stands.held name (find_none (λ (build : Build). name == build.name) (builds h) found) in
      sym (ap (is_holder renderer) none)
  holds_in renderer name (Some build) found =
      let same : name ≡ build.name = eqb-true name build.name (find_passes (λ (each : Build). name == each.name) (builds h) build found) in
      ap (λ n. is_holder renderer (holder h n)) (sym same)

  pub has_handle-row : (renderer : RendererId) (name : ℕ) → is_held_by renderer (blob_at s.shelf.blobs name) ≡ has_handle h renderer name
  has_handle-row renderer name =
      ⊎_elim
      (λ (alive : is_live h name ≡ true). ap (is_held_by renderer) (blob_at-live name alive) ∙ holds_in renderer name (build_of h name) refl)
      (
      λ (dead : is_live h name ≡ false).
      ap (is_held_by renderer) (blob_at-dead name dead) ∙ sym (nobody renderer (holder h name)
      (or_parts (is_some (holder h name)) (is_read (readers h) name) dead).0)
      )
      (cases_Bool (is_live h name))

  held_in : (name : ℕ) (o : Option Build) → build_of h name ≡ o → is_held (option_map (blob_of l h) o) ≡ is_some (holder h name)
  held_in name None found =
      let none : holder h name ≡ None = stands.held name (find_none (λ (build : Build). name == build.name) (builds h) found) in
      sym (ap is_some none)
  held_in name (Some build) found =
      let same : name ≡ build.name = eqb-true name build.name (find_passes (λ (each : Build). name == each.name) (builds h) build found) in
      ap (λ n. is_some (holder h n)) (sym same)

  -- whether anybody has a handle
  pub is_held-row : (name : ℕ) → is_held (blob_at s.shelf.blobs name) ≡ is_some (holder h name)
  is_held-row name =
      ⊎_elim
      (λ (alive : is_live h name ≡ true). ap is_held (blob_at-live name alive) ∙ held_in name (build_of h name) refl)
      (λ (dead : is_live h name ≡ false). ap is_held (blob_at-dead name dead) ∙ sym (or_parts (is_some (holder h name)) (is_read (readers h) name) dead).0)
      (cases_Bool (is_live h name))

  bytes_of_row : (o : Option Build) → bytes_in (option_map (blob_of l h) o) ≡ option_map_or sent o []
  bytes_of_row None = refl
  bytes_of_row (Some build) = refl

  pub bytes-row : (name : ℕ) → is_live h name ≡ true → bytes_in (blob_at s.shelf.blobs name) ≡ sent_of h name
  bytes-row name alive = ap bytes_in (blob_at-live name alive) ∙ bytes_of_row (build_of h name)

  pub is_read-rows : (name : ℕ) → some_reads s.readers name ≡ is_read (readers h) name
  is_read-rows name = ap (λ all. some_reads all name) stands.same_readers ∙ any-map reader_of (λ (reader : Reader). name == reader.blob) (readers h)

  pub reader_at-rows : (number : ReaderId) → reader_at s.readers number
      ≡ option_map reader_of (find (λ (each : OpenReader). number.0 == each.number.0) (readers h))
  reader_at-rows number = ap (λ all. reader_at all number) stands.same_readers ∙ find-map reader_of (λ (reader : Reader). number.0 == reader.number.0)
      (readers h)

-- who has a handle keeps the blob
is_some-holder : (renderer : RendererId) (o : Option RendererId) → is_holder renderer o ≡ true → is_some o ≡ true
is_some-holder renderer None holds = cc
is_some-holder renderer (Some holding) holds = refl

pub live-handle : (h : History) (renderer : RendererId) (name : ℕ) → has_handle h renderer name ≡ true → is_live h name ≡ true
live-handle h renderer name holds = or_left (is_some (holder h name)) (is_read (readers h) name) (is_some-holder renderer (holder h name) holds)
