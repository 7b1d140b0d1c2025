-- The first answers, by the tests that the store makes.
use Rattle.std.proofs.Common.{◌≡◌, ℕ, ◌+◌, ◌<◌, ◌≤◌, true, false, ◌||◌, List, [], length, Option, None, Some, refl, arith}
use Rattle.std.specs.Prelude.{flat_map, nat_lt, nat_le, unwrap_or}
use Rattle.std.specs.Option.{option_map}
use Rattle.std.proofs.lemmas.Bool.{le-leb, lt-leb, lt-ltb, le-ltb, or_parts, ltb-false}
use Rattle.session_script.specs.declared.event.Part.{Part}
use Rattle.blob_words.specs.declared.limits.Limits.{Limits}
use Rattle.blob_words.specs.declared.number.ReaderId.{ReaderId}
use Rattle.blob_words.specs.declared.number.RendererId.{RendererId}
use Rattle.answer_text.specs.declared.answer.Answer.TheVariants as answers
use Rattle.answer_text.specs.declared.refusal.Refusal.TheVariants as refusals
use Rattle.replay_run.specs.History.{History}
use Rattle.replay_run.specs.Builds.{builds, is_built, part_bytes, size_of}
use Rattle.replay_run.specs.Readers.{readers, range_end}
use Rattle.replay_run.specs.Live.{is_spawned, has_handle}
use Rattle.replay_run.specs.Pieces.{pieces, build_pieces, memory}
use Rattle.replay_run.specs.Plan.{plan_for}
use Rattle.replay_run.specs.Own.{own_build, own_drop, own_read, is_open, is_unbuilt_read}

module _ (l : Limits) (h : History) (renderer : RendererId) (name : ℕ) (parts : List Part) (spawned : is_spawned h renderer.0 ≡ true) where
  pub build-name_used : is_built h name ≡ true → own_build l h renderer name parts ≡ None
  build-name_used used = rw (spawned, used) refl

  pub build-many : is_built h name ≡ false → 65536 ≤ length (builds h) → own_build l h renderer name parts ≡ None
  build-many new many = let full = le-leb 65536 (length (builds h)) many in rw (spawned, new, full) refl

  module _ (new : is_built h name ≡ false) (few : length (builds h) < 65536) where
    build-few : nat_le 65536 (length (builds h)) ≡ false
    build-few = lt-leb 65536 (length (builds h)) few

    pub build-pieces : 65536 < length (pieces l h) + length (build_pieces l.page (record { name = name; parts = parts })) → own_build l h renderer name parts
        ≡ None
    build-pieces many =
        let full = lt-ltb 65536 (length (pieces l h) + length (build_pieces l.page (record { name = name; parts = parts }))) many in
        rw (spawned, new, build-few, full) refl

    pub build-plan : length (pieces l h) + length (build_pieces l.page (record { name = name; parts = parts })) ≤ 65536
        → own_build l h renderer name parts ≡ option_map answers.Planned (plan_for l (memory l h) (length (flat_map part_bytes parts)))
    build-plan fits =
        let room = le-ltb 65536 (length (pieces l h) + length (build_pieces l.page (record { name = name; parts = parts }))) fits in
        rw (spawned, new, build-few, room) refl

ends_inside : (size off : ℕ) (len : Option ℕ) → off + unwrap_or len 0 ≤ size → range_end size off len ≤ size
ends_inside size off None fits = omega arith
ends_inside size off (Some len) fits = fits

module _ (h : History) (renderer : RendererId) (name : ℕ) (spawned : is_spawned h renderer.0 ≡ true) where
  pub drop-no_handle : has_handle h renderer name ≡ false → own_drop h renderer name ≡ Some (answers.Refused (refusals.NoHandle renderer name))
  drop-no_handle none = rw (spawned, none) refl

  pub drop-good : has_handle h renderer name ≡ true → own_drop h renderer name ≡ Some answers.Good
  drop-good holds = rw (spawned, holds) refl

  module _ (reader : ReaderId) (off : ℕ) (len : Option ℕ) where
    pub read-no_handle : has_handle h renderer name ≡ false → own_read h renderer reader name off len ≡ Some (answers.Refused (refusals.NoHandle renderer name))
    read-no_handle none = rw (spawned, none) refl

    pub read-unbuilt : has_handle h renderer name ≡ true → is_unbuilt_read h reader name off len ≡ true → own_read h renderer reader name off len ≡ None
    read-unbuilt holds unbuilt = rw (spawned, holds, unbuilt) refl

    pub read-opened : has_handle h renderer name ≡ true → is_unbuilt_read h reader name off len ≡ false → own_read h renderer reader name off len
        ≡ Some (answers.Opened reader (size_of h name) [])
    read-opened holds fits = rw (spawned, holds, fits) refl

    -- a read that is built has a free number and a range inside the blob
    pub read-free : is_unbuilt_read h reader name off len ≡ false → is_open h reader ≡ false
    read-free fits = (or_parts (is_open h reader) (nat_lt (size_of h name) (off + unwrap_or len 0))
        (or_parts (is_open h reader || nat_lt (size_of h name) (off + unwrap_or len 0)) (nat_le 4096 (length (readers h))) fits).0).0

    pub read-inside : is_unbuilt_read h reader name off len ≡ false → range_end (size_of h name) off len ≤ size_of h name
    read-inside fits =
        let past = (or_parts (is_open h reader) (nat_lt (size_of h name) (off + unwrap_or len 0))
        (or_parts (is_open h reader || nat_lt (size_of h name) (off + unwrap_or len 0)) (nat_le 4096 (length (readers h))) fits).0).1 in
        ends_inside (size_of h name) off len (ltb-false (size_of h name) (off + unwrap_or len 0) past)
