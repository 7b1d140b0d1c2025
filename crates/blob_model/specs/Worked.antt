-- The words in which worked sessions are written. Own.
use Rattle.std.specs.Prelude.{◌≡◌, ℕ, zero, suc, ◌^◌, ◌&&◌, Bool, true, List, [], ◌∷◌, length, Some, nat_lt, nat_le}
use Rattle.std.specs.List.{AllByRecursion}
use Rattle.std.proofs.Common.{refl}
use Rattle.std.proofs.lemmas.Bool.{and_parts, ltb-true, leb-true}
use Rattle.blob_words.specs.declared.limits.Limits.{Limits}
use Rattle.blob_words.specs.declared.version.Version.{Version}
use Rattle.blob_words.specs.declared.number.RendererId.{RendererId}
use Rattle.blob_words.specs.declared.number.ReaderId.{ReaderId}
use Rattle.session_script.specs.declared.event.Event.{Event}
use Rattle.answer_text.specs.declared.answer.Answer.{Answer}
use Rattle.answer_text.specs.declared.group.Group.{Group}
use Rattle.blob_model.specs.Session.{Outside}
use Rattle.blob_model.specs.Legal.{opening, IsLegal}

-- a worked session: the outside, the version and the limits of its first line, and the groups behind that
pub record Worked : Type 0 where
  pub outside : Outside
  pub version : Version
  pub limits : Limits
  pub groups : List Group

-- its transcript is legal
abbrev pub IsLegalSession : Worked → Type 0
IsLegalSession worked = IsLegal worked.outside (opening worked.version worked.limits ∷ worked.groups)

-- all of these are legal, and none of these is
abbrev pub AllLegal : List Worked → Type 0
AllLegal list = AllByRecursion IsLegalSession list

abbrev pub AllIllegal : List Worked → Type 0
AllIllegal list = AllByRecursion (λ (worked : Worked). IsLegalSession worked → ⊥) list

-- a line with its answers, and the four numbers of the tally behind it
abbrev pub group : Event → List Answer → ℕ → ℕ → ℕ → ℕ → Group
group event answers pieces memory files disk = record {
  event = event;
  answers = answers;
  tally = record
      { pieces = pieces; memory = memory; files = files; disk = disk };
}

abbrev pub renderer : ℕ → RendererId
renderer number = record { 0 = number }

abbrev pub reader : ℕ → ReaderId
reader number = record { 0 = number }

-- no data handle, or one that tells these bytes; and a disk that tells its changes
abbrev pub no_handles : Outside
no_handles = record { slots = []; disk_tells = true }

abbrev pub with_handle : List ℕ → Outside
with_handle bytes = record { slots = record { size = length bytes; bytes = Some bytes; told_whole = refl } ∷ []; disk_tells = true }

-- another group at this place
abbrev pub group_at : ℕ → Group → List Group → List Group
group_at n other [] = []
group_at zero other (group ∷ groups) = other ∷ groups
group_at (suc n) other (group ∷ groups) = group ∷ group_at n other groups

-- the session with another group, counted from the one behind the limits
abbrev pub replaced : ℕ → Group → Worked → Worked
replaced n other worked = record worked { groups = group_at n other worked.groups }

-- whether seven numbers are limits, in three parts: none that has to be above 0 is 0, none is too large, and none passes the memory
abbrev pub are_some : (memory big segment page chunk : ℕ) → Bool
are_some memory big segment page chunk = nat_lt 0 memory && (nat_lt 0 big && (nat_lt 0 segment && (nat_lt 0 page && nat_lt 0 chunk)))

abbrev pub are_bounded : (memory disk inline_max segment page chunk : ℕ) → Bool
are_bounded memory disk inline_max segment page chunk =
    nat_le memory (2 ^ 30)
    && (nat_le disk (2 ^ 40) && (nat_le inline_max (2 ^ 18) && (nat_le segment (2 ^ 18) && (nat_le page (2 ^ 18) && nat_le chunk (2 ^ 16)))))

abbrev pub are_within : (memory big page : ℕ) → Bool
are_within memory big page = nat_le big memory && nat_le page memory

-- the limits of seven numbers, in the order of their line
abbrev pub limits_of : (memory disk big inline_max segment page chunk : ℕ) → are_some memory big segment page chunk ≡ true → are_bounded memory disk inline_max
    segment page chunk ≡ true
    → are_within memory big page ≡ true → Limits
limits_of memory disk big inline_max segment page chunk some bounded within =
    let some_more = and_parts (nat_lt 0 memory) (nat_lt 0 big && (nat_lt 0 segment && (nat_lt 0 page && nat_lt 0 chunk))) some in
    let some_big = and_parts (nat_lt 0 big) (nat_lt 0 segment && (nat_lt 0 page && nat_lt 0 chunk)) some_more.1 in
    let some_segment = and_parts (nat_lt 0 segment) (nat_lt 0 page && nat_lt 0 chunk) some_big.1 in
    let some_page = and_parts (nat_lt 0 page) (nat_lt 0 chunk) some_segment.1 in
    let low_memory = and_parts (nat_le memory (2 ^ 30)) (nat_le disk (2 ^ 40)
    && (nat_le inline_max (2 ^ 18) && (nat_le segment (2 ^ 18) && (nat_le page (2 ^ 18) && nat_le chunk (2 ^ 16))))) bounded in
    let low_disk = and_parts (nat_le disk (2 ^ 40)) (nat_le inline_max (2 ^ 18) && (nat_le segment (2 ^ 18) && (nat_le page (2 ^ 18) && nat_le chunk (2 ^ 16))))
    low_memory.1 in
    let low_inline = and_parts (nat_le inline_max (2 ^ 18)) (nat_le segment (2 ^ 18) && (nat_le page (2 ^ 18) && nat_le chunk (2 ^ 16))) low_disk.1 in
    let low_segment = and_parts (nat_le segment (2 ^ 18)) (nat_le page (2 ^ 18) && nat_le chunk (2 ^ 16)) low_inline.1 in
    let low_page = and_parts (nat_le page (2 ^ 18)) (nat_le chunk (2 ^ 16)) low_segment.1 in
    let fits = and_parts (nat_le big memory) (nat_le page memory) within in
    record {
      memory = memory;
      disk = disk;
      big = big;
      inline_max = inline_max;
      segment = segment;
      page = page;
      chunk = chunk;
      some_memory = ltb-true 0 memory some_more.0;
      memory_bound = leb-true memory (2 ^ 30) low_memory.0;
      disk_bound = leb-true disk (2 ^ 40) low_disk.0;
      some_big = ltb-true 0 big some_big.0;
      big_bound = leb-true big memory fits.0;
      inline_bound = leb-true inline_max (2 ^ 18) low_inline.0;
      some_segment = ltb-true 0 segment some_segment.0;
      segment_bound = leb-true segment (2 ^ 18) low_segment.0;
      some_page = ltb-true 0 page some_page.0;
      page_bound = leb-true page (2 ^ 18) low_page.0;
      page_fits = leb-true page memory fits.1;
      some_chunk = ltb-true 0 chunk some_page.1;
      chunk_bound = leb-true chunk (2 ^ 16) low_page.1;
    }

abbrev pub short_chunks : Limits
short_chunks = limits_of 64 64 32 16 4 8 2 refl refl refl

abbrev pub plain : Limits
plain = limits_of 64 64 32 16 4 8 8 refl refl refl

abbrev pub short_pages : Limits
short_pages = limits_of 64 64 32 16 4 4 8 refl refl refl

abbrev pub no_disk : Limits
no_disk = limits_of 8 0 8 8 4 8 8 refl refl refl

abbrev pub small_memory : Limits
small_memory = limits_of 8 64 8 8 4 8 8 refl refl refl

abbrev pub nine_on_disk : Limits
nine_on_disk = limits_of 8 9 8 8 4 8 8 refl refl refl

abbrev pub eight_on_disk : Limits
eight_on_disk = limits_of 8 8 8 8 4 8 8 refl refl refl

abbrev pub seven_on_disk : Limits
seven_on_disk = limits_of 8 7 8 8 4 8 8 refl refl refl

abbrev pub long_pages : Limits
long_pages = limits_of 8 8 4 0 8 8 2 refl refl refl

abbrev pub wide : Limits
wide = limits_of 1048576 4194304 524288 4096 65536 65536 65536 refl refl refl
