-- Entries, items and charges stand for the history with a new blob.
use Rattle.std.proofs.Common.{◌≡◌, ⊎_elim, ℕ, ◌==◌, ◌||◌, Bool, true, false, List, [], ◌∷◌, ◌++◌, map, length, refl, ap, subst, sym, ◌∙◌, Option, Some, None, cond}
use Rattle.std.specs.Prelude.{filter, is_some, IfSome}
use Rattle.std.specs.Option.{option_map}
use Rattle.std.specs.List.{AllByRecursion}
use Rattle.std.proofs.lemmas.Bool.{eqb-true, eq-eqb}
use Rattle.std.proofs.lemmas.List.{map-append, length-map}
use Rattle.std.proofs.lemmas.List.Elements.{filter-append}
use Rattle.blob_words.specs.declared.status.Status.{Status}
use Rattle.item_shares.specs.declared.shares.Share.{Share}
use Rattle.item_shares.specs.Weights.{weights}
use Rattle.blob_entries.specs.Book.{Book, book_of}
use Rattle.blob_entries.specs.Statuses.{is_pending}
use Rattle.blob_entries.specs.declared.entry.Entry.{Entry}
use Rattle.page_files.specs.Files.{Files}
use Rattle.quota_queue.specs.Queue.{Queue}
use Rattle.blob_model.specs.Builds.{Build, builds, size}
use Rattle.blob_model.specs.History.{History}
use Rattle.blob_model.specs.Live.{has_source}
use Rattle.blob_model.specs.Order.{AreOrdered, named}
use Rattle.blob_model.specs.Parts.{own_bytes, sources}
use Rattle.blob_model.specs.Pieces.{pieces}
use Rattle.blob_model.specs.Session.{Session, page_limit}
use Rattle.blob_model.specs.Standing.{is_unfinished}
use Rattle.blob_model.specs.Waits.{is_waiting, waits}
use Rattle.blob_model.proofs.Lists.{all_members, any_parts, false_true, for_each, or_cases}
use Rattle.registry_laws.specs.Agree.{Beside, breaks_as, source_names}
use Rattle.store_laws.specs.BuildLaws.{now_waiting, Adds, ContentsGrow, AreAdded, AreListed, IsEntered}
use Rattle.store_laws.specs.LineLaws.{AreUnmarked}
use Rattle.store_laws.specs.Outlines.{Outline, outline, outline_of, IsMarkedRight}
use Rattle.store_laws.specs.PageFiles.{PageFacts, PagesStand}
use Rattle.store_laws.specs.Recipes.{EntryStands, RowsBeside}
use Rattle.store_laws.specs.Rows.{AreWritten, Row, bare, row_of}
use Rattle.store_laws.specs.Stands.{ContentsStand}
use Rattle.store_laws.specs.Uses.{facts_of, own_pieces}
use Rattle.store_laws.specs.ReachLaws.{IsAtRest}
use Rattle.store_laws.specs.Weights.{reserved_weight}
use Rattle.store_laws.proofs.Paired.{AreOutlined, IsTold, by_first, first_of, pending_now, rest_of}
use Rattle.store_laws.proofs.Unmarked.{unmarked_right}
use Rattle.store_laws.proofs.GrownLists.{beside_both, beside_more, filter-each, map-more, rows_each}
use Rattle.store_laws.proofs.Growing.{IsOld, each_old, entry_still, other, pages_still, order_same, placed_now, row_same, status_same, waiting_same, written_still}

module _ (s : Session) (h : History) (stands : ℕ → Bool) (book : Book) (shares : List (Option Share)) (rows : List (Option Row)) (quota : Queue)
    (files : Files) (order : List (ℕ × ℕ)) (contents : ContentsStand s h stands book shares rows quota files order) (unmarked : AreUnmarked book.entries)
    (rest : IsAtRest (page_limit s) h) (listed : AreListed (page_limit s) h) (later : History) (new : Build) (adds : Adds s h later new) where
  abbrev blobs : List Build
  blobs = builds (page_limit s) h

  -- a blob of before whose entry takes bytes from blobs of before
  abbrev IsReady : Build → Option Entry → Type 0
  IsReady build held = IsOld s h later new adds build × IfSome held (λ (entry : Entry). is_pending entry.status ≡ true
      → AllByRecursion (λ (name : ℕ). named name blobs ≡ true) (source_names entry.recipe))

  abbrev Fine : Build → Option Entry → Type 0
  Fine build held = EntryStands blobs (pieces (page_limit s) h) shares (own_pieces (page_limit s) h) build held

  are_ready : (earlier list : List Build) (entries : List (Option Entry)) → AreOrdered earlier list
      → AllByRecursion (λ (build : Build). is_some build.plan ≡ false → is_unfinished h build.name ≡ false) list
      → ((name : ℕ) → named name earlier ≡ true → named name blobs ≡ true) → AllByRecursion (λ (build : Build). named build.name blobs ≡ true) list
      → AreOutlined s h stands list entries → Beside Fine list entries → Beside IsReady list entries
  are_ready earlier [] [] ordered planned wide here told fine = tt
  are_ready earlier [] (held ∷ entries) ordered planned wide here told fine = absurd fine
  are_ready earlier (build ∷ list) [] ordered planned wide here told fine = absurd fine
  are_ready earlier (build ∷ list) (held ∷ entries) ordered planned wide here told fine = (
    (
      here.0,
      by_first s h stands
          (λ (one : Option Entry). Fine build one → IfSome one (λ (entry : Entry). is_pending entry.status ≡ true
          → AllByRecursion (λ (name : ℕ). named name blobs ≡ true) (source_names entry.recipe))) build held
          (first_of s h stands build list held entries told) (λ off is. tt) one fine.0,
    ),
    are_ready (earlier ++ build ∷ []) list entries ordered.2 planned.1 wider here.1 (rest_of s h stands build list held entries told) fine.1,
  )
    where
      wider : (name : ℕ) → named name (earlier ++ build ∷ []) ≡ true → named name blobs ≡ true
      wider name is =
          ⊎_elim (wide name)
          (λ (new_one : ((build.name == name) || false) ≡ true).
          ⊎_elim (λ (same : (build.name == name) ≡ true). subst (λ (n : ℕ). named n blobs ≡ true) (eqb-true build.name name same) here.0)
          (λ (no_more : false ≡ true). absurd (false_true no_more)) (or_cases (build.name == name) false new_one))
          (any_parts (λ (each : Build). each.name == name) earlier (build ∷ []) is)

      has_plan : is_unfinished h build.name ≡ true → is_some build.plan ≡ true
      has_plan begun = go (is_some build.plan) refl
        where
          go : (b : Bool) → is_some build.plan ≡ b → b ≡ true
          go true at = refl
          go false at = absurd (false_true (sym (planned.0 at) ∙ begun))

      one : (entry : Entry) → IsTold s h stands (build, entry) → Fine build (Some entry) → is_pending entry.status ≡ true
          → AllByRecursion (λ (name : ℕ). named name blobs ≡ true) (source_names entry.recipe)
      one entry tells fine pending =
          let begun = sym (pending_now s h build (rest.ends build.name)) ∙ ap is_pending (sym (ap (λ (o : Outline). o.status) tells.outline_is)) ∙ pending in
          subst (λ (list : List ℕ). AllByRecursion (λ (name : ℕ). named name blobs ≡ true) list) (sym (fine.sources pending))
          (for_each (λ (name : ℕ). has_source build name ≡ true) (λ (name : ℕ). named name blobs ≡ true) (sources build.parts)
          (λ name has. wide name (ordered.1 name (has_plan begun) has)) (all_members (sources build.parts)))

  ready : Beside IsReady blobs book.entries
  ready =
      are_ready [] blobs book.entries rest.ordered rest.planned (λ name is. absurd (false_true is)) (each_old s h later new adds)
      contents.outlines_stand contents.entries.each

  module _ (entry : Entry) (row : Row) (now : List (Option Share))
      (come : AreAdded (pieces (page_limit s) later) (facts_of s later) (length (pieces (page_limit s) h)) shares now)
      (entered : IsEntered s later new now entry row) where
    -- what stands of the blobs of before and of the new one
    stood_more : {Y : Type 0} (f g : Build → Y) → ((build : Build) → IsOld s h later new adds build → f build ≡ g build)
        → map (λ (build : Build). cond ((new.name == build.name) || stands build.name) (Some (f build)) None) (builds (page_limit s) later)
        ≡ map (λ (build : Build). cond (stands build.name) (Some (g build)) None) blobs ++ Some (f new) ∷ []
    stood_more {Y} f g same =
        ap (map (λ (build : Build). cond ((new.name == build.name) || stands build.name) (Some (f build)) None)) adds.blobs
        ∙ map-more (λ (build : Build). cond ((new.name == build.name) || stands build.name) (Some (f build)) None)
        (λ (build : Build). cond (stands build.name) (Some (g build)) None) blobs new (Some (f new))
        (for_each (IsOld s h later new adds)
        (λ (build : Build). cond {A = Option Y} ((new.name == build.name) || stands build.name) (Some (f build)) None ≡ cond (stands build.name)
        (Some (g build)) None) blobs
        (λ build member. λ i. cond {A = Option Y} (other s h later new adds build.name member i || stands build.name) (Some (same build member i)) None)
        (each_old s h later new adds))
        (λ i. cond {A = Option Y} (eq-eqb new.name new.name refl i || stands new.name) (Some (f new)) None)

    waits_now : map {B = ℕ × ℕ} (λ (build : Build). (build.name, own_bytes build.parts)) (waits (page_limit s) later)
        ≡ map {B = ℕ × ℕ} (λ (build : Build). (build.name, own_bytes build.parts)) (waits (page_limit s) h)
        ++ cond (is_waiting later new) ((new.name, own_bytes new.parts) ∷ []) []
    waits_now =
        ap (λ (list : List Build). map {B = ℕ × ℕ} (λ (build : Build). (build.name, own_bytes build.parts)) (filter (is_waiting later) list)) adds.blobs
        ∙ ap (map {B = ℕ × ℕ} (λ (build : Build). (build.name, own_bytes build.parts))) (filter-append (is_waiting later) blobs (new ∷ []))
        ∙ map-append {B = ℕ × ℕ} (λ (build : Build). (build.name, own_bytes build.parts)) (filter (is_waiting later) blobs)
        (filter (is_waiting later) (new ∷ []))
        ∙ (λ i. map {B = ℕ × ℕ} (λ (build : Build). (build.name, own_bytes build.parts)) (filter-each (is_waiting later) (is_waiting h) blobs all_same i)
        ++ last (is_waiting later new) i)
      where
        all_same : AllByRecursion (λ (build : Build). is_waiting later build ≡ is_waiting h build) blobs
        all_same =
            for_each (IsOld s h later new adds) (λ (build : Build). is_waiting later build ≡ is_waiting h build) blobs (waiting_same s h later new adds)
            (each_old s h later new adds)

        last : (b : Bool) → map {B = ℕ × ℕ} (λ (build : Build). (build.name, own_bytes build.parts)) (cond b (new ∷ []) [])
            ≡ cond b ((new.name, own_bytes new.parts) ∷ []) []
        last true = refl
        last false = refl

    as_many : length rows ≡ length blobs
    as_many =
        sym (length-map rows (option_map bare)) ∙ ap (λ (list : List (Option Row)). length list) contents.rows_stand
        ∙ length-map blobs (λ (build : Build). cond {A = Option Row} (stands build.name) (Some (row_of s h build)) None)

    grown : (used : ℕ)
        → ContentsStand s later (λ (name : ℕ). (new.name == name) || stands name)
        (book_of (book.names ++ new.name ∷ []) (book.entries ++ Some entry ∷ [])) now (rows ++ Some row ∷ [])
        (record quota { used = used; waiting = now_waiting later new quota.waiting }) (record files { reserved = weights reserved_weight now }) order
    grown used = record {
      names = ap (λ (list : List ℕ). list ++ new.name ∷ []) contents.names ∙ sym (map-append (λ (build : Build). build.name) blobs (new ∷ []))
          ∙ ap (map (λ (build : Build). build.name)) (sym adds.blobs);
      outlines_stand = map-append (option_map outline) book.entries (Some entry ∷ []) ∙ (λ i. contents.outlines_stand i ++ Some (entered.outline_is i) ∷ [])
          ∙ sym (stood_more (outline_of s later) (outline_of s h)
          (λ build member. λ i. record {
            owner = build.builder;
            size = size build;
            kind = build.kind;
            status = status_same s h later new adds build member i;
          }));
      marks = subst (λ (list : List Build). Beside (IsMarkedRight s later) list (book.entries ++ Some entry ∷ [])) (sym adds.blobs)
          (beside_more (IsMarkedRight s later) blobs book.entries new (Some entry)
          (unmarked_right s h later blobs book.entries contents.marks unmarked)
          (λ pending. subst (λ (o : Option Status). IfSome o (λ (why : Status). breaks_as s later new ≡ Some why)) (sym entered.unmarked) tt));
      rows_stand = map-append (option_map bare) rows (Some row ∷ []) ∙ (λ i. contents.rows_stand i ++ Some (entered.row_is i) ∷ [])
          ∙ sym (stood_more (row_of s later) (row_of s h) (row_same s h later new adds));
      items = record { each = placed_now s h later new adds listed shares now contents.items.each come; apart = come.apart };
      entries = record {
        each = subst
            (λ (list : List Build). Beside (EntryStands (builds (page_limit s) later) (pieces (page_limit s) later) now (own_pieces (page_limit s) later)) list
            (book.entries ++ Some entry ∷ [])) (sym adds.blobs)
            (beside_more (EntryStands (builds (page_limit s) later) (pieces (page_limit s) later) now (own_pieces (page_limit s) later)) blobs book.entries new
            (Some entry)
            (beside_both IsReady Fine (EntryStands (builds (page_limit s) later) (pieces (page_limit s) later) now (own_pieces (page_limit s) later)) blobs
            book.entries (entry_still s h later new adds listed shares now contents.items.each come) ready contents.entries.each) entered.stands);
        written = subst
            (λ (list : List Build). RowsBeside (λ (build : Build) (one : Row). AreWritten now (own_pieces (page_limit s) later build.name) one.coming) list
            (rows ++ Some row ∷ [])) (sym adds.blobs)
            (rows_each (IsOld s h later new adds) (λ (build : Build) (one : Row). AreWritten shares (own_pieces (page_limit s) h build.name) one.coming)
            (λ (build : Build) (one : Row). AreWritten now (own_pieces (page_limit s) later build.name) one.coming) blobs rows new row as_many
            (written_still s h later new adds listed shares now contents.items.each come) (each_old s h later new adds) contents.entries.written entered.slots);
      };
      waiting = ap (λ (list : List (ℕ × ℕ)). list ++ cond (is_waiting later new) ((new.name, own_bytes new.parts) ∷ []) []) contents.waiting ∙ sym waits_now;
      memory_limit = contents.memory_limit;
      page_files_stand = subst
          (λ (facts : PageFacts). PagesStand (pieces (page_limit s) later) facts s.limits.disk now (record files { reserved = weights reserved_weight now }))
          (sym adds.facts) (pages_still s h later new adds listed shares now contents.items.each come s.limits.disk files contents.page_files_stand);
      recent = λ on. contents.recent (sym (ap (λ (facts : PageFacts). facts.paging) adds.facts) ∙ on)
          ∙ sym (order_same s h later new adds listed shares now contents.items.each come rows row as_many);
    }

pub contents_grow : ContentsGrow
contents_grow s h stands book shares rows quota files order contents unmarked rest listed later new adds entry row now come entered used =
    grown s h stands book shares rows quota files order contents unmarked rest listed later new adds entry row now come entered used
