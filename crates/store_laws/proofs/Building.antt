-- A line that builds adds its blob, and the parts stand for the history with it.
use Rattle.std.proofs.Common.{◌≡◌, ℕ, ◌+◌, ◌==◌, Bool, true, false, List, [], ◌∷◌, ◌++◌, length, refl, ap, subst, sym, ◌∙◌, Option, Some, None, cond, arith, ℤ}
use Rattle.std.specs.Prelude.{is_some, sum_by, IfSome, IsSome}
use Rattle.std.specs.Option.{option_map_or}
use Rattle.std.specs.List.{AllByRecursion, list_any}
use Rattle.std.proofs.lemmas.Bool.{eq-eqb}
use Rattle.blob_words.specs.declared.number.RendererId.{RendererId}
use Rattle.blob_words.specs.declared.status.Status.{Status}
use Rattle.session_script.specs.declared.event.Event.TheVariants as events
use Rattle.session_script.specs.declared.event.Part.{Part}
use Rattle.blob_model.specs.Builds.{Build, built, builds, plan_told, slice_parts}
use Rattle.blob_model.specs.Construct.{build_answer_by, line_status, line_tests}
use Rattle.blob_model.specs.History.{History, heard, history_from, start}
use Rattle.blob_model.specs.Jobs.{Job, in_flight}
use Rattle.blob_model.specs.Order.{named}
use Rattle.blob_model.specs.Pages.{Page, lists, pages}
use Rattle.blob_model.specs.Pieces.{pieces, spans_of}
use Rattle.blob_model.specs.Refusals.{piece_total}
use Rattle.blob_model.specs.Session.{Session, page_limit}
use Rattle.blob_model.specs.Standing.{ended, is_done, is_done_status}
use Rattle.blob_model.proofs.Lists.{all_members, false_true, for_each, or_first, or_second, sum_more}
use Rattle.blob_model.proofs.bytes.Arrivals.{done_came}
use Rattle.blob_model.proofs.bytes.Written.{listed_there}
use Rattle.blob_model.proofs.disk.Stock.{flying, flying_of, is_listed}
use Rattle.blob_model.proofs.kept.NewBlobs.{found_named, tests_fail}
use Rattle.blob_model.proofs.legal.Causes.{IsCaused}
use Rattle.blob_model.proofs.legal.Steps.{caused_from}
use Rattle.blob_model.proofs.legal.Totals.{pieces_counted}
use Rattle.blob_model.proofs.settled.Endings.{some_that}
use Rattle.store_laws.specs.BuildLaws.{Adds, AreListed, AreThere, BuildsAdd, GrownStands, ListedAreThere}
use Rattle.store_laws.specs.Cells.{piece_in}
use Rattle.store_laws.specs.PageFiles.{writes}
use Rattle.store_laws.specs.PageLaws.{numbered_pages}
use Rattle.store_laws.proofs.ContentsGrow.{contents_grow}
use Rattle.store_laws.proofs.PageNumbers.{pages_in_turn}

-- ---- what is listed is there

module _ (s : Session) (h : History) (caused : IsCaused s h) where
  is_there : (number : ℕ) → is_listed (pages h) (flying h) number ≡ true → IsSome (piece_in (pieces (page_limit s) h) number)
  is_there number listed = ap is_some (listed_there s h caused number listed).found

  pages_there : (written : List Page) → ((number : ℕ) → list_any (λ (file : Page). lists file number) written ≡ true
      → IsSome (piece_in (pieces (page_limit s) h) number))
      → AllByRecursion (λ (file : Page). AreThere (pieces (page_limit s) h) file.pieces) written
  pages_there [] there = tt
  pages_there (file ∷ written) there = (
    for_each (λ (number : ℕ). lists file number ≡ true) (λ (number : ℕ). IsSome (piece_in (pieces (page_limit s) h) number)) file.pieces
        (λ number is. there number (or_first (lists file number) (list_any (λ (each : Page). lists each number) written) is)) (all_members file.pieces),
    pages_there written (λ number is. there number (or_second (lists file number) (list_any (λ (each : Page). lists each number) written) is)),
  )

  writes_there : (number : ℕ) (list : List (Option (List ℕ))) → AllByRecursion (λ (file : Page). AreThere (pieces (page_limit s) h) file.pieces)
      (numbered_pages number list)
      → AllByRecursion (λ (write : Option (List ℕ)). IfSome write (AreThere (pieces (page_limit s) h))) list
  writes_there number [] there = tt
  writes_there number (None ∷ list) there = (tt, writes_there (number + 1) list there)
  writes_there number (Some write ∷ list) there = (there.0, writes_there (number + 1) list there.1)

  job_there : (o : Option Job) → in_flight h ≡ o → IfSome o (λ (job : Job). AreThere (pieces (page_limit s) h) job.pieces)
  job_there None at = tt
  job_there (Some job) at =
      for_each (λ (number : ℕ). list_any (λ (each : ℕ). each == number) job.pieces ≡ true) (λ (number : ℕ). IsSome (piece_in (pieces (page_limit s) h) number))
      job.pieces
      (λ number is. is_there number (or_second (list_any (λ (file : Page). lists file number) (pages h)) (list_any (λ (each : ℕ). each == number) (flying h))
      (subst (λ (o : Option Job). list_any (λ (each : ℕ). each == number) (flying_of o) ≡ true) (sym at) is)))
      (all_members job.pieces)

  are_listed : AreListed (page_limit s) h
  are_listed =
      let all_pages = pages_there (pages h)
      (λ number is. is_there number (or_first (list_any (λ (file : Page). lists file number) (pages h)) (list_any (λ (each : ℕ). each == number) (flying h))
      is)) in
      record {
        in_pages = all_pages;
        in_writes = writes_there 0 (writes h)
            (subst (λ (list : List Page). AllByRecursion (λ (file : Page). AreThere (pieces (page_limit s) h) file.pieces) list) (pages_in_turn s h caused)
            all_pages);
        in_job = job_there (in_flight h) refl;
      }

pub listed_are_there : ListedAreThere
listed_are_there s groups legal = are_listed s (history_from start groups) (caused_from s groups legal)

-- ---- a line adds its blob

module _ (s : Session) (h : History) (caused : IsCaused s h) (name : ℕ) (fresh : named name (builds (page_limit s) h) ≡ false) where
  -- a blob that wasn't built isn't done
  not_done : is_done h name ≡ false
  not_done = go (is_done h name) refl
    where
      go : (b : Bool) → is_done h name ≡ b → b ≡ false
      go false at = refl
      go true at =
          let there = ap is_some (done_came s h caused name at).found in
          absurd (false_true (sym fresh ∙ sym (found_named (builds (page_limit s) h) name) ∙ there))

  module _ (why : Status) (unlike : is_done_status why ≡ false) where
    broken_undone : option_map_or is_done_status (cond (name == name) (Some why) (ended h name)) false ≡ false
    broken_undone = ap (λ (b : Bool). option_map_or is_done_status (cond b (Some why) (ended h name)) false) (eq-eqb name name refl) ∙ unlike

    broken_other : (other : ℕ) → (name == other) ≡ false → cond (name == other) (Some why) (ended h other) ≡ ended h other
    broken_other other e = ap (λ (b : Bool). cond b (Some why) (ended h other)) e

  by_build : (renderer : RendererId) (kind : List ℕ) (parts : List Part) (status : Option Status) → IfSome status (λ (why : Status). is_done_status why ≡ false)
      → Adds s h (heard h (events.Build renderer name kind parts) (build_answer_by s h name parts status))
      (built (page_limit s) (builds (page_limit s) h) renderer.0 name kind parts (plan_told (build_answer_by s h name parts status)))
  by_build renderer kind parts None unlike = record {
    blobs = refl;
    fresh = fresh;
    undone = not_done;
    endings = λ other e. refl;
    grants = λ other. refl;
    segments = λ other. refl;
    written = refl;
    facts = refl;
    uses = refl;
  }
  by_build renderer kind parts (Some why) unlike = record {
    blobs = refl;
    fresh = fresh;
    undone = broken_undone why unlike;
    endings = λ other e. broken_other why unlike other e;
    grants = λ other. refl;
    segments = λ other. refl;
    written = refl;
    facts = refl;
    uses = refl;
  }

  by_slice : (renderer : RendererId) (source : ℕ) (from to : Option ℤ) (kind : List ℕ) (parts : List Part)
      → parts ≡ slice_parts (builds (page_limit s) h) source from to → (status : Option Status)
      → IfSome status (λ (why : Status). is_done_status why ≡ false)
      → Adds s h (heard h (events.Slice renderer name source from to kind) (build_answer_by s h name parts status))
      (built (page_limit s) (builds (page_limit s) h) renderer.0 name kind parts (plan_told (build_answer_by s h name parts status)))
  by_slice renderer source from to kind parts is None unlike = record {
    blobs = ap (λ (list : List Part). builds (page_limit s) h
        ++ built (page_limit s) (builds (page_limit s) h) renderer.0 name kind list (plan_told (build_answer_by s h name parts None)) ∷ []) (sym is);
    fresh = fresh;
    undone = not_done;
    endings = λ other e. refl;
    grants = λ other. refl;
    segments = λ other. refl;
    written = refl;
    facts = refl;
    uses = refl;
  }
  by_slice renderer source from to kind parts is (Some why) unlike = record {
    blobs = ap (λ (list : List Part). builds (page_limit s) h
        ++ built (page_limit s) (builds (page_limit s) h) renderer.0 name kind list (plan_told (build_answer_by s h name parts (Some why))) ∷ []) (sym is);
    fresh = fresh;
    undone = broken_undone why unlike;
    endings = λ other e. broken_other why unlike other e;
    grants = λ other. refl;
    segments = λ other. refl;
    written = refl;
    facts = refl;
    uses = refl;
  }

-- no status with which a blob breaks at its line is that of one that is done
never_done : (s : Session) (h : History) (renderer name : ℕ) (parts : List Part)
    → IfSome (line_status s h renderer name parts) (λ (why : Status). is_done_status why ≡ false)
never_done s h renderer name parts = go (line_status s h renderer name parts) refl
  where
    go : (o : Option Status) → line_status s h renderer name parts ≡ o → IfSome o (λ (why : Status). is_done_status why ≡ false)
    go None at = tt
    go (Some why) at = some_that (λ (each : Status). is_done_status each ≡ false) (line_tests s h renderer name parts) why (refl, (refl, (refl, (refl, tt)))) at

pub builds_add : BuildsAdd
builds_add = record {
  by_build = λ s groups renderer name kind parts legal passes.
      let h = history_from start groups in
      let fresh = sym (found_named (builds (page_limit s) h) name) ∙ (tests_fail s h (events.Build renderer name kind parts) passes).1.0 in
      by_build s h (caused_from s groups legal) name fresh renderer kind parts (line_status s h renderer.0 name parts) (never_done s h renderer.0 name parts);
  by_slice = λ s groups renderer name source from to kind legal passes parts is.
      let h = history_from start groups in
      let fresh = sym (found_named (builds (page_limit s) h) name) ∙ (tests_fail s h (events.Slice renderer name source from to kind) passes).1.0 in
      by_slice s h (caused_from s groups legal) name fresh renderer source from to kind parts is (line_status s h renderer.0 name parts)
      (never_done s h renderer.0 name parts);
}

-- ---- all parts

pub grown_stands : GrownStands
grown_stands s h stands parts told table unmarked between rest listed later new adds one_line entry row now come entered renderers tables later_table handles
    claims disk used =
    record {
      same_limits = between.same_limits;
      same_version = between.same_version;
      contents = contents_grow s h stands parts.book parts.shares parts.rows parts.quota parts.pages parts.recent between.contents unmarked rest listed later
          new adds entry row now come entered used;
      tables = tables;
      handles = handles;
      claims = claims;
      disk_stands = disk;
      same_lines = ap (λ (n : ℕ). n + 1) between.same_lines ∙ ap (λ (n : ℕ). n + 1) (sym one_line);
      same_pieces =
          let was = pieces_counted s h in
          let is = pieces_counted s later in
          let sums : piece_total s later ≡ piece_total s h + length (spans_of (page_limit s) new) =
          ap (sum_by (λ (build : Build). length (spans_of (page_limit s) build))) adds.blobs
          ∙ sum_more (λ (build : Build). length (spans_of (page_limit s) build)) (builds (page_limit s) h) new in
          let before = between.same_pieces in
          omega (arith, was, is, sums, before);
      same_weight = ap (λ (n : ℕ). n + new.weight) between.same_weight
          ∙ sym (ap (sum_by (λ (build : Build). build.weight)) adds.blobs ∙ sum_more (λ (build : Build). build.weight) (builds (page_limit s) h) new);
    }
