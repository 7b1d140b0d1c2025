-- The parts stand for the history in which a job was lost.
use Rattle.std.proofs.Common.{◌≡◌, ℕ, ◌+◌, ◌==◌, Bool, true, false, List, Option, Some, None, cond, refl, ap, sym, ◌∙◌}
use Rattle.std.specs.Option.{option_map, option_map_or}
use Rattle.blob_words.specs.declared.number.JobNo.{JobNo}
use Rattle.session_script.specs.declared.event.Event.TheVariants as events
use Rattle.answer_text.specs.declared.answer.Answer.TheVariants as answers
use Rattle.item_shares.specs.declared.shares.Share.{Share}
use Rattle.page_files.specs.Files.{is_in_flight, turned_off, Files}
use Rattle.page_files.specs.declared.job.Job.{Job}
use Rattle.blob_model.specs.History.{heard, History}
use Rattle.blob_model.specs.Jobs.{in_flight, without_job, Job as JobSaid}
use Rattle.blob_model.specs.Builds.{builds}
use Rattle.blob_model.specs.Pieces.{pieces}
use Rattle.blob_model.specs.Session.{page_limit, Session}
use Rattle.blob_model.proofs.Lists.{false_true}
use Rattle.model_bridges.specs.Bridges.{job_as}
use Rattle.store_laws.specs.Items.{holds_piece}
use Rattle.store_laws.specs.JobLaws.{LostStands}
use Rattle.store_laws.specs.PageFiles.{with_held, PagesStand}
use Rattle.store_laws.specs.Uses.{page_facts_of}
use Rattle.store_laws.proofs.Unmarked.{unmarked_right}

-- the job in flight has the number that the history says
pub flying_same : (is_held : ℕ → Bool) (flying : Option JobSaid) (job : Option Job) (number : JobNo)
    → option_map job_as job ≡ option_map (with_held is_held) flying
    → option_map_or (λ (one : JobSaid). one.number == number.0) flying false ≡ is_in_flight number job
flying_same is_held None None number same = refl
flying_same is_held None (Some other) number same = absurd (cc same)
flying_same is_held (Some one) None number same = absurd (cc same)
flying_same is_held (Some one) (Some other) number same =
    let equal : job_as other ≡ with_held is_held one = cc in
    ap (λ (said : JobSaid). said.number == number.0) (sym equal)

-- and once it has ended there is none
pub none_flies : (flying : Option JobSaid) (number : ℕ) → option_map_or (λ (one : JobSaid). one.number == number) flying false ≡ true
    → without_job number flying ≡ None
none_flies None number flies = refl
none_flies (Some one) number flies = ap (λ (b : Bool). cond {A = Option JobSaid} b None (Some one)) flies

-- nothing is left of it
pages_lost : (s : Session) (h : History) (shares : List (Option Share)) (files : Files) (job : JobNo)
    → PagesStand (pieces (page_limit s) h) (page_facts_of h) s.limits.disk shares files → is_in_flight job files.job ≡ true
    → PagesStand (pieces (page_limit s) h) (page_facts_of (heard h (events.Lost job) (answers.LostJob job))) s.limits.disk shares (turned_off files)
pages_lost s h shares files job stand flies = record {
  same_limit = stand.same_limit;
  sheets = stand.sheets;
  slots = stand.slots;
  reserved = stand.reserved;
  job = sym (ap (option_map (with_held (holds_piece shares)))
      (none_flies (in_flight h) job.0 (flying_same (holds_piece shares) (in_flight h) files.job job stand.job ∙ flies)));
  job_slots = tt;
  job_lengths = tt;
  same_jobs = stand.same_jobs;
  same_paging = refl;
}

pub losing : LostStands
losing s h stands parts told table unmarked between job flies = record {
  same_limits = between.same_limits;
  same_version = between.same_version;
  contents = record {
    names = between.contents.names;
    outlines_stand = between.contents.outlines_stand;
    marks = unmarked_right s h (heard h (events.Lost job) (answers.LostJob job)) (builds (page_limit s) h) parts.book.entries between.contents.marks unmarked;
    rows_stand = between.contents.rows_stand;
    items = between.contents.items;
    entries = between.contents.entries;
    waiting = between.contents.waiting;
    memory_limit = between.contents.memory_limit;
    page_files_stand = pages_lost s h parts.shares parts.pages job between.contents.page_files_stand flies;
    recent = λ on. absurd (false_true on);
  };
  tables = record {
    renderers = between.tables.renderers;
    urls_stand = between.tables.urls_stand;
    files_stand = between.tables.files_stand;
    readers_stand = between.tables.readers_stand;
  };
  handles = between.handles;
  claims = between.claims;
  disk_stands = between.disk_stands;
  same_lines = ap (λ (n : ℕ). n + 1) between.same_lines;
  same_pieces = between.same_pieces;
  same_weight = between.same_weight;
}
