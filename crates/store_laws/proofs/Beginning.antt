-- A store that has heard nothing stands for what comes after the line of the limits.
use Rattle.std.proofs.Common.{ℕ, false, List, Option, refl}
use Rattle.data_handles.specs.Table.{Table as HandleTable}
use Rattle.page_disk.specs.declared.change.Change.{Change}
use Rattle.blob_model.specs.History.{start}
use Rattle.blob_model.specs.Live.{is_live}
use Rattle.blob_model.specs.Session.{Session, page_limit}
use Rattle.blob_model.proofs.Lists.{false_true}
use Rattle.store_laws.specs.LineLaws.{counted, new_parts}
use Rattle.store_laws.specs.Stands.{ContentsStand, Parts, Stands}
use Rattle.store_laws.specs.Tables.{DiskStands, HandlesStand}

module _ (s : Session) where
  abbrev new : Parts
  new = counted (new_parts s.limits s.version)

  new_contents : ContentsStand s start (is_live (page_limit s) start) new.book new.shares new.rows new.quota new.pages new.recent
  new_contents = record {
    names = refl;
    outlines_stand = refl;
    marks = tt;
    rows_stand = refl;
    items = record { each = λ slot. tt; apart = λ one other number here there. absurd (cc here) };
    entries = record { each = tt; written = tt };
    waiting = refl;
    memory_limit = refl;
    page_files_stand = record {
      same_limit = refl;
      sheets = refl;
      slots = tt;
      reserved = refl;
      job = refl;
      job_slots = tt;
      job_lengths = tt;
      same_jobs = refl;
      same_paging = refl;
    };
    recent = λ on. refl;
  }

  pub new_stands : (told : Option (List Change)) (table : HandleTable) → DiskStands s start told
      → HandlesStand s.outside.slots (λ (k : ℕ). false) (λ (k : ℕ). false) table → Stands s start new told table
  new_stands told table disk handles = record {
    between = record {
      same_limits = refl;
      same_version = refl;
      contents = new_contents;
      tables = record {
        renderers = record { spawned = λ number. refl; many = refl; living = λ number. refl; counts = λ number blob. refl };
        urls_stand = record { each = λ text. refl; many = refl };
        files_stand = record { states = λ name. refl; stamps = λ name. refl; many = refl };
        readers_stand = record { each = λ number. refl; many = refl };
      };
      handles = handles;
      claims = λ k is. absurd (false_true is);
      disk_stands = disk;
      same_lines = refl;
      same_pieces = refl;
      same_weight = refl;
    };
    emptied = tt;
    reaches = record { held = refl; slots = λ k. refl; used = refl; charged = refl; many = refl };
  }
