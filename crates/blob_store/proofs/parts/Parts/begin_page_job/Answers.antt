-- The pieces used earliest differ, none is empty, and there is room for them; they are a job then, and in the order of use no more.
use Rattle.std.proofs.Common.{ℕ, ◌<◌, ◌≤◌, nat_eq, map, subst, sym, ap, ◌∙◌, List, None}
use Rattle.std.specs.List.{sum_by, AllByRecursion, IsDistinct}
use Rattle.blob_words.specs.declared.number.PieceNo.{PieceNo}
use Rattle.page_files.specs.Files.{room, with_job}
use Rattle.page_files.specs.Pieces.{named}
use Rattle.blob_store.proofs.PageJobs.{all_here, given_apart, given_long, given_room, held_memory, held_so}
use Rattle.blob_store.proofs.parts.Parts.begin_page_job.Goals as goal

pub at_homes-requires : goal.at_homes-requires
at_homes-requires c = all_here c.args.self.now c.requires.starts c.args.pieces.now c.requires.earliest

pub start_job-requires-clause-apart : goal.start_job-requires-clause-apart
start_job-requires-clause-apart c =
    subst (λ (list : List (PieceNo × ℕ × ℕ)). IsDistinct nat_eq (map (λ (piece : PieceNo × ℕ × ℕ). piece.0.0) list)) (sym c.as_slice.ensures.value)
    (given_apart c.args.self.now c.requires.starts c.args.pieces.now c.requires.earliest c.in-Ok.given.items c.in-Ok.ensures c.victims-apart.ensures.apart)

pub start_job-requires-clause-long : goal.start_job-requires-clause-long
start_job-requires-clause-long c =
    subst (AllByRecursion (λ (piece : PieceNo × ℕ × ℕ). 0 < piece.2)) (sym c.as_slice.ensures.value)
    (given_long c.args.self.now c.requires.starts c.args.pieces.now c.requires.earliest c.in-Ok.given.items c.in-Ok.ensures)

pub start_job-requires-clause-room : goal.start_job-requires-clause-room
start_job-requires-clause-room c =
    subst (λ (list : List (PieceNo × ℕ × ℕ)). sum_by (λ (piece : PieceNo × ℕ × ℕ). piece.2) list ≤ room c.args.self.now.pages)
    (sym c.as_slice.ensures.value)
    (given_room c.args.self.now c.requires.starts c.args.pieces.now c.requires.earliest c.in-Ok.given.items c.in-Ok.ensures)

pub returns-clause-starts : goal.returns-clause-starts
returns-clause-starts c = record {
  list = map named c.in-Ok.given.items;
  numbers_so = held_so c.args.self.now c.requires.starts c.args.pieces.now c.requires.earliest c.in-Ok.given.items c.in-Ok.ensures;
  memory = held_memory c.args.self.now c.requires.starts c.args.pieces.now c.requires.earliest c.in-Ok.given.items c.in-Ok.ensures;
  rest = λ i. record c.args.self.now {
    pages = (c.in-Ok-start_job.ensures.ok.1
        ∙ ap (λ (list : List (PieceNo × ℕ × ℕ)). with_job None (map named list) c.args.self.now.pages) c.as_slice.ensures.value) i;
    recent = c.leave_all.ensures i;
  };
}
