use Rattle.std.proofs.Common.{Option, ap, subst, sym, ◌∙◌}
use Rattle.std.specs.List.{AllByRecursion}
use Rattle.page_files.specs.declared.job.Job.{Job}
use Rattle.page_files.specs.Files.{left_of, Files}
use Rattle.page_files.specs.Items.{IsMemoryIn}
use Rattle.page_cases.proofs.Many.{all_struck}
use Rattle.page_cases.proofs.many_pieces.strike_many.Goals as goal

pub loop-half-preserved : goal.loop-half-preserved
loop-half-preserved c = record {
  items = subst (λ (job : Option Job). AllByRecursion (IsMemoryIn c.args.shares.now) (left_of job)) (sym (ap (λ (files : Files). files.job) c.strike.ensures))
      (all_struck (IsMemoryIn c.args.shares.now) _ c.loop-half.files.job c.loop-half.invariant.items);
  pages = ap (λ (files : Files). files.pages) c.strike.ensures ∙ c.loop-half.invariant.pages;
}
