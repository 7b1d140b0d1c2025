use Rattle.std.proofs.Common.{ap, ◌∙◌}
use Rattle.std.specs.Ordering.{nat_cmp}
use Rattle.std.specs.Cmp.Lexicographic.{slice_cmp}
use Rattle.std.specs.BTreeSet.{insert_key}
use Rattle.url_store.proofs.Seen.{insert_seen_key, seen_keys}
use Rattle.url_store.proofs.texts.Texts.insert.Goals as goal

pub returns-clause-ok : goal.returns-clause-ok
returns-clause-ok c =
    ap seen_keys c.in_ok-insert.ensures.keys ∙ insert_seen_key c.args.text c.self.inside.texts.keys ∙ ap
    (λ texts. insert_key (slice_cmp nat_cmp) texts c.args.text.items) c.self.view_is
