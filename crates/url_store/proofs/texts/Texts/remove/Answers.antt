use Rattle.std.proofs.Common.{ap, ◌∙◌}
use Rattle.std.specs.Str.{bytes_eq}
use Rattle.std.specs.Set.{remove_key}
use Rattle.url_store.proofs.Seen.{remove_seen_key, seen_keys}
use Rattle.url_store.proofs.texts.Texts.remove.Goals as goal

pub returns : goal.returns
returns c =
    ap seen_keys c.remove.ensures.keys ∙ remove_seen_key c.args.text.now c.self.inside.texts.keys ∙ ap (remove_key (bytes_eq c.args.text.now)) c.self.view_is
