use Rattle.std.proofs.Common.{rules, ◌≡◌, Some, true, false, refl, sym, ap, ◌∙◌}
use Rattle.std.specs.Option.{option_copied}
use Rattle.std.specs.Str.{bytes_eq}
use Rattle.url_store.specs.Urls.{url_at, without_fragment}
use Rattle.url_store.proofs.store.UrlStore.resolve.Goals as goal

pub returns-then-not-is_same : goal.returns-then-not-is_same
returns-then-not-is_same c =
    let cut = c.without_fragment.ensures ∙ ap without_fragment c.as_slice.ensures.bytes in
    let found : url_at (without_fragment c.args.text.now) c.args.self.now ≡ Some c.in-Some.url.now =
    ap (url_at (without_fragment c.args.text.now)) (sym c.self.view_is) ∙ ap (λ text. url_at text c.self.inside.urls) (sym cut) ∙ sym c.find.ensures ∙ ap
    option_copied c.in-Some.is in
    let same : bytes_eq c.in-Some.url.now.origin c.args.origin.now ≡ false = search rules in
    rw (found, same) refl

pub returns : goal.returns
returns c =
    let cut = c.without_fragment.ensures ∙ ap without_fragment c.as_slice.ensures.bytes in
    let found : url_at (without_fragment c.args.text.now) c.args.self.now ≡ Some c.in-Some.url.now =
    ap (url_at (without_fragment c.args.text.now)) (sym c.self.view_is) ∙ ap (λ text. url_at text c.self.inside.urls) (sym cut) ∙ sym c.find.ensures ∙ ap
    option_copied c.in-Some.is in
    let same : bytes_eq c.in-Some.url.now.origin c.args.origin.now ≡ true = search rules in
    rw (found, same) refl
