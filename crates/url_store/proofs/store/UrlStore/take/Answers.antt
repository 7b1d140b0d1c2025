use Rattle.std.proofs.Common.{◌≡◌, ◌≤◌, arith, length, ℕ, cond, nat_eq, List, Some, None, ap, ◌∙◌, sym, subst}
use Rattle.std.specs.Str.{bytes_eq}
use Rattle.std.specs.Set.{remove_key}
use Rattle.url_store.specs.declared.url.Url.{Url}
use Rattle.url_store.specs.Urls.{own_url, url_at}
use Rattle.url_store.specs.Owners.{texts_at, Agree}
use Rattle.url_store.proofs.Owned.{texts_of}
use Rattle.url_store.proofs.Agreement.{agree_removed, same_owner, without_absent}
use Rattle.url_store.proofs.store.UrlStore.take.Goals as goal

pub invariant_of-self : goal.invariant_of-self
invariant_of-self c =
    let none : url_at c.args.text.now c.self.inside.urls ≡ None = sym c.in_err-url.ensures.value in
    let same : c.remove.new.self ≡ c.self.inside.urls = c.remove.ensures.rest ∙ without_absent c.args.text.now c.self.inside.urls none in (
      λ owner. c.self.invariant.0 owner ∙ ap (texts_of owner) (sym same),
      subst (λ (urls : List (List ℕ × Url)). length urls ≤ 16384) (sym same)
          c.self.invariant.1,
    )

pub invariant_of-self-2 : goal.invariant_of-self-2
invariant_of-self-2 c =
    let text = c.args.text.now in
    let urls = c.self.inside.urls in
    let url = c.in_ok-url.url in
    let there : url_at text urls ≡ Some url = sym c.in_ok-url.ensures.value in
    let own : own_url c.args.owner.0 text urls ≡ url_at text urls = subst (λ (urls : List (List ℕ × Url)). own_url c.args.owner.0 text urls ≡ url_at text urls)
    (sym c.self.view_is) c.requires in
    let owner = same_owner c.args.owner.0 text urls url own there in
    let goes : (other : ℕ) → texts_at other c.take_text.new.owners.entries ≡ cond (nat_eq other url.owner.0)
    (remove_key (bytes_eq text) (texts_at other c.self.inside.owners.entries)) (texts_at other c.self.inside.owners.entries) =
    λ other. c.take_text.ensures other ∙ ap (λ one. cond (nat_eq other one) (remove_key (bytes_eq text) (texts_at other c.self.inside.owners.entries))
    (texts_at other c.self.inside.owners.entries)) owner in (
      subst (λ (urls : List (List ℕ × Url)). Agree urls c.take_text.new.owners.entries) (sym c.remove.ensures.rest)
          (agree_removed urls c.self.inside.owners.entries c.take_text.new.owners.entries text url there c.self.invariant.0 goes),
      omega (arith, c.in_ok-url.ensures.goes.many, c.self.invariant.1),
    )
