use Rattle.std.proofs.Common.{◌≡◌, ◌<◌, ◌≤◌, None, List, length, ℕ, ap, ◌∙◌, sym, subst, arith}
use Rattle.url_store.specs.declared.url.Url.{Url}
use Rattle.url_store.specs.Owners.{Agree}
use Rattle.url_store.specs.Urls.{url_at, with_url, without}
use Rattle.url_store.proofs.Owned.{removed_inserted, texts_of}
use Rattle.url_store.proofs.Agreement.{agree_inserted, on_fault, on_success}
use Rattle.url_store.proofs.store.UrlStore.put.Goals as goal

pub returns-then-is_err-clause-err : goal.returns-then-is_err-clause-err
returns-then-is_err-clause-err c =
    let text = c.args.text.now in
    let urls = c.self.inside.urls in
    let absent : url_at text urls ≡ None = subst (λ (urls : List (List ℕ × Url)). url_at text urls ≡ None) (sym c.self.view_is) c.requires.absent in
    let key = c.in_ok-key.ensures.items ∙ c.as_slice.ensures.bytes in
    let inserted : c.insert.new.self ≡ with_url text c.args.url urls = c.in_ok-insert.ensures.ok ∙ ap (λ key. with_url key c.args.url urls) key in
    c.remove.ensures.rest ∙ ap (λ one. without one c.insert.new.self) c.as_slice-then-is_err.ensures.bytes ∙ ap (without text) inserted ∙ removed_inserted text
    c.args.url urls absent ∙ c.self.view_is

pub invariant_of-self-then-is_err : goal.invariant_of-self-then-is_err
invariant_of-self-then-is_err c =
    let text = c.args.text.now in
    let urls = c.self.inside.urls in
    let absent : url_at text urls ≡ None = subst (λ (urls : List (List ℕ × Url)). url_at text urls ≡ None) (sym c.self.view_is) c.requires.absent in
    let key = c.in_ok-key.ensures.items ∙ c.as_slice.ensures.bytes in
    let inserted : c.insert.new.self ≡ with_url text c.args.url urls = c.in_ok-insert.ensures.ok ∙ ap (λ key. with_url key c.args.url urls) key in
    let same : c.remove.new.self ≡ urls = c.remove.ensures.rest ∙ ap (λ one. without one c.insert.new.self) c.as_slice-then-is_err.ensures.bytes ∙ ap
    (without text) inserted ∙ removed_inserted text c.args.url urls absent in
    let stays = on_fault c.put_text.result c.if-is_err.ensures.value c.put_text.ensures.err in (
      λ owner. stays owner ∙ c.self.invariant.0 owner ∙ ap (texts_of owner) (sym same),
      subst (λ (urls : List (List ℕ × Url)). length urls ≤ 16384) (sym same)
          c.self.invariant.1,
    )

pub invariant_of-self-else-is_err : goal.invariant_of-self-else-is_err
invariant_of-self-else-is_err c =
    let text = c.args.text.now in
    let urls = c.self.inside.urls in
    let absent : url_at text urls ≡ None = subst (λ (urls : List (List ℕ × Url)). url_at text urls ≡ None) (sym c.self.view_is) c.requires.absent in
    let key = c.in_ok-key.ensures.items ∙ c.as_slice.ensures.bytes in
    let own = c.in_ok-own_text.ensures.items ∙ c.as_slice-2.ensures.bytes in
    let inserted : c.insert.new.self ≡ with_url text c.args.url urls = c.in_ok-insert.ensures.ok ∙ ap (λ key. with_url key c.args.url urls) key in
    let comes = on_success c.put_text.result c.if-is_err.ensures.value c.put_text.ensures.ok in
    let comes = rw own at comes in
    let room : length urls < 16384 = subst (λ (urls : List (List ℕ × Url)). length urls < 16384) (sym c.self.view_is) c.requires.room in
    let key = c.in_ok-key.ensures.items ∙ c.as_slice.ensures.bytes in
    let more = c.in_ok-insert.ensures.comes (ap (λ key. url_at key urls) key ∙ absent) in (
      subst (λ (urls : List (List ℕ × Url)). Agree urls c.put_text.new.owners.entries) (sym inserted)
          (agree_inserted urls c.self.inside.owners.entries c.put_text.new.owners.entries text c.args.url c.in_ok-insert.ensures.ordered absent
          c.self.invariant.0 comes),
      omega (arith, more.many, room),
    )
