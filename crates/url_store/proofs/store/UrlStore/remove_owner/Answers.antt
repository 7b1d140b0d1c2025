use Rattle.std.proofs.Common.{◌≡◌, arith, nat_eq, true, refl, ℕ, List, Some, None, ap, ◌∙◌, sym, subst}
use Rattle.std.specs.Prelude.{slice_get}
use Rattle.url_store.specs.declared.url.Url.{Url}
use Rattle.std.proofs.lemmas.Bool.{eqb-true}
use Rattle.url_store.specs.Urls.{own_url, url_at, without}
use Rattle.url_store.specs.Changes.{Goes, GoesFrom}
use Rattle.url_store.proofs.Changed.{none_own, on_none}
use Rattle.url_store.specs.Owners.{Agree}
use Rattle.url_store.proofs.Owned.{first_owned, none_owned, texts_of, IsFirst}
use Rattle.url_store.proofs.Agreement.{agree_popped, is_nowhere}
use Rattle.url_store.proofs.store.UrlStore.remove_owner.Goals as goal

pub invariant_of-self-in_err-url : goal.invariant_of-self-in_err-url
invariant_of-self-in_err-url c =
    let owner = c.args.owner.0 in
    let urls = c.self.inside.urls in
    let text = c.in_ok-text.text.items in
    let least : slice_get (texts_of owner urls) 0 ≡ Some text = ap (λ texts. slice_get texts 0) (sym (c.self.invariant.0 owner)) ∙ sym
    c.in_ok-text.ensures.first in
    let first : IsFirst owner text urls = first_owned owner text urls c.remove.ensures.ordered least in
    let none : url_at text urls ≡ None = ap (λ text. url_at text urls) (sym c.as_slice.ensures.value) ∙ sym c.in_err-url.ensures.value in
    absurd (is_nowhere owner text urls first none)

pub returns-in_err-url-clause-first : goal.returns-in_err-url-clause-first
returns-in_err-url-clause-first c =
    let owner = c.args.owner.0 in
    let urls = c.self.inside.urls in
    let text = c.in_ok-text.text.items in
    let least : slice_get (texts_of owner urls) 0 ≡ Some text = ap (λ texts. slice_get texts 0) (sym (c.self.invariant.0 owner)) ∙ sym
    c.in_ok-text.ensures.first in
    let first : IsFirst owner text urls = first_owned owner text urls c.remove.ensures.ordered least in
    let none : url_at text urls ≡ None = ap (λ text. url_at text urls) (sym c.as_slice.ensures.value) ∙ sym c.in_err-url.ensures.value in
    absurd (is_nowhere owner text urls first none)

pub returns-in_err-url-clause-rest : goal.returns-in_err-url-clause-rest
returns-in_err-url-clause-rest c =
    let owner = c.args.owner.0 in
    let urls = c.self.inside.urls in
    let text = c.in_ok-text.text.items in
    let least : slice_get (texts_of owner urls) 0 ≡ Some text = ap (λ texts. slice_get texts 0) (sym (c.self.invariant.0 owner)) ∙ sym
    c.in_ok-text.ensures.first in
    let first : IsFirst owner text urls = first_owned owner text urls c.remove.ensures.ordered least in
    let none : url_at text urls ≡ None = ap (λ text. url_at text urls) (sym c.as_slice.ensures.value) ∙ sym c.in_err-url.ensures.value in
    absurd (is_nowhere owner text urls first none)

pub invariant_of-self-2 : goal.invariant_of-self-2
invariant_of-self-2 c =
    let owner = c.args.owner.0 in
    let urls = c.self.inside.urls in
    let text = c.in_ok-text.text.items in
    let least : slice_get (texts_of owner urls) 0 ≡ Some text = ap (λ texts. slice_get texts 0) (sym (c.self.invariant.0 owner)) ∙ sym
    c.in_ok-text.ensures.first in
    let first : IsFirst owner text urls = first_owned owner text urls c.remove.ensures.ordered least in
    let rest : c.remove.new.self ≡ without text urls = c.remove.ensures.rest ∙ ap (λ text. without text urls) c.as_slice.ensures.value in (
      subst (λ (urls : List (List ℕ × Url)). Agree urls c.pop_text.new.owners.entries) (sym rest)
          (agree_popped urls c.self.inside.owners.entries c.pop_text.new.owners.entries owner text first least c.self.invariant.0 c.pop_text.ensures.rest),
      omega (arith, c.in_ok-url.ensures.goes.many, c.self.invariant.1),
    )

pub returns-clause-first : goal.returns-clause-first
returns-clause-first c =
    let owner = c.args.owner.0 in
    let urls = c.self.inside.urls in
    let text = c.in_ok-text.text.items in
    let least : slice_get (texts_of owner urls) 0 ≡ Some text = ap (λ texts. slice_get texts 0) (sym (c.self.invariant.0 owner)) ∙ sym
    c.in_ok-text.ensures.first in
    let first : IsFirst owner text urls = first_owned owner text urls c.remove.ensures.ordered least in
    let there : url_at text urls ≡ Some c.in_ok-url.url = ap (λ text. url_at text urls) (sym c.as_slice.ensures.value) ∙ sym c.in_ok-url.ensures.value in
    let same : c.in_ok-url.url ≡ first.url = let both = sym there ∙ first.there in cc in
    rw (← c.self.view_is, first.first) (ap (λ (url : Url). Some url.blob) same)

pub returns-clause-rest : goal.returns-clause-rest
returns-clause-rest c =
    let owner = c.args.owner.0 in
    let urls = c.self.inside.urls in
    let text = c.in_ok-text.text.items in
    let least : slice_get (texts_of owner urls) 0 ≡ Some text = ap (λ texts. slice_get texts 0) (sym (c.self.invariant.0 owner)) ∙ sym
    c.in_ok-text.ensures.first in
    let first : IsFirst owner text urls = first_owned owner text urls c.remove.ensures.ordered least in
    let rest : c.remove.new.self ≡ without text urls = c.remove.ensures.rest ∙ ap (λ text. without text urls) c.as_slice.ensures.value in
    rw (← c.self.view_is, first.first) rest

pub returns-in_err-url-clause-none : goal.returns-in_err-url-clause-none
returns-in_err-url-clause-none c =
    let owner = c.args.owner.0 in
    let urls = c.self.inside.urls in
    let text = c.in_ok-text.text.items in
    let least : slice_get (texts_of owner urls) 0 ≡ Some text = ap (λ texts. slice_get texts 0) (sym (c.self.invariant.0 owner)) ∙ sym
    c.in_ok-text.ensures.first in
    let first : IsFirst owner text urls = first_owned owner text urls c.remove.ensures.ordered least in
    let none : url_at text urls ≡ None = ap (λ text. url_at text urls) (sym c.as_slice.ensures.value) ∙ sym c.in_err-url.ensures.value in
    absurd (is_nowhere owner text urls first none)

pub returns-in_err-text-clause-none : goal.returns-in_err-text-clause-none
returns-in_err-text-clause-none c =
    let owner = c.args.owner.0 in
    let urls = c.self.inside.urls in
    let least : slice_get (texts_of owner urls) 0 ≡ None = ap (λ texts. slice_get texts 0) (sym (c.self.invariant.0 owner)) ∙ sym c.in_err-text.ensures.first in
    on_none c.from_residual.result (
      c.self.view_is,
      subst (λ (urls : List (List ℕ × Url)). (text : List ℕ) → own_url owner text urls ≡ None) c.self.view_is
          (none_own owner urls (none_owned owner urls least)),
    )

pub returns-clause-goes : goal.returns-clause-goes
returns-clause-goes c =
    let owner = c.args.owner.0 in
    let urls = c.self.inside.urls in
    let text = c.in_ok-text.text.items in
    let least : slice_get (texts_of owner urls) 0 ≡ Some text = ap (λ texts. slice_get texts 0) (sym (c.self.invariant.0 owner)) ∙ sym
    c.in_ok-text.ensures.first in
    let first : IsFirst owner text urls = first_owned owner text urls c.remove.ensures.ordered least in
    let there : url_at text urls ≡ Some c.in_ok-url.url = ap (λ text. url_at text urls) (sym c.as_slice.ensures.value) ∙ sym c.in_ok-url.ensures.value in
    let same : first.url ≡ c.in_ok-url.url = let both = sym there ∙ first.there in cc in
    subst (λ (urls : List (List ℕ × Url)). GoesFrom owner c.in_ok-url.url.blob urls c.remove.new.self) c.self.view_is (
    record {
      text = text;
      url = c.in_ok-url.url;
      there = there;
      own = sym (eqb-true owner c.in_ok-url.url.owner.0 (subst (λ (url : Url). nat_eq owner url.owner.0 ≡ true) same first.own));
      leads = refl;
      goes = subst (λ text. Goes text urls c.remove.new.self) c.as_slice.ensures.value c.in_ok-url.ensures.goes;
    }
    )
