-- What a URL that comes or goes makes of each text, and of the number of URLs.
use Rattle.std.proofs.Common.{◌≡◌, ℕ, ◌+◌, cond, List, [], ◌∷◌, Option, Some, None, length, nat_eq, refl, sym, ap, ◌∙◌, true, false, Bool}
use Rattle.std.specs.Prelude.{is_some, IfNone, OnSome, Vec}
use Rattle.std.specs.declared.alloc.Global.{Global}
use Rattle.std.specs.Str.{bytes_eq}
use Rattle.std.specs.Map.{lookup}
use Rattle.std.specs.BTreeMap.{is_at, BTreeMap, UpdatesBy}
use Rattle.url_store.specs.declared.url.Url.{Url}
use Rattle.blob_words.specs.Keys.{key_cmp, order_of}
use Rattle.url_store.specs.Urls.{own_url, owned_by, url_at}
use Rattle.url_store.specs.Changes.{Comes, Goes}
use Rattle.blob_words.proofs.Keyed.{length_seen, lookup_seen, reads_updated, seen}

abbrev Keyed : Type 0
Keyed = BTreeMap (Vec ℕ Global) Url

pub comes_seen : (text : List ℕ) (url : Url) (old new : Keyed) (had : Option Url) → UpdatesBy key_cmp (order_of text) old new (Some url) → had
    ≡ lookup (is_at (order_of text)) old.entries
    → length new.entries ≡ length old.entries + cond (is_some had) 0 1 → url_at text (seen old.entries) ≡ None → Comes text url (seen old.entries)
    (seen new.entries)
comes_seen text url old new had updates found many none =
    let absent : is_some had ≡ false = ap is_some (found ∙ lookup_seen text old.entries ∙ none) in
    let more : length new.entries ≡ length old.entries + 1 = many ∙ ap (λ (b : Bool). length old.entries + cond b 0 1) absent in
    record {
      each = reads_updated text old new (Some url) updates;
      many = length_seen new.entries ∙ more ∙ ap (λ n. n + 1) (sym (length_seen old.entries));
    }

pub goes_seen : (text : List ℕ) (old new : Keyed) (taken : Option Url) → UpdatesBy key_cmp (order_of text) old new None → length new.entries + cond
    (is_some taken) 1 0 ≡ length old.entries
    → OnSome taken (Goes text (seen old.entries) (seen new.entries))
goes_seen text old new None updates many = tt
goes_seen text old new (Some url) updates many =
    record {
      each = reads_updated text old new None updates;
      many = ap (λ n. n + 1) (length_seen new.entries) ∙ many ∙ sym (length_seen old.entries);
    }

-- an owner without URLs owns no text's
pub none_own : (owner : ℕ) (urls : List (List ℕ × Url)) → owned_by owner urls ≡ [] → (text : List ℕ) → own_url owner text urls ≡ None
none_own owner [] none text = refl
none_own owner (entry ∷ urls) none text = by (λ rest. none_own owner urls rest text) (nat_eq owner entry.1.owner.0) refl none
  where
    by : (owned_by owner urls ≡ [] → own_url owner text urls ≡ None) → (mine : Bool) → nat_eq owner entry.1.owner.0 ≡ mine
        → cond mine (entry ∷ owned_by owner urls) (owned_by owner urls) ≡ [] → own_url owner text (entry ∷ urls) ≡ None
    by rest true mine none = cc
    by rest false mine none = (elim (bytes_eq text entry.0) as (λ b. bytes_eq text entry.0 ≡ b → own_url owner text (entry ∷ urls) ≡ None) [
      | true ↦ λ here. rw (here, mine) refl
      | false ↦ λ here. rw here (rest none)
    ]) refl

-- what holds, holds where nothing was answered
pub on_none : {T P : Type 0} (result : Option T) → P → IfNone result P
on_none None holds = holds
on_none (Some value) holds = tt
