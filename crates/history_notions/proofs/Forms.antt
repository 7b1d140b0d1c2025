-- A text that is shorter than the front of a URL has no name behind it.
use Rattle.std.proofs.Common.{◌≡◌, ℕ, ◌<◌, ◌&&◌, Bool, true, false, List, length, take, drop, refl, ap, ◌∙◌, arith}
use Rattle.std.specs.Prelude.{bytes_eq}
use Rattle.std.proofs.lemmas.List.{drop_all}
use Rattle.blob_model.specs.Entries.{is_name_text}

and_not : (b : Bool) → (b && false) ≡ false
and_not true = refl
and_not false = refl

pub short_form : (front text : List ℕ) → length text < length front
    → (bytes_eq (take (length front) text) front && is_name_text (drop (length front) text)) ≡ false
short_form front text short =
    ap (λ (rest : List ℕ). bytes_eq (take (length front) text) front && is_name_text rest) (drop_all (length front) text (omega arith))
    ∙ and_not (bytes_eq (take (length front) text) front)
