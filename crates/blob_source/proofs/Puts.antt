-- What has gone out of a run of bytes, part by part.
use Rattle.std.proofs.Common.{◌≡◌, ℕ, ◌<◌, ◌+◌, List, ◌++◌, Option, length, length-append, take, drop, sym, ap, ◌∙◌, subst, append_assoc, take-append-drop, arith}
use Rattle.std.specs.Io.KnownBytes.{Appends, Keeps}
use Rattle.std.proofs.KnownBytes.{Appends-trans, Appends-kept}
use Rattle.std.proofs.Math.Seq.{take-append_seam}

-- a front of the bytes went out, and the rest is still to go
pub record WentOut (old new : Option (List ℕ)) (bytes rest : List ℕ) : Type 0 where
  pub front : List ℕ
  pub whole : bytes ≡ front ++ rest
  pub appended : Appends old new front

pub went_more : (old mid new : Option (List ℕ)) (bytes rest after : List ℕ) (n : ℕ)
    → WentOut old mid bytes rest → Appends mid new (take n rest) → after ≡ drop n rest → WentOut old new bytes after
went_more old mid new bytes rest after n went more is_after = record {
  front = went.front ++ take n rest;
  whole =
      went.whole ∙ ap (λ tail. went.front ++ tail) (sym (take-append-drop n rest) ∙ ap (λ tail. take n rest ++ tail) (sym is_after)) ∙ sym
      (append_assoc went.front (take n rest) after);
  appended = Appends-trans old mid new went.front (take n rest) went.appended more;
}

pub went_short : (old mid new : Option (List ℕ)) (bytes rest : List ℕ)
    → WentOut old mid bytes rest → Keeps mid new → 0 < length rest → (n : ℕ) × (n < length bytes) × Appends old new (take n bytes)
went_short old mid new bytes rest went kept some =
    let is_front : take (length went.front) bytes ≡ went.front =
    ap (take (length went.front)) went.whole ∙ take-append_seam went.front rest in
    let long : length bytes ≡ length went.front + length rest = ap length went.whole ∙ length-append went.front rest in
    (length went.front, omega arith, subst (Appends old new) (sym is_front) (Appends-kept old mid new went.front went.appended kept))
