-- One word is the word.
use Rattle.std.proofs.Common.{◌≡◌, ◌∙◌, sym, ap, arith, map, string_bytes, String, ℕ, List, [], ◌∷◌, length, get_or, codes}
use Rattle.std.proofs.lemmas.Slice.Eq.{bytes_eq-Decides}
use Rattle.replay_run.proofs.session.ask_replay.Goals as goal

one_word : {Z : Type 0} (words : List (String Z)) (word : String Z) (text : List ℕ) → length words ≡ 1 → word ≡ get_or words 0 word → string_bytes word ≡ text
    → map string_bytes words ≡ text ∷ []
one_word [] word text size is same = absurd (omega (arith, size))
one_word (first ∷ []) word text size is same = ap (λ bytes. bytes ∷ []) (ap string_bytes (sym is) ∙ same)
one_word (first ∷ second ∷ words) word text size is same = absurd (omega (arith, size))

pub returns-then-words-eq1-clause-yes : goal.returns-then-words-eq1-clause-yes
returns-then-words-eq1-clause-yes c same =
    one_word c.args.words.now c.index-words-0.result (codes "replay") c.if-words-eq1.true c.index-words-0.is
    (sym c.as_str.ensures.value ∙ (bytes_eq-Decides c.as_str.result.now (codes "replay")).0 (sym c.eq.ensures ∙ same))
