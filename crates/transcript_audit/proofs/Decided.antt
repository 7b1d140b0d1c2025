-- A test that tells equality is the test by cases.
use Rattle.std.proofs.Common.{◌≡◌, Bool, true, false, List, refl, sym, subst}
use Rattle.blob_words.specs.declared.number.PieceNo.{PieceNo}
use Rattle.blob_words.specs.declared.plan.Plan.{Plan}
use Rattle.blob_words.specs.declared.status.Status.{Status}
use Rattle.answer_text.specs.declared.refusal.Refusal.{Refusal}
use Rattle.blob_model.proofs.tested.Words.{same_status, same_status-sound, same_status-whole, same_plan, same_plan-sound, same_plan-whole, same_refusal, same_refusal-sound, same_refusal-whole, same_list, same_list-sound, same_list-whole}

agree : (one other : Bool) → (one ≡ true → other ≡ true) → (other ≡ true → one ≡ true) → one ≡ other
agree true other there back = sym (there refl)
agree false true there back = back refl
agree false false there back = refl

pub status_decided : (result : Bool) (a b : Status) → (result ≡ true → a ≡ b) → (a ≡ b → result ≡ true) → result ≡ same_status a b
status_decided result a b sound whole = agree result (same_status a b) (λ e. alike (sound e)) (λ e. whole (same_status-sound a b e))
  where
    alike : a ≡ b → same_status a b ≡ true
    alike e = subst (λ (c : Status). same_status a c ≡ true) e (same_status-whole a)

pub plan_decided : (result : Bool) (a b : Plan) → (result ≡ true → a ≡ b) → (a ≡ b → result ≡ true) → result ≡ same_plan a b
plan_decided result a b sound whole = agree result (same_plan a b) (λ e. alike (sound e)) (λ e. whole (same_plan-sound a b e))
  where
    alike : a ≡ b → same_plan a b ≡ true
    alike e = subst (λ (c : Plan). same_plan a c ≡ true) e (same_plan-whole a)

pub refusal_decided : (result : Bool) (a b : Refusal) → (result ≡ true → a ≡ b) → (a ≡ b → result ≡ true) → result ≡ same_refusal a b
refusal_decided result a b sound whole = agree result (same_refusal a b) (λ e. alike (sound e)) (λ e. whole (same_refusal-sound a b e))
  where
    alike : a ≡ b → same_refusal a b ≡ true
    alike e = subst (λ (c : Refusal). same_refusal a c ≡ true) e (same_refusal-whole a)

pub pieces_decided : (result : Bool) (a b : List PieceNo) → (result ≡ true → a ≡ b) → (a ≡ b → result ≡ true) → result ≡ same_list a b
pieces_decided result a b sound whole = agree result (same_list a b) (λ e. alike (sound e)) (λ e. whole (same_list-sound a b e))
  where
    alike : a ≡ b → same_list a b ≡ true
    alike e = subst (λ (c : List PieceNo). same_list a c ≡ true) e (same_list-whole a)
