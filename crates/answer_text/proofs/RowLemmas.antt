-- From the faults of lines to the texts that are refused.
use Rattle.std.proofs.Common.{◌≡◌, ℕ, ◌⊎◌, ◌<◌, ◌^◌, decimal, List, [], ◌∷◌, ◌++◌, length, inl, inr, refl, sym, ap, ◌∙◌, subst, arith}
use Rattle.std.specs.List.{AllByRecursion}
use Rattle.std.proofs.lemmas.List.{append_assoc, append-nil, length-append, length-map, map-append}
use Rattle.blob_words.specs.declared.number.PieceNo.{PieceNo}
use Rattle.text_fields.specs.Kind.{Kind, Spells, number_32, AllSpell, IsFirstFault, IsRowFault}
use Rattle.text_fields.specs.declared.line_fault.LineFault.{LineFault}
use Rattle.text_fields.specs.declared.line_fault.LineFault.TheVariants as line_faults
use Rattle.text_fields.proofs.Faults.{row_no_fault}
use Rattle.text_fields.proofs.Rows.{length_spelled}
use Rattle.answer_text.specs.Fault.{form_of, ArePieces, IsJob, IsPaged, Refuses, HasFront}
use Rattle.answer_text.specs.Text.{piece_fields, PiecesHaveText}
use Rattle.answer_text.specs.declared.text_fault.TextFault.{TextFault}
use Rattle.answer_text.specs.declared.text_fault.TextFault.TheVariants as faults

-- a fault of a row, as an answer's reader says it
pub row_refused : (kinds : List Kind) (fault : LineFault) (texts : List (List ℕ))
    → (fault ≡ line_faults.Memory) ⊎ IsRowFault kinds fault texts → Refuses (AllSpell kinds) texts (form_of fault)
row_refused kinds line_faults.Memory texts wrong = tt
row_refused kinds fault texts (inl memory) = cc memory
row_refused kinds fault texts (inr wrong) = λ all. row_no_fault kinds fault texts all wrong

first_front : (kinds : List Kind) (fault : LineFault) (front back : List (List ℕ)) → AllSpell kinds front → IsFirstFault kinds fault (front ++ back) → ⊥
first_front [] fault front back all wrong = absurd wrong
first_front (kind ∷ kinds) fault [] back all wrong = absurd all
first_front (kind ∷ kinds) fault (text ∷ front) back all (inl here) = here.0 all.0
first_front (kind ∷ kinds) fault (text ∷ front) back all (inr behind) = first_front kinds fault front back all.1 behind.1

-- the same of the first few fields
pub front_refused : (kinds : List Kind) (fault : LineFault) (old : List (List ℕ))
    → (fault ≡ line_faults.Memory) ⊎ IsFirstFault kinds fault old → Refuses (HasFront kinds) old (form_of fault)
front_refused kinds line_faults.Memory old wrong = tt
front_refused kinds fault old (inl memory) = cc memory
front_refused kinds fault old (inr wrong) =
    λ has. first_front kinds fault has.0 has.1 has.3 (subst (IsFirstFault kinds fault) has.2 wrong)

pub front_short : (kinds : List Kind) (old : List (List ℕ)) → length old < length kinds → HasFront kinds old → ⊥
front_short kinds old short has = omega (arith, length_spelled kinds has.0 has.3, ap length has.2, length-append has.0 has.1)

-- the pieces that were read stand in front of the fields that are left
pub record AreRead (ps : List PieceNo) (old new : List (List ℕ)) : Type 0 where
  pub spelled : old ≡ piece_fields ps ++ new
  pub small : AllByRecursion (λ (p : PieceNo). p.0 < 2 ^ 32) ps

all_more : {X : Type 0} (P : X → Type 0) (xs : List X) (x : X) → AllByRecursion P xs → P x → AllByRecursion P (xs ++ x ∷ [])
all_more P [] x all one = (one, tt)
all_more P (y ∷ xs) x all one = (all.0, all_more P xs x all.1 one)

pub pieces_more : (ps ps' : List PieceNo) (p : PieceNo) (old mid new : List (List ℕ)) → AreRead ps old mid → (p.0 < 2 ^ 32) × (mid ≡ decimal p.0 ∷ new)
    → ps' ≡ ps ++ p ∷ [] → AreRead ps' old new
pieces_more ps ps' p old mid new so_far taken more =
    let mapped : piece_fields ps' ≡ piece_fields ps ++ decimal p.0 ∷ [] =
    ap piece_fields more ∙ map-append (λ (q : PieceNo). decimal q.0) ps (p ∷ []) in record {
      spelled = so_far.spelled ∙ ap (λ (m : List (List ℕ)). piece_fields ps ++ m) taken.1
          ∙ sym (append_assoc (piece_fields ps) (decimal p.0 ∷ []) new) ∙ ap (λ (m : List (List ℕ)). m ++ new) (sym mapped);
      small = subst (AllByRecursion (λ (q : PieceNo). q.0 < 2 ^ 32)) (sym more) (all_more (λ (q : PieceNo). q.0 < 2 ^ 32) ps p so_far.small taken.0);
    }

pub pieces_all : (ps : List PieceNo) (old mid : List (List ℕ)) → AreRead ps old mid → length mid ≡ 0 → 0 < length old
    → PiecesHaveText ps × (old ≡ piece_fields ps)
pieces_all ps old [] so_far none some =
    let whole : old ≡ piece_fields ps = so_far.spelled ∙ append-nil (piece_fields ps) in
    ((omega (arith, ap length whole, length-map ps (λ (q : PieceNo). decimal q.0)), so_far.small), whole)
pieces_all ps old (text ∷ mid) so_far none some = absurd (omega arith)

behind_all : (front mid : List (List ℕ)) → AllByRecursion (Spells number_32) (front ++ mid) → AllByRecursion (Spells number_32) mid
behind_all [] mid all = all
behind_all (text ∷ front) mid all = behind_all front mid all.1

first_spelled : (fault : LineFault) (mid : List (List ℕ)) → AllByRecursion (Spells number_32) mid → IsFirstFault (number_32 ∷ []) fault mid → ⊥
first_spelled fault [] all wrong = absurd wrong
first_spelled fault (text ∷ mid) all (inl here) = here.0 all.0
first_spelled fault (text ∷ mid) all (inr behind) = absurd behind.1

-- a field that is no piece
pub piece_wrong : (ps : List PieceNo) (fault : LineFault) (old mid : List (List ℕ)) → AreRead ps old mid
    → (fault ≡ line_faults.Memory) ⊎ ((kinds : List Kind) → IsFirstFault (number_32 ∷ kinds) fault mid)
    → Refuses ArePieces old (form_of fault)
piece_wrong ps line_faults.Memory old mid so_far wrong = tt
piece_wrong ps fault old mid so_far (inl memory) = cc memory
piece_wrong ps fault old mid so_far (inr wrong) =
    λ all. first_spelled fault mid (behind_all (piece_fields ps) mid (subst (AllByRecursion (Spells number_32)) so_far.spelled all.1)) (wrong [])

-- without a job and pieces behind it
pub job_refused : (fault : TextFault) (old : List (List ℕ)) → Refuses (HasFront (number_32 ∷ [])) old fault → Refuses IsJob old fault
job_refused faults.Form [] wrong = λ is. is
job_refused faults.Form (job ∷ pieces) wrong = λ is. wrong (job ∷ [], pieces, refl, (is.0, tt))
job_refused faults.Memory old wrong = tt

pub paged_refused : (fault : TextFault) (old : List (List ℕ)) → Refuses (HasFront (number_32 ∷ number_32 ∷ [])) old fault → Refuses IsPaged old fault
paged_refused faults.Form [] wrong = λ is. is
paged_refused faults.Form (job ∷ []) wrong = λ is. is.1
paged_refused faults.Form (job ∷ page ∷ pieces) wrong = λ is. wrong (job ∷ page ∷ [], pieces, refl, (is.0, (is.1.0, tt)))
paged_refused faults.Memory old wrong = tt
