-- Parts that are read one after the other.
use Rattle.std.proofs.Common.{◌≡◌, ℕ, ◌⊎◌, ◌<◌, ◌^◌, Some, IsSome, decimal, List, [], ◌∷◌, ◌++◌, length, map, IfOk, Result, Ok, Err, inl, inr, refl, sym, ap, ◌∙◌, subst}
use Rattle.std.specs.List.{AllByRecursion}
use Rattle.std.proofs.lemmas.List.{append_assoc, append-nil, map-append}
use Rattle.blob_words.specs.Limits.{limit_fault}
use Rattle.blob_words.specs.declared.limit_fault.LimitFault.{LimitFault}
use Rattle.session_script.specs.Fault.{IsPart, IsPartFault, IsFirstPartFault, IsBuildCount, IsBuildFault, IsLimitsFault, kinds_of, kinds_of_letter}
use Rattle.text_fields.specs.Fields.{joined}
use Rattle.text_fields.specs.Kind.{AllSpell, IsRowFault}
use Rattle.session_script.specs.Line.{letter_of, part_fields, part_text, PartHasText}
use Rattle.text_fields.specs.Reading.{split, IsReading}
use Rattle.session_script.specs.Word.{letter_text}
use Rattle.session_script.specs.declared.event.Part.{Part}
use Rattle.session_script.specs.declared.event.Part.TheVariants as parts
use Rattle.session_script.specs.declared.letter.Letter.{Letter}
use Rattle.text_fields.specs.declared.line_fault.LineFault.{LineFault}
use Rattle.text_fields.specs.declared.line_fault.LineFault.TheVariants.{Memory, Limits}
use Rattle.session_script.specs.declared.word.Word.TheVariants as words
use Rattle.text_fields.proofs.Splits.{joined-split}

-- the fields of a part spell values of its letter's kinds
pub part_spelled : (part : Part) → PartHasText part → AllSpell (kinds_of_letter (letter_of part)) (part_fields part)
part_spelled (parts.Embedded bytes) fits = ((bytes, fits, refl), tt)
part_spelled (parts.Asked len) fits = ((len, fits, refl), tt)
part_spelled (parts.FileRange name off len stamp) fits =
    (fits.0, ((off, fits.1, refl), ((len, fits.2, refl), ((stamp, fits.3, refl), tt))))
part_spelled (parts.BlobRange b off len) fits =
    ((b, fits.0, refl), ((off, fits.1, refl), ((len, fits.2, refl), tt)))
part_spelled (parts.HandleRange k off len) fits =
    ((k, fits.0, refl), ((off, fits.1, refl), ((len, fits.2, fits.3, refl), tt)))

-- a letter with its fields is a part
pub part_read : (text first : List ℕ) (own : List (List ℕ)) (letter : Letter) (r : Result Part LineFault)
    → split 58 text ≡ first ∷ own → (length own ≡ 0 → ⊥) → first ≡ letter_text letter
    → IsReading (IsRowFault (kinds_of_letter letter)) (λ part. PartHasText part × (letter_of part ≡ letter)) part_fields own r
    → IsReading (λ fault part. IsPartFault fault (split 58 part)) PartHasText part_text text r
part_read text first own letter (Ok part) parted some is_letter is_read =
    let same : first ∷ own ≡ letter_text (letter_of part) ∷ part_fields part = cc (is_letter ∙ ap letter_text (sym is_read.0.1), is_read.1) in
    (is_read.0.0, sym (joined-split 58 text) ∙ ap (joined 58) (parted ∙ same))
part_read text first own letter (Err fault) parted some is_letter (inl memory) = inl memory
part_read text first [] letter (Err fault) parted some is_letter (inr wrong) = absurd (some refl)
part_read text first (second ∷ own) letter (Err fault) parted some is_letter (inr wrong) =
    inr (subst (IsPartFault fault) (sym parted) (inr (letter, is_letter, wrong)))

pub part_is : (text first : List ℕ) (own : List (List ℕ)) (letter : Letter) (r : Result Part LineFault)
    → split 58 text ≡ first ∷ own → first ≡ letter_text letter
    → IsReading (IsRowFault (kinds_of_letter letter)) (λ part. PartHasText part × (letter_of part ≡ letter)) part_fields own r
    → IfOk r (λ part. IsPart (split 58 text))
part_is text first own letter (Ok part) parted is_letter is_read =
    let all : AllSpell (kinds_of_letter letter) own =
    subst (λ (l : Letter). AllSpell (kinds_of_letter l) own) is_read.0.1
    (subst (AllSpell (kinds_of_letter (letter_of part))) (sym is_read.1) (part_spelled part is_read.0.0)) in
    subst IsPart (sym parted) (letter, is_letter, all)
part_is text first own letter (Err fault) parted is_letter is_read = tt

-- the parts that were read stand in front of the fields that are left
pub record AreRead (all : List Part) (old new : List (List ℕ)) : Type 0 where
  pub spelled : old ≡ map part_text all ++ new
  pub have_text : AllByRecursion PartHasText all
  pub are_parts : AllByRecursion (λ part. IsPart (split 58 (part_text part))) all

all_more : {X : Type 0} (P : X → Type 0) (xs : List X) (x : X) → AllByRecursion P xs → P x → AllByRecursion P (xs ++ x ∷ [])
all_more P [] x all one = (one, tt)
all_more P (y ∷ xs) x all one = (all.0, all_more P xs x all.1 one)

-- one part more
pub parts_more : (all all' : List Part) (part : Part) (text : List ℕ) (old mid new : List (List ℕ)) → AreRead all old mid → mid ≡ text ∷ new
    → PartHasText part → text ≡ part_text part → IsPart (split 58 text) → all' ≡ all ++ part ∷ [] → AreRead all' old new
parts_more all all' part text old mid new so_far first has_text is_text is_part more =
    let mapped : map part_text all' ≡ map part_text all ++ part_text part ∷ [] = ap (map part_text) more ∙ map-append part_text all (part ∷ []) in record {
      spelled = so_far.spelled ∙ ap (λ (m : List (List ℕ)). map part_text all ++ m) (first ∙ ap (λ (t : List ℕ). t ∷ new) is_text)
          ∙ sym (append_assoc (map part_text all) (part_text part ∷ []) new) ∙ ap (λ (m : List (List ℕ)). m ++ new) (sym mapped);
      have_text = subst (AllByRecursion PartHasText) (sym more) (all_more PartHasText all part so_far.have_text has_text);
      are_parts = subst (AllByRecursion (λ p. IsPart (split 58 (part_text p)))) (sym more)
          (all_more (λ p. IsPart (split 58 (part_text p))) all part so_far.are_parts (subst (λ t. IsPart (split 58 t)) is_text is_part));
    }

parts_wrong : (all : List Part) (fault : LineFault) (old mid : List (List ℕ)) → AllByRecursion (λ part. IsPart (split 58 (part_text part))) all
    → old ≡ map part_text all ++ mid → IsFirstPartFault fault mid → IsFirstPartFault fault old
parts_wrong [] fault old mid are spelled wrong = subst (IsFirstPartFault fault) (sym spelled) wrong
parts_wrong (part ∷ all) fault old mid are spelled wrong =
    subst (IsFirstPartFault fault) (sym spelled) (inr (are.0, parts_wrong all fault (map part_text all ++ mid) mid are.1 refl wrong))

-- a text that is no part, behind parts
pub part_wrong : (all : List Part) (fault : LineFault) (text : List ℕ) (old mid new : List (List ℕ)) → AreRead all old mid → mid ≡ text ∷ new
    → (fault ≡ Memory) ⊎ IsPartFault fault (split 58 text) → (fault ≡ Memory) ⊎ IsFirstPartFault fault old
part_wrong all fault text old mid new so_far first (inl memory) = inl memory
part_wrong all fault text old mid new so_far first (inr wrong) =
    inr (parts_wrong all fault old mid so_far.are_parts so_far.spelled (subst (IsFirstPartFault fault) (sym first) (inl wrong)))

-- no part is left
pub parts_all : (all : List Part) (old mid : List (List ℕ)) → AreRead all old mid → mid ≡ [] → AllByRecursion PartHasText all × (old ≡ map part_text all)
parts_all all old mid so_far none =
    (so_far.have_text, so_far.spelled ∙ ap (λ (m : List (List ℕ)). map part_text all ++ m) none ∙ append-nil (map part_text all))

-- a part behind the first three fields is wrong
pub build_wrong : (fault : LineFault) (a b c : List ℕ) (old new : List (List ℕ)) → old ≡ a ∷ b ∷ c ∷ new → IsBuildCount old
    → AllSpell (kinds_of words.Build) (a ∷ b ∷ c ∷ []) → (fault ≡ Memory) ⊎ IsFirstPartFault fault new → (fault ≡ Memory) ⊎ IsBuildFault fault old
build_wrong fault a b c old new first count spelled (inl memory) = inl memory
build_wrong fault a b c old new first count spelled (inr wrong) =
    inr (subst (IsBuildFault fault) (sym first) (inr (subst IsBuildCount first count, inr (spelled, wrong))))

-- seven numbers that are no limits
pub numbers_wrong : (memory disk big inline_max segment page chunk : ℕ) (old : List (List ℕ)) (why : LimitFault)
    → memory < 2 ^ 64 → disk < 2 ^ 64 → big < 2 ^ 64 → inline_max < 2 ^ 64 → segment < 2 ^ 64 → page < 2 ^ 64 → chunk < 2 ^ 64
    → old ≡ map decimal (memory ∷ disk ∷ big ∷ inline_max ∷ segment ∷ page ∷ chunk ∷ [])
    → limit_fault memory disk big inline_max segment page chunk ≡ Some why → IsLimitsFault Limits old
numbers_wrong memory disk big inline_max segment page chunk old why a b c d e f g is wrong =
    inr (memory ∷ disk ∷ big ∷ inline_max ∷ segment ∷ page ∷ chunk ∷ [], (a, (b, (c, (d, (e, (f, (g, tt))))))), is, subst IsSome (sym wrong) refl, refl)
