-- Lists of which no two items have one key. Own.
use Rattle.std.specs.Prelude.{ℕ, ◌≡◌, ◌==◌, Bool, false, List, [], ◌∷◌, bytes_eq}
use Rattle.std.specs.List.{list_any}
use Rattle.blob_model.specs.Entries.{Entry, entries}
use Rattle.answer_text.specs.declared.group.Group.{Group}
use Rattle.blob_model.specs.History.{history_from, start, History}
use Rattle.blob_model.specs.Legal.{IsLegalFrom}
use Rattle.blob_model.specs.Readers.{OpenReader, readers}
use Rattle.blob_model.specs.Session.{Session, page_limit}

-- no later item has the key of an earlier one
abbrev pub AreApartBy : {X : Type 0} → (X → X → Bool) → List X → Type 0
AreApartBy same [] = Unit {0}
AreApartBy same (x ∷ xs) = (list_any (same x) xs ≡ false) × AreApartBy same xs

-- whether two URLs have one text, and two readers one number
abbrev pub same_text : Entry → Entry → Bool
same_text one other = bytes_eq one.text other.text

abbrev pub same_number : OpenReader → OpenReader → Bool
same_number one other = one.number == other.number

-- the texts of the URLs differ, and the numbers of the open readers
abbrev pub AreUrlsApart : History → Type 0
AreUrlsApart h = AreApartBy same_text (entries h)

abbrev pub AreReadersApart : ℕ → History → Type 0
AreReadersApart page h = AreApartBy same_number (readers page h)

-- so in each legal transcript
abbrev pub KeysDiffer : Type 0
KeysDiffer =
    (s : Session) (groups : List Group) → IsLegalFrom s start groups
    → AreUrlsApart (history_from start groups) × AreReadersApart (page_limit s) (history_from start groups)
