-- No text and no row has two faults.
use Rattle.std.proofs.Common.{◌≡◌, ℕ, List, [], ◌∷◌, inl, inr, sym, ◌∙◌}
use Rattle.text_fields.specs.Kind.{Kind, IsClass, IsFirstFault, IsRowFault, number_32, number_64, positive, len, place, name, origin, file_name, url_text, bytes, content_type, some_bytes, broken, ending, status, switch}
use Rattle.text_fields.specs.declared.line_fault.LineFault.{LineFault}

class_once : (kind : Kind) (text : List ℕ) (f g : LineFault) → IsClass kind f text → IsClass kind g text → f ≡ g
class_once number_32 text f g a b = a ∙ sym b
class_once number_64 text f g a b = a ∙ sym b
class_once positive text f g a b = a ∙ sym b
class_once len text f g a b = a ∙ sym b
class_once place text f g a b = a ∙ sym b
class_once name text f g a b = a ∙ sym b
class_once origin text f g a b = a ∙ sym b
class_once file_name text f g a b = a ∙ sym b
class_once url_text text f g a b = a ∙ sym b
class_once bytes text f g a b = a ∙ sym b
class_once some_bytes text f g a b = a ∙ sym b
class_once broken text f g a b = a ∙ sym b
class_once ending text f g a b = a ∙ sym b
class_once status text f g a b = a ∙ sym b
class_once switch text f g a b = a ∙ sym b
class_once content_type text f g (inl a) (inl b) = a.1 ∙ sym b.1
class_once content_type text f g (inl a) (inr b) = absurd (b.0 a.0)
class_once content_type text f g (inr a) (inl b) = absurd (a.0 b.0)
class_once content_type text f g (inr a) (inr b) = a.1 ∙ sym b.1

pub first_once : (kinds : List Kind) (texts : List (List ℕ)) (f g : LineFault) → IsFirstFault kinds f texts → IsFirstFault kinds g texts → f ≡ g
first_once [] texts f g a b = absurd a
first_once (kind ∷ kinds) [] f g a b = absurd a
first_once (kind ∷ kinds) (text ∷ texts) f g (inl a) (inl b) = class_once kind text f g a.1 b.1
first_once (kind ∷ kinds) (text ∷ texts) f g (inl a) (inr b) = absurd (a.0 b.0)
first_once (kind ∷ kinds) (text ∷ texts) f g (inr a) (inl b) = absurd (b.0 a.0)
first_once (kind ∷ kinds) (text ∷ texts) f g (inr a) (inr b) = first_once kinds texts f g a.1 b.1

pub row_once : (kinds : List Kind) (texts : List (List ℕ)) (f g : LineFault) → IsRowFault kinds f texts → IsRowFault kinds g texts → f ≡ g
row_once kinds texts f g (inl a) (inl b) = a.1 ∙ sym b.1
row_once kinds texts f g (inl a) (inr b) = absurd (a.0 b.0)
row_once kinds texts f g (inr a) (inl b) = absurd (b.0 a.0)
row_once kinds texts f g (inr a) (inr b) = first_once kinds texts f g a.1 b.1
