-- Texts of fields, and the request that is made of them.
use Rattle.std.specs.Prelude.{◌≡◌, ℕ, ◌+◌, ◌-◌, ◌*◌, false, if◌then◌else◌, List, [], ◌∷◌, ◌++◌, Option, None, Some, is_some, codes, bytes_eq}
use Rattle.text_base.specs.Asked.{Bytes, Head, Asked}
use Rattle.text_base.specs.declared.request.Field.{Field}
use Rattle.text_base.specs.declared.request.Field.TheVariants as field
use Rattle.goal_form.specs.Fields.{same_field}

abbrev pub Texts : Type 0
Texts = List (Field × Bytes)

-- the text of a field, if it has one
abbrev pub text_of : Texts → Field → Option Bytes
text_of [] f = None
text_of (t ∷ ts) f = if same_field t.0 f then Some t.1 else text_of ts f

-- no field has two texts
abbrev pub AreSingle : Texts → Type 0
AreSingle [] = Unit {0}
AreSingle (t ∷ ts) = (is_some (text_of ts t.0) ≡ false) × AreSingle ts

-- a header for the text of a header's field, and nothing for another
abbrev pub head_of : Field → Bytes → List Head
head_of field.Authority t = []
head_of field.Target t = []
head_of field.Method t = []
head_of field.Proto t = []
head_of field.Random t = []
head_of field.Runtime t = []
head_of field.Internal t = []
head_of (field.Header name) t = (name, t) ∷ []

abbrev pub heads_of : Texts → List Head
heads_of [] = []
heads_of (t ∷ ts) = head_of t.0 t.1 ++ heads_of ts

abbrev pub or_empty : Option Bytes → Bytes
or_empty None = []
or_empty (Some t) = t

-- the number of six digits, and 0 for another text
abbrev pub random_of : Bytes → ℕ
random_of (a ∷ b ∷ c ∷ d ∷ e ∷ f ∷ []) = (a - 48) * 100000 + (b - 48) * 10000 + (c - 48) * 1000 + (d - 48) * 100 + (e - 48) * 10 + (f - 48)
random_of t = 0

-- the request of these texts
abbrev pub made : Texts → Asked
made ts = record {
  authority = or_empty (text_of ts field.Authority);
  target = or_empty (text_of ts field.Target);
  method = or_empty (text_of ts field.Method);
  https = bytes_eq (or_empty (text_of ts field.Proto)) (codes "https");
  internal = is_some (text_of ts field.Internal);
  headers = heads_of ts;
  runtime = or_empty (text_of ts field.Runtime);
  random = random_of (or_empty (text_of ts field.Random));
}
