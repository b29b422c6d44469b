-- What is seen of the request that is made of texts.
use Rattle.std.proofs.Common.{◌≡◌, ℕ, ◌+◌, ◌-◌, ◌*◌, ◌/◌, ◌%◌, ◌≤◌, Bool, true, false, cond, eqb, leb, List, [], ◌∷◌, length, codes, Option, None, Some, is_some, refl, sym, ap, subst, ◌∙◌, inl, inr, eqb-true, leb-true, arith}
use std.Path.{fun_ext}
use Rattle.std.specs.Str.{bytes_eq}
use Rattle.std.specs.List.{list_all}
use Rattle.std.proofs.lemmas.Bool.{and_parts, or_cases}
use Rattle.std.proofs.lemmas.Slice.Eq.{bytes_eq-Decides}
use Rattle.text_base.specs.Asked.{Bytes}
use Rattle.text_base.specs.declared.request.Field.{Field}
use Rattle.text_base.specs.declared.request.Field.TheVariants.{Authority, Target, Method, Proto, Random, Runtime, Internal, Header}
use Rattle.text_base.specs.Alphabets.{is_digit}
use Rattle.text_base.specs.Seen.{seen, six_digits, values, joined_values, not_empty}
use Rattle.goal_form.specs.Fields.{is_always, is_valid_text}
use Rattle.goal_form.specs.Shown.{AreShown}
use Rattle.goal_form.proofs.ValidTerms.{valid_term_law}
use Rattle.split_seek.specs.Texts.{Texts, text_of, AreSingle, heads_of, or_empty, random_of, made}

-- ---- headers

list_of : Option Bytes → List Bytes
list_of None = []
list_of (Some t) = t ∷ []

none_is : (o : Option Bytes) → is_some o ≡ false → o ≡ None
none_is None h = refl
none_is (Some t) h = cc

header_values : (m n t : Bytes) (o p : Option Bytes) (vs : List Bytes) → vs ≡ list_of o → (m ≡ n → o ≡ None) → (b : Bool) → bytes_eq m n ≡ b →
    cond b (t ∷ vs) vs ≡ list_of (cond b (Some t) o)
unfolding list_of
header_values m n t o p vs h fresh true e = ap (λ x. t ∷ x) (h ∙ ap list_of (fresh ((bytes_eq-Decides m n).0 e)))
header_values m n t o p vs h fresh false e = h

values_heads : (ts : Texts) → AreSingle ts → (n : Bytes) → values n (heads_of ts) ≡ list_of (text_of ts (Header n))
unfolding list_of
values_heads [] s n = refl
values_heads ((Authority, t) ∷ ts) s n = values_heads ts s.1 n
values_heads ((Target, t) ∷ ts) s n = values_heads ts s.1 n
values_heads ((Method, t) ∷ ts) s n = values_heads ts s.1 n
values_heads ((Proto, t) ∷ ts) s n = values_heads ts s.1 n
values_heads ((Random, t) ∷ ts) s n = values_heads ts s.1 n
values_heads ((Runtime, t) ∷ ts) s n = values_heads ts s.1 n
values_heads ((Internal, t) ∷ ts) s n = values_heads ts s.1 n
values_heads ((Header m, t) ∷ ts) s n =
    header_values m n t (text_of ts (Header n)) None (values n (heads_of ts)) (values_heads ts s.1 n)
    (λ e. none_is (text_of ts (Header n)) (subst (λ x. is_some (text_of ts (Header x)) ≡ false) e s.0)) (bytes_eq m n) refl

joined_list : (o : Option Bytes) → joined_values (list_of o) ≡ o
unfolding list_of
joined_list None = refl
joined_list (Some t) = refl

-- ---- the other fields

kept : (o : Option Bytes) → is_some o ≡ true → Some (or_empty o) ≡ o
kept None h = cc
kept (Some t) h = refl

proto_is : (t : Bytes) → is_valid_text Proto t ≡ true → cond (bytes_eq t (codes "https")) (codes "https") (codes "http") ≡ t
proto_is t h =
    elim (or_cases (bytes_eq t (codes "http")) (bytes_eq t (codes "https")) h) [
      | inl e ↦ let same : codes "http" ≡ t = sym ((bytes_eq-Decides t (codes "http")).0 e) in subst (λ x. cond (bytes_eq x (codes "https")) (codes "https") (codes "http") ≡ x) same refl
      | inr e ↦ let same : codes "https" ≡ t = sym ((bytes_eq-Decides t (codes "https")).0 e) in subst (λ x. cond (bytes_eq x (codes "https")) (codes "https") (codes "http") ≡ x) same refl
    ]

proto_kept : (o : Option Bytes) → is_some o ≡ true → ((t : Bytes) → o ≡ Some t → is_valid_text Proto t ≡ true) → Some (cond (bytes_eq (or_empty o) (codes "https")) (codes "https") (codes "http")) ≡ o
proto_kept None h v = cc
proto_kept (Some t) h v = ap Some (proto_is t (v t refl))

digit_at : (a : ℕ) → is_digit a ≡ true → (48 ≤ a) × (a ≤ 57)
digit_at a h = let k = and_parts (leb 48 a) (leb a 57) h in (leb-true 48 a k.0, leb-true a 57 k.1)

module _ (a b c d e f : ℕ) where
  abbrev number : ℕ
  number = a * 100000 + b * 10000 + c * 1000 + d * 100 + e * 10 + f

  abbrev rest : ℕ
  rest = number % 1000000

  module _ (ha : a ≤ 9) (hb : b ≤ 9) (hc : c ≤ 9) (hd : d ≤ 9) (he : e ≤ 9) (hf : f ≤ 9) where
    whole : rest ≡ number
    whole = omega arith

    first : number / 100000 % 10 ≡ a
    first = omega arith

    second : number / 10000 % 10 ≡ b
    second = omega arith

    third : number / 1000 % 10 ≡ c
    third = omega arith

    fourth : number / 100 % 10 ≡ d
    fourth = omega arith

    fifth : number / 10 % 10 ≡ e
    fifth = omega arith

    sixth : number % 10 ≡ f
    sixth = omega arith

    six_are : six_digits (number % 1000000) ≡ (48 + a) ∷ (48 + b) ∷ (48 + c) ∷ (48 + d) ∷ (48 + e) ∷ (48 + f) ∷ []
    six_are = rw (whole, first, second, third, fourth, fifth, sixth) refl

back : (a : ℕ) → is_digit a ≡ true → 48 + (a - 48) ≡ a
back a h = let k = digit_at a h in let low = k.0 in omega arith

small : (a : ℕ) → is_digit a ≡ true → a - 48 ≤ 9
small a h = let k = digit_at a h in let high = k.1 in omega arith

digits_is : (a b c d e f : ℕ) → is_digit a ≡ true → is_digit b ≡ true → is_digit c ≡ true → is_digit d ≡ true → is_digit e ≡ true → is_digit f ≡ true →
    six_digits (random_of (a ∷ b ∷ c ∷ d ∷ e ∷ f ∷ []) % 1000000) ≡ a ∷ b ∷ c ∷ d ∷ e ∷ f ∷ []
digits_is a b c d e f ha hb hc hd he hf =
    six_are (a - 48) (b - 48) (c - 48) (d - 48) (e - 48) (f - 48) (small a ha) (small b hb) (small c hc) (small d hd) (small e he) (small f hf)
    ∙ rw (back a ha, back b hb, back c hc, back d hd, back e he, back f hf) refl

six_long : (t : Bytes) → is_valid_text Random t ≡ true → length t ≡ 6
six_long t h = eqb-true (length t) 6 (and_parts (eqb (length t) 6) (list_all is_digit t) h).0

all_digits : (t : Bytes) → is_valid_text Random t ≡ true → list_all is_digit t ≡ true
all_digits t h = (and_parts (eqb (length t) 6) (list_all is_digit t) h).1

digits_all : (a b c d e f : ℕ) → list_all is_digit (a ∷ b ∷ c ∷ d ∷ e ∷ f ∷ []) ≡ true → six_digits (random_of (a ∷ b ∷ c ∷ d ∷ e ∷ f ∷ []) % 1000000) ≡ a ∷ b ∷ c ∷ d ∷ e ∷ f ∷ []
digits_all a b c d e f h =
    let p = and_parts (is_digit a) (list_all is_digit (b ∷ c ∷ d ∷ e ∷ f ∷ [])) h in
    let q = and_parts (is_digit b) (list_all is_digit (c ∷ d ∷ e ∷ f ∷ [])) p.1 in
    let r = and_parts (is_digit c) (list_all is_digit (d ∷ e ∷ f ∷ [])) q.1 in
    let s = and_parts (is_digit d) (list_all is_digit (e ∷ f ∷ [])) r.1 in
    let u = and_parts (is_digit e) (list_all is_digit (f ∷ [])) s.1 in
    let v = and_parts (is_digit f) true u.1 in
    digits_is a b c d e f p.0 q.0 r.0 s.0 u.0 v.0

random_is : (t : Bytes) → length t ≡ 6 → list_all is_digit t ≡ true → six_digits (random_of t % 1000000) ≡ t
random_is [] n h = absurd (omega arith)
random_is (a ∷ []) n h = absurd (omega arith)
random_is (a ∷ b ∷ []) n h = absurd (omega arith)
random_is (a ∷ b ∷ c ∷ []) n h = absurd (omega arith)
random_is (a ∷ b ∷ c ∷ d ∷ []) n h = absurd (omega arith)
random_is (a ∷ b ∷ c ∷ d ∷ e ∷ []) n h = absurd (omega arith)
random_is (a ∷ b ∷ c ∷ d ∷ e ∷ f ∷ []) n h = digits_all a b c d e f h
random_is (a ∷ b ∷ c ∷ d ∷ e ∷ f ∷ g ∷ t) n h = absurd (omega arith)

random_kept : (o : Option Bytes) → is_some o ≡ true → ((t : Bytes) → o ≡ Some t → is_valid_text Random t ≡ true) → Some (six_digits (random_of (or_empty o) % 1000000)) ≡ o
random_kept None h v = cc
random_kept (Some t) h v = ap Some (random_is t (six_long t (v t refl)) (all_digits t (v t refl)))

runtime_kept : (o : Option Bytes) → ((t : Bytes) → o ≡ Some t → is_valid_text Runtime t ≡ true) → not_empty (or_empty o) ≡ o
runtime_kept None v = refl
runtime_kept (Some []) v = let none = v [] refl in cc
runtime_kept (Some (b ∷ t)) v = refl

internal_kept : (o : Option Bytes) → ((t : Bytes) → o ≡ Some t → is_valid_text Internal t ≡ true) → cond (is_some o) (Some (codes "true")) None ≡ o
internal_kept None v = refl
internal_kept (Some t) v = ap Some (sym ((bytes_eq-Decides t (codes "true")).0 (v t refl)))

-- ---- all fields

module _ (ts : Texts) (single : AreSingle ts) (there : (f : Field) → is_always f ≡ true → is_some (text_of ts f) ≡ true)
    (valid : (f : Field) (t : Bytes) → text_of ts f ≡ Some t → is_valid_text f t ≡ true) where
  seen_at : (f : Field) → seen (made ts) f ≡ text_of ts f
  unfolding seen
  seen_at Authority = kept (text_of ts Authority) (there Authority refl)
  seen_at Target = kept (text_of ts Target) (there Target refl)
  seen_at Method = kept (text_of ts Method) (there Method refl)
  seen_at Proto = proto_kept (text_of ts Proto) (there Proto refl) (valid Proto)
  seen_at Random = random_kept (text_of ts Random) (there Random refl) (valid Random)
  seen_at Runtime = runtime_kept (text_of ts Runtime) (valid Runtime)
  seen_at Internal = internal_kept (text_of ts Internal) (valid Internal)
  seen_at (Header n) = ap joined_values (values_heads ts single n) ∙ joined_list (text_of ts (Header n))

-- the request of valid texts shows these texts
pub seen_made : (ts : Texts) → AreSingle ts → AreShown (text_of ts) → seen (made ts) ≡ text_of ts
seen_made ts single shown =
    fun_ext (seen_at ts single (λ f a. let t = shown.there f a in ap is_some t.1) (λ f t e. (valid_term_law.exact f t).0 (shown.texts f t e)))
