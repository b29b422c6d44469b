-- Names and values of edits are names and values of a map.
use Rattle.std.proofs.Common.{◌≡◌, ℕ, suc, ◌+◌, ◌-◌, ◌<◌, Bool, true, false, not, ◌&&◌, if◌then◌else◌, List, [], ◌∷◌, ◌++◌, length, get_or, take, drop, drop-cons, length-drop, append_assoc, nat_le, refl, sym, ap, ◌∙◌, arith}
use Rattle.std.specs.Prelude.{◌==◌, nat_eq}
use Rattle.std.specs.List.{list_all, starts_with}
use Rattle.std.specs.Char.{to_ascii_lowercase}
use Rattle.std.proofs.lemmas.Bool.{and_parts, leb-true, eqb-true}
use Rattle.std.proofs.lemmas.List.{drop-drop}
use Rattle.std.proofs.Math.Seq.{take-length}
use Rattle.std.proofs.lemmas.Bool.Decides.{nat_tests}
use Rattle.http_header.specs.Token.{is_token_byte as is_kit_token, lowercase}
use Rattle.http_header.specs.FieldName.{IsHeaderName}
use Rattle.http_header.proofs.TokenLemmas.{AllPass-from_test}
use Rattle.text_base.specs.Asked.{Bytes, Head}
use Rattle.text_base.specs.Alphabets.{is_token_byte, is_capital, is_printed}
use Rattle.text_base.specs.Requests.{some_of, is_header, is_header_name, is_header_value}
use Rattle.cfg_types.specs.HeaderEdits.{undoubled}
use Rattle.cfg_types.specs.Kinds.{is_edit_name}
use Rattle.head_edit.specs.Maps.{is_map_name, is_map_head}

abbrev is_name_byte : ℕ → Bool
is_name_byte b = is_token_byte b && not (is_capital b)

kit-token : (b : ℕ) → is_name_byte b ≡ true → is_kit_token b ≡ true
unfolding is_kit_token
kit-token b h = grind (arith, nat_tests)

kit-lower : (b : ℕ) → is_name_byte b ≡ true → to_ascii_lowercase b ≡ b
kit-lower b h = grind (arith, nat_tests)

tokens : (n : Bytes) → list_all is_name_byte n ≡ true → list_all is_kit_token n ≡ true
tokens [] h = refl
tokens (b ∷ n) h =
    let p = and_parts (is_name_byte b) (list_all is_name_byte n) h in
    rw (kit-token b p.0, tokens n p.1) refl

lowered : (n : Bytes) → list_all is_name_byte n ≡ true → lowercase n ≡ n
lowered [] h = refl
lowered (b ∷ n) h =
    let p = and_parts (is_name_byte b) (list_all is_name_byte n) h in
    rw (kit-lower b p.0, lowered n p.1) refl

pub map_name : (n : Bytes) → is_map_name n ≡ true → IsHeaderName n
map_name [] h = absurd (cc)
map_name (b ∷ n) h =
    let p = and_parts (nat_le (length (b ∷ n)) 1024) (list_all is_name_byte (b ∷ n)) h in
    let short = leb-true (length (b ∷ n)) 1024 p.0 in
    (((omega arith, AllPass-from_test is_kit_token (b ∷ n) (tokens (b ∷ n) p.1)), omega arith), lowered (b ∷ n) p.1)

pub edit_name : (n : Bytes) → is_edit_name n ≡ true → is_map_name n ≡ true
edit_name n h = (and_parts (is_map_name n) _ h).0

pub edit_name_lowered : (n : Bytes) → is_edit_name n ≡ true → lowercase n ≡ n
edit_name_lowered n h = (map_name n (edit_name n h)).1

-- ---- for callers: headers of a valid request with short names can be put in a map

pub map_head-from_header : (h : Head) → is_header h ≡ true → nat_le (length h.0) 1024 ≡ true → is_map_head h ≡ true
map_head-from_header h valid short =
    let parts = and_parts (is_header_name h.0) (is_header_value h.1) valid in
    let name = (and_parts (some_of is_name_byte h.0) _ parts.0).0 in
    let value = (and_parts (list_all is_printed h.1) _ (and_parts _ _ parts.1).0).0 in
    rw (short, name, value) refl

pub map_heads-from_headers : (hs : List Head) → list_all is_header hs ≡ true → list_all (λ h. nat_le (length h.0) 1024) hs ≡ true → list_all is_map_head hs ≡ true
map_heads-from_headers [] valid short = refl
map_heads-from_headers (h ∷ hs) valid short =
    let v = and_parts (is_header h) (list_all is_header hs) valid in
    let s = and_parts (nat_le (length h.0) 1024) (list_all (λ x. nat_le (length x.0) 1024) hs) short in
    rw (map_head-from_header h v.0 s.0, map_heads-from_headers hs v.1 s.1) refl

-- ---- doubled percent signs

turned : (a : ℕ) (v : Bool) → (a == 37) ≡ v → nat_eq 37 a ≡ v
turned a true e = grind (arith, nat_tests)
turned a false e = grind (arith, nat_tests)

-- how many bytes one step takes: two where both are percent signs
abbrev step : Bytes → ℕ
step t = if starts_with nat_eq t (37 ∷ 37 ∷ []) then 2 else 1

undoubled-step : (a : ℕ) (t : Bytes) → undoubled (a ∷ t) ≡ a ∷ undoubled (drop (step (a ∷ t)) (a ∷ t))
undoubled-step a [] = by (nat_eq 37 a)
  where
    by : (v : Bool) → undoubled (a ∷ []) ≡ a ∷ undoubled (drop (if v && false then 2 else 1) (a ∷ []))
    by true = refl
    by false = refl
undoubled-step a (b ∷ t) = by (a == 37) refl (b == 37) refl
  where
    by : (v : Bool) → (a == 37) ≡ v → (w : Bool) → (b == 37) ≡ w → undoubled (a ∷ b ∷ t) ≡ a ∷ undoubled (drop (step (a ∷ b ∷ t)) (a ∷ b ∷ t))
    by true e true f =
        rw (e, f, turned a true e, turned b true f) (ap (λ x. x ∷ undoubled t) (sym (eqb-true a 37 e)))
    by true e false f = rw (e, f, turned a true e, turned b false f) refl
    by false e w f = rw (e, turned a false e) refl

undoubled_more : (v front : Bytes) (at : ℕ) → at < length v → front ++ undoubled (drop at v) ≡ undoubled v →
    (front ++ get_or v at 0 ∷ []) ++ undoubled (drop (at + step (drop at v)) v) ≡ undoubled v
undoubled_more v front at l e =
    let first : ℕ = get_or v at 0 in
    let here : drop at v ≡ first ∷ drop (suc at) v = drop-cons v at 0 l in
    let one : undoubled (drop at v) ≡ first ∷ undoubled (drop (step (drop at v)) (drop at v)) =
    ap undoubled here ∙ undoubled-step first (drop (suc at) v) ∙ ap (λ t. first ∷ undoubled (drop (step t) t)) (sym here) in
    append_assoc front (first ∷ []) (undoubled (drop (at + step (drop at v)) v))
    ∙ ap (λ t. front ++ (first ∷ undoubled t)) (sym (drop-drop (step (drop at v)) at v))
    ∙ ap (λ t. front ++ t) (sym one)
    ∙ e

-- a step of the loop, where the rest of the bytes is a range of the slice
pub undoubled_next : (v front new : Bytes) (at more : ℕ) (b : Bool) → at < length v → new ≡ front ++ get_or v at 0 ∷ [] →
    b ≡ starts_with nat_eq (take (length v - at) (drop at v)) (37 ∷ 37 ∷ []) → more ≡ (if b then 2 else 1) → front ++ undoubled (drop at v) ≡ undoubled v →
    new ++ undoubled (drop (at + more) v) ≡ undoubled v
undoubled_next v front new at more b l e t k h =
    let whole : take (length v - at) (drop at v) ≡ drop at v = ap (λ n. take n (drop at v)) (sym (length-drop at v)) ∙ take-length (drop at v) in
    let same : more ≡ step (drop at v) = k ∙ ap (λ (w : Bool). if w then 2 else 1) (t ∙ ap (λ (r : Bytes). starts_with nat_eq r (37 ∷ 37 ∷ [])) whole) in
    rw (e, same) (undoubled_more v front at l h)

pub printed-undoubled : (v : Bytes) → list_all is_printed v ≡ true → list_all is_printed (undoubled v) ≡ true
printed-undoubled [] h = refl
printed-undoubled (a ∷ []) h = h
printed-undoubled (a ∷ b ∷ t) h =
    let p = and_parts (is_printed a) (list_all is_printed (b ∷ t)) h in
    let q = and_parts (is_printed b) (list_all is_printed t) p.1 in
    by (a == 37 && b == 37) refl p.0 (printed-undoubled t q.1) (printed-undoubled (b ∷ t) p.1)
  where
    by : (w : Bool) → (a == 37 && b == 37) ≡ w → is_printed a ≡ true → list_all is_printed (undoubled t) ≡ true → list_all is_printed (undoubled (b ∷ t)) ≡ true →
        list_all is_printed (undoubled (a ∷ b ∷ t)) ≡ true
    by true e here two one = rw e two
    by false e here two one = rw e (rw (here, one) refl)
