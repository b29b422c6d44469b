-- The input of a test: the parts that are read have headers that keep the rules, so no header is the first bad part.
use Rattle.std.proofs.Common.{◌≡◌, ◌⊎◌, ℕ, Bool, true, false, not, if◌then◌else◌, List, [], Some, None, Ok, inl, inr, refl, sym, subst}
use Rattle.std.specs.Prelude.{IfOk, option_map, position, unwrap_or, codes}
use Rattle.std.specs.List.{list_all}
use Rattle.serde_json.specs.Data.{Data}
use Rattle.text_base.specs.Asked.{Head, Asked, plain_request}
use Rattle.text_base.specs.Requests.{is_authority, is_target, is_method, is_runtime, is_header, is_valid, first_bad_part}
use Rattle.text_base.specs.declared.request.Heads.{Heads}
use Rattle.text_base.specs.declared.request.BadRequest.{BadRequest}
use Rattle.text_base.specs.declared.request.BadRequest.TheVariants as bad
use Rattle.text_base.proofs.Valid.{valid_without_bad_part}
use Rattle.json_tables.specs.declared.message.Message.TheVariants.{TestInput}
use Rattle.json_tables.specs.Names as name
use Rattle.json_walk.specs.declared.refusal.Kind.TheVariants.{BadText}
use Rattle.json_walk.specs.declared.refusal.ReadFail.{ReadFail}
use Rattle.json_walk.specs.Outcome.{Outcome, Fails, offence}
use Rattle.json_walk.specs.Places.{under}
use Rattle.json_walk.specs.Members.{members_at}
use Rattle.json_walk.specs.Fields.{optional}
use Rattle.json_walk.specs.Leaves.{text}
use Rattle.test_read.specs.Headers.{headers}
use Rattle.test_read.specs.Inputs.{asked_line, asked_flags, asked_parts, valid_request, input}
use Rattle.json_walk.proofs.ReadFacts.{Reads, after, whatever, of_outcome, of_optional}
use Rattle.test_read.proofs.HeadFacts.{AreHeads, no_heads, of_headers}

-- ---- the parts

of_parts : Reads (λ q. AreHeads q.headers) asked_parts
unfolding asked_parts
of_parts p d =
    let Q : Asked → Type 0 = λ q. AreHeads q.headers in
    whatever (asked_line p d) _ Q (λ line. whatever (asked_flags p d) _ Q (λ flags. whatever (optional p d name.runtime text) _ Q (λ runtime.
    after (optional p d name.additional_request_headers headers) _ (λ v. AreHeads (unwrap_or v [])) Q (of_optional p d name.additional_request_headers headers [] AreHeads no_heads of_headers) (λ heads h. h))))

pub heads_of_parts : (p : List ℕ) (d : Data) (q : Asked) → asked_parts p d ≡ Ok q → list_all is_header q.headers ≡ true
heads_of_parts p d q e = (of_outcome (asked_parts p d) q (λ r. AreHeads r.headers) e (of_parts p d)).valid

-- ---- the request

no_bad_head : (hs : List Head) → list_all is_header hs ≡ true → option_map bad.Header (position (λ h. not (is_header h)) hs) ≡ None
no_bad_head hs e = (valid_without_bad_part (record (plain_request (codes "a") (codes "/")) { headers = hs })).1 e

-- what the reading of a request says where the part is the first bad one
abbrev pub IsRefusedFor : List ℕ → Outcome Asked → BadRequest → Type 0
IsRefusedFor p o bad.Authority = o ≡ offence (under p name.authority) BadText
IsRefusedFor p o bad.Target = o ≡ offence (under p name.path) BadText
IsRefusedFor p o bad.Method = o ≡ offence (under p name.method) BadText
IsRefusedFor p o bad.Runtime = o ≡ offence (under p name.runtime) BadText
IsRefusedFor p o (bad.Header i) = ⊥
IsRefusedFor p o bad.OutOfMemory = Unit {0}

by_part : (p : List ℕ) (q : Asked) (a t m r : Bool) (e : BadRequest) →
    (if not a then Some bad.Authority else if not t then Some bad.Target else if not m then Some bad.Method else if not r then Some bad.Runtime else None) ≡ Some e →
    IsRefusedFor p (if not a then offence (under p name.authority) BadText else if not t then offence (under p name.path) BadText
    else if not m then offence (under p name.method) BadText else if not r then offence (under p name.runtime) BadText else Ok q) e
by_part p q false t m r e h = let s : bad.Authority ≡ e = cc in subst (IsRefusedFor p (offence (under p name.authority) BadText)) s refl
by_part p q true false m r e h = let s : bad.Target ≡ e = cc in subst (IsRefusedFor p (offence (under p name.path) BadText)) s refl
by_part p q true true false r e h = let s : bad.Method ≡ e = cc in subst (IsRefusedFor p (offence (under p name.method) BadText)) s refl
by_part p q true true true false e h = let s : bad.Runtime ≡ e = cc in subst (IsRefusedFor p (offence (under p name.runtime) BadText)) s refl
by_part p q true true true true e h = absurd (cc)

pub refused_for : (p : List ℕ) (q : Asked) (e : BadRequest) → list_all is_header q.headers ≡ true → (e ≡ bad.OutOfMemory) ⊎ (first_bad_part q ≡ Some e) → IsRefusedFor p (valid_request p q) e
unfolding valid_request
refused_for p q e heads w = elim w [
  | inl is ↦ subst (IsRefusedFor p (valid_request p q)) (sym is) tt
  | inr first ↦ by_part p q (is_authority q.authority) (is_target q.target) (is_method q.method) (is_runtime q.runtime) e (rw (no_bad_head q.headers heads) at first)
]

pub no_header_refused : (q : Asked) (e : BadRequest) (i : ℕ) → list_all is_header q.headers ≡ true → (e ≡ bad.OutOfMemory) ⊎ (first_bad_part q ≡ Some e) → e ≡ bad.Header i → ⊥
no_header_refused q e i heads w is = subst (IsRefusedFor [] (valid_request [] q)) is (refused_for [] q e heads w)

fails_as : (fail : ReadFail) (o r : Outcome Asked) → o ≡ r → Fails fail r → Fails fail o
fails_as fail o r e h = subst (Fails fail) (sym e) h

-- the offence of each part is that at its member
pub of_authority : (p : List ℕ) (q : Asked) (e : BadRequest) (fail : ReadFail) → list_all is_header q.headers ≡ true → (e ≡ bad.OutOfMemory) ⊎ (first_bad_part q ≡ Some e) → e ≡ bad.Authority →
    Fails fail (offence {A = Asked} (under p name.authority) BadText) → Fails fail (valid_request p q)
of_authority p q e fail heads w is h = fails_as fail (valid_request p q) _ (subst (IsRefusedFor p (valid_request p q)) is (refused_for p q e heads w)) h

pub of_target : (p : List ℕ) (q : Asked) (e : BadRequest) (fail : ReadFail) → list_all is_header q.headers ≡ true → (e ≡ bad.OutOfMemory) ⊎ (first_bad_part q ≡ Some e) → e ≡ bad.Target →
    Fails fail (offence {A = Asked} (under p name.path) BadText) → Fails fail (valid_request p q)
of_target p q e fail heads w is h = fails_as fail (valid_request p q) _ (subst (IsRefusedFor p (valid_request p q)) is (refused_for p q e heads w)) h

pub of_method : (p : List ℕ) (q : Asked) (e : BadRequest) (fail : ReadFail) → list_all is_header q.headers ≡ true → (e ≡ bad.OutOfMemory) ⊎ (first_bad_part q ≡ Some e) → e ≡ bad.Method →
    Fails fail (offence {A = Asked} (under p name.method) BadText) → Fails fail (valid_request p q)
of_method p q e fail heads w is h = fails_as fail (valid_request p q) _ (subst (IsRefusedFor p (valid_request p q)) is (refused_for p q e heads w)) h

pub of_runtime : (p : List ℕ) (q : Asked) (e : BadRequest) (fail : ReadFail) → list_all is_header q.headers ≡ true → (e ≡ bad.OutOfMemory) ⊎ (first_bad_part q ≡ Some e) → e ≡ bad.Runtime →
    Fails fail (offence {A = Asked} (under p name.runtime) BadText) → Fails fail (valid_request p q)
of_runtime p q e fail heads w is h = fails_as fail (valid_request p q) _ (subst (IsRefusedFor p (valid_request p q)) is (refused_for p q e heads w)) h

-- a request whose headers keep the rules is valid where it is read
abbrev IsAsked : Asked → Type 0
IsAsked q = (is_valid q ≡ true) × AreHeads q.headers

of_request : (p : List ℕ) (q : Asked) → AreHeads q.headers → IfOk (valid_request p q) IsAsked
unfolding valid_request
of_request p q heads = by_rules (is_authority q.authority) (is_target q.target) (is_method q.method) (is_runtime q.runtime) refl refl refl refl
  where
    by_rules : (a t m r : Bool) → is_authority q.authority ≡ a → is_target q.target ≡ t → is_method q.method ≡ m → is_runtime q.runtime ≡ r →
        IfOk (if not a then offence (under p name.authority) BadText else if not t then offence (under p name.path) BadText
        else if not m then offence (under p name.method) BadText else if not r then offence (under p name.runtime) BadText else Ok q) IsAsked
    by_rules false t m r ae te me re = tt
    by_rules true false m r ae te me re = tt
    by_rules true true false r ae te me re = tt
    by_rules true true true false ae te me re = tt
    by_rules true true true true ae te me re = (rw (ae, te, me, re, heads.valid) refl, heads)

-- the request and the response of an input
pub record IsInput (i : Asked × Heads) : Type 0 where
  pub valid : is_valid i.0 ≡ true
  pub request : AreHeads i.0.headers
  pub response : AreHeads i.1.list

pub of_input : Reads IsInput input
unfolding input
of_input p d =
    whatever (members_at TestInput p d) _ IsInput (λ _.
    after (asked_parts p d) _ (λ q. AreHeads q.headers) IsInput (of_parts p d) (λ parts heads.
    after (optional p d name.additional_response_headers headers) _ (λ v. AreHeads (unwrap_or v [])) IsInput (of_optional p d name.additional_response_headers headers [] AreHeads no_heads of_headers) (λ response r.
    after (valid_request p parts) _ IsAsked IsInput (of_request p parts heads) (λ request q. record { valid = q.0; request = q.1; response = r }))))
