-- A member under either of its spellings, and the header list that it is.
use Rattle.std.proofs.Common.{◌≡◌, ℕ, Bool, true, false, if◌then◌else◌, List, [], Option, Some, None, unwrap_or, Result, Ok, Err, refl, sym, ap, ◌∙◌, subst}
use Rattle.std.specs.Prelude.{option_and_then, not}
use Rattle.serde_json.specs.Data.{Data}
use Rattle.serde_json.specs.Find.{get}
use Rattle.json_tables.specs.Spellings.{Spelled, camel, with_camel}
use Rattle.json_walk.specs.Outcome.{Outcome, ◌>>=◌, Gives}
use Rattle.json_walk.specs.Places.{under}
use Rattle.json_walk.specs.Members.{is_given, is_null}
use Rattle.json_walk.specs.Fields.{Reading, field, optional}
use Rattle.json_walk.specs.Leaves.{list_of}
use Rattle.json_walk.specs.declared.refusal.ReadFail.{ReadFail}
use Rattle.read_action.specs.Edits.{listed}

by_first : (b c : Bool) (d e : Data) (n m : List ℕ) → Some e ≡ (if b then get n d else None) → Some e ≡ option_and_then (λ k. get k d) (if b then Some n else (if c then Some m else None))
by_first true c d e n m h = h
by_first false c d e n m h = absurd (cc h)

-- the member under the first spelling is the field
pub first_spelling : (d e : Data) (n : List ℕ) (s : Spelled) → s ≡ with_camel n → Some e ≡ (if is_given (get s.0 d) then get s.0 d else None) → Some e ≡ field n d
unfolding field
first_spelling d e n s same h =
    let P : Spelled → Type 0 = λ s. Some e ≡ (if is_given (get s.0 d) then get s.0 d else None) in
    by_first (is_given (get n d)) (is_given (get (camel n) d)) d e n (camel n) (subst P same h)

not_given : (b : Bool) (e : Data) → None ≡ (if b then Some e else None) → b ≡ false
not_given true e h = absurd (cc h)
not_given false e h = refl

unset : (o : Option Data) → None ≡ (if is_given o then o else None) → is_given o ≡ false
unset None h = refl
unset (Some e) h = not_given (not (is_null e)) e h

by_second : (b c : Bool) (d : Data) (n m : List ℕ) → b ≡ false → (if c then get m d else None) ≡ option_and_then (λ k. get k d) (if b then Some n else (if c then Some m else None))
by_second true c d n m h = absurd (cc h)
by_second false true d n m h = refl
by_second false false d n m h = refl

-- where there is none, the member under the second one is the field
pub second_spelling : (d : Data) (n : List ℕ) (s : Spelled) → s ≡ with_camel n → None ≡ (if is_given (get s.0 d) then get s.0 d else None) → (if is_given (get s.1 d) then get s.1 d else None) ≡ field n d
unfolding field
second_spelling d n s same h =
    let P : Spelled → Type 0 = λ s. None ≡ (if is_given (get s.0 d) then get s.0 d else None) in
    ap (λ (s : Spelled). if is_given (get s.1 d) then get s.1 d else None) same
    ∙ by_second (is_given (get n d)) (is_given (get (camel n) d)) d n (camel n) (unset (get n d) (subst P same h))

as_read : {A : Type 0} (o : Outcome (List A)) → ((o >>= λ x. Ok (Some x)) >>= λ found. Ok (unwrap_or found [])) ≡ o
as_read (Ok x) = refl
as_read (Err r) = refl

list_there : {A : Type 0} (n : List ℕ) (element : Reading A) (p : List ℕ) (d e : Data) → Some e ≡ field n d → listed n element p d ≡ list_of (Some 1000) element (under p n) e
unfolding listed optional
list_there n element p d e h = rw (← h) (as_read (list_of (Some 1000) element (under p n) e))

-- the code's answer on the member is that on the list
pub list_is : {A : Type 0} (r : Result (List A) ReadFail) (n : List ℕ) (s : Spelled) (element : Reading A) (p at : List ℕ) (d e : Data) → s ≡ with_camel n → at ≡ under p s.0 → Some e ≡ field n d → Gives (λ v. v) r (list_of (Some 1000) element at e) → Gives (λ l. l) r (listed n element p d)
list_is {A} r n s element p at d e same place there given =
    let P : Outcome (List A) → Type 0 = λ o. Gives (λ v. v) r o in
    let here : at ≡ under p n = place ∙ ap (λ (s : Spelled). under p s.0) same in
    subst P (ap (λ at. list_of (Some 1000) element at e) here ∙ sym (list_there n element p d e there)) given

pub list_absent : {A : Type 0} (n : List ℕ) (element : Reading A) (p : List ℕ) (d : Data) → None ≡ field n d → listed n element p d ≡ Ok []
unfolding listed optional
list_absent n element p d h = rw (← h) refl
