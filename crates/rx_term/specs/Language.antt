-- Which texts are in a term, its partial derivatives, and the test of membership by them.
use Rattle.std.specs.Prelude.{◌≡◌, ℕ, Bool, true, false, ◌&&◌, ◌||◌, cond, ◌⊎◌, ◌↔◌, IsTrue, List, [], ◌∷◌, ◌++◌, map}
use Rattle.std.specs.List.{concat, flat_map, list_any}
use Rattle.rx_term.specs.declared.terms.Term.{Term, Nothing, Empty, One}
use Rattle.rx_term.specs.Term.{row_of, choice_of, star_of, cat, star, has_byte}

-- the list has the element
abbrev pub Has : {A : Type 0} → List A → A → Type 0
Has [] x = ⊥
Has (y ∷ ys) x = (y ≡ x) ⊎ Has ys x

-- each element of the list is so
abbrev pub Each : {A : Type 0} → (A → Type 0) → List A → Type 0
Each P [] = Unit {0}
Each P (x ∷ xs) = P x × Each P xs

-- the text is in the term: the empty text in Empty, a byte of the set in One, one text behind the other in a row,
-- a text of either part in a choice, texts of the body put together in an iteration
abbrev pub In : List ℕ → Term → Type 0
In w Nothing = ⊥
In w Empty = w ≡ []
In w (One set) = (b : ℕ) × (w ≡ b ∷ []) × (has_byte set b ≡ true)
In w (row_of p s q u) = (v z : List ℕ) × (w ≡ v ++ z) × In v s × In z u
In w (choice_of p s q u) = In w s ⊎ In w u
In w (star_of p s) = (ws : List (List ℕ)) × (w ≡ concat ws) × Each (λ v. In v s) ws

-- whether the empty text is in the term
abbrev pub nullable : Term → Bool
nullable Nothing = false
nullable Empty = true
nullable (One set) = false
nullable (row_of p s q u) = nullable s && nullable u
nullable (choice_of p s q u) = nullable s || nullable u
nullable (star_of p s) = true

-- a term joined to u: Empty joined to u is u, any other x is the row of x and u
abbrev pub join : Term → Term → Term
join Empty u = u
join x u = cat x u

-- the partial derivatives of a term by a byte: what may be left of it behind that byte
abbrev pub derive : ℕ → Term → List Term
derive b Nothing = []
derive b Empty = []
derive b (One set) = cond (has_byte set b) (Empty ∷ []) []
derive b (row_of p s q u) = map (λ x. join x u) (derive b s) ++ cond (nullable s) (derive b u) []
derive b (choice_of p s q u) = derive b s ++ derive b u
derive b (star_of p s) = map (λ x. join x (star s)) (derive b s)

-- the partial derivatives of a list of terms by a byte
abbrev pub after : ℕ → List Term → List Term
after b ts = flat_map (derive b) ts

-- the terms that a text leads to from a list of terms
abbrev pub state_from : List Term → List ℕ → List Term
state_from ts [] = ts
state_from ts (b ∷ w) = state_from (after b ts) w

-- the state of a term after a text
abbrev pub state : Term → List ℕ → List Term
state t w = state_from (t ∷ []) w

-- whether the empty text is in one of the terms
abbrev pub accepting : List Term → Bool
accepting ts = list_any nullable ts

-- two lists are one set
abbrev pub SameSet : {A : Type 0} → List A → List A → Type 0
SameSet {A} xs ys = (x : A) → (Has xs x → Has ys x) × (Has ys x → Has xs x)

-- a text that begins with a byte is in a term exactly where its rest is in a partial derivative
abbrev pub DerivativeLaw : Type 0
DerivativeLaw = (t : Term) (b : ℕ) (w : List ℕ) →
    (In (b ∷ w) t → (x : Term) × Has (derive b t) x × In w x) × ((x : Term) → Has (derive b t) x → In w x → In (b ∷ w) t)

-- whether the text is in the term: its state accepts
abbrev pub is_in : Term → List ℕ → Bool
is_in t w = accepting (state t w)

-- the test of membership is true exactly where the text is in the term
abbrev pub MembershipLaw : Type 0
MembershipLaw = (t : Term) (w : List ℕ) → IsTrue (is_in t w) ↔ In w t
