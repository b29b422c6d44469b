-- Where words close, no text meets the literals.
use Rattle.std.proofs.Common.{◌≡◌, ℕ, Bool, true, false, inl, inr, List, [], ◌∷◌, ◌++◌, map, refl, sym, ap, subst, append_assoc}
use Rattle.std.specs.List.{concat, slice_index_or}
use Rattle.rx_term.specs.declared.terms.Term.{Term, Nothing, Empty, One}
use Rattle.rx_term.specs.Term.{row_of, choice_of, star_of}
use Rattle.rx_term.specs.Language.{Has, Each, In, derive, after, state_from, state, accepting, SameSet}
use Rattle.rx_term.specs.Closing.{IsPrintable, IsWithin, Is, Claim, Meets, terms_of, SameStates, words_from, words, Closes, ClosingLaw}
use Rattle.rx_term.proofs.Language.{Has_left, Has_flat, Has_unflat, accepting_from, accepting_has, state_law}

-- ---- sets of terms

pub SameSet_refl : {A : Type 0} → (xs : List A) → SameSet xs xs
SameSet_refl xs x = (λ h. h, λ h. h)

pub SameSet_sym : {A : Type 0} → (xs ys : List A) → SameSet xs ys → SameSet ys xs
SameSet_sym xs ys h x = ((h x).1, (h x).0)

pub SameSet_trans : {A : Type 0} → (xs ys zs : List A) → SameSet xs ys → SameSet ys zs → SameSet xs zs
SameSet_trans xs ys zs h k x = (λ a. (k x).0 ((h x).0 a), λ a. (h x).1 ((k x).1 a))

pub after_same : (b : ℕ) (ts us : List Term) → SameSet ts us → SameSet (after b ts) (after b us)
after_same b ts us h x = (one ts us (λ y. (h y).0), one us ts (λ y. (h y).1))
  where
    one : (xs ys : List Term) → ((y : Term) → Has xs y → Has ys y) → Has (after b xs) x → Has (after b ys) x
    one xs ys k a = let r = Has_unflat (derive b) xs x a in Has_flat (derive b) ys r.0 x (k r.0 r.1) r.2

accepting_more : (ts us : List Term) → ((y : Term) → Has ts y → Has us y) → accepting ts ≡ true → accepting us ≡ true
accepting_more ts us h a = let r = accepting_has ts a in accepting_from us r.0 (h r.0 r.1) r.2

-- ---- states

pub state_from_append : (ts : List Term) (v w : List ℕ) → state_from ts (v ++ w) ≡ state_from (state_from ts v) w
state_from_append ts [] w = refl
state_from_append ts (b ∷ v) w = state_from_append (after b ts) v w

pub state_push : (t : Term) (v : List ℕ) (b : ℕ) → state t (v ++ b ∷ []) ≡ after b (state t v)
state_push t v b = state_from_append (t ∷ []) v (b ∷ [])

-- words of one state are in the term, or not, together
pub in_same : (t : Term) (v w : List ℕ) → SameSet (state t v) (state t w) → In v t → In w t
in_same t v w h k = (state_law t w).1 (accepting_more (state t v) (state t w) (λ y. (h y).0) ((state_law t v).0 k))

pub push_same : (t : Term) (v w : List ℕ) (b : ℕ) → SameSet (state t v) (state t w) → SameSet (state t (v ++ b ∷ [])) (state t (w ++ b ∷ []))
push_same t v w b h = subst (λ s. SameSet s (state t (w ++ b ∷ []))) (sym (state_push t v b))
    (subst (λ s. SameSet (after b (state t v)) s) (sym (state_push t w b)) (after_same b (state t v) (state t w) h))

pub SameStates_refl : (ts : List Term) (v : List ℕ) → SameStates ts v v
SameStates_refl [] v = tt
SameStates_refl (t ∷ ts) v = (SameSet_refl (state t v), SameStates_refl ts v)

pub SameStates_sym : (ts : List Term) (v w : List ℕ) → SameStates ts v w → SameStates ts w v
SameStates_sym [] v w h = tt
SameStates_sym (t ∷ ts) v w h = (SameSet_sym (state t v) (state t w) h.0, SameStates_sym ts v w h.1)

pub SameStates_trans : (ts : List Term) (u v w : List ℕ) → SameStates ts u v → SameStates ts v w → SameStates ts u w
SameStates_trans [] u v w h k = tt
SameStates_trans (t ∷ ts) u v w h k =
    (SameSet_trans (state t u) (state t v) (state t w) h.0 k.0, SameStates_trans ts u v w h.1 k.1)

pub SameStates_push : (ts : List Term) (v w : List ℕ) (b : ℕ) → SameStates ts v w → SameStates ts (v ++ b ∷ []) (w ++ b ∷ [])
SameStates_push [] v w b h = tt
SameStates_push (t ∷ ts) v w b h = (push_same t v w b h.0, SameStates_push ts v w b h.1)

-- ---- literals

is_same : (c : Bool) (P Q : Type 0) → (P → Q) → (Q → P) → Is c P → Is c Q
is_same true P Q f g h = f h
is_same false P Q f g h = λ q. h (g q)

claims_same : (claims : List Claim) (v w : List ℕ) → SameStates (map (λ c. c.0) claims) v w →
    Each (λ c. Is c.1 (In v c.0)) claims → Each (λ c. Is c.1 (In w c.0)) claims
claims_same [] v w h k = tt
claims_same (c ∷ claims) v w h k = (
  is_same c.1 (In v c.0) (In w c.0) (in_same c.0 v w h.0)
      (in_same c.0 w v (SameSet_sym (state c.0 v) (state c.0 w) h.0)) k.0,
  claims_same claims v w h.1 k.1,
)

-- words of one state meet the literals together
pub meets_same : (valid : Term) (claims : List Claim) (v w : List ℕ) → SameStates (terms_of valid claims) v w →
    Meets valid claims v → Meets valid claims w
meets_same valid claims v w h k = (in_same valid v w h.0 k.0, claims_same claims v w h.1 k.1)

-- ---- bytes of a text

pub Each_append : {A : Type 0} → (P : A → Type 0) (xs ys : List A) → Each P xs → Each P ys → Each P (xs ++ ys)
Each_append P [] ys h k = k
Each_append P (x ∷ xs) ys h k = (h.0, Each_append P xs ys h.1 k)

Each_concat : (P : ℕ → Type 0) (ws : List (List ℕ)) → Each (λ w. Each P w) ws → Each P (concat ws)
Each_concat P [] h = tt
Each_concat P (w ∷ ws) h = Each_append P w (concat ws) h.0 (Each_concat P ws h.1)

Each_map : {A : Type 0} → (P Q : A → Type 0) (xs : List A) → ((x : A) → P x → Q x) → Each P xs → Each Q xs
Each_map P Q [] f h = tt
Each_map P Q (x ∷ xs) f h = (f x h.0, Each_map P Q xs f h.1)

pub printable : (t : Term) (w : List ℕ) → IsWithin t → In w t → Each IsPrintable w
printable Nothing w h k = elim k [ ]
printable Empty w h k = subst (λ v. Each IsPrintable v) (sym k) tt
printable (One set) w h k = subst (λ v. Each IsPrintable v) (sym k.1) (h k.0 k.2, tt)
printable (row_of p s q u) w h k =
    subst (λ v. Each IsPrintable v) (sym k.2) (Each_append IsPrintable k.0 k.1 (printable s k.0 h.0 k.3) (printable u k.1 h.1 k.4))
printable (choice_of p s q u) w h (inl k) = printable s w h.0 k
printable (choice_of p s q u) w h (inr k) = printable u w h.1 k
printable (star_of p s) w h k =
    subst (λ v. Each IsPrintable v) (sym k.1)
    (Each_concat IsPrintable k.0 (Each_map (λ v. In v s) (λ v. Each IsPrintable v) k.0 (λ v i. printable s v h i) k.2))

-- ---- the law

words_from_keep : (es : List (ℕ × ℕ)) (ws : List (List ℕ)) (w : List ℕ) → Has ws w → Has (words_from ws es) w
words_from_keep [] ws w h = h
words_from_keep (e ∷ es) ws w h =
    let next : List ℕ = slice_index_or ws e.0 [] ++ e.1 ∷ [] in
    words_from_keep es (ws ++ next ∷ []) w (Has_left ws (next ∷ []) w h)

Each_has : {A : Type 0} → (P : A → Type 0) (xs : List A) (x : A) → Each P xs → Has xs x → P x
Each_has P [] x h k = elim k [ ]
Each_has P (y ∷ xs) x h (inl e) = subst P e h.0
Each_has P (y ∷ xs) x h (inr k) = Each_has P xs x h.1 k

module _ (valid : Term) (claims : List Claim) (es : List (ℕ × ℕ)) (c : Closes valid claims es) where
  -- from a listed word every text leads to a listed word's states
  onward : (w u v : List ℕ) → Each IsPrintable w → Has (words es) v → SameStates (terms_of valid claims) u v →
      (z : List ℕ) × Has (words es) z × SameStates (terms_of valid claims) (u ++ w) z
  onward [] u v p h s = (v, h, subst (λ y. SameStates (terms_of valid claims) y v) (sym (append_nil u)) s)
    where
      append_nil : (xs : List ℕ) → xs ++ [] ≡ xs
      append_nil [] = refl
      append_nil (x ∷ xs) = ap (λ y. x ∷ y) (append_nil xs)
  onward (b ∷ w) u v p h s =
      let next = c.closed v h b p.0 in
      let r = onward w (u ++ b ∷ []) next.0 p.1 next.1
      (SameStates_trans (terms_of valid claims) (u ++ b ∷ []) (v ++ b ∷ []) next.0
      (SameStates_push (terms_of valid claims) u v b s) next.2) in
      (r.0, r.1, subst (λ y. SameStates (terms_of valid claims) y r.0) (append_assoc u (b ∷ []) w) r.2)

  -- every text of the alphabet has a listed word's states
  pub listed : (w : List ℕ) → Each IsPrintable w → (z : List ℕ) × Has (words es) z × SameStates (terms_of valid claims) w z
  listed w p = onward w [] [] p (words_from_keep es ([] ∷ []) [] (inl refl)) (SameStates_refl (terms_of valid claims) [])

  pub no_text : IsWithin valid → (w : List ℕ) → Meets valid claims w → ⊥
  no_text within w m =
      let r = listed w (printable valid w within m.0) in
      Each_has (λ v. Meets valid claims v → ⊥) (words es) r.0 c.listed.none r.1 (meets_same valid claims w r.0 r.2 m)

pub closing_law : ClosingLaw
closing_law valid claims es within c w m = no_text valid claims es c within w m
