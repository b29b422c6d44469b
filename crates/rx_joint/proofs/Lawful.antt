-- Listed states that lead back close, and closing words are such.
use Rattle.std.proofs.Common.{◌≡◌, ℕ, zero, suc, ◌<◌, Bool, false, List, [], ◌∷◌, ◌++◌, length, get_or, sym, ◌∙◌, subst, arith}
use Rattle.std.proofs.lemmas.List.{get_or-map}
use Rattle.std.proofs.Math.ListN.{length-map}
use Rattle.rx_term.specs.declared.terms.Term.{Term, Nothing}
use Rattle.rx_term.specs.Language.{Has, Each, In, SameSet, state}
use Rattle.rx_term.specs.Closing.{IsPrintable, Is, Claim, Meets, terms_of, SameStates, words, Apart, AreApart, Closes}
use Rattle.rx_term.proofs.Closing.{state_push}
use Rattle.rx_auto.specs.Classes.{sets_of, AreAlike}
use Rattle.rx_auto.proofs.Likeness.{Has_get, Has_place, alike_law}
use Rattle.rx_joint.specs.Lists.{list_at}
use Rattle.rx_joint.specs.Joint.{table_at, own}
use Rattle.rx_joint.specs.Claims.{all_claims, claim_at, hold_at, IsJoint, MeetsTables, SameTables, AreReady, word_at, AreListed, AreWords, LeadsBack, MustLeadBack}
use Rattle.rx_joint.proofs.Standing.{stands_step, states_same, lists_same}
use Rattle.rx_joint.proofs.Spelling.{Entry, words_long, Each_at, at_Each}

pub Apart_at : {A : Type 0} → (R : A → A → Type 0) (xs : List A) (d : A) → ((i j : ℕ) → i < j → j < length xs → R (get_or xs i d) (get_or xs j d) → ⊥) → Apart R xs
Apart_at R [] d f = tt
Apart_at R (x ∷ xs) d f = (
  Each_at (λ y. R x y → ⊥) xs d (λ k h. f 0 (suc k) (omega arith) (omega (arith, h))),
  Apart_at R xs d (λ i j h k. f (suc i) (suc j) (omega (arith, h)) (omega (arith, k))),
)

at_Apart : {A : Type 0} → (R : A → A → Type 0) (xs : List A) (d : A) → Apart R xs → (i j : ℕ) → i < j → j < length xs → R (get_or xs i d) (get_or xs j d) → ⊥
at_Apart R [] d a i j h k r = absurd (none j k)
  where
    none : (j : ℕ) → j < 0 → ⊥
    none j k = omega arith
at_Apart R (x ∷ xs) d a i zero h k r = absurd (none i h)
  where
    none : (i : ℕ) → i < 0 → ⊥
    none i h = omega arith
at_Apart R (x ∷ xs) d a zero (suc j) h k r = at_Each (λ y. R x y → ⊥) xs d a.0 j (omega (arith, k)) r
at_Apart R (x ∷ xs) d a (suc i) (suc j) h k r = at_Apart R xs d a.1 i j (omega (arith, h)) (omega (arith, k)) r

module _ (tables : List (List Term)) (holds : List Bool) (bytes : List ℕ) (valid : Term) (claims : List Claim)
    (joint : IsJoint tables holds bytes (all_claims valid claims)) where
  pub is_ready : AreReady tables holds bytes
  is_ready = record { ready = joint.ready; long = joint.holds_long ∙ sym joint.long; within = joint.within }

  -- ---- what is wanted, and states

  pub meets_claims : (w : List ℕ) → MeetsTables tables holds w → Meets valid claims w
  meets_claims w m = Each_at (λ c. Is c.1 (In w c.0)) (all_claims valid claims) (Nothing, false) (λ k h.
      subst (λ b. Is b (In w (claim_at (all_claims valid claims) k).0)) (joint.wants k h)
      (subst (λ t. Is (hold_at holds k) (In w t)) (joint.terms k h) (m k (omega (arith, joint.long, h)))))

  pub claims_meet : (w : List ℕ) → Meets valid claims w → MeetsTables tables holds w
  claims_meet w m k h =
      let l : k < length (all_claims valid claims) = omega (arith, joint.long, h) in
      let e = at_Each (λ c. Is c.1 (In w c.0)) (all_claims valid claims) (Nothing, false) m k l in
      subst (λ b. Is b (In w (own (table_at tables k)))) (sym (joint.wants k l))
      (subst (λ t. Is (claim_at (all_claims valid claims) k).1 (In w t)) (sym (joint.terms k l)) e)

  term_is : (k : ℕ) → k < length (all_claims valid claims) → get_or (terms_of valid claims) k Nothing ≡ own (table_at tables k)
  term_is k h = get_or-map (λ c. c.0) (all_claims valid claims) k (Nothing, false) Nothing h ∙ sym (joint.terms k h)

  terms_long : length (terms_of valid claims) ≡ length (all_claims valid claims)
  terms_long = length-map (all_claims valid claims) (λ c. c.0)

  pub states_tables : (v w : List ℕ) → SameStates (terms_of valid claims) v w → SameTables tables v w
  states_tables v w s k h =
      let l : k < length (all_claims valid claims) = omega (arith, joint.long, h) in
      subst (λ t. SameSet (state t v) (state t w)) (term_is k l)
      (at_Each (λ t. SameSet (state t v) (state t w)) (terms_of valid claims) Nothing s k (omega (arith, terms_long, l)))

  pub tables_states : (v w : List ℕ) → SameTables tables v w → SameStates (terms_of valid claims) v w
  tables_states v w s = Each_at (λ t. SameSet (state t v) (state t w)) (terms_of valid claims) Nothing (λ k h.
      let l : k < length (all_claims valid claims) = omega (arith, terms_long, h) in
      subst (λ t. SameSet (state t v) (state t w)) (sym (term_is k l)) (s k (omega (arith, joint.long, l))))

  -- ---- words of listed states

  module _ (es : List Entry) (states : List (List ℕ)) (l : AreListed tables holds es states) where
    words_states : length (words es) ≡ length states
    words_states = words_long es ∙ sym l.long

    pub listed_apart : Apart (SameStates (terms_of valid claims)) (words es)
    listed_apart = Apart_at (SameStates (terms_of valid claims)) (words es) [] (λ i j h k s.
        let m : j < length states = omega (arith, words_states, k) in
        l.apart i j h m (lists_same tables (list_at states i) (list_at states j) (word_at es i) (word_at es j) (l.stands i (omega arith)) (l.stands j m)
        (states_tables (word_at es i) (word_at es j) s)))

    pub listed_none : Each (λ w. Meets valid claims w → ⊥) (words es)
    listed_none = Each_at (λ w. Meets valid claims w → ⊥) (words es) [] (λ k h m. l.none k (omega (arith, words_states, h)) (claims_meet (word_at es k) m))

    pub listed_words : AreApart valid claims es
    listed_words = record { entries = l.entries; apart = listed_apart; none = listed_none }

    -- the state that a like byte leads to is listed
    back_again : ((k : ℕ) → k < length states → LeadsBack tables bytes states k) → (k : ℕ) → k < length states → (b : ℕ) → IsPrintable b →
        (m : ℕ) × (m < length states) × SameTables tables (word_at es k ++ b ∷ []) (word_at es m)
    back_again f k h b p =
        let c = joint.each b p in
        let r = f k h c.0 c.1 in
        let q = Has_place states r.0 [] r.2 in
        let s = stands_step tables joint.ready (list_at states k) (word_at es k) (l.stands k h) c.0 r.0 r.1 in
        let same = states_same tables r.0 (list_at states q.0) (word_at es k ++ c.0 ∷ []) (word_at es q.0) s (l.stands q.0 q.1) (sym q.2) in
        (q.0, q.1, λ i n. subst (λ z. SameSet z (state (own (table_at tables i)) (word_at es q.0))) (like c i n) (same i n))
      where
        like : (c : (c : ℕ) × Has bytes c × ((i : ℕ) → i < length (all_claims valid claims) → AreAlike (sets_of (claim_at (all_claims valid claims) i).0) c b)) → (i : ℕ) → i < length tables →
            state (own (table_at tables i)) (word_at es k ++ c.0 ∷ []) ≡ state (own (table_at tables i)) (word_at es k ++ b ∷ [])
        like c i n =
            let t = own (table_at tables i) in
            let m : i < length (all_claims valid claims) = omega (arith, joint.long, n) in
            let a : AreAlike (sets_of t) c.0 b = subst (λ z. AreAlike (sets_of z) c.0 b) (sym (joint.terms i m)) (c.2 i m) in
            state_push t (word_at es k) c.0 ∙ alike_law t c.0 b a (word_at es k) ∙ sym (state_push t (word_at es k) b)

    pub listed_closes : ((k : ℕ) → k < length states → LeadsBack tables bytes states k) → Closes valid claims es
    listed_closes f = record {
      listed = listed_words;
      closed = λ w h b p.
          let q = Has_place (words es) w [] h in
          let r = back_again f q.0 (omega (arith, words_states, q.1)) b p in (
            word_at es r.0,
            Has_get (words es) r.0 [] (omega (arith, words_states, r.1)),
            subst (λ z. SameStates (terms_of valid claims) (z ++ b ∷ []) (word_at es r.0)) q.2 (tables_states (word_at es q.0 ++ b ∷ []) (word_at es r.0) r.2),
          );
    }

    pub closed_back : Closes valid claims es → (k : ℕ) → k < length states → MustLeadBack tables bytes states k
    closed_back c k h b m x a =
        let s = stands_step tables joint.ready (list_at states k) (word_at es k) (l.stands k h) b x a in
        let v = c.closed (word_at es k) (Has_get (words es) k [] (omega (arith, words_states, h))) b (joint.within b m) in
        let q = Has_place (words es) v.0 [] v.1 in
        let n : q.0 < length states = omega (arith, words_states, q.1) in
        let same = subst (SameTables tables (word_at es k ++ b ∷ [])) (sym q.2) (states_tables (word_at es k ++ b ∷ []) v.0 v.2) in
        subst (Has states) (sym (lists_same tables x (list_at states q.0) (word_at es k ++ b ∷ []) (word_at es q.0) s (l.stands q.0 n) same)) (Has_get states q.0 [] n)

  pub apart_words : (es : List Entry) → AreApart valid claims es → AreWords tables holds es
  apart_words es c = record {
    entries = c.entries;
    apart = λ i j h k s. at_Apart (SameStates (terms_of valid claims)) (words es) [] c.apart i j h (omega (arith, words_long es, k)) (tables_states (word_at es i) (word_at es j) s);
    none = λ k h m. at_Each (λ w. Meets valid claims w → ⊥) (words es) [] c.none k (omega (arith, words_long es, h)) (meets_claims (word_at es k) m);
  }
