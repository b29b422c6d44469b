-- Runs of the machine, and the kinds of bytes.
use Rattle.std.proofs.Common.{◌≡◌, ◌≢◌, ℕ, ◌<◌, ◌≤◌, Bool, true, false, ◌&&◌, ◌||◌, cond, nat_lt, ◌==◌, ◌⊎◌, inl, inr, List, [], ◌∷◌, ◌++◌, map, Some, None, refl, sym, ◌∙◌, ap, subst, arith}
use Rattle.std.proofs.lemmas.Bool.Decides.{nat_tests, Decides-eqb}
use Rattle.rx_term.specs.Language.{Has, Each}
use Rattle.rx_term.specs.Pattern.{IsAny, IsPunct, IsLiteral, IsSetLetter}
use Rattle.rx_parse.specs.declared.place.Kind.{Kind}
use Rattle.rx_parse.specs.declared.place.Kind.TheVariants.{Literal, Dot, Backslash, Bracket, Opening, Closing, Bar, Asterisk, Plus, Question, Brace, Caret, Dollar, Foreign}
use Rattle.rx_parse.specs.declared.place.Place.{Place}
use Rattle.rx_parse.specs.declared.place.Place.TheVariants.{Begin, Begun, Ready, Atomic, Counted, Ended, Escaped, Opened, Marked, Flagging, InClass, InBraces}
use Rattle.rx_parse.specs.Kinds.{is_within, is_any, is_punct, is_set_letter, kinds, kind_among, kind_of}
use Rattle.rx_parse.proofs.Machine.{Moved, plain_next, begin_next, begun_next, atom_next, counted_next, opened_next, next, run, IsOpen}

-- ---- runs

pub run_none : (w : List ℕ) → run None w ≡ None
run_none [] = refl
run_none (b ∷ w) = refl

pub run_append : (v z : List ℕ) (m : Moved) → run m (v ++ z) ≡ run (run m v) z
run_append [] z m = refl
run_append (b ∷ v) z None = sym (run_none z)
run_append (b ∷ v) z (Some s) = run_append v z (next s.0 s.1 b)

-- a run and then another one
pub run_through : (v z : List ℕ) (m n r : Moved) → run m v ≡ n → run n z ≡ r → run m (v ++ z) ≡ r
run_through v z m n r e h = run_append v z m ∙ (ap (λ x. run x z) e ∙ h)

-- ---- tests

pub eq_true : (a b : ℕ) → a ≡ b → (a == b) ≡ true
eq_true a b e = grind (arith, nat_tests)

pub eq_false : (a b : ℕ) → a ≢ b → (a == b) ≡ false
eq_false a b e = grind (arith, nat_tests)

pub true_eq : (a b : ℕ) → (a == b) ≡ true → a ≡ b
true_eq a b = (Decides-eqb a b).0

pub within_true : (a b x : ℕ) → a ≤ x → x ≤ b → is_within a b x ≡ true
within_true a b x h k = grind (arith, nat_tests)

pub true_within : (a b x : ℕ) → is_within a b x ≡ true → (a ≤ x) × (x ≤ b)
true_within a b x h = (grind (arith, nat_tests), grind (arith, nat_tests))

pub lt_true : (a b : ℕ) → a < b → nat_lt a b ≡ true
lt_true a b h = grind (arith, nat_tests)

pub true_lt : (a b : ℕ) → nat_lt a b ≡ true → a < b
true_lt a b h = grind (arith, nat_tests)

pub or_cases : (a b : Bool) → a || b ≡ true → (a ≡ true) ⊎ (b ≡ true)
or_cases true b h = inl refl
or_cases false b h = inr h

pub or_left : (a b : Bool) → a ≡ true → a || b ≡ true
or_left true b h = refl
or_left false b h = cc

pub or_right : (a b : Bool) → b ≡ true → a || b ≡ true
or_right true b h = refl
or_right false b h = h

pub and_true : (a b : Bool) → a ≡ true → b ≡ true → a && b ≡ true
and_true true b h k = k
and_true false b h k = cc

pub true_and : (a b : Bool) → a && b ≡ true → (a ≡ true) × (b ≡ true)
true_and true b h = (refl, h)
true_and false b h = (cc, cc)

pub punct_true : (b : ℕ) → IsPunct b → is_punct b ≡ true
punct_true b (inl h) = or_left _ _ (within_true 33 47 b h.0 h.1)
punct_true b (inr (inl h)) = or_right (is_within 33 47 b) _ (or_left _ _ (within_true 58 64 b h.0 h.1))
punct_true b (inr (inr (inl h))) = or_right (is_within 33 47 b) _ (or_right (is_within 58 64 b) _ (or_left _ _ (within_true 91 96 b h.0 h.1)))
punct_true b (inr (inr (inr h))) = or_right (is_within 33 47 b) _ (or_right (is_within 58 64 b) _ (or_right (is_within 91 96 b) _ (within_true 123 126 b h.0 h.1)))

pub true_punct : (b : ℕ) → is_punct b ≡ true → IsPunct b
true_punct b h =
    elim (or_cases (is_within 33 47 b) _ h) [
      | inl k ↦ inl (true_within 33 47 b k)
      | inr k ↦ elim (or_cases (is_within 58 64 b) _ k) [
        | inl j ↦ inr (inl (true_within 58 64 b j))
        | inr j ↦ elim (or_cases (is_within 91 96 b) _ j) [
          | inl i ↦ inr (inr (inl (true_within 91 96 b i)))
          | inr i ↦ inr (inr (inr (true_within 123 126 b i)))
        ]
      ]
    ]

pub letter_true : (b : ℕ) → IsSetLetter b → is_set_letter b ≡ true
letter_true b (inl e) = subst (λ x. is_set_letter x ≡ true) e refl
letter_true b (inr (inl e)) = subst (λ x. is_set_letter x ≡ true) e refl
letter_true b (inr (inr (inl e))) = subst (λ x. is_set_letter x ≡ true) e refl
letter_true b (inr (inr (inr (inl e)))) = subst (λ x. is_set_letter x ≡ true) e refl
letter_true b (inr (inr (inr (inr (inl e))))) = subst (λ x. is_set_letter x ≡ true) e refl
letter_true b (inr (inr (inr (inr (inr (inl e)))))) = subst (λ x. is_set_letter x ≡ true) e refl
letter_true b (inr (inr (inr (inr (inr (inr z)))))) = absurd z

pub true_letter : (b : ℕ) → is_set_letter b ≡ true → IsSetLetter b
true_letter b h =
    elim (or_cases (b == 100) _ h) [
      | inl k ↦ inl (sym (true_eq b 100 k))
      | inr h2 ↦ elim (or_cases (b == 119) _ h2) [
        | inl k ↦ inr (inl (sym (true_eq b 119 k)))
        | inr h3 ↦ elim (or_cases (b == 115) _ h3) [
          | inl k ↦ inr (inr (inl (sym (true_eq b 115 k))))
          | inr h4 ↦ elim (or_cases (b == 68) _ h4) [
            | inl k ↦ inr (inr (inr (inl (sym (true_eq b 68 k)))))
            | inr h5 ↦ elim (or_cases (b == 87) _ h5) [
              | inl k ↦ inr (inr (inr (inr (inl (sym (true_eq b 87 k))))))
              | inr k ↦ inr (inr (inr (inr (inr (inl (sym (true_eq b 83 k)))))))
            ]
          ]
        ]
      ]
    ]

-- ---- kinds

kind_else : (es : List (ℕ × Kind)) (k : Kind) (b : ℕ) → (Has (map (λ e. e.0) es) b → ⊥) → kind_among es k b ≡ k
kind_else [] k b h = refl
kind_else (e ∷ es) k b h =
    ap (λ t. cond t e.1 (kind_among es k b)) (eq_false b e.0 (λ x. h (inl (sym x)))) ∙ kind_else es k b (λ x. h (inr x))

pub literal_kind : (b : ℕ) → IsLiteral b → kind_of b ≡ Literal
literal_kind b h =
    kind_else kinds (cond (is_any b) Literal Foreign) b h.1 ∙ ap (λ t. cond t Literal Foreign) (within_true 32 126 b h.0.0 h.0.1)

-- what a byte of the kind is
abbrev pub Says : Kind → ℕ → Type 0
Says Literal b = IsLiteral b
Says Dot b = b ≡ 46
Says Backslash b = b ≡ 92
Says Bracket b = b ≡ 91
Says Opening b = b ≡ 40
Says Closing b = b ≡ 41
Says Bar b = b ≡ 124
Says Asterisk b = b ≡ 42
Says Plus b = b ≡ 43
Says Question b = b ≡ 63
Says Brace b = b ≡ 123
Says Caret b = b ≡ 94
Says Dollar b = b ≡ 36
Says Foreign b = IsAny b → ⊥

true_false : true ≡ false → ⊥
true_false e = cc

says_first : (e : ℕ × Kind) (k : Kind) (b : ℕ) (c : Bool) → (b == e.0) ≡ c → Says e.1 e.0 → (c ≡ false → Says k b) → Says (cond c e.1 k) b
says_first e k b true i h g = subst (λ x. Says e.1 x) (sym (true_eq b e.0 i)) h
says_first e k b false i h g = g refl

says_among : (es : List (ℕ × Kind)) (k : Kind) (b : ℕ) → Each (λ e. Says e.1 e.0) es → ((Has (map (λ e. e.0) es) b → ⊥) → Says k b) → Says (kind_among es k b) b
says_among [] k b h g = g (λ n. n)
says_among (e ∷ es) k b h g =
    says_first e (kind_among es k b) b (b == e.0) refl h.0
    (λ i. says_among es k b h.1 (λ n. g (λ o. elim o [ inl j ↦ true_false (sym (eq_true b e.0 (sym j)) ∙ i) | inr j ↦ n j ])))

says_last : (b : ℕ) (c : Bool) → is_any b ≡ c → (Has (map (λ e. e.0) kinds) b → ⊥) → Says (cond c Literal Foreign) b
says_last b true i n = (true_within 32 126 b i, n)
says_last b false i n = λ h. true_false (sym (within_true 32 126 b h.0 h.1) ∙ i)

pub kind_says : (b : ℕ) → Says (kind_of b) b
kind_says b =
    says_among kinds (cond (is_any b) Literal Foreign) b (refl, (refl, (refl, (refl, (refl, (refl, (refl, (refl, (refl, (refl, (refl, (refl, tt)))))))))))) (λ n. says_last b (is_any b) refl n)

pub kind_is : (b : ℕ) (k : Kind) → kind_of b ≡ k → Says k b
kind_is b k e = subst (λ x. Says x b) e (kind_says b)

-- where a piece may begin, most bytes lead on as from any such place
pub open_next : (d : ℕ) (p : Place) (b : ℕ) (k : Kind) (r : Moved) → IsOpen p → kind_of b ≡ k →
    (begin_next d k ≡ r) × (begun_next d k ≡ r) × (plain_next d k ≡ r) × (atom_next d k ≡ r) × (counted_next d k ≡ r)
    × ((first : Bool) → opened_next first d k ≡ r) → next d p b ≡ r
open_next d Begin b k r o e h = ap (begin_next d) e ∙ h.0
open_next d Begun b k r o e h = ap (begun_next d) e ∙ h.1
open_next d Ready b k r o e h = ap (plain_next d) e ∙ h.2
open_next d Atomic b k r o e h = ap (atom_next d) e ∙ h.3
open_next d Counted b k r o e h = ap (counted_next d) e ∙ h.4
open_next d (Opened first) b k r o e h = ap (opened_next first d) e ∙ h.5 first
open_next d Ended b k r o e h = absurd o
open_next d Escaped b k r o e h = absurd o
open_next d (Marked first) b k r o e h = absurd o
open_next d Flagging b k r o e h = absurd o
open_next d (InClass c) b k r o e h = absurd o
open_next d (InBraces c) b k r o e h = absurd o
