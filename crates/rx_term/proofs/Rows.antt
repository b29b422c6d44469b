-- Worked rows: what the definitions compute for small terms, words and patterns.
use Rattle.std.proofs.Common.{◌≡◌, ℕ, ◌-◌, ◌^◌, Bool, true, false, List, [], ◌∷◌, ◌++◌, map, refl}
use Rattle.std.specs.Prelude.{codes}
use Rattle.rx_term.specs.declared.terms.Term.{Term, Nothing, Empty, One}
use Rattle.rx_term.specs.Term.{cat, alt, star}
use Rattle.rx_term.specs.Language.{is_in, derive, state}
use Rattle.rx_term.specs.Closing.{words}
use Rattle.rx_term.specs.Pattern.{Other, HasNoNamed, Times, Exactly, AtLeast, Between, Many, Plenty, Maybe, repeated, multiplied, Place, Plain, Escaped, Opens, Negates, InClass, ClassEscaped, InBraces, Grouped, Marked, Flagged, place_of}

-- the term of one byte
abbrev one : ℕ → Term
one b = One (record { 0 = 2 ^ b })

-- the bytes a and b, the set of all 128, and `(a|b)*b`
abbrev a : Term
a = one 97

abbrev b : Term
b = one 98

abbrev any : Term
any = One (record { 0 = 2 ^ 128 - 1 })

abbrev ends_in_b : Term
ends_in_b = cat (star (alt a b)) b

-- ---- texts in terms

-- a text, a term, and whether the text is in it
abbrev memberships : List (List ℕ × Term × Bool)
memberships =
    ([], Nothing, false)
    ∷ (codes "a", Nothing, false)
    ∷ ([], Empty, true)
    ∷ (codes "a", Empty, false)
    ∷ ([], a, false)
    ∷ (codes "a", a, true)
    ∷ (codes "b", a, false)
    ∷ (codes "aa", a, false)
    ∷ (127 ∷ [], any, true)
    ∷ (128 ∷ [], any, false)
    ∷ (255 ∷ [], any, false)
    ∷ (codes "ab", cat a b, true)
    ∷ (codes "a", cat a b, false)
    ∷ (codes "b", cat a b, false)
    ∷ (codes "ba", cat a b, false)
    ∷ (codes "abb", cat a b, false)
    ∷ (codes "b", cat Empty b, true)
    ∷ (codes "a", cat a Nothing, false)
    ∷ (codes "a", alt a b, true)
    ∷ (codes "b", alt a b, true)
    ∷ (codes "ab", alt a b, false)
    ∷ ([], alt a b, false)
    ∷ ([], alt a Empty, true)
    ∷ ([], star a, true)
    ∷ (codes "aaa", star a, true)
    ∷ (codes "aba", star a, false)
    ∷ ([], star Nothing, true)
    ∷ (codes "a", star Empty, false)
    ∷ (codes "aa", star (star a), true)
    ∷ (codes "abab", star (cat a b), true)
    ∷ (codes "aba", star (cat a b), false)
    ∷ (codes "b", ends_in_b, true)
    ∷ (codes "abab", ends_in_b, true)
    ∷ (codes "ba", ends_in_b, false)
    ∷ ([], ends_in_b, false)
    ∷ (codes "abc", ends_in_b, false)
    ∷ []

pub memberships_are : map (λ r. is_in r.1 r.0) memberships ≡ map (λ r. r.2) memberships
memberships_are = refl

-- ---- partial derivatives and states

-- a byte, a term, and the term's partial derivatives
abbrev derivatives : List (ℕ × Term × List Term)
derivatives =
    (97, Nothing, [])
    ∷ (97, Empty, [])
    ∷ (97, a, Empty ∷ [])
    ∷ (98, a, [])
    ∷ (97, cat a b, b ∷ [])
    ∷ (98, cat a b, [])
    ∷ (98, cat (star a) b, Empty ∷ [])
    ∷ (97, cat (star a) b, cat (star a) b ∷ [])
    ∷ (97, cat (alt a Empty) a, a ∷ Empty ∷ [])
    ∷ (97, alt a (cat a b), Empty ∷ b ∷ [])
    ∷ (97, star (cat a b), cat b (star (cat a b)) ∷ [])
    ∷ (98, ends_in_b, ends_in_b ∷ Empty ∷ [])
    ∷ []

pub derivatives_are : map (λ r. derive r.0 r.1) derivatives ≡ map (λ r. r.2) derivatives
derivatives_are = refl

-- a text, a term, and the term's state after the text
abbrev states : List (List ℕ × Term × List Term)
states =
    ([], ends_in_b, ends_in_b ∷ [])
    ∷ (codes "a", ends_in_b, ends_in_b ∷ [])
    ∷ (codes "ab", ends_in_b, ends_in_b ∷ Empty ∷ [])
    ∷ (codes "abb", ends_in_b, ends_in_b ∷ Empty ∷ [])
    ∷ (codes "aba", ends_in_b, ends_in_b ∷ [])
    ∷ (codes "abc", ends_in_b, [])
    ∷ []

pub states_are : map (λ r. state r.1 r.0) states ≡ map (λ r. r.2) states
states_are = refl

-- ---- words

-- word 0 is the empty word, and each entry names an earlier word and one more byte
pub words_are : words ((0, 97) ∷ (0, 98) ∷ (2, 97) ∷ (3, 98) ∷ []) ≡ [] ∷ codes "a" ∷ codes "b" ∷ codes "ba" ∷ codes "bab" ∷ []
words_are = refl

-- ---- patterns

-- a quantifier, the term of `a` under it, and the positions from those of the piece
abbrev quantified : List (Times × Term)
quantified =
    (Many, star a)
    ∷ (Plenty, cat a (star a))
    ∷ (Maybe, alt Empty a)
    ∷ (Exactly 0, Empty)
    ∷ (Exactly 1, a)
    ∷ (Exactly 3, cat a (cat a a))
    ∷ (AtLeast 0, star a)
    ∷ (AtLeast 2, cat a (cat a (star a)))
    ∷ (Between 0 0, Empty)
    ∷ (Between 1 3, cat a (cat (alt Empty a) (alt Empty a)))
    ∷ []

pub quantified_are : map (λ r. repeated r.0 a) quantified ≡ map (λ r. r.1) quantified
quantified_are = refl

abbrev positions : List (Times × ℕ × ℕ)
positions =
    (Many, 3, 3)
    ∷ (Maybe, 3, 3)
    ∷ (Plenty, 3, 6)
    ∷ (Exactly 0, 3, 1)
    ∷ (Exactly 16, 255, 4080)
    ∷ (AtLeast 2, 3, 9)
    ∷ (Between 1 4, 3, 12)
    ∷ (Exactly 255, 4294967295, 4294967295)
    ∷ []

pub positions_are : map (λ r. multiplied r.0 r.1) positions ≡ map (λ r. r.2) positions
positions_are = refl

-- in the body of a class a bracket that no backslash escapes has no colon right behind it, be it a range's end
pub colon_behind_nothing : HasNoNamed Other (codes ":a")
colon_behind_nothing = (tt, (tt, tt))

pub colon_behind_escaped : HasNoNamed Other (92 ∷ 91 ∷ 58 ∷ [])
colon_behind_escaped = (tt, (tt, (tt, tt)))

pub colon_behind_bracket : HasNoNamed Other (codes "[:") → ⊥
colon_behind_bracket h = h.1.0 refl

pub colon_behind_range : HasNoNamed Other (codes "!-[:") → ⊥
colon_behind_range h = h.1.1.1.0 refl

-- a front of a text, and the place at its end
abbrev places : List (List ℕ × Place)
places =
    ([], Plain)
    ∷ (codes "a(b)c", Plain)
    ∷ (92 ∷ [], Escaped)
    ∷ (92 ∷ 98 ∷ [], Plain)
    ∷ (codes "a{3,", InBraces)
    ∷ (codes "a{3}", Plain)
    ∷ (codes "[", Opens)
    ∷ (codes "[^", Negates)
    ∷ (codes "[]", InClass)
    ∷ (codes "[]]", Plain)
    ∷ (codes "[a" ++ 92 ∷ [], ClassEscaped)
    ∷ (codes "[(?i", InClass)
    ∷ (codes "(", Grouped)
    ∷ (codes "(?", Marked)
    ∷ (codes "(?:", Plain)
    ∷ (codes "(?i", Flagged)
    ∷ (codes "(?i)", Plain)
    ∷ (92 ∷ codes "(?", Plain)
    ∷ []

pub places_are : map (λ r. place_of Plain r.0) places ≡ map (λ r. r.1) places
places_are = refl
