-- Tests of bytes, and their kinds.
use Rattle.std.specs.Prelude.{ℕ, ◌+◌, ◌-◌, ◌*◌, Bool, ◌&&◌, ◌||◌, cond, nat_lt, ◌==◌, List, [], ◌∷◌}
use Rattle.rx_parse.specs.declared.place.Kind.{Kind}
use Rattle.rx_parse.specs.declared.place.Kind.TheVariants.{Literal, Dot, Backslash, Bracket, Opening, Closing, Bar, Asterisk, Plus, Question, Brace, Caret, Dollar, Foreign}

-- from a up to b
abbrev pub is_within : ℕ → ℕ → ℕ → Bool
is_within a b x = nat_lt x (b + 1) && nat_lt a (x + 1)

-- a byte of the alphabet
abbrev pub is_any : ℕ → Bool
is_any b = is_within 32 126 b

-- a decimal digit
abbrev pub is_digit : ℕ → Bool
is_digit b = is_within 48 57 b

-- punctuation, `_` among it
abbrev pub is_punct : ℕ → Bool
is_punct b = is_within 33 47 b || (is_within 58 64 b || (is_within 91 96 b || is_within 123 126 b))

-- a letter that names a set behind a backslash
abbrev pub is_set_letter : ℕ → Bool
is_set_letter b = b == 100 || (b == 119 || (b == 115 || (b == 68 || (b == 87 || b == 83))))

-- the kind that the list gives the byte, or else the other one
abbrev pub kind_among : List (ℕ × Kind) → Kind → ℕ → Kind
kind_among [] other b = other
kind_among (e ∷ es) other b = cond (b == e.0) e.1 (kind_among es other b)

-- the bytes that are no literals
abbrev pub kinds : List (ℕ × Kind)
kinds = (92, Backslash) ∷ (46, Dot) ∷ (91, Bracket) ∷ (40, Opening) ∷ (41, Closing) ∷ (124, Bar) ∷ (42, Asterisk) ∷ (43, Plus) ∷ (63, Question) ∷ (123, Brace) ∷ (94, Caret) ∷ (36, Dollar) ∷ []

-- the kind of a byte
abbrev pub kind_of : ℕ → Kind
kind_of b = kind_among kinds (cond (is_any b) Literal Foreign) b

-- some number of at most three digits from n to 255 begins with the k digits of value v
abbrev pub reaches : ℕ → ℕ → ℕ → Bool
reaches n k v =
    nat_lt v 256
    && (nat_lt n (v + 1)
    || ((nat_lt k 3 && (nat_lt (10 * v) 256 && nat_lt n (10 * v + 10))) || (nat_lt k 2 && (nat_lt (100 * v) 256 && nat_lt n (100 * v + 100)))))

-- the number that the digit makes of one
abbrev pub digit_next : ℕ → ℕ → ℕ
digit_next v b = 10 * v + (b - 48)
