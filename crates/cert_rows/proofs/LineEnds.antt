-- A line feed after compact JSON changes none of its tokens.
use Rattle.std.proofs.Common.{◌≡◌, ℕ, Bool, true, false, cond, ◌&&◌, List, [], ◌∷◌, ◌++◌, refl, sym, ap, ap₂, ◌∙◌, append_assoc, append-nil}
use Rattle.json.specs.Token.{Token, begin_object, end_object, begin_array, end_array, key, string, number, boolean, null, bad}
use Rattle.json.specs.Word.{ends_word, word}
use Rattle.json.specs.Lex.{token, comma, colon, lex, between, string_token, tokens, punctuate, fresh}
use Rattle.json.specs.Print.{escape, quoted, token_text, begins, ends, separator, print_from, print, IsPrintable, ArePrintable}
use Rattle.json.proofs.Printed.Strings.{content-escape, lex-escape}
use Rattle.json.proofs.Printed.Numbers.{lex-number, in_word-ended}
use Rattle.json.proofs.Printed.Tokens.{tokens-print}

-- the byte after a value ends its number or word
value_ends : (ts : List Token) (end : List ℕ) → ends_word end ≡ true → ends_word (print_from true ts ++ end) ≡ true
unfolding print_from
value_ends [] end h = h
value_ends (begin_object ∷ ts) end h = refl
value_ends (end_object ∷ ts) end h = refl
value_ends (begin_array ∷ ts) end h = refl
value_ends (end_array ∷ ts) end h = refl
value_ends (key s ∷ ts) end h = refl
value_ends (string s ∷ ts) end h = refl
value_ends (number s ∷ ts) end h = refl
value_ends (boolean b ∷ ts) end h = refl
value_ends (null ∷ ts) end h = refl
value_ends (bad ∷ ts) end h = refl

quoted_then : (s r : List ℕ) → lex between (quoted s ++ r) ≡ token (string s) ∷ lex between r
unfolding lex
quoted_then s r =
    let e = append_assoc (escape s) (34 ∷ []) r in
    ap (λ l. lex between (34 ∷ l)) e ∙ ap₂ (λ o l. token (string_token o) ∷ l) (content-escape s r) (lex-escape s r)

-- after a token's text, texts of the same lexemes are interchangeable
follows : (t : Token) (r s : List ℕ) → IsPrintable t → (ends t ≡ true → ends_word r ≡ true) → (ends t ≡ true → ends_word s ≡ true) → lex between r ≡ lex between s
    → lex between (token_text t ++ r) ≡ lex between (token_text t ++ s)
unfolding lex word
follows begin_object r s h f g e = ap (λ l. token begin_object ∷ l) e
follows end_object r s h f g e = ap (λ l. token end_object ∷ l) e
follows begin_array r s h f g e = ap (λ l. token begin_array ∷ l) e
follows end_array r s h f g e = ap (λ l. token end_array ∷ l) e
follows (key k) r s h f g e =
    ap (lex between) (append_assoc (quoted k) (58 ∷ []) r) ∙ quoted_then k (58 ∷ r) ∙ ap (λ l. token (string k) ∷ colon ∷ l) e
    ∙ sym (ap (lex between) (append_assoc (quoted k) (58 ∷ []) s) ∙ quoted_then k (58 ∷ s))
follows (string k) r s h f g e = quoted_then k r ∙ ap (λ l. token (string k) ∷ l) e ∙ sym (quoted_then k s)
follows (number n) r s h f g e = lex-number n r h (f refl) ∙ ap (λ l. token (number n) ∷ l) e ∙ sym (lex-number n s h (g refl))
follows (boolean true) r s h f g e =
    ap₂ (λ b l. token (cond b (boolean true) bad) ∷ l) (f refl) (in_word-ended r (f refl) ∙ e) ∙ sym (ap₂ (λ b l. token (cond b (boolean true) bad) ∷ l) (g refl) (in_word-ended s (g refl)))
follows (boolean false) r s h f g e =
    ap₂ (λ b l. token (cond b (boolean false) bad) ∷ l) (f refl) (in_word-ended r (f refl) ∙ e) ∙ sym (ap₂ (λ b l. token (cond b (boolean false) bad) ∷ l) (g refl) (in_word-ended s (g refl)))
follows null r s h f g e = ap₂ (λ b l. token (cond b null bad) ∷ l) (f refl) (in_word-ended r (f refl) ∙ e) ∙ sym (ap₂ (λ b l. token (cond b null bad) ∷ l) (g refl) (in_word-ended s (g refl)))
follows bad r s h f g e = absurd h

separated : (b : Bool) (r s : List ℕ) → lex between r ≡ lex between s → lex between (cond b (44 ∷ []) [] ++ r) ≡ lex between (cond b (44 ∷ []) [] ++ s)
unfolding lex
separated true r s e = ap (λ l. comma ∷ l) e
separated false r s e = e

with_end : (c : Bool) (ts : List Token) → ArePrintable ts → lex between (print_from c ts ++ 10 ∷ []) ≡ lex between (print_from c ts)
unfolding lex print_from ArePrintable
with_end c [] h = refl
with_end c (t ∷ ts) h =
    let rest = print_from (ends t) ts in
    ap (lex between) (append_assoc (separator c t) (token_text t ++ rest) (10 ∷ []) ∙ ap (λ l. separator c t ++ l) (append_assoc (token_text t) rest (10 ∷ [])))
    ∙ separated (c && begins t) (token_text t ++ (rest ++ 10 ∷ [])) (token_text t ++ rest)
    (follows t (rest ++ 10 ∷ []) rest h.0
    (λ e. ap (λ b. ends_word (print_from b ts ++ 10 ∷ [])) e ∙ value_ends ts (10 ∷ []) refl)
    (λ e. ap (λ b. ends_word (print_from b ts)) e ∙ ap ends_word (sym (append-nil (print_from true ts))) ∙ value_ends ts [] refl)
    (with_end (ends t) ts h.1))

-- the tokens of a line
pub line_tokens : (ts : List Token) → ArePrintable ts → tokens (print ts ++ 10 ∷ []) ≡ ts
line_tokens ts h = ap (punctuate fresh) (with_end false ts h) ∙ tokens-print ts h
