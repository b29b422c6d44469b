-- Words of entries, one entry after another.
use Rattle.std.proofs.Common.{◌≡◌, ℕ, zero, suc, ◌+◌, ◌<◌, ◌≤◌, List, [], ◌∷◌, ◌++◌, length, get_or, refl, sym, ◌∙◌, ap, arith, length-append}
use Rattle.std.proofs.lemmas.List.{get_or_append_left}
use Rattle.std.proofs.Math.Seq.{get_or-append_seam}
use Rattle.rx_term.specs.Language.{Each}
use Rattle.rx_term.specs.Closing.{IsPrintable, words_from, words, AreEntries}
use Rattle.rx_joint.specs.Claims.{word_at}

abbrev pub Entry : Type 0
Entry = ℕ × ℕ

-- one more entry at the end
pub words_push : (es : List Entry) (ws : List (List ℕ)) (e : Entry) →
    words_from ws (es ++ e ∷ []) ≡ words_from ws es ++ (get_or (words_from ws es) e.0 [] ++ e.1 ∷ []) ∷ []
words_push [] ws e = refl
words_push (d ∷ es) ws e = words_push es (ws ++ (get_or ws d.0 [] ++ d.1 ∷ []) ∷ []) e

words_long_from : (es : List Entry) (ws : List (List ℕ)) → length (words_from ws es) ≡ length ws + length es
words_long_from [] ws = omega arith
words_long_from (e ∷ es) ws = omega (arith, words_long_from es (ws ++ (get_or ws e.0 [] ++ e.1 ∷ []) ∷ []), length-append ws ((get_or ws e.0 [] ++ e.1 ∷ []) ∷ []))

pub words_long : (es : List Entry) → length (words es) ≡ length es + 1
words_long es = omega (arith, words_long_from es ([] ∷ []))

pub word_old : (es : List Entry) (e : Entry) (k : ℕ) → k ≤ length es → word_at (es ++ e ∷ []) k ≡ word_at es k
word_old es e k h = ap (λ ws. get_or ws k []) (words_push es ([] ∷ []) e) ∙ get_or_append_left (words es) ((word_at es e.0 ++ e.1 ∷ []) ∷ []) [] k (omega (arith, h, words_long es))

pub word_new : (es : List Entry) (e : Entry) → word_at (es ++ e ∷ []) (length es + 1) ≡ word_at es e.0 ++ e.1 ∷ []
word_new es e = ap (λ ws. get_or ws (length es + 1) []) (words_push es ([] ∷ []) e) ∙ ap (λ n. get_or (words es ++ (word_at es e.0 ++ e.1 ∷ []) ∷ []) n []) (sym (words_long es))
    ∙ get_or-append_seam (words es) (word_at es e.0 ++ e.1 ∷ []) [] []

words_keep : (fs : List Entry) (vs : List (List ℕ)) (k : ℕ) → k < length vs → get_or (words_from vs fs) k [] ≡ get_or vs k []
words_keep [] vs k h = refl
words_keep (f ∷ fs) vs k h =
    let next : List ℕ = get_or vs f.0 [] ++ f.1 ∷ [] in
    words_keep fs (vs ++ next ∷ []) k (omega (arith, length-append vs (next ∷ []))) ∙ get_or_append_left vs (next ∷ []) [] k h

words_join : (es fs : List Entry) (ws : List (List ℕ)) → words_from ws (es ++ fs) ≡ words_from (words_from ws es) fs
words_join [] fs ws = refl
words_join (e ∷ es) fs ws = words_join es fs (ws ++ (get_or ws e.0 [] ++ e.1 ∷ []) ∷ [])

-- words of the first entries
pub word_join : (es fs : List Entry) (k : ℕ) → k ≤ length es → word_at (es ++ fs) k ≡ word_at es k
word_join es fs k h = ap (λ ws. get_or ws k []) (words_join es fs ([] ∷ [])) ∙ words_keep fs (words es) k (omega (arith, words_long es))

-- parents stand before their words
pub entries_push : (es : List Entry) (n : ℕ) (e : Entry) → AreEntries n es → e.0 < n + length es → IsPrintable e.1 → AreEntries n (es ++ e ∷ [])
entries_push [] n e h l p = (omega arith, p, tt)
entries_push (d ∷ es) n e h l p = (h.0, h.1, entries_push es (n + 1) e h.2 (omega arith) p)

pub entry_at : (es : List Entry) (n k : ℕ) (d : Entry) → AreEntries n es → k < length es → ((get_or es k d).0 < n + k) × IsPrintable (get_or es k d).1
entry_at [] n k d h l = absurd (no l)
  where
    no : k < 0 → ⊥
    no l = omega arith
entry_at (e ∷ es) n zero d h l = (omega (arith, h.0), h.1)
entry_at (e ∷ es) n (suc k) d h l = let r = entry_at es (n + 1) k d h.2 (omega (arith, l)) in (omega (arith, r.0), r.1)

-- what holds at each place holds of each element
pub Each_at : {A : Type 0} → (P : A → Type 0) (xs : List A) (d : A) → ((k : ℕ) → k < length xs → P (get_or xs k d)) → Each P xs
Each_at P [] d f = tt
Each_at P (x ∷ xs) d f = (f 0 (omega arith), Each_at P xs d (λ k h. f (suc k) (omega (arith, h))))

pub at_Each : {A : Type 0} → (P : A → Type 0) (xs : List A) (d : A) → Each P xs → (k : ℕ) → k < length xs → P (get_or xs k d)
at_Each P [] d h k l = absurd (no k l)
  where
    no : (k : ℕ) → k < 0 → ⊥
    no k l = omega arith
at_Each P (x ∷ xs) d h zero l = h.0
at_Each P (x ∷ xs) d h (suc k) l = at_Each P xs d h.1 k (omega (arith, l))

pub word_zero : (es : List Entry) → word_at es 0 ≡ []
word_zero es = word_join [] es 0 (omega arith)
