-- The computed answer, while the text is read.
use Rattle.std.proofs.Common.{◌≡◌, ℕ, false, zero, suc, ◌+◌, ◌<◌, List, [], ◌∷◌, length, drop, slice_index, None, Ok, Err, refl, sym, ◌∙◌, ap, subst, arith}
use Rattle.rx_parse.specs.declared.fault.RxFault.TheVariants.{Syntax, NotInSubset, TooLarge, OutOfMemory}
use Rattle.rx_parse.specs.declared.reader.Reader.{Reader}
use Rattle.rx_parse.specs.declared.place.Place.TheVariants.{Begin}
use Rattle.rx_parse.specs.Results.{Answer, IsAnswer, IsTold}
use Rattle.rx_parse.specs.Answer.{new_reader, step_of, whole_at, end_of, fault_at, onward, answer_from, answer, Tells}
use Rattle.rx_parse.proofs.ExactAnswers.{answer_is}

-- the answer is that of the reader of the first n bytes on the others
abbrev pub HasCome : List ℕ → ℕ → Reader → Type 0
HasCome w n r = answer w ≡ answer_from (drop n w) r n

drop_all : (w : List ℕ) → drop (length w) w ≡ []
drop_all [] = refl
drop_all (x ∷ w) = drop_all w

drop_suc : (w : List ℕ) (n : ℕ) → n < length w → drop n w ≡ slice_index w n ∷ drop (suc n) w
drop_suc [] n h = absurd (omega arith)
drop_suc (x ∷ w) zero h = refl
drop_suc (x ∷ w) (suc n) h = drop_suc w n (omega arith)

drop_next : (w : List ℕ) (n : ℕ) → n < length w → drop n w ≡ slice_index w n ∷ drop (n + 1) w
drop_next w n h = let e : suc n ≡ n + 1 = omega arith in drop_suc w n h ∙ ap (λ k. slice_index w n ∷ drop k w) e

pub come_none : (w : List ℕ) (r : Reader) → r ≡ new_reader false Begin → HasCome w 0 r
unfolding answer
come_none w r e = ap (λ s. answer_from w s 0) (sym e)

come_byte : (w : List ℕ) (n : ℕ) (r : Reader) → n < length w → HasCome w n r →
    answer w ≡ onward (step_of r.place r (slice_index w n)) (fault_at r.place (slice_index w n) n) (λ s. answer_from (drop (n + 1) w) s (n + 1))
come_byte w n r l h = h ∙ ap (λ z. answer_from z r n) (drop_next w n l)

pub come_stop : (w : List ℕ) (n : ℕ) (r : Reader) → n < length w → HasCome w n r → step_of r.place r (slice_index w n) ≡ None →
    answer w ≡ Err (fault_at r.place (slice_index w n) n)
come_stop w n r l h e =
    come_byte w n r l h ∙ ap (λ o. onward o (fault_at r.place (slice_index w n) n) (λ q. answer_from (drop (n + 1) w) q (n + 1))) e

pub come_end : (w : List ℕ) (r : Reader) → HasCome w (length w) r → answer w ≡ end_of (whole_at r.place r.outer r) (length w)
come_end w r h = h ∙ ap (λ z. answer_from z r (length w)) (drop_all w)

-- the answer of the text may be told of it
pub told : (w : List ℕ) (x : Answer) → answer w ≡ x → IsTold w x
told w (Err OutOfMemory) e = tt
told w (Ok t) e = subst (IsAnswer w) e (answer_is w)
told w (Err (Syntax a)) e = subst (IsAnswer w) e (answer_is w)
told w (Err (NotInSubset a)) e = subst (IsAnswer w) e (answer_is w)
told w (Err (TooLarge k)) e = subst (IsAnswer w) e (answer_is w)

pub tells_right : (w : List ℕ) (x : Answer) → Tells x (answer w) → IsTold w x
tells_right w (Err OutOfMemory) h = tt
tells_right w (Ok t) h = told w (Ok t) (sym h)
tells_right w (Err (Syntax a)) h = told w (Err (Syntax a)) (sym h)
tells_right w (Err (NotInSubset a)) h = told w (Err (NotInSubset a)) (sym h)
tells_right w (Err (TooLarge k)) h = told w (Err (TooLarge k)) (sym h)
