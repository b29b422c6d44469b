-- Terms that are put together.
use Rattle.std.proofs.Common.{◌≡◌, ◌≢◌, ℕ, zero, suc, ◌+◌, ◌*◌, ◌<◌, ◌≤◌, Bool, List, [], ◌∷◌, ◌++◌, Some, Result, Ok, Err, IfOk, refl, sym, ◌∙◌, ap, subst, append-nil, arith}
use Rattle.rx_term.specs.declared.terms.Term.{Term, Empty}
use Rattle.rx_term.specs.Term.{cat}
use Rattle.rx_term.specs.Pattern.{kept, row, repeated, multiplied, Spells, Times, Many, Plenty, Maybe, Exactly, AtLeast, Between, Cats}
use Rattle.rx_term.specs.Pattern.Spells.{empty}
use Rattle.rx_parse.specs.declared.made.Made.{Made}
use Rattle.rx_parse.specs.declared.made.Often.{Often}
use Rattle.rx_parse.specs.Answer.{times_of, IsRow}
use Rattle.rx_parse.proofs.Held.{Stands, IsMade}

-- ---- two terms

-- ---- pieces and alternatives from the end

-- ---- copies

cons_more : (t : Term) (ts : List Term) → t ∷ ts ≢ []
cons_more t ts = λ e. no e
  where
    no : t ∷ ts ≡ [] → ⊥
    no e = cc

pub row_some : (first u : Term) (ts : List Term) → IsRow (Some u) ts → IsRow (Some (cat first u)) (first ∷ ts)
row_some first u [] h = absurd (h.0 refl)
row_some first u (t ∷ ts) h = (cons_more first (t ∷ ts), ap (cat first) h.1)

-- ---- times

-- what is too large stays so, unless there are no copies
too_large : (n k : ℕ) → 1 ≤ n → 4000 < k → 4000 < kept (n * k)
too_large zero k h l = absurd (omega arith)
too_large (suc n) k h l = let e : k ≤ suc n * k = grind arith in omega arith

-- the greatest number isn't less than the least
abbrev pub InOrder : Times → Type 0
InOrder (Between n m) = n ≤ m
InOrder q = Unit {0}

no_copies : (n : ℕ) (t : Term) → n ≤ 0 → repeated (Between n zero) t ≡ Empty
no_copies zero t h = refl
no_copies (suc n) t h = absurd (omega arith)

pub none_left : (q : Times) (t : Term) (k : ℕ) → InOrder q → 4000 < k → multiplied q k ≤ 4000 → repeated q t ≡ Empty
none_left Many t k o h l = absurd (omega arith)
none_left Plenty t k o h l = absurd (omega arith)
none_left Maybe t k o h l = absurd (omega arith)
none_left (Exactly zero) t k o h l = refl
none_left (Exactly (suc n)) t k o h l = absurd (omega (arith, too_large (suc n) k (omega arith) h))
none_left (AtLeast n) t k o h l = absurd (omega (arith, too_large (n + 1) k (omega arith) h))
none_left (Between n zero) t k o h l = no_copies n t o
none_left (Between n (suc m)) t k o h l = absurd (omega (arith, too_large (suc m) k (omega arith) h))

pub ok_map : {T E : Type 0} → (P Q : T → Type 0) (r : Result T E) → ((x : T) → P x → Q x) → IfOk r P → IfOk r Q
ok_map P Q (Ok x) f h = f x h
ok_map P Q (Err e) f h = h

pub no_row : (w : List ℕ) (f : Bool) (r : Made) → w ≡ [] → r.positions ≡ 1 → r.term ≡ Some Empty → IsMade Cats f w r
no_row w f r e p t = (
  Empty,
  subst (λ k. Spells f Cats w Empty k) (sym p) (subst (λ y. Spells f Cats y Empty 1) (sym e) empty),
  subst (λ o. Stands o Empty r.positions) (sym t) refl,
)

pub row_append : (ts : List Term) → row (ts ++ []) ≡ row ts
row_append ts = ap row (append-nil ts)

pub one_row : (u t : Term) → u ≡ t → IsRow (Some u) (t ∷ [])
one_row u t e = (cons_more t [], e)

-- the forms of a term that comes so often
pub often_is : (o q : Often) (t x : Term) → o ≡ q → x ≡ repeated (times_of q) t → x ≡ repeated (times_of o) t
often_is o q t x e h = h ∙ ap (λ y. repeated (times_of y) t) (sym e)
