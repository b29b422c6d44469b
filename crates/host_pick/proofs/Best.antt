-- The best of the domains through one more.
use Rattle.std.proofs.Common.{◌≡◌, Bool, true, false, not, ◌&&◌, ◌||◌, inl, inr, List, [], ◌∷◌, ◌++◌, Option, Some, None, refl, sym, ap, subst, ◌∙◌}
use Rattle.std.specs.Prelude.{find}
use Rattle.std.specs.List.{list_any}
use Rattle.std.proofs.lemmas.Bool.{and_parts, and_from, both_ways, not-true, not_from_false, or_parts, or_right}
use Rattle.std.proofs.lemmas.List.Folds.{list_any-append}
use Rattle.rx_term.specs.Language.{Has}
use Rattle.text_base.specs.Asked.{Bytes}
use Rattle.cfg_types.specs.Hosts.{Owned, domain_matches, ranks_before, ranks_first, best_of}
use Rattle.cfg_types.proofs.Members.{find-None, any-none}
use Rattle.cfg_types.proofs.HostProofs.{rank-self, rank-asym, rank-between, best_of-None, best_of-Some}
use Rattle.host_pick.specs.Tables.{better}

-- ---- the first element that passes a test

module _ {A : Type 0} where
  module _ (p q : A → Bool) where
    -- tests that agree on a list find the same
    find-same : (xs : List A) → ((x : A) → p x ≡ q x) → find p xs ≡ find q xs
    find-same [] h = refl
    find-same (x ∷ xs) h = rw (h x, find-same xs h) refl

    -- what a test finds is found by a stronger one that it passes
    find-kept : (xs : List A) (y : A) → ((x : A) → p x ≡ true → q x ≡ true) → find q xs ≡ Some y → p y ≡ true → find p xs ≡ Some y
    find-kept [] y h e l = absurd (cc)
    find-kept (x ∷ xs) y h e l = step (find-kept xs y h) (q x) (p x) refl refl
      where
        step : (find q xs ≡ Some y → p y ≡ true → find p xs ≡ Some y) → (v w : Bool) → q x ≡ v → p x ≡ w → find p (x ∷ xs) ≡ Some y
        step k true true f g = let s = rw f at e in rw g s
        step k true false f g = let s = rw f at e in let t : x ≡ y = (cc) in absurd (both_ways (p x) g (subst (λ z. p z ≡ true) (sym t) l))
        step k false true f g = absurd (both_ways (q x) f (h x g))
        step k false false f g = let s = rw f at e in rw g (k s l)

  module _ (p : A → Bool) where
    find-front : (xs ys : List A) (y : A) → find p xs ≡ Some y → find p (xs ++ ys) ≡ Some y
    find-front [] ys y e = absurd (cc)
    find-front (x ∷ xs) ys y e = step (find-front xs ys y) (p x) refl
      where
        step : (find p xs ≡ Some y → find p (xs ++ ys) ≡ Some y) → (v : Bool) → p x ≡ v → find p (x ∷ (xs ++ ys)) ≡ Some y
        step k true f = let s = rw f at e in rw f s
        step k false f = let s = rw f at e in rw f (k s)

    find-back : (xs ys : List A) → ((x : A) → Has xs x → p x ≡ false) → find p (xs ++ ys) ≡ find p ys
    find-back [] ys h = refl
    find-back (x ∷ xs) ys h = rw (h x (inl refl)) (find-back xs ys (λ y k. h y (inr k)))

or-false : (b : Bool) → (b || false) ≡ b
or-false true = refl
or-false false = refl

and-false : (b : Bool) → (b && false) ≡ false
and-false true = refl
and-false false = refl

-- ---- one more domain

module _ (t : Bytes) (xs : List Owned) (d : Owned) where
  abbrev matches : Owned → Bool
  matches e = domain_matches e.0 t

  abbrev ahead : Owned → Owned → Bool
  ahead e g = domain_matches g.0 t && ranks_before g.0 e.0

  abbrev all : List Owned
  all = xs ++ d ∷ []

  ahead-push : (e : Owned) → list_any (ahead e) all ≡ (list_any (ahead e) xs || ahead e d)
  ahead-push e = list_any-append (ahead e) xs (d ∷ []) ∙ ap (λ b. list_any (ahead e) xs || b) (or-false (ahead e d))

  -- it doesn't match
  module _ (m : domain_matches d.0 t ≡ false) where
    same-first : (e : Owned) → ranks_first t all e ≡ ranks_first t xs e
    same-first e =
        let none : ahead e d ≡ false = rw m refl in
        ap (λ b. matches e && not b) (ahead-push e ∙ ap (λ b. list_any (ahead e) xs || b) none ∙ or-false (list_any (ahead e) xs))

    fails : find (ranks_first t xs) (d ∷ []) ≡ None
    fails = rw m refl

    unmatched : (o : Option Owned) → best_of t xs ≡ o → best_of t all ≡ better t o d
    unmatched None e =
        find-same (ranks_first t all) (ranks_first t xs) all same-first
        ∙ find-back (ranks_first t xs) xs (d ∷ []) (λ x h. find-None (ranks_first t xs) xs x e h) ∙ fails ∙ rw m refl
    unmatched (Some b) e =
        find-same (ranks_first t all) (ranks_first t xs) all same-first ∙ find-front (ranks_first t xs) xs (d ∷ []) b e ∙ rw m refl

  -- it matches
  module _ (m : domain_matches d.0 t ≡ true) where
    -- it is found where no earlier one is, and none ranks before it
    alone : ((e : Owned) → Has xs e → ranks_first t all e ≡ false) → list_any (ahead d) xs ≡ false → best_of t all ≡ Some d
    alone h n =
        let self : ahead d d ≡ false = rw (m, rank-self d.0) refl in
        let passes : ranks_first t all d ≡ true = and_from (matches d) _ m (not_from_false _ (ahead-push d ∙ rw (n, self) refl)) in
        find-back (ranks_first t all) xs (d ∷ []) h ∙ rw passes refl

    first_one : best_of t xs ≡ None → best_of t all ≡ Some d
    first_one e =
        alone (λ g h. rw (best_of-None t xs e g h) refl) (any-none (ahead d) xs (λ g h. rw (best_of-None t xs e g h) refl))

    module _ (b : Owned) (e : best_of t xs ≡ Some b) where
      best_first : (g : Owned) → Has xs g → matches g ≡ true → ranks_before g.0 b.0 ≡ false
      best_first = (best_of-Some t xs b e).2

      -- it ranks before the best one so far
      better_one : ranks_before d.0 b.0 ≡ true → best_of t all ≡ Some d
      better_one r = alone (λ g h. behind g h (matches g) refl) (any-none (ahead d) xs (λ g h. not_ahead g h (matches g) refl))
        where
          behind : (g : Owned) → Has xs g → (v : Bool) → matches g ≡ v → ranks_first t all g ≡ false
          behind g h false k = rw k refl
          behind g h true k = after (ranks_before d.0 g.0) refl
            where
              after : (w : Bool) → ranks_before d.0 g.0 ≡ w → ranks_first t all g ≡ false
              after true l =
                  let is : ahead g d ≡ true = and_from (matches d) (ranks_before d.0 g.0) m l in
                  let some : list_any (ahead g) all ≡ true = ahead-push g ∙ or_right (list_any (ahead g) xs) (ahead g d) is in
                  rw some (and-false (matches g))
              after false l = absurd (both_ways _ (rank-between b.0 g.0 d.0 l (best_first g h k)) r)

          not_ahead : (g : Owned) → Has xs g → (v : Bool) → matches g ≡ v → ahead d g ≡ false
          not_ahead g h false k = rw k refl
          not_ahead g h true k = rw k (rank-between d.0 b.0 g.0 (best_first g h k) (rank-asym d.0 b.0 r))

      -- it doesn't
      no_better : ranks_before d.0 b.0 ≡ false → best_of t all ≡ Some b
      no_better r = find-front (ranks_first t all) xs (d ∷ []) b (find-kept (ranks_first t all) (ranks_first t xs) xs b stronger e still)
        where
          behind : ahead b d ≡ false
          behind = rw (m, r) refl

          stronger : (g : Owned) → ranks_first t all g ≡ true → ranks_first t xs g ≡ true
          stronger g k =
              let p = and_parts (matches g) (not (list_any (ahead g) all)) k in
              let n : (list_any (ahead g) xs || ahead g d) ≡ false = sym (ahead-push g) ∙ not-true _ p.1 in
              and_from (matches g) _ p.0 (not_from_false _ (or_parts (list_any (ahead g) xs) (ahead g d) n).0)

          still : ranks_first t all b ≡ true
          still =
              let q = (best_of-Some t xs b e) in
              let n : list_any (ahead b) xs ≡ false = any-none (ahead b) xs (λ g h. none g h (matches g) refl) in
              and_from (matches b) _ q.1 (not_from_false _ (ahead-push b ∙ rw (n, behind) refl))
            where
              none : (g : Owned) → Has xs g → (v : Bool) → matches g ≡ v → ahead b g ≡ false
              none g h false k = rw k refl
              none g h true k = rw k (best_first g h k)

      by_rank : (v : Bool) → ranks_before d.0 b.0 ≡ v → best_of t all ≡ better t (Some b) d
      by_rank true r = better_one r ∙ rw (m, r) refl
      by_rank false r = no_better r ∙ rw (m, r) refl

    matched : (o : Option Owned) → best_of t xs ≡ o → best_of t all ≡ better t o d
    matched None e = first_one e ∙ rw m refl
    matched (Some b) e = by_rank b e (ranks_before d.0 b.0) refl

  by_match : (v : Bool) → domain_matches d.0 t ≡ v → best_of t all ≡ better t (best_of t xs) d
  by_match true m = matched m (best_of t xs) refl
  by_match false m = unmatched m (best_of t xs) refl

pub best_of-push : (t : Bytes) (xs : List Owned) (d : Owned) → best_of t (xs ++ d ∷ []) ≡ better t (best_of t xs) d
best_of-push t xs d = by_match t xs d (domain_matches d.0 t) refl
