-- Marks that are handed on from node to node until they reach positions.
use Rattle.std.proofs.Common.{◌≡◌, ℕ, zero, suc, ◌+◌, ◌<◌, ◌≤◌, Bool, true, false, ◌⊎◌, inl, inr, List, [], ◌∷◌, ◌++◌, length, get_or, take, sym, refl, ◌∙◌, ap, subst, arith}
use Rattle.std.proofs.lemmas.List.{get_or_append_left, take_more}
use Rattle.std.proofs.lemmas.Bool.{cases_eq}
use Rattle.rx_term.specs.declared.terms.Term.{Term}
use Rattle.rx_term.specs.Term.{has_byte}
use Rattle.rx_term.specs.Language.{Has}
use Rattle.rx_term.proofs.Language.{Has_left, Has_right, Has_cases}
use Rattle.rx_auto.specs.Distinct.{Extends}
use Rattle.rx_auto.specs.declared.parts.Spot.{Spot}
use Rattle.rx_auto.specs.declared.edges.Edge.{Edge}
use Rattle.rx_auto.specs.Parts.{spot_at}
use Rattle.rx_auto.specs.Ways.{list_at}
use Rattle.rx_auto.specs.Marks.{mark_at, rep_at, Adds, AreWithin}
use Rattle.rx_auto.specs.Members.{AreListed}
use Rattle.rx_auto.specs.Table.{tails, IsTable}
use Rattle.rx_auto.specs.Live.{IsBehind}
use Rattle.rx_auto.specs.Edges.{AddsEdges}
use Rattle.rx_auto.specs.Reach.{IsReached, EntersFrom}
use Rattle.rx_auto.proofs.Listing.{listed_place}
use Rattle.rx_auto.proofs.Marking.{clash}
use Rattle.rx_auto.proofs.Leading.{marked_leads, leads_are_marked}
use Rattle.rx_auto.proofs.Reading.{edges_then, edges_as, edge_push}

module _ (ws : List (List ℕ)) where
  -- the list of one position
  module _ (row after nodes : List Bool) (n q : ℕ) (e : list_at ws n ≡ q ∷ []) (a : Adds row after (λ i. i ≡ q)) where
    pub at_only : n < length ws → mark_at nodes n ≡ true → (j : ℕ) → IsReached ws after nodes (length ws) j → IsReached ws row nodes (length ws) j
    at_only l m j (inl k) = elim (a.only j k) [ inl h ↦ inl h | inr h ↦ inr (n, l, m, subst (λ z. Has z j) (sym e) (inl (sym h))) ]
    at_only l m j (inr d) = inr d

    pub at_done : (j : ℕ) → Has (list_at ws n) j → IsReached ws after nodes n j
    at_done j h = by (subst (λ z. Has z j) e h)
      where
        by : Has (q ∷ []) j → IsReached ws after nodes n j
        by (inl k) = inl (a.made j (sym k))
        by (inr z) = absurd z

    pub at_kept : (m j : ℕ) → IsReached ws row nodes m j → IsReached ws after nodes m j
    at_kept m j (inl k) = inl (a.kept j k)
    at_kept m j (inr d) = inr d

  -- a list of two parts
  module _ (row nodes after : List Bool) (n l r : ℕ) (e : list_at ws n ≡ list_at ws l ++ list_at ws r) (a : Adds nodes after (λ i. (i ≡ l) ⊎ (i ≡ r))) where
    pub both_only : n < length ws → mark_at nodes n ≡ true → (j : ℕ) → IsReached ws row after (length ws) j → IsReached ws row nodes (length ws) j
    both_only h m j (inl k) = inl k
    both_only h m j (inr f) = elim (a.only f.0 f.2) [
      | inl o ↦ inr (f.0, f.1, o, f.3)
      | inr o ↦ elim o [
        | inl q ↦ inr (n, h, m, subst (λ z. Has z j) (sym e) (Has_left (list_at ws l) (list_at ws r) j (subst (λ z. Has (list_at ws z) j) q f.3)))
        | inr q ↦ inr (n, h, m, subst (λ z. Has z j) (sym e) (Has_right (list_at ws l) (list_at ws r) j (subst (λ z. Has (list_at ws z) j) q f.3)))
      ]
    ]

    pub both_done : l < n → r < n → (j : ℕ) → Has (list_at ws n) j → IsReached ws row after n j
    both_done hl hr j f = elim (Has_cases (list_at ws l) (list_at ws r) j (subst (λ z. Has z j) e f)) [
      | inl h ↦ inr (l, hl, a.made l (inl refl), h)
      | inr h ↦ inr (r, hr, a.made r (inr refl), h)
    ]

    pub both_kept : (m j : ℕ) → IsReached ws row nodes m j → IsReached ws row after m j
    both_kept m j (inl k) = inl k
    both_kept m j (inr d) = inr (d.0, d.1, a.kept d.0 d.2, d.3)

  -- where each marked list is handed on to marks and to marked lists of smaller numbers, all that is reached is marked
  module _ (row nodes : List Bool) (done : (n : ℕ) → mark_at nodes n ≡ true → (j : ℕ) → Has (list_at ws n) j → IsReached ws row nodes n j) where
    pub reached_done : (n j : ℕ) → IsReached ws row nodes n j → mark_at row j ≡ true
    reached_done n j (inl m) = m
    reached_done zero j (inr f) = absurd (not_below f.0 f.1)
      where
        not_below : (p : ℕ) → p < 0 → ⊥
        not_below p h = omega arith
    reached_done (suc n) j (inr f) = reached_done n j (lower (done f.0 f.2 j f.3))
      where
        lower : IsReached ws row nodes f.0 j → IsReached ws row nodes n j
        lower (inl m) = inl m
        lower (inr g) = inr (g.0, omega (arith, f.1, g.1), g.2, g.3)

  -- the node is handed on
  abbrev pub IsPassed : List Bool → List Bool → ℕ → Type 0
  IsPassed row nodes n = (j : ℕ) → Has (list_at ws n) j → IsReached ws row nodes n j

  -- the first k nodes of the list are handed on
  abbrev pub ArePassed : List Bool → List Bool → List ℕ → ℕ → Type 0
  ArePassed row nodes list k = (m : ℕ) → m < k → IsPassed row nodes (get_or list m 0)

  -- one more node
  pub passed_more : (row after nodes more : List Bool) (old new : List ℕ) (k at : ℕ) → Extends old new → k < length old → at ≡ get_or old k 0 →
      ((n j : ℕ) → IsReached ws row nodes n j → IsReached ws after more n j) → ArePassed row nodes old k → IsPassed after more at → ArePassed after more new (k + 1)
  passed_more row after nodes more old new k at x l e kept done last m h = by (cases_eq m k)
    where
      same : m < length old → get_or old m 0 ≡ get_or new m 0
      same p = sym (ap (λ z. get_or z m 0) x.1 ∙ get_or_append_left old x.0 0 m p)

      by : (m ≡ k) ⊎ (m ≡ k → ⊥) → IsPassed after more (get_or new m 0)
      by (inl q) = subst (IsPassed after more) (e ∙ ap (λ z. get_or old z 0) (sym q) ∙ same (omega (arith, l, q))) last
      by (inr q) = subst (IsPassed after more) (same (omega (arith, h, l, q))) (λ j d. kept (get_or old m 0) j (done m (omega (arith, h, q)) j d))

  -- each marked node
  pub all_passed : (row nodes : List Bool) (list : List ℕ) (k : ℕ) → AreListed nodes list → length list ≤ k → ArePassed row nodes list k → (n : ℕ) → mark_at nodes n ≡ true → IsPassed row nodes n
  all_passed row nodes list k listed h done n m =
      let p = listed_place nodes list listed n m in
      subst (IsPassed row nodes) p.2 (done p.0 (omega (arith, p.1, h)))

-- ---- edges of marked positions

-- a marked position below n reads the byte and leads to x
abbrev pub LeadsBelow : List Spot → List ℕ → List Bool → ℕ → ℕ → ℕ → ℕ → Type 0
LeadsBelow spots reps row base n b x = (q : ℕ) × (q < n) × (mark_at row q ≡ true) × (has_byte (spot_at spots q).set b ≡ true) × (x ≡ base + rep_at reps q)

module _ (spots : List Spot) (reps : List ℕ) (row : List Bool) (base i : ℕ) where
  wider : (b x : ℕ) → LeadsBelow spots reps row base i b x → LeadsBelow spots reps row base (i + 1) b x
  wider b x f = (f.0, omega (arith, f.1), f.2, f.3, f.4)

  pub marked_more : (old mid : List Edge) (e : Edge) → mark_at row i ≡ true → e.set ≡ (spot_at spots i).set → e.to ≡ base + rep_at reps i →
      AddsEdges old mid (LeadsBelow spots reps row base i) → AddsEdges old (mid ++ e ∷ []) (LeadsBelow spots reps row base (i + 1))
  marked_more old mid e m s t f = edges_then old mid (mid ++ e ∷ []) (LeadsBelow spots reps row base i) (λ b x. (has_byte e.set b ≡ true) × (e.to ≡ x))
      (LeadsBelow spots reps row base (i + 1)) f (edge_push mid e) wider
      (λ b x h. (i, omega arith, m, ap (λ z. has_byte z b) (sym s) ∙ h.0, sym h.1 ∙ t))
      (λ b x h. by b x h (cases_eq h.0 i))
    where
      by : (b x : ℕ) → (h : LeadsBelow spots reps row base (i + 1) b x) → (h.0 ≡ i) ⊎ (h.0 ≡ i → ⊥) → LeadsBelow spots reps row base i b x ⊎ ((has_byte e.set b ≡ true) × (e.to ≡ x))
      by b x h (inl q) = inr (ap (λ z. has_byte z b) s ∙ ap (λ z. has_byte (spot_at spots z).set b) (sym q) ∙ h.3, t ∙ ap (λ z. base + rep_at reps z) (sym q) ∙ sym h.4)
      by b x h (inr q) = inl (h.0, omega (arith, h.1, q), h.2, h.3, h.4)

  pub marked_skip : (old mid : List Edge) → mark_at row i ≡ false → AddsEdges old mid (LeadsBelow spots reps row base i) → AddsEdges old mid (LeadsBelow spots reps row base (i + 1))
  marked_skip old mid m f = edges_as old mid (LeadsBelow spots reps row base i) (LeadsBelow spots reps row base (i + 1)) f wider (λ b x h. by b x h (cases_eq h.0 i))
    where
      by : (b x : ℕ) → (h : LeadsBelow spots reps row base (i + 1) b x) → (h.0 ≡ i) ⊎ (h.0 ≡ i → ⊥) → LeadsBelow spots reps row base i b x
      by b x h (inl q) = absurd (clash (sym m ∙ ap (mark_at row) (sym q) ∙ h.2))
      by b x h (inr q) = (h.0, omega (arith, h.1, q), h.2, h.3, h.4)

-- what the marked positions read is what the places read
module _ (ts : List Term) (ws : List (List ℕ)) (spots : List Spot) (reps : List ℕ) (table : IsTable ts ws spots reps) (places : List ℕ) (within : (p : ℕ) → Has places p → p < length spots)
    (row0 row none nodes : List Bool) (nr : (i : ℕ) → mark_at row0 i ≡ false) (nn : (i : ℕ) → mark_at none i ≡ false) (a : Adds none nodes (EntersFrom spots places)) where
  pub entered_within : (n : ℕ) → length spots ≤ n → AreWithin ws nodes n
  entered_within n l i h = elim (a.only i h) [
    | inl o ↦ absurd (clash (sym (nn i) ∙ o))
    | inr f ↦
        let s = table.each f.0 (within f.0 f.1) in
        (subst (λ z. z < length ws) f.2 s.next, λ q g. let w = s.ways.within q (subst (λ z. Has (list_at ws z) q) (sym f.2) g) in omega (arith, w.1, l))
  ]

  pub edges_from : (reached : (q : ℕ) → (IsReached ws row0 nodes (length ws) q → mark_at row q ≡ true) × (mark_at row q ≡ true → IsReached ws row0 nodes (length ws) q)) →
      (base : ℕ) (old new : List Edge) → AddsEdges old new (LeadsBelow spots reps row base (length spots)) →
      AddsEdges old new (λ b x. (p : ℕ) × Has places p × IsBehind (tails ts spots) p b base x)
  edges_from reached base old new f = edges_as old new (LeadsBelow spots reps row base (length spots)) (λ b x. (p : ℕ) × Has places p × IsBehind (tails ts spots) p b base x) f
      (λ b x m. by b x m ((reached m.0).1 m.2))
      (λ b x m.
      let k = leads_are_marked ts ws spots reps table m.0 b m.2.0 (within m.0 m.1) m.2.2 in
      let s = table.each m.0 (within m.0 m.1) in
      (k.0, (s.ways.within k.0 k.1).1, (reached k.0).0 (inr ((spot_at spots m.0).next, s.next, a.made (spot_at spots m.0).next (m.0, m.1, refl), k.1)), k.2, m.2.1 ∙ ap (λ z. base + z) (sym k.3)))
    where
      by : (b x : ℕ) → (m : LeadsBelow spots reps row base (length spots) b x) → IsReached ws row0 nodes (length ws) m.0 → (p : ℕ) × Has places p × IsBehind (tails ts spots) p b base x
      by b x m (inl k) = absurd (clash (sym (nr m.0) ∙ k))
      by b x m (inr g) = elim (a.only g.0 g.2) [
        | inl o ↦ absurd (clash (sym (nn g.0) ∙ o))
        | inr f ↦ (f.0, f.1, (rep_at reps m.0, m.4, marked_leads ts ws spots reps table f.0 b (rep_at reps m.0) (within f.0 f.1) (m.0, subst (λ z. Has (list_at ws z) m.0) (sym f.2) g.3, m.3, refl)))
      ]

-- one more place
pub from_more : (spots : List Spot) (places : List ℕ) (i : ℕ) → i < length places → (old mid new : List Bool) → Adds old mid (EntersFrom spots (take i places)) →
    Adds mid new (λ j. j ≡ (spot_at spots (get_or places i 0)).next) → Adds old new (EntersFrom spots (take (i + 1) places))
from_more spots places i l old mid new a b = record {
  only = λ j h. elim (b.only j h) [
    | inl k ↦ elim (a.only j k) [ inl o ↦ inl o | inr f ↦ inr (f.0, subst (λ z. Has z f.0) (sym more) (Has_left (take i places) (get_or places i 0 ∷ []) f.0 f.1), f.2) ]
    | inr q ↦ inr (get_or places i 0, subst (λ z. Has z (get_or places i 0)) (sym more) (Has_right (take i places) (get_or places i 0 ∷ []) (get_or places i 0) (inl refl)), sym q)
  ];
  kept = λ j h. b.kept j (a.kept j h);
  made = λ j f. elim (Has_cases (take i places) (get_or places i 0 ∷ []) f.0 (subst (λ z. Has z f.0) more f.1)) [
    | inl h ↦ b.kept j (a.made j (f.0, h, f.2))
    | inr h ↦ elim h [ inl q ↦ b.made j (sym f.2 ∙ ap (λ z. (spot_at spots z).next) (sym q)) | inr z ↦ absurd z ]
  ];
}
  where
    more : take (i + 1) places ≡ take i places ++ get_or places i 0 ∷ []
    more = take_more places i 0 l
