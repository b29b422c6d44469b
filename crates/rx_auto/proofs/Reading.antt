-- Edges that are added one after another, and edges that are followed.
use Rattle.std.proofs.Common.{◌≡◌, ℕ, ◌+◌, ◌<◌, ◌≤◌, true, false, ◌⊎◌, inl, inr, List, [], ◌∷◌, ◌++◌, length, get_or, take, refl, sym, ◌∙◌, ap, subst, arith}
use Rattle.std.proofs.lemmas.List.{take_more}
use Rattle.std.proofs.Math.Seq.{take-length}
use Rattle.rx_term.specs.declared.terms.Term.{Term}
use Rattle.rx_term.specs.Term.{has_byte}
use Rattle.rx_term.specs.Language.{Has}
use Rattle.rx_term.proofs.Language.{Has_left, Has_right, Has_cases}
use Rattle.rx_auto.specs.declared.parts.Spot.{Spot}
use Rattle.rx_auto.specs.declared.edges.Edge.{Edge}
use Rattle.rx_auto.specs.Parts.{spot_at}
use Rattle.rx_auto.specs.Ways.{list_at}
use Rattle.rx_auto.specs.Marks.{rep_at}
use Rattle.rx_auto.specs.Table.{tails, IsTable}
use Rattle.rx_auto.specs.Live.{AddsNumbers, IsBehind}
use Rattle.rx_auto.specs.Edges.{Reads, AddsEdges}
use Rattle.rx_auto.proofs.Ascending.{adds_then, adds_as}
use Rattle.rx_auto.proofs.Leading.{Numbers, marked_leads, leads_are_marked}

-- what one more edge reads
reads_cases : (es : List Edge) (e : Edge) (b x : ℕ) → Reads (es ++ e ∷ []) b x → Reads es b x ⊎ ((has_byte e.set b ≡ true) × (e.to ≡ x))
reads_cases es e b x r = elim (Has_cases es (e ∷ []) r.0 r.1) [
  | inl h ↦ inl (r.0, h, r.2, r.3)
  | inr h ↦ elim h [ inl q ↦ inr (ap (λ z. has_byte z.set b) q ∙ r.2, ap (λ z. z.to) q ∙ r.3) | inr z ↦ absurd z ]
]

reads_old : (es : List Edge) (e : Edge) (b x : ℕ) → Reads es b x → Reads (es ++ e ∷ []) b x
reads_old es e b x r = (r.0, Has_left es (e ∷ []) r.0 r.1, r.2, r.3)

reads_new : (es : List Edge) (e : Edge) (b x : ℕ) → has_byte e.set b ≡ true → e.to ≡ x → Reads (es ++ e ∷ []) b x
reads_new es e b x h q = (e, Has_right es (e ∷ []) e (inl refl), h, q)

pub edges_nothing : (es : List Edge) (M : ℕ → ℕ → Type 0) → ((b x : ℕ) → M b x → ⊥) → AddsEdges es es M
edges_nothing es M none = record { only = λ b x r. inl r; kept = λ b x r. r; made = λ b x m. absurd (none b x m) }

pub edges_then : (old mid new : List Edge) (M N P : ℕ → ℕ → Type 0) → AddsEdges old mid M → AddsEdges mid new N →
    ((b x : ℕ) → M b x → P b x) → ((b x : ℕ) → N b x → P b x) → ((b x : ℕ) → P b x → M b x ⊎ N b x) → AddsEdges old new P
edges_then old mid new M N P f g m n p = record {
  only = λ b x r. elim (g.only b x r) [
    | inl q ↦ elim (f.only b x q) [ inl k ↦ inl k | inr k ↦ inr (m b x k) ]
    | inr k ↦ inr (n b x k)
  ];
  kept = λ b x r. g.kept b x (f.kept b x r);
  made = λ b x k. elim (p b x k) [ inl q ↦ g.kept b x (f.made b x q) | inr q ↦ g.made b x q ];
}

pub edges_as : (old new : List Edge) (M P : ℕ → ℕ → Type 0) → AddsEdges old new M → ((b x : ℕ) → M b x → P b x) → ((b x : ℕ) → P b x → M b x) → AddsEdges old new P
edges_as old new M P f m p = record {
  only = λ b x r. elim (f.only b x r) [ inl k ↦ inl k | inr k ↦ inr (m b x k) ];
  kept = f.kept;
  made = λ b x k. f.made b x (p b x k);
}

-- what one edge adds
pub edge_push : (es : List Edge) (e : Edge) → AddsEdges es (es ++ e ∷ []) (λ b x. (has_byte e.set b ≡ true) × (e.to ≡ x))
edge_push es e = record { only = reads_cases es e; kept = reads_old es e; made = λ b x m. reads_new es e b x m.0 m.1 }

module _ (spots : List Spot) (reps : List ℕ) (base : ℕ) (ps : List ℕ) (i : ℕ) (l : i < length ps) where
  more : take (i + 1) ps ≡ take i ps ++ get_or ps i 0 ∷ []
  more = take_more ps i 0 l

  pub edges_more : (old mid : List Edge) (e : Edge) → e.set ≡ (spot_at spots (get_or ps i 0)).set → e.to ≡ base + rep_at reps (get_or ps i 0) →
      AddsEdges old mid (λ b x. Numbers spots reps b base (take i ps) x) → AddsEdges old (mid ++ e ∷ []) (λ b x. Numbers spots reps b base (take (i + 1) ps) x)
  edges_more old mid e s t f = edges_then old mid (mid ++ e ∷ []) (λ b x. Numbers spots reps b base (take i ps) x) (λ b x. (has_byte e.set b ≡ true) × (e.to ≡ x))
      (λ b x. Numbers spots reps b base (take (i + 1) ps) x) f (edge_push mid e)
      (λ b x m. (m.0, m.1, (m.2.0, subst (λ z. Has z m.2.0) (sym more) (Has_left (take i ps) (get_or ps i 0 ∷ []) m.2.0 m.2.1), m.2.2, m.2.3)))
      (λ b x m. (
        rep_at reps (get_or ps i 0),
        sym m.1 ∙ t,
        (get_or ps i 0, subst (λ z. Has z (get_or ps i 0)) (sym more) (Has_right (take i ps) (get_or ps i 0 ∷ []) (get_or ps i 0) (inl refl)), ap (λ z. has_byte z b) (sym s) ∙ m.0, refl),
      ))
      (λ b x m. elim (Has_cases (take i ps) (get_or ps i 0 ∷ []) m.2.0 (subst (λ z. Has z m.2.0) more m.2.1)) [
        | inl h ↦ inl (m.0, m.1, (m.2.0, h, m.2.2, m.2.3))
        | inr h ↦ elim h [
          | inl q ↦ inr (ap (λ z. has_byte z b) s ∙ ap (λ z. has_byte (spot_at spots z).set b) q ∙ m.2.2, t ∙ ap (λ z. base + rep_at reps z) q ∙ ap (λ z. base + z) m.2.3 ∙ sym m.1)
          | inr z ↦ absurd z
        ]
      ])

-- no position adds nothing
pub edges_none : (es : List Edge) (spots : List Spot) (reps : List ℕ) (base : ℕ) → AddsEdges es es (λ b x. Numbers spots reps b base [] x)
edges_none es spots reps base = edges_nothing es (λ b x. Numbers spots reps b base [] x) (λ b x m. m.2.1)

-- all positions are done
pub edges_all : (spots : List Spot) (reps : List ℕ) (base : ℕ) (ps : List ℕ) (n : ℕ) (old new : List Edge) → length ps ≤ n → n ≤ length ps →
    AddsEdges old new (λ b x. Numbers spots reps b base (take n ps) x) → AddsEdges old new (λ b x. Numbers spots reps b base ps x)
edges_all spots reps base ps n old new h k f =
    let e : n ≡ length ps = omega (arith, h, k) in
    subst (λ zs. AddsEdges old new (λ b x. Numbers spots reps b base zs x)) (ap (λ z. take z ps) e ∙ take-length ps) f

pub edges_behind : (ts : List Term) (ws : List (List ℕ)) (spots : List Spot) (reps : List ℕ) → IsTable ts ws spots reps → (place base : ℕ) (old new : List Edge) → place < length spots →
    AddsEdges old new (λ b x. Numbers spots reps b base (list_at ws (spot_at spots place).next) x) → AddsEdges old new (λ b x. IsBehind (tails ts spots) place b base x)
edges_behind ts ws spots reps table place base old new h f = edges_as old new (λ b x. Numbers spots reps b base (list_at ws (spot_at spots place).next) x)
    (λ b x. IsBehind (tails ts spots) place b base x) f
    (λ b x m. (m.0, m.1, marked_leads ts ws spots reps table place b m.0 h m.2)) (λ b x m. (m.0, m.1, leads_are_marked ts ws spots reps table place b m.0 h m.2))

-- ---- edges that are followed

module _ (edges : List Edge) (b i : ℕ) (d : Edge) (l : i < length edges) where
  then_more : take (i + 1) edges ≡ take i edges ++ get_or edges i d ∷ []
  then_more = take_more edges i d l

  kept_reads : (x : ℕ) → Reads (take i edges) b x → Reads (take (i + 1) edges) b x
  kept_reads x r = subst (λ z. Reads z b x) (sym then_more) (reads_old (take i edges) (get_or edges i d) b x r)

  pub follow_more : (mid new : List ℕ) → has_byte (get_or edges i d).set b ≡ true → AddsNumbers [] mid (Reads (take i edges) b) →
      AddsNumbers mid new (λ x. x ≡ (get_or edges i d).to) → AddsNumbers [] new (Reads (take (i + 1) edges) b)
  follow_more mid new h f g = adds_then [] mid new (Reads (take i edges) b) (λ x. x ≡ (get_or edges i d).to) (Reads (take (i + 1) edges) b) f g kept_reads
      (λ x q. subst (λ z. Reads z b x) (sym then_more) (reads_new (take i edges) (get_or edges i d) b x h (sym q)))
      (λ x r. elim (reads_cases (take i edges) (get_or edges i d) b x (subst (λ z. Reads z b x) then_more r)) [ inl k ↦ inl k | inr k ↦ inr (sym k.1) ])

  pub follow_skip : (mid : List ℕ) → has_byte (get_or edges i d).set b ≡ false → AddsNumbers [] mid (Reads (take i edges) b) → AddsNumbers [] mid (Reads (take (i + 1) edges) b)
  follow_skip mid h f = adds_as [] mid (Reads (take i edges) b) (Reads (take (i + 1) edges) b) f kept_reads
      (λ x r. elim (reads_cases (take i edges) (get_or edges i d) b x (subst (λ z. Reads z b x) then_more r)) [ inl k ↦ k | inr k ↦ absurd (clash (sym h ∙ k.0)) ])
    where
      clash : false ≡ true → ⊥
      clash k = cc
