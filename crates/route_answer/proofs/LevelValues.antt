-- Lists of headers with the same values stay so through the edits of levels, and each level adds at most 1,000 headers.
use denote.Ref.{Bor}
use Rattle.std.proofs.Common.{◌≡◌, ℕ, ◌+◌, ◌<◌, if◌then◌else◌, List, [], ◌∷◌, length, get_or, take, sym, ap, subst, ◌∙◌, arith}
use Rattle.std.specs.List.{list_any, fold}
use Rattle.std.specs.Str.{bytes_eq}
use Rattle.std.specs.Prelude.{All}
use Rattle.std.proofs.lemmas.List.{length-map, get_or-map}
use Rattle.std.proofs.lemmas.List.Sums.{fold_more}
use Rattle.text_base.specs.Asked.{Head}
use Rattle.text_base.specs.Seen.{values}
use Rattle.text_base.specs.Heads.{SameHeads}
use Rattle.cfg_types.specs.HeaderEdits.{without_names, edited}
use Rattle.cfg_types.specs.declared.changes.Edits.{Edits}
use Rattle.cfg_types.specs.declared.changes.EditPair.{EditPair}
use Rattle.cfg_types.specs.Lawful.{IsLawfulPair}
use Rattle.route_answer.specs.Levels.{pairs_of}
use Rattle.head_edit.proofs.NameValues.{values-without, same-fold}

-- ---- the levels that references point to

pub few_pairs : (rs : List (Bor EditPair)) (i : ℕ) → i < length rs → i < length (pairs_of rs)
few_pairs rs i h = omega (arith, length-map rs (λ (x : Bor EditPair). x.now))

pub pair_at : (rs : List (Bor EditPair)) (i : ℕ) (r : Bor EditPair) → i < length rs → r ≡ get_or rs i r → r.now ≡ get_or (pairs_of rs) i r.now
pair_at rs i r h e = ap (λ (x : Bor EditPair). x.now) e ∙ sym (get_or-map (λ (x : Bor EditPair). x.now) rs i r r.now h)

pub lawful_at : (rs : List (Bor EditPair)) (i : ℕ) (r : Bor EditPair) → All IsLawfulPair (pairs_of rs) → i < length rs → r ≡ get_or rs i r → IsLawfulPair r.now
lawful_at rs i r a h e = subst IsLawfulPair (sym (pair_at rs i r h e)) (a i r.now (few_pairs rs i h))

-- ---- values through levels

pub same-edited : (level : Edits) (a b : List Head) → SameHeads a b → SameHeads (edited a level) (edited b level)
same-edited level a b s = same-fold level.add (without_names level.remove a) (without_names level.remove b) (λ q.
    values-without q level.remove a
    ∙ ap (λ vs. if list_any (bytes_eq q) level.remove then [] else vs) (s q)
    ∙ sym (values-without q level.remove b))

-- the edits of one side of levels, where `side` picks it
module _ (side : EditPair → Edits) where
  abbrev pub by_levels : List EditPair → List Head → List Head
  by_levels levels hs = fold (λ h l. edited h (side l)) hs levels

  pub same-levels : (levels : List EditPair) (a b : List Head) → SameHeads a b → SameHeads (by_levels levels a) (by_levels levels b)
  same-levels [] a b s = s
  same-levels (l ∷ levels) a b s = same-levels levels (edited a (side l)) (edited b (side l)) (same-edited (side l) a b s)

  -- one level more
  pub same-next : (levels : List EditPair) (i : ℕ) (l : EditPair) (start old new : List Head) → i < length levels → l ≡ get_or levels i l →
      SameHeads old (by_levels (take i levels) start) → SameHeads new (edited old (side l)) → SameHeads new (by_levels (take (i + 1) levels) start)
  same-next levels i l start old new h e s t = λ q.
      t q
      ∙ same-edited (side l) old (by_levels (take i levels) start) s q
      ∙ ap (λ x. values q (edited (by_levels (take i levels) start) (side x))) e
      ∙ ap (values q) (sym (fold_more (λ h x. edited h (side x)) start levels i l h))

  -- headers found in the end, where the edits began with other headers than these but with the same values
  pub same-through : (levels : List EditPair) (found end start first : List Head) → found ≡ end → SameHeads end (by_levels levels start) → SameHeads start first →
      SameHeads found (by_levels levels first)
  same-through levels found end start first e s t = λ q. ap (values q) e ∙ s q ∙ same-levels levels start first t q
