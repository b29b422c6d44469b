-- Failures of rules on headers, one rule after the other, and on texts that are the same.
use Rattle.std.proofs.Common.{◌≡◌, ℕ, ◌+◌, ◌<◌, true, false, if◌then◌else◌, List, [], ◌∷◌, ◌++◌, Option, length, take, get_or, flat_map, refl, sym, ap, ◌∙◌, append_assoc, append-nil, arith}
use Rattle.std.specs.Prelude.{All, ◌⊎◌}
use Rattle.std.specs.List.{enumerate_from}
use Rattle.std.proofs.lemmas.List.Elements.{All-nil, All-cons, All-append, All-same}
use Rattle.std.proofs.lemmas.Grind.{flat_map-append}
use Rattle.std.proofs.lemmas.List.{take_more, length-take-le}
use Rattle.text_base.specs.Asked.{Bytes}
use Rattle.cfg_types.specs.HeaderRules.{header_agrees}
use Rattle.cfg_types.specs.declared.rules.HeaderRule.{HeaderRule}
use Rattle.test_run.specs.Verdicts.{header_failures}
use Rattle.test_run.specs.Lines.{IsNamed}
use Rattle.test_run.specs.declared.verdicts.Failure.{Failure}
use Rattle.test_run.specs.declared.verdicts.Failure.TheVariants as failure

enumerate-push : {X : Type 0} (n : ℕ) (xs : List X) (x : X) → enumerate_from n (xs ++ x ∷ []) ≡ enumerate_from n xs ++ (n + length xs, x) ∷ []
enumerate-push n [] x = ap (λ k. (k, x) ∷ []) (omega arith)
enumerate-push n (y ∷ ys) x = ap (λ es. (n, y) ∷ es) (enumerate-push (n + 1) ys x ∙ ap (λ k. enumerate_from (n + 1) ys ++ (k, x) ∷ []) (omega arith))

module _ (field : ℕ) (text : Bytes → Option Bytes) where
  abbrev one : ℕ × HeaderRule → List Failure
  one r = if header_agrees r.1 (text r.1.name) then [] else failure.Header field r.0 ∷ []

  failures-push : (rules : List HeaderRule) (r : HeaderRule) → header_failures field text (rules ++ r ∷ []) ≡ header_failures field text rules ++ one (length rules, r)
  failures-push rules r =
      ap (flat_map one) (enumerate-push 0 rules r)
      ∙ (flat_map-append one (enumerate_from 0 rules) ((0 + length rules, r) ∷ [])
      ∙ (ap (λ k. header_failures field text rules ++ (one (k, r) ++ [])) (omega arith)
      ∙ ap (λ fs. header_failures field text rules ++ fs) (append-nil (one (length rules, r)))))

  taken : (rules : List HeaderRule) (i : ℕ) (r : HeaderRule) → i < length rules → r ≡ get_or rules i r →
      header_failures field text (take (i + 1) rules) ≡ header_failures field text (take i rules) ++ one (i, r)
  taken rules i r l is =
      ap (header_failures field text) (take_more rules i r l ∙ ap (λ x. take i rules ++ x ∷ []) (sym is))
      ∙ failures-push (take i rules) r
      ∙ ap (λ n. header_failures field text (take i rules) ++ one (n, r)) (length-take-le i rules (omega (arith, l)))

  pub rule_fails : (rules : List HeaderRule) (i : ℕ) (r : HeaderRule) (old now new : List Failure) → i < length rules → r ≡ get_or rules i r → header_agrees r (text r.name) ≡ false →
      now ≡ old ++ header_failures field text (take i rules) → new ≡ now ++ failure.Header field i ∷ [] → new ≡ old ++ header_failures field text (take (i + 1) rules)
  rule_fails rules i r old now new l is f n e =
      let here : one (i, r) ≡ failure.Header field i ∷ [] = rw f refl in
      e ∙ ap (λ fs. fs ++ failure.Header field i ∷ []) n ∙ append_assoc old (header_failures field text (take i rules)) (failure.Header field i ∷ [])
      ∙ ap (λ fs. old ++ (header_failures field text (take i rules) ++ fs)) (sym here) ∙ ap (λ fs. old ++ fs) (sym (taken rules i r l is))

  pub rule_passes : (rules : List HeaderRule) (i : ℕ) (r : HeaderRule) (old now : List Failure) → i < length rules → r ≡ get_or rules i r → header_agrees r (text r.name) ≡ true →
      now ≡ old ++ header_failures field text (take i rules) → now ≡ old ++ header_failures field text (take (i + 1) rules)
  rule_passes rules i r old now l is t n =
      let here : one (i, r) ≡ [] = rw t refl in
      n ∙ ap (λ fs. old ++ fs) (sym (append-nil (header_failures field text (take i rules))) ∙ (ap (λ fs. header_failures field text (take i rules) ++ fs) (sym here) ∙ sym (taken rules i r l is)))

same_from : (field : ℕ) (f g : Bytes → Option Bytes) → ((name : Bytes) → f name ≡ g name) → (n : ℕ) (rules : List HeaderRule) →
    flat_map (one field f) (enumerate_from n rules) ≡ flat_map (one field g) (enumerate_from n rules)
same_from field f g e n [] = refl
same_from field f g e n (r ∷ rs) =
    ap (λ t. (if header_agrees r t then [] else failure.Header field n ∷ []) ++ flat_map (one field f) (enumerate_from (n + 1) rs)) (e r.name)
    ∙ ap (λ fs. one field g (n, r) ++ fs) (same_from field f g e (n + 1) rs)

-- rules that look at the same texts fail alike
pub fail_alike : (field : ℕ) (f g : Bytes → Option Bytes) (rules : List HeaderRule) → ((name : Bytes) → f name ≡ g name) → header_failures field f rules ≡ header_failures field g rules
fail_alike field f g rules e = same_from field f g e 0 rules

-- one more failure of a header rule is named, as those before it
pub named_more : (field index : ℕ) (now new : List Failure) → (field ≡ 6) ⊎ (field ≡ 7) → All IsNamed now → new ≡ now ++ failure.Header field index ∷ [] → All IsNamed new
named_more field index now new told named e =
    All-same IsNamed new (now ++ failure.Header field index ∷ []) e
    (All-append IsNamed now (failure.Header field index ∷ []) named (All-cons IsNamed (failure.Header field index) [] told (All-nil IsNamed)))
