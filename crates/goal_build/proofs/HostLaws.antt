-- The condition of a host is true at a valid request exactly where the request is the host's.
use Rattle.std.proofs.Common.{◌≡◌, ℕ, Bool, true, false, not, ◌&&◌, ◌||◌, ◌==◌, inl, inr, List, [], ◌∷◌, map, Option, None, Some, slice_get, refl, sym, ap, subst, ◌∙◌, IsTrue, arith}
use Rattle.std.specs.Prelude.{filter, option_map, MatchOption, nat_le, length}
use Rattle.std.specs.List.{list_all, list_any}
use Rattle.std.proofs.lemmas.Bool.{and_parts, and_from, both_ways, not-true, not_from_false, eqb-true}
use Rattle.std.proofs.lemmas.List.Folds.{list_all-append}
use Rattle.text_base.specs.Asked.{Bytes, Asked}
use Rattle.text_base.specs.Alphabets.{is_authority_byte, is_capital, is_printed}
use Rattle.text_base.specs.Requests.{is_valid, some_of}
use Rattle.text_base.specs.Seen.{seen}
use Rattle.text_base.specs.Hosts.{host_text, written_matches}
use Rattle.text_base.specs.declared.request.Field.TheVariants as field
use Rattle.rx_term.specs.declared.terms.Term.{Term}
use Rattle.rx_term.specs.Language.{In, Has, is_in}
use Rattle.rx_term.proofs.Language.{membership_law, Has_map, Has_unmap}
use Rattle.rx_rows.specs.Rows.{IsPrinted, choice}
use Rattle.rx_rows.proofs.PrintedTexts.{printed_of, printable_from}
use Rattle.rx_rows.proofs.Choices.{choice_from, choice_to}
use Rattle.rx_build.proofs.HostRules.{host_law}
use Rattle.rx_build.proofs.SeenTexts.{seen_law}
use Rattle.goal_form.proofs.Printed.{authority_printed}
use Rattle.goal_form.specs.Goals.{text_in}
use Rattle.goal_form.specs.Conditions.{condition_at}
use Rattle.goal_form.specs.declared.sight.Condition.{Condition}
use Rattle.goal_form.specs.declared.sight.Condition as of
use Rattle.goal_form.proofs.Meanings.{at_yes, at_all, at_any, at_not}
use Rattle.cfg_types.specs.Kinds.{is_domain_text}
use Rattle.cfg_types.specs.Hosts.{Owned, owned, domain_matches, written, ranks_before, best_of, host_for}
use Rattle.cfg_types.specs.HostLaws.{IsHostFor, HasNoHost}
use Rattle.cfg_types.specs.Lawful.{IsLawful, IsLawfulHost, IsLawfulDomain}
use Rattle.cfg_types.specs.declared.configs.Config.{Config}
use Rattle.cfg_types.specs.declared.configs.Host.{Host}
use Rattle.cfg_types.specs.declared.configs.Domain.{Domain}
use Rattle.cfg_types.specs.declared.configs.Domain.TheVariants as domain
use Rattle.cfg_types.proofs.Members.{All-at, Has-get, Has-from_contains, contains-from_Has, any-true, any-false, any-none}
use Rattle.cfg_types.proofs.HostProofs.{owned-has, has-owned, host_is_chosen, rank-between, best_of-None, best_of-Some}
use Rattle.cfg_types.proofs.OneHost.{one_host_is_chosen}
use Rattle.cfg_types.proofs.Written.{written_law_holds}
use Rattle.goal_form.specs.Leaves.{within}
use Rattle.rx_build.proofs.RuleTerms.{in_is}
use Rattle.goal_form.proofs.ConditionTruths.{at_within}
use Rattle.goal_build.specs.Hosts.{domain_term, own_condition, rivals, matched_condition, unmatched_conditions, domain_condition, host_condition}
use Rattle.goal_build.specs.Laws.{HostLaw}

-- ---- lists

module _ {A : Type 0} (p : A → Bool) where
  abbrev Some_of : List A → Type 0
  Some_of xs = (x : A) × Has xs x × (p x ≡ true)

  some_step : (x : A) (xs : List A) → (list_any p xs ≡ true → Some_of xs) → (v : Bool) → p x ≡ v → (v || list_any p xs) ≡ true → Some_of (x ∷ xs)
  some_step x xs r true e k = (x, inl refl, e)
  some_step x xs r false e k = let (y, i, t) = r k in (y, inr i, t)

  any_some : (xs : List A) → list_any p xs ≡ true → Some_of xs
  any_some [] h = cc
  any_some (x ∷ xs) h = some_step x xs (any_some xs) (p x) refl h

  kept_step : (y : A) (xs : List A) (x : A) → (Has (filter p xs) x → Has xs x × (p x ≡ true)) → p y ≡ true → Has (y ∷ filter p xs) x → Has (y ∷ xs) x × (p x ≡ true)
  kept_step y xs x r e (inl s) = (inl s, subst (λ z. p z ≡ true) s e)
  kept_step y xs x r e (inr i) = let (j, t) = r i in (inr j, t)

  filter_step : (y : A) (xs : List A) (x : A) → (Has (filter p xs) x → Has xs x × (p x ≡ true)) → (v : Bool) → p y ≡ v → Has (filter p (y ∷ xs)) x → Has (y ∷ xs) x × (p x ≡ true)
  filter_step y xs x r true e h = let k = rw e at h in kept_step y xs x r e k
  filter_step y xs x r false e h = let k = rw e at h in let (j, t) = r k in (inr j, t)

  pub has_filter : (xs : List A) (x : A) → Has (filter p xs) x → Has xs x × (p x ≡ true)
  has_filter [] x h = elim h [ ]
  has_filter (y ∷ xs) x h = filter_step y xs x (has_filter xs x) (p y) refl h

  passed_step : (y : A) (xs : List A) (x : A) → Has (filter p xs) x → (v : Bool) → p y ≡ v → Has (filter p (y ∷ xs)) x
  passed_step y xs x i true e = rw e (inr i)
  passed_step y xs x i false e = rw e i

  pub filter_has : (xs : List A) (x : A) → Has xs x → p x ≡ true → Has (filter p xs) x
  filter_has [] x h t = elim h [ ]
  filter_has (y ∷ xs) x (inl s) t = let e : p y ≡ true = subst (λ z. p z ≡ true) (sym s) t in rw e (inl s)
  filter_has (y ∷ xs) x (inr i) t = passed_step y xs x (filter_has xs x i t) (p y) refl

-- ---- domains

low_printed : (w : Bytes) → some_of (λ b. is_authority_byte b && not (is_capital b)) w ≡ true → IsPrinted w
low_printed [] h = cc
low_printed (b ∷ w) h =
    printed_of (λ x. is_authority_byte x && not (is_capital x)) (λ x k. printable_from x (authority_printed x (and_parts (is_authority_byte x) _ k).0)) (b ∷ w) h

text_printed : (most : ℕ) (w : Bytes) → IsTrue (is_domain_text most w) → IsPrinted w
text_printed most w h = low_printed w (and_parts (nat_le (length w) most) _ h).1

pub written_printed : (d : Domain) → IsLawfulDomain d → IsPrinted (written d)
written_printed (domain.Exact w) l = text_printed 1024 w l
written_printed (domain.Suffix w) l = text_printed 1023 w l
written_printed (domain.Prefix w) l = list_all-append is_printed w (42 ∷ []) ∙ and_from (list_all is_printed w) true (text_printed 1023 w l) refl
written_printed domain.Any l = refl

authority_is : (q : Asked) → seen q field.Authority ≡ Some q.authority
unfolding seen
authority_is q = refl

module _ (c : Config) (q : Asked) (lawful : IsLawful c) (valid : IsTrue (is_valid q)) where
  abbrev t : Bytes
  t = host_text c.ignore_port q.authority

  abbrev all : List Owned
  all = owned 0 c.hosts

  at_authority : (x : Term) → condition_at (seen q) (within field.Authority x false) ≡ is_in x q.authority
  at_authority x = at_within (seen q) field.Authority x false ∙ ap (text_in x) (authority_is q)

  domain_is : (d : Domain) → IsLawfulDomain d → is_in (domain_term c.ignore_port d) q.authority ≡ domain_matches d t
  domain_is d l =
      in_is (domain_term c.ignore_port d) q.authority (written_matches (written d) t)
      (host_law c.ignore_port (written d) q.authority (written_printed d l) (seen_law q field.Authority q.authority valid (authority_is q)))
      ∙ written_law_holds d t l

  own_at : (d : Domain) → IsLawfulDomain d → condition_at (seen q) (own_condition c.ignore_port d) ≡ domain_matches d t
  own_at (domain.Exact w) l = at_authority _ ∙ domain_is (domain.Exact w) l
  own_at (domain.Suffix w) l = at_authority _ ∙ domain_is (domain.Suffix w) l
  own_at (domain.Prefix w) l = at_authority _ ∙ domain_is (domain.Prefix w) l
  own_at domain.Any l = at_yes (seen q)

  abbrev matches : Owned → Bool
  matches e = domain_matches e.0 t

  terms : List Owned → List Term
  terms es = map (λ e. domain_term c.ignore_port e.0) es

  choice_is : (es : List Owned) → ((e : Owned) → Has es e → IsLawfulDomain e.0) → is_in (choice (map (λ e. domain_term c.ignore_port e.0) es)) q.authority ≡ list_any matches es
  choice_is es l = in_is (choice (map (λ e. domain_term c.ignore_port e.0) es)) q.authority (list_any matches es) (to, from)
    where
      to : In q.authority (choice (map (λ e. domain_term c.ignore_port e.0) es)) → IsTrue (list_any matches es)
      to h =
          let (x, i, k) = choice_to (map (λ e. domain_term c.ignore_port e.0) es) q.authority h in
          let (e, j, s) = Has_unmap (λ e. domain_term c.ignore_port e.0) es x i in
          let m : is_in (domain_term c.ignore_port e.0) q.authority ≡ true = (membership_law (domain_term c.ignore_port e.0) q.authority).1 (subst (In q.authority) s k) in
          any-true matches es e j (sym (domain_is e.0 (l e j)) ∙ m)

      from : IsTrue (list_any matches es) → In q.authority (choice (map (λ e. domain_term c.ignore_port e.0) es))
      from h =
          let (e, j, m) = any_some matches es h in
          choice_from (map (λ e. domain_term c.ignore_port e.0) es) (domain_term c.ignore_port e.0) q.authority (Has_map (λ e. domain_term c.ignore_port e.0) es e j)
          ((membership_law (domain_term c.ignore_port e.0) q.authority).0 (domain_is e.0 (l e j) ∙ m))

  unmatched_at : (es : List Owned) → ((e : Owned) → Has es e → IsLawfulDomain e.0) →
      list_all (λ b. b) (map (condition_at (seen q)) (unmatched_conditions c.ignore_port es)) ≡ not (list_any matches es)
  unmatched_at [] l = refl
  unmatched_at (e ∷ es) l =
      and-true (condition_at (seen q) (of.Not (matched_condition c.ignore_port (e ∷ es))))
      ∙ at_not (seen q) (matched_condition c.ignore_port (e ∷ es)) ∙ ap not (at_authority _ ∙ choice_is (e ∷ es) l)
    where
      and-true : (b : Bool) → (b && true) ≡ b
      and-true true = refl
      and-true false = refl

  owned_lawful : (e : Owned) → Has all e → IsLawfulDomain e.0
  owned_lawful e i =
      let (g, host, n, is, j) = has-owned c.hosts 0 e i in
      All-at IsLawfulDomain host.domains e.0 (All-at IsLawfulHost c.hosts host lawful.hosts (Has-get c.hosts g host is)).domains j

  abbrev is_rival : ℕ → Domain → Owned → Bool
  is_rival h d e = not (e.1 == h) && ranks_before e.0 d

  -- the domain wins the request for host h
  abbrev wins : ℕ → Domain → Bool
  wins h d = domain_matches d t && not (list_any matches (rivals all h d))

  domain_at : (h : ℕ) (d : Domain) → IsLawfulDomain d → condition_at (seen q) (domain_condition c.ignore_port all h d) ≡ wins h d
  domain_at h d l =
      at_all (seen q) _
      ∙ rw (own_at d l, unmatched_at (rivals all h d) (λ e i. owned_lawful e (has_filter (is_rival h d) all e i).0)) refl

  host_at : (h : ℕ) (ds : List Domain) → ((d : Domain) → Has ds d → IsLawfulDomain d) →
      list_any (λ b. b) (map (condition_at (seen q)) (map (domain_condition c.ignore_port all h) ds)) ≡ list_any (wins h) ds
  host_at h [] l = refl
  host_at h (d ∷ ds) l = rw (domain_at h d (l d (inl refl)), host_at h ds (λ x i. l x (inr i))) refl

  -- ---- by the law of host choice

  module _ (h : ℕ) (host : Host) (is : slice_get c.hosts h ≡ Some host) where
    host_lawful : (d : Domain) → Has host.domains d → IsLawfulDomain d
    host_lawful d i = All-at IsLawfulDomain host.domains d (All-at IsLawfulHost c.hosts host lawful.hosts (Has-get c.hosts h host is)).domains i

    same_owner : (d : Domain) → Has host.domains d → Has all (d, h)
    same_owner d i = subst (λ n. Has {A = Owned} all (d, n)) (omega arith) (owned-has c.hosts 0 h host d is i)

    -- a domain of host h that matches, and the best of all that match
    won : (d : Domain) → Has host.domains d → domain_matches d t ≡ true → list_any matches (rivals all h d) ≡ false → (b : Owned) → best_of t all ≡ Some b → host_for c q.authority ≡ Some h
    won d i m n b e = by_rank (ranks_before b.0 d) refl
      where
        best : Has all b × (domain_matches b.0 t ≡ true) × ((e : Owned) → Has all e → domain_matches e.0 t ≡ true → ranks_before e.0 b.0 ≡ false)
        best = best_of-Some t all b e

        chosen : host_for c q.authority ≡ Some b.1
        chosen = ap (option_map (λ d. d.1)) e

        by_owner : ranks_before b.0 d ≡ true → (v : Bool) → (b.1 == h) ≡ v → host_for c q.authority ≡ Some h
        by_owner r true s = chosen ∙ ap Some (eqb-true b.1 h s)
        by_owner r false s =
            let rival : is_rival h d b ≡ true = and_from (not (b.1 == h)) (ranks_before b.0 d) (not_from_false (b.1 == h) s) r in
            absurd (both_ways (matches b) (any-false matches (rivals all h d) b n (filter_has (is_rival h d) all b best.0 rival)) best.1)

        by_rank : (v : Bool) → ranks_before b.0 d ≡ v → host_for c q.authority ≡ Some h
        by_rank true r = by_owner r (b.1 == h) refl
        by_rank false r =
            one_host_is_chosen c q.authority h lawful (record {
              domain = d;
              owned = record { host = host; is = is; owns = contains-from_Has host.domains d i };
              matches = m;
              first = λ g x o k. rank-between d b.0 x (best.2 (x, g) (subst (λ n. Has {A = Owned} all (x, n)) (omega arith) (owned-has c.hosts 0 g o.host x o.is (Has-from_contains o.host.domains x o.owns))) k) r;
            })

    to_host : list_any (wins h) host.domains ≡ true → host_for c q.authority ≡ Some h
    to_host w =
        let (d, i, k) = any_some (wins h) host.domains w in
        let p = and_parts (domain_matches d t) (not (list_any matches (rivals all h d))) k in
        by_best d i p.0 (not-true _ p.1) (best_of t all) refl
      where
        by_best : (d : Domain) → Has host.domains d → domain_matches d t ≡ true → list_any matches (rivals all h d) ≡ false → (o : Option Owned) → best_of t all ≡ o →
            host_for c q.authority ≡ Some h
        by_best d i m n None e = absurd (both_ways (domain_matches d t) (best_of-None t all e (d, h) (same_owner d i)) m)
        by_best d i m n (Some b) e = won d i m n b e

    from_host : host_for c q.authority ≡ Some h → list_any (wins h) host.domains ≡ true
    from_host e = by_law (subst (λ o. MatchOption o (HasNoHost c q.authority) (IsHostFor c q.authority)) e (host_is_chosen c q.authority))
      where
        by_law : IsHostFor c q.authority h → list_any (wins h) host.domains ≡ true
        by_law w =
            let s : w.owned.host ≡ host = (let k = sym w.owned.is ∙ is in cc) in
            let i : Has host.domains w.domain = subst (λ x. Has x.domains w.domain) s (Has-from_contains w.owned.host.domains w.domain w.owned.owns) in
            any-true (wins h) host.domains w.domain i (and_from (domain_matches w.domain t) _ w.matches (not_from_false _ (any-none matches (rivals all h w.domain) none)))
          where
            none : (x : Owned) → Has (rivals all h w.domain) x → matches x ≡ false
            none x i =
                let (j, r) = has_filter (is_rival h w.domain) all x i in
                let (g, own, n, at, k) = has-owned c.hosts 0 x j in
                by_match (matches x) refl (w.first g x.0 (record { host = own; is = at; owns = contains-from_Has own.domains x.0 k })) (and_parts (not (x.1 == h)) (ranks_before x.0 w.domain) r).1
              where
                by_match : (v : Bool) → matches x ≡ v → (matches x ≡ true → ranks_before x.0 w.domain ≡ false) → ranks_before x.0 w.domain ≡ true → matches x ≡ false
                by_match false e f r = e
                by_match true e f r = absurd (both_ways (ranks_before x.0 w.domain) (f e) r)

    host_is : condition_at (seen q) (host_condition c h host) ≡ list_any (wins h) host.domains
    host_is = at_any (seen q) _ ∙ host_at h host.domains host_lawful

pub host_condition_law : HostLaw
host_condition_law c h host q l is v =
    ((λ w. to_host c q l v h host is (sym (host_is c q l v h host is) ∙ w)), (λ e. host_is c q l v h host is ∙ from_host c q l v h host is e))
