-- Rivals host by host.
use Rattle.std.proofs.Common.{◌≡◌, ℕ, ◌+◌, ◌<◌, Bool, true, false, not, ◌&&◌, ◌==◌, List, [], ◌∷◌, ◌++◌, map, filter, length, drop, get_or, refl, sym, ap, ◌∙◌, append_assoc}
use Rattle.std.proofs.lemmas.List.{map-append}
use Rattle.std.proofs.lemmas.List.Elements.{filter-append}
use Rattle.text_base.proofs.Rest.{drop_at}
use Rattle.rx_term.specs.declared.terms.Term.{Term}
use Rattle.cfg_types.specs.Hosts.{Owned, owned, ranks_before}
use Rattle.cfg_types.specs.declared.configs.Host.{Host}
use Rattle.cfg_types.specs.declared.configs.Domain.{Domain}
use Rattle.goal_build.specs.Hosts.{domain_term, rivals}

module _ (ip : Bool) (own : ℕ) (d : Domain) where
  abbrev is_rival : Owned → Bool
  is_rival e = not (e.1 == own) && ranks_before e.0 d

  of_host : (at : ℕ) (ds : List Domain) →
      map (λ (e : Owned). domain_term ip e.0) (filter is_rival (map (λ x. (x, at)) ds)) ≡ map (domain_term ip) (filter (λ e. not (at == own) && ranks_before e d) ds)
  of_host at [] = refl
  of_host at (x ∷ ds) = step (not (at == own) && ranks_before x d) refl (of_host at ds)
    where
      step : (v : Bool) → (not (at == own) && ranks_before x d) ≡ v →
          map (λ (e : Owned). domain_term ip e.0) (filter is_rival (map (λ y. (y, at)) ds)) ≡ map (domain_term ip) (filter (λ e. not (at == own) && ranks_before e d) ds) →
          map (λ (e : Owned). domain_term ip e.0) (filter is_rival (map (λ y. (y, at)) (x ∷ ds))) ≡ map (domain_term ip) (filter (λ e. not (at == own) && ranks_before e d) (x ∷ ds))
      step true e h = rw (e, h) refl
      step false e h = rw (e, h) refl

  pub rivals_more : (all ts us : List Term) (hs : List Host) (at : ℕ) (h : Host) → at < length hs → h ≡ get_or hs at h →
      all ≡ ts ++ map (λ (e : Owned). domain_term ip e.0) (rivals (owned at (drop at hs)) own d) →
      us ≡ ts ++ map (domain_term ip) (filter (λ e. not (at == own) && ranks_before e d) h.domains) →
      all ≡ us ++ map (λ (e : Owned). domain_term ip e.0) (rivals (owned (at + 1) (drop (at + 1) hs)) own d)
  rivals_more all ts us hs at h l is e f =
      let rest = owned (at + 1) (drop (at + 1) hs) in
      let split : map (λ (e : Owned). domain_term ip e.0) (rivals (owned at (drop at hs)) own d)
      ≡ map (domain_term ip) (filter (λ e. not (at == own) && ranks_before e d) h.domains) ++ map (λ (e : Owned). domain_term ip e.0) (rivals rest own d) =
      ap (λ r. map (λ (e : Owned). domain_term ip e.0) (rivals (owned at r) own d)) (drop_at hs at h l is)
      ∙ ap (map (λ (e : Owned). domain_term ip e.0)) (filter-append is_rival (map (λ x. (x, at)) h.domains) rest)
      ∙ map-append (λ (e : Owned). domain_term ip e.0) (filter is_rival (map (λ x. (x, at)) h.domains)) (filter is_rival rest)
      ∙ ap (λ t. t ++ map (λ (e : Owned). domain_term ip e.0) (rivals rest own d)) (of_host at h.domains) in
      e ∙ ap (λ t. ts ++ t) split
      ∙ sym (append_assoc ts (map (domain_term ip) (filter (λ e. not (at == own) && ranks_before e d) h.domains)) (map (λ (e : Owned). domain_term ip e.0) (rivals rest own d)))
      ∙ ap (λ t. t ++ map (λ (e : Owned). domain_term ip e.0) (rivals rest own d)) (sym f)
