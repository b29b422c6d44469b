-- An answer over the tables of terms is one of the terms.
use Rattle.std.proofs.Common.{ℕ, ◌≤◌, Bool, List, subst, Option}
use Rattle.rx_term.specs.declared.terms.Term.{Term}
use Rattle.rx_term.specs.Closing.{Claim, Closes}
use Rattle.rx_term.proofs.Closing.{closing_law}
use Rattle.rx_joint.specs.Claims.{all_claims, IsJoint}
use Rattle.rx_joint.proofs.Lawful.{meets_claims, listed_words, listed_closes}
use Rattle.field_seek.specs.declared.seen.Seen.{Seen}
use Rattle.field_seek.specs.declared.seen.Seen.TheVariants.{Found, Empty, Capped}
use Rattle.field_seek.specs.Seen.{IsSeen}
use Rattle.field_seek.specs.Sought.{IsSought}

module _ (tables : List (List Term)) (holds : List Bool) (bytes : List ℕ) (valid : Term) (claims : List Claim)
    (joint : IsJoint tables holds bytes (all_claims valid claims)) (cap : Option ℕ) where
  pub seen_is : (seen : Seen) → IsSought tables holds bytes cap seen → IsSeen valid claims cap seen
  seen_is (Found text) h = meets_claims tables holds bytes valid claims joint text.items h
  seen_is (Empty words) h =
      let closes : Closes valid claims words.list = listed_closes tables holds bytes valid claims joint words.list h.0 h.1 h.2 in
      record {
        closes = closes;
        none = λ within w m. closing_law valid claims words.list within closes w m;
        roomy = λ c e. subst (λ n. n ≤ c) h.1.long (h.3 c e);
      }
  seen_is (Capped words) h = record {
    full = h.2;
    listed = listed_words tables holds bytes valid claims joint words.list h.0 h.1;
  }
