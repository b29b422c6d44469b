-- Membership by the test.
use Rattle.std.proofs.Common.{◌≡◌, Bool}
use Rattle.std.specs.Prelude.{◌↔◌, IsTrue}
use Rattle.std.proofs.lemmas.Bool.Decides.{same_from_decides}
use Rattle.text_base.specs.Asked.{Bytes}
use Rattle.rx_term.specs.Language.{In, is_in}
use Rattle.rx_term.proofs.Language.{membership_law}
use Rattle.rx_term.specs.declared.terms.Term.{Term}

pub is_member : (t : Term) (w : Bytes) (b : Bool) → (IsTrue b ↔ In w t) → b ≡ is_in t w
is_member t w b h = same_from_decides {P = In w t} b (is_in t w) (h.0, h.1) ((membership_law t w).0, (membership_law t w).1)
