-- An absent input takes no key.
use Rattle.std.proofs.Common.{◌≡◌, List, [], Option, None, length, refl, sym, arith}
use Rattle.std.specs.List.{position_or_len}
use Rattle.std.proofs.lemmas.List.Sums.{position_or_len_is}
use Rattle.text_base.specs.Asked.{Bytes}
use Rattle.cfg_types.specs.Trees.{equal_key}
use Rattle.match_tree.specs.KeyOrder.{is_longest}

pub exact_absent : (t : Option Bytes) (ks : List Bytes) → t ≡ None → length ks ≡ position_or_len (equal_key t) ks
exact_absent t ks e = rw e (sym (position_or_len_is (equal_key None) ks (length ks) [] (omega arith) (λ k l. refl) (λ l. absurd (omega arith))))

pub longest_absent : (t : Option Bytes) (all ks : List Bytes) → t ≡ None → length ks ≡ position_or_len (is_longest t all) ks
longest_absent t all ks e = rw e (sym (position_or_len_is (is_longest None all) ks (length ks) [] (omega arith) (λ k l. refl) (λ l. absurd (omega arith))))
