-- Looking an entry up in two tables, one behind the other.
use Rattle.std.proofs.Common.{◌≡◌, ℕ, Bool, true, false, cond, ◌||◌, List, [], ◌∷◌, ◌++◌, Option, Some, bytes_eq, refl, ap, ◌∙◌}
use Rattle.std.specs.Option.{option_or}
use Rattle.serde_json.specs.Data.{Data}
use Rattle.json_tables.specs.declared.message.Message.{Message}
use Rattle.json_tables.specs.Spellings.{Spelled, spellings, with_camel}
use Rattle.json_tables.specs.Fields.{fields}
use Rattle.json_tables.specs.Carried.{carried}
use Rattle.json_tables.specs.Outside.{outside}
use Rattle.json_walk.specs.Members.{named, judge, allowed}

pub spellings-append : (a b : List (List ℕ)) → spellings (a ++ b) ≡ spellings a ++ spellings b
spellings-append [] b = refl
spellings-append (x ∷ a) b = ap (λ e. with_camel x ∷ e) (spellings-append a b)

found : (b : Bool) (n : Spelled) (o q r : Option Spelled) → o ≡ option_or q r → cond b (Some n) o ≡ option_or (cond b (Some n) q) r
found true n o q r e = refl
found false n o q r e = e

pub named-append : (k : List ℕ) (a b : List Spelled) → named k (a ++ b) ≡ option_or (named k a) (named k b)
named-append k [] b = refl
named-append k (x ∷ a) b = found (bytes_eq k x.0 || bytes_eq k x.1) x _ _ _ (named-append k a b)

-- the members outside the profile, and then the fields and the carried members
pub judged : (m : Message) (p : List ℕ) (d : Data) (k : List ℕ) (e : Data) → judge m p d k e ≡ allowed p d k e (named k (spellings (outside m))) (option_or (named k (spellings (fields m))) (named k (spellings (carried m))))
unfolding judge
judged m p d k e = ap (allowed p d k e (named k (spellings (outside m)))) (ap (named k) (spellings-append (fields m) (carried m)) ∙ named-append k (spellings (fields m)) (spellings (carried m)))
