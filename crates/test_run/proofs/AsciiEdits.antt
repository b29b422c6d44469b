-- Header edits of lawful configurations leave values that are ASCII.
use Rattle.std.proofs.Common.{ℕ, ◌<◌, Bool, true, false, ◌&&◌, if◌then◌else◌, List, [], ◌∷◌, arith}
use Rattle.std.specs.Prelude.{◌==◌, not, All, bytes_eq}
use Rattle.std.specs.List.{list_any, fold}
use Rattle.std.proofs.lemmas.List.Elements.{All-nil, All-cons, All-head, All-tail, All-append, All-filter}
use Rattle.text_base.specs.Asked.{Bytes, Head}
use Rattle.cfg_types.specs.HeaderEdits.{undoubled, without_names, has_name, appended, overwritten, added_as, counts, added, edited, edited_request}
use Rattle.cfg_types.specs.Lawful.{IsLawfulAddition, AreLawfulEdits, IsLawfulPair}
use Rattle.cfg_types.specs.declared.changes.Addition.{Addition}
use Rattle.cfg_types.specs.declared.changes.Edits.{Edits}
use Rattle.cfg_types.specs.declared.changes.EditPair.{EditPair}
use Rattle.cfg_types.specs.declared.changes.How.{How}
use Rattle.cfg_types.specs.declared.changes.How.TheVariants as how
use Rattle.test_run.proofs.Ascii.{Ascii, HasAscii, nothing, in_front, either, of_printed}

-- ---- one addition

first_small : (b : ℕ) (t : Bytes) → Ascii (b ∷ t) → b < 128
first_small b t a = All-head (λ x. x < 128) b t a

others_small : (b : ℕ) (t : Bytes) → Ascii (b ∷ t) → Ascii t
others_small b t a = All-tail (λ x. x < 128) b t a

undoubled_ascii : (v : Bytes) → Ascii v → Ascii (undoubled v)
undoubled_ascii [] a = nothing
undoubled_ascii (b ∷ []) a = a
undoubled_ascii (b ∷ c ∷ t) a =
    let others = others_small b (c ∷ t) a in
    either (b == 37 && c == 37) (37 ∷ undoubled t) (b ∷ undoubled (c ∷ t))
    (in_front 37 (undoubled t) (omega arith) (undoubled_ascii t (others_small c t others)))
    (in_front b (undoubled (c ∷ t)) (first_small b (c ∷ t) a) (undoubled_ascii (c ∷ t) others))

module _ (h : Head) (value : HasAscii h) where
  appended_ascii : (hs : List Head) → All HasAscii hs → All HasAscii (appended h hs)
  appended_ascii hs a = All-append HasAscii hs (h ∷ []) a (All-cons HasAscii h [] value (All-nil HasAscii))

  without_ascii : (names : List Bytes) (hs : List Head) → All HasAscii hs → All HasAscii (without_names names hs)
  without_ascii names hs a = All-filter (λ x. not (list_any (bytes_eq x.0) names)) HasAscii hs a

  overwritten_ascii : (hs : List Head) → All HasAscii hs → All HasAscii (overwritten h hs)
  overwritten_ascii hs a = appended_ascii (without_names (h.0 ∷ []) hs) (without_ascii (h.0 ∷ []) hs a)

  if_ascii : (b : Bool) (x y : List Head) → All HasAscii x → All HasAscii y → All HasAscii (if b then x else y)
  if_ascii true x y p q = p
  if_ascii false x y p q = q

  added_as_ascii : (way : How) (hs : List Head) → All HasAscii hs → All HasAscii (added_as way h hs)
  added_as_ascii how.Append hs a = appended_ascii hs a
  added_as_ascii how.IfAbsent hs a = if_ascii (has_name h.0 hs) hs (appended h hs) a (appended_ascii hs a)
  added_as_ascii how.Overwrite hs a = overwritten_ascii hs a
  added_as_ascii how.OverwriteIfThere hs a = if_ascii (has_name h.0 hs) (overwritten h hs) hs (overwritten_ascii hs a) a

added_ascii : (x : Addition) (hs : List Head) → IsLawfulAddition x → All HasAscii hs → All HasAscii (added hs x)
added_ascii x hs l a =
    let h : Head = (x.name, undoubled x.value) in
    let value : HasAscii h = undoubled_ascii x.value (of_printed x.value l.value) in
    if_ascii h value (counts x) (added_as x.how h hs) hs (added_as_ascii h value x.how hs a) a

-- ---- levels

all_added : (xs : List Addition) (hs : List Head) → All IsLawfulAddition xs → All HasAscii hs → All HasAscii (fold added hs xs)
all_added [] hs l a = a
all_added (x ∷ xs) hs l a = all_added xs (added hs x) (All-tail IsLawfulAddition x xs l) (added_ascii x hs (All-head IsLawfulAddition x xs l) a)

edited_ascii : (level : Edits) (hs : List Head) → AreLawfulEdits level → All HasAscii hs → All HasAscii (edited hs level)
edited_ascii level hs l a =
    all_added level.add (without_names level.remove hs) l.added (All-filter (λ x. not (list_any (bytes_eq x.0) level.remove)) HasAscii hs a)

pub levels_ascii : (levels : List EditPair) (hs : List Head) → All IsLawfulPair levels → All HasAscii hs → All HasAscii (edited_request levels hs)
levels_ascii [] hs l a = a
levels_ascii (p ∷ ps) hs l a =
    levels_ascii ps (edited hs p.request) (All-tail IsLawfulPair p ps l) (edited_ascii p.request hs (All-head IsLawfulPair p ps l).request a)
