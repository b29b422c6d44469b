-- What stands at a field's number.
use Rattle.std.proofs.Common.{◌≡◌, ℕ, zero, suc, ◌<◌, List, [], ◌∷◌, length, get_or, take, drop, map, Bor, Bool, true, false, cond, ◌&&◌, ◌||◌, ◌+◌, ◌≤◌, Ok, Option, Some, None, option_map, is_some, option_and_then, refl, sym, ap, ◌∙◌, arith}
use Rattle.std.specs.Bool.{⊤}
use Rattle.std.proofs.lemmas.List.{length-map, length-take, length-drop, get_or-take, get_or-drop}
use Rattle.serde_json.specs.View.{view}
use Rattle.serde_json.specs.declared.value.Value.{Value}
use Rattle.serde_json.specs.Data.{Data}
use Rattle.serde_json.specs.Find.{get}
use Rattle.json_walk.specs.declared.refusal.Kind.TheVariants.{Conflict}
use Rattle.json_walk.specs.Outcome.{Outcome, offence}
use Rattle.json_walk.specs.Places.{under}
use Rattle.json_tables.specs.declared.message.Message.{Message}
use Rattle.json_tables.specs.Spellings.{spellings, with_camel, both}
use Rattle.json_tables.specs.Fields.{fields}
use Rattle.json_walk.specs.Members.{names_of, spelled}
use Rattle.json_walk.specs.Fields.{field, alone_after}

names_get : (d : Data) (ns : List (List ℕ)) (k : ℕ) (o : Option (List ℕ)) → k < length ns → get_or (map (spelled d) (spellings ns)) k o ≡ spelled d (with_camel (get_or ns k []))
names_get d [] k o h = absurd (omega arith)
names_get d (n ∷ ns) zero o h = refl
names_get d (n ∷ ns) (suc k) o h = names_get d ns k o (omega arith)

pub field_found : (m : Message) (k : ℕ) (d : Data) (names : List (Option (List ℕ))) (x o : Option (List ℕ)) → names ≡ names_of m d → k < length (fields m) → get_or names k x ≡ o
    → field (get_or (fields m) k []) d ≡ option_and_then (λ s. get s d) o
unfolding field
field_found m k d names x o e h f = ap (option_and_then (λ s. get s d)) (sym (names_get d (fields m) k x h) ∙ ap (λ ns. get_or ns k x) (sym e) ∙ f)

pub names_fit : (m : Message) (d : Data) (names : List (Option (List ℕ))) → names ≡ names_of m d → length names ≡ length (fields m)
names_fit m d names e = ap length e ∙ simp length-map

first_is : (x : Bor (List ℕ) × Bor (List ℕ)) (n : List ℕ) → both x ≡ with_camel n → x.0.now ≡ n
first_is x n e = ap (λ (p : List ℕ × List ℕ). p.0) e

pub entry_at : (ns : List (List ℕ)) (es : List (Bor (List ℕ) × Bor (List ℕ))) (k : ℕ) (o : Bor (List ℕ) × Bor (List ℕ)) → map both es ≡ spellings ns → k < length ns → (get_or es k o).0.now ≡ get_or ns k []
entry_at [] es k o e h = absurd (omega arith)
entry_at (n ∷ ns) [] k o e h = absurd cc
entry_at (n ∷ ns) (x ∷ es) zero o e h = first_is x n cc
entry_at (n ∷ ns) (x ∷ es) (suc k) o e h = let f : map both es ≡ spellings ns = cc in let g : k < length ns = omega arith in entry_at ns es k o f g

pub entries_fit : (ns : List (List ℕ)) (es : List (Bor (List ℕ) × Bor (List ℕ))) → map both es ≡ spellings ns → length es ≡ length ns
entries_fit [] [] e = refl
entries_fit [] (x ∷ es) e = absurd cc
entries_fit (n ∷ ns) [] e = absurd cc
entries_fit (n ∷ ns) (x ∷ es) e = ap suc (entries_fit ns es cc)

part_at : (ns : List (List ℕ)) (first many i : ℕ) → i < many → first + many ≤ length ns → get_or (take many (drop first ns)) i [] ≡ get_or ns (first + i) []
part_at ns first many i h g = get_or-take many (drop first ns) i [] h ∙ get_or-drop first ns i []

part_fits : (ns : List (List ℕ)) (first many : ℕ) → first + many ≤ length ns → length (take many (drop first ns)) ≡ many
part_fits ns first many h = simp (length-take, length-drop) (omega arith)

alone_next : (p : List ℕ) (d : Data) (met : Bool) (ns : List (List ℕ)) (i : ℕ) → i < length ns
    → alone_after met p d (drop i ns) ≡ cond (is_some (field (get_or ns i []) d) && met) (offence (under p (get_or ns i [])) Conflict) (alone_after (met || is_some (field (get_or ns i []) d)) p d (drop (suc i) ns))
unfolding alone_after
alone_next p d met [] i h = absurd (omega arith)
alone_next p d met (n ∷ ns) zero h = refl
alone_next p d met (n ∷ ns) (suc i) h = alone_next p d met ns i (omega arith)

seen_there : (o : Option (Bor Value)) (there : Bool) (e : Option Data) → there ≡ is_some o → option_map (λ v. view v.now) o ≡ e → is_some e ≡ there
seen_there None there e f g = sym (f ∙ ap is_some g)
seen_there (Some v) there e f g = sym (f ∙ ap is_some g)

-- one more field of the group
pub alone_goes : (p : List ℕ) (d : Data) (met : Bool) (ns : List (List ℕ)) (first many i : ℕ) (o : Option (Bor Value)) (there : Bool) (all : Outcome ⊤) → i < many → first + many ≤ length ns
    → there ≡ is_some o → option_map (λ v. view v.now) o ≡ field (get_or ns (first + i) []) d → (there && met) ≡ false
    → alone_after met p d (drop i (take many (drop first ns))) ≡ all → alone_after (met || there) p d (drop (i + 1) (take many (drop first ns))) ≡ all
alone_goes p d met ns first many i o there all h g e f clear so_far =
    let lt : i < length (take many (drop first ns)) = rw (part_fits ns first many g) h in
    let k : i + 1 ≡ suc i = omega arith in
    let step = alone_next p d met (take many (drop first ns)) i lt in
    let is : is_some (field (get_or (take many (drop first ns)) i []) d) ≡ there = rw (part_at ns first many i h g) (seen_there o there _ e f) in
    rw k (sym (step ∙ rw (is, clear) refl) ∙ so_far)

pub alone_stops : (p : List ℕ) (d : Data) (met : Bool) (ns : List (List ℕ)) (first many i : ℕ) (o : Option (Bor Value)) (there : Bool) (all : Outcome ⊤) → i < many → first + many ≤ length ns
    → there ≡ is_some o → option_map (λ v. view v.now) o ≡ field (get_or ns (first + i) []) d → (there && met) ≡ true
    → alone_after met p d (drop i (take many (drop first ns))) ≡ all → all ≡ offence (under p (get_or ns (first + i) [])) Conflict
alone_stops p d met ns first many i o there all h g e f twice so_far =
    let lt : i < length (take many (drop first ns)) = rw (part_fits ns first many g) h in
    let step = alone_next p d met (take many (drop first ns)) i lt in
    let is : is_some (field (get_or (take many (drop first ns)) i []) d) ≡ there = rw (part_at ns first many i h g) (seen_there o there _ e f) in
    sym so_far ∙ step ∙ rw (is, twice) (ap (λ n. offence (under p n) Conflict) (part_at ns first many i h g))

drop_past : (ns : List (List ℕ)) (i : ℕ) → length ns ≤ i → drop i ns ≡ []
drop_past [] zero h = refl
drop_past [] (suc i) h = refl
drop_past (n ∷ ns) zero h = absurd (omega arith)
drop_past (n ∷ ns) (suc i) h = drop_past ns i (omega arith)

pub alone_done : (p : List ℕ) (d : Data) (met : Bool) (ns : List (List ℕ)) (first many i : ℕ) (all : Outcome ⊤) → many ≤ i → first + many ≤ length ns → alone_after met p d (drop i (take many (drop first ns))) ≡ all → all ≡ Ok tt
unfolding alone_after
alone_done p d met ns first many i all h g so_far =
    let le : length (take many (drop first ns)) ≤ i = rw (part_fits ns first many g) h in
    sym so_far ∙ rw (drop_past (take many (drop first ns)) i le) refl
