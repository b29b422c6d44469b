-- The values of each name through edits of lists of headers.
use Rattle.std.proofs.Common.{◌≡◌, ℕ, ◌+◌, ◌<◌, Bool, true, false, not, ◌||◌, if◌then◌else◌, List, [], ◌∷◌, ◌++◌, length, get_or, take, refl, sym, ap, subst, ◌∙◌}
use Rattle.std.specs.List.{list_any, fold}
use Rattle.std.specs.Str.{bytes_eq}
use Rattle.std.proofs.lemmas.List.{append-nil, append_assoc, take_more}
use Rattle.std.proofs.lemmas.List.Sums.{fold_more}
use Rattle.std.proofs.lemmas.List.Folds.{list_any_more}
use Rattle.std.proofs.lemmas.Slice.Eq.{bytes_eq-Decides}
use Rattle.text_base.specs.Asked.{Bytes, Head}
use Rattle.text_base.specs.Seen.{values}
use Rattle.text_base.specs.Heads.{SameHeads}
use Rattle.cfg_types.specs.HeaderEdits.{undoubled, without_names, has_name, appended, overwritten, added_as, counts, added}
use Rattle.cfg_types.specs.declared.changes.Addition.{Addition}
use Rattle.cfg_types.specs.declared.changes.How.{How}
use Rattle.cfg_types.specs.declared.changes.How.TheVariants as how

pub bytes_eq-swap : (a b : Bytes) → bytes_eq a b ≡ bytes_eq b a
bytes_eq-swap a b = by (bytes_eq a b) (bytes_eq b a) refl refl
  where
    by : (v w : Bool) → bytes_eq a b ≡ v → bytes_eq b a ≡ w → v ≡ w
    by true true e f = refl
    by false false e f = refl
    by true false e f = sym ((bytes_eq-Decides b a).1 (sym ((bytes_eq-Decides a b).0 e))) ∙ f
    by false true e f = sym e ∙ (bytes_eq-Decides a b).1 (sym ((bytes_eq-Decides b a).0 f))

pub values-append : (q : Bytes) (xs ys : List Head) → values q (xs ++ ys) ≡ values q xs ++ values q ys
values-append q [] ys = refl
values-append q (x ∷ xs) ys = by (bytes_eq x.0 q) refl (values-append q xs ys)
  where
    by : (v : Bool) → bytes_eq x.0 q ≡ v → values q (xs ++ ys) ≡ values q xs ++ values q ys →
        values q (x ∷ (xs ++ ys)) ≡ values q (x ∷ xs) ++ values q ys
    by true e r = rw e (ap (λ t. x.1 ∷ t) r)
    by false e r = rw e r

-- ---- one header more, and without some names

pub values-appended : (q : Bytes) (h : Head) (hs : List Head) →
    values q (appended h hs) ≡ (if bytes_eq h.0 q then values q hs ++ h.1 ∷ [] else values q hs)
values-appended q h hs = values-append q hs (h ∷ []) ∙ by (bytes_eq h.0 q)
  where
    by : (v : Bool) → values q hs ++ (if v then h.1 ∷ [] else []) ≡ (if v then values q hs ++ h.1 ∷ [] else values q hs)
    by true = refl
    by false = append-nil (values q hs)

abbrev is_kept : List Bytes → Head → Bool
is_kept names h = not (list_any (bytes_eq h.0) names)

pub values-without : (q : Bytes) (names : List Bytes) (hs : List Head) →
    values q (without_names names hs) ≡ (if list_any (bytes_eq q) names then [] else values q hs)
values-without q names [] = by (list_any (bytes_eq q) names)
  where
    by : (v : Bool) → values q [] ≡ (if v then [] else values q [])
    by true = refl
    by false = refl
values-without q names (h ∷ hs) = by (bytes_eq h.0 q) refl (list_any (bytes_eq h.0) names) refl (values-without q names hs)
  where
    by : (v : Bool) → bytes_eq h.0 q ≡ v → (w : Bool) → list_any (bytes_eq h.0) names ≡ w →
        values q (without_names names hs) ≡ (if list_any (bytes_eq q) names then [] else values q hs) →
        values q (without_names names (h ∷ hs)) ≡ (if list_any (bytes_eq q) names then [] else values q (h ∷ hs))
    by true e true f r =
        let here : list_any (bytes_eq q) names ≡ true = subst (λ (n : Bytes). list_any (bytes_eq n) names ≡ true) ((bytes_eq-Decides h.0 q).0 e) f in
        let s : values q (without_names names hs) ≡ [] = rw here at r in
        rw (f, here) s
    by true e false f r =
        let here : list_any (bytes_eq q) names ≡ false = subst (λ (n : Bytes). list_any (bytes_eq n) names ≡ false) ((bytes_eq-Decides h.0 q).0 e) f in
        let s : values q (without_names names hs) ≡ values q hs = rw here at r in
        rw (f, here, e) (ap (λ t. h.1 ∷ t) s)
    by false e true f r = rw (f, e) r
    by false e false f r = rw (f, e) r

pub values-overwritten : (q : Bytes) (h : Head) (hs : List Head) →
    values q (overwritten h hs) ≡ (if bytes_eq h.0 q then h.1 ∷ [] else values q hs)
values-overwritten q h hs =
    values-appended q h (without_names (h.0 ∷ []) hs)
    ∙ by (bytes_eq h.0 q) (bytes_eq q h.0) (bytes_eq-swap q h.0) (values-without q (h.0 ∷ []) hs)
  where
    by : (v w : Bool) → w ≡ v → values q (without_names (h.0 ∷ []) hs) ≡ (if w || false then [] else values q hs) →
        (if v then values q (without_names (h.0 ∷ []) hs) ++ h.1 ∷ [] else values q (without_names (h.0 ∷ []) hs)) ≡ (if v then h.1 ∷ [] else values q hs)
    by true true s r = ap (λ t. t ++ h.1 ∷ []) r
    by true false s r = absurd (cc)
    by false true s r = absurd (cc)
    by false false s r = r

-- ---- additions

-- there is a value
abbrev pub is_filled : List Bytes → Bool
is_filled [] = false
is_filled (v ∷ vs) = true

pub has_name-values : (name : Bytes) (hs : List Head) → has_name name hs ≡ is_filled (values name hs)
has_name-values name [] = refl
has_name-values name (h ∷ hs) = by (bytes_eq h.0 name) refl (has_name-values name hs)
  where
    by : (v : Bool) → bytes_eq h.0 name ≡ v → has_name name hs ≡ is_filled (values name hs) → has_name name (h ∷ hs) ≡ is_filled (values name (h ∷ hs))
    by true e r = rw e
    by false e r = rw e r

-- the values of a name after an addition of a value to it
abbrev after : How → Bytes → List Bytes → List Bytes
after how.Append v vs = vs ++ v ∷ []
after how.IfAbsent v vs = if is_filled vs then vs else vs ++ v ∷ []
after how.Overwrite v vs = v ∷ []
after how.OverwriteIfThere v vs = if is_filled vs then v ∷ [] else vs

-- an addition that depends on whether the name is there
either : (q : Bytes) (h : Head) (hs there away : List Head) (ys ns : List Bytes) →
    values q there ≡ (if bytes_eq h.0 q then ys else values q hs) → values q away ≡ (if bytes_eq h.0 q then ns else values q hs) →
    values q (if has_name h.0 hs then there else away) ≡ (if bytes_eq h.0 q then (if is_filled (values q hs) then ys else ns) else values q hs)
either q h hs there away ys ns y n = by (bytes_eq h.0 q) refl (has_name h.0 hs) refl
  where
    by : (v : Bool) → bytes_eq h.0 q ≡ v → (w : Bool) → has_name h.0 hs ≡ w →
        values q (if has_name h.0 hs then there else away) ≡ (if bytes_eq h.0 q then (if is_filled (values q hs) then ys else ns) else values q hs)
    by true e w f =
        let same : h.0 ≡ q = (bytes_eq-Decides h.0 q).0 e in
        let filled : is_filled (values q hs) ≡ w = sym (has_name-values q hs) ∙ ap (λ (x : Bytes). has_name x hs) (sym same) ∙ f in
        rw (f, e, filled) (chosen w)
      where
        chosen : (u : Bool) → values q (if u then there else away) ≡ (if u then ys else ns)
        chosen true = rw e at y
        chosen false = rw e at n
    by false e true f = rw (f, e) (rw e at y)
    by false e false f = rw (f, e) (rw e at n)

values-same : (q : Bytes) (h : Head) (hs : List Head) → values q hs ≡ (if bytes_eq h.0 q then values q hs else values q hs)
values-same q h hs = by (bytes_eq h.0 q)
  where
    by : (v : Bool) → values q hs ≡ (if v then values q hs else values q hs)
    by true = refl
    by false = refl

values-added_as : (way : How) (q : Bytes) (h : Head) (hs : List Head) →
    values q (added_as way h hs) ≡ (if bytes_eq h.0 q then after way h.1 (values q hs) else values q hs)
values-added_as how.Append q h hs = values-appended q h hs
values-added_as how.IfAbsent q h hs =
    either q h hs hs (appended h hs) (values q hs) (values q hs ++ h.1 ∷ []) (values-same q h hs) (values-appended q h hs)
values-added_as how.Overwrite q h hs = values-overwritten q h hs
values-added_as how.OverwriteIfThere q h hs =
    either q h hs (overwritten h hs) hs (h.1 ∷ []) (values q hs) (values-overwritten q h hs) (values-same q h hs)

-- ---- lists with the same values stay so

pub same-trans : (a b c : List Head) → SameHeads a b → SameHeads b c → SameHeads a c
same-trans a b c s t = λ q. s q ∙ t q

pub same-added_as : (way : How) (h : Head) (a b : List Head) → SameHeads a b → SameHeads (added_as way h a) (added_as way h b)
same-added_as way h a b s = λ q.
    values-added_as way q h a
    ∙ ap (λ vs. if bytes_eq h.0 q then after way h.1 vs else vs) (s q)
    ∙ sym (values-added_as way q h b)

pub same-added : (x : Addition) (a b : List Head) → SameHeads a b → SameHeads (added a x) (added b x)
same-added x a b s = by (counts x)
  where
    by : (v : Bool) → SameHeads (if v then added_as x.how (x.name, undoubled x.value) a else a) (if v then added_as x.how (x.name, undoubled x.value) b else b)
    by true = same-added_as x.how (x.name, undoubled x.value) a b s
    by false = s

pub same-fold : (xs : List Addition) (a b : List Head) → SameHeads a b → SameHeads (fold added a xs) (fold added b xs)
same-fold [] a b s = s
same-fold (x ∷ xs) a b s = same-fold xs (added a x) (added b x) (same-added x a b s)

-- one name more is removed
pub same-without_more : (names : List Bytes) (i : ℕ) (name : Bytes) (start old new : List Head) → i < length names → name ≡ get_or names i name →
    SameHeads old (without_names (take i names) start) → SameHeads new (without_names (name ∷ []) old) → SameHeads new (without_names (take (i + 1) names) start)
same-without_more names i name start old new l e s t = λ q.
    t q
    ∙ values-without q (name ∷ []) old
    ∙ ap (λ vs. if bytes_eq q name || false then [] else vs) (s q ∙ values-without q (take i names) start)
    ∙ by q (bytes_eq q name) (list_any (bytes_eq q) (take i names))
    ∙ ap (λ v. if v then [] else values q start)
    (ap (λ (n : Bytes). list_any (bytes_eq q) (take i names) || bytes_eq q n) e ∙ sym (list_any_more (bytes_eq q) names i name l))
    ∙ sym (values-without q (take (i + 1) names) start)
  where
    by : (q : Bytes) (v w : Bool) → (if v || false then [] else (if w then [] else values q start)) ≡ (if w || v then [] else values q start)
    by q true true = refl
    by q true false = refl
    by q false true = refl
    by q false false = refl

-- one addition more is taken
pub same-fold_more : (xs : List Addition) (i : ℕ) (x : Addition) (start old new : List Head) → i < length xs → x ≡ get_or xs i x →
    SameHeads old (fold added start (take i xs)) → SameHeads new (added old x) → SameHeads new (fold added start (take (i + 1) xs))
same-fold_more xs i x start old new l e s t = λ q.
    t q
    ∙ same-added x old (fold added start (take i xs)) s q
    ∙ ap (λ y. values q (added (fold added start (take i xs)) y)) e
    ∙ ap (values q) (sym (fold_more added start xs i x l))

-- one header more is put in behind those of a start
pub same-push : (hs : List Head) (i : ℕ) (h : Head) (start old new : List Head) → i < length hs → h ≡ get_or hs i h →
    SameHeads old (start ++ take i hs) → SameHeads new (old ++ h ∷ []) → SameHeads new (start ++ take (i + 1) hs)
same-push hs i h start old new l e s t = λ q.
    t q
    ∙ values-append q old (h ∷ [])
    ∙ ap (λ vs. vs ++ values q (h ∷ [])) (s q)
    ∙ sym (values-append q (start ++ take i hs) (h ∷ []))
    ∙ ap (values q) (append_assoc start (take i hs) (h ∷ []))
    ∙ ap (λ y. values q (start ++ (take i hs ++ y ∷ []))) e
    ∙ ap (λ hs'. values q (start ++ hs')) (sym (take_more hs i h l))
