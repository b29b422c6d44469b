-- A formula stays the condition that it is, over more atoms and inside other formulas.
use Rattle.std.proofs.Common.{◌≡◌, ℕ, ◌+◌, ◌<◌, Bool, true, false, not, ◌&&◌, List, [], ◌∷◌, ◌++◌, map, length, length-append, Option, None, Some, slice_get, get_or, take, refl, sym, ap, subst, ◌∙◌, arith, append_assoc}
use Rattle.std.specs.Prelude.{nat_lt}
use Rattle.std.specs.List.{list_all}
use Rattle.std.proofs.lemmas.Bool.{and_parts, and_from}
use Rattle.std.proofs.lemmas.Bool.Decides.{nat_tests}
use Rattle.text_base.proofs.Lists.{slice_get-front, slice_get-past}
use Rattle.std.proofs.lemmas.List.{append-nil, take_more, map-append}
use Rattle.std.proofs.lemmas.Option.{slice_get_within}
use Rattle.goal_form.specs.declared.atom.Atom.{Atom}
use Rattle.goal_form.specs.declared.formula.Formula.{Formula}
use Rattle.goal_form.specs.declared.formula.Formula as f
use Rattle.goal_form.specs.declared.formula.Formula.TheOpen.{Formula-F}
use Rattle.goal_form.specs.declared.formula.Formula.TheFolds.{fold-Formula, fold-roll-Formula, map-Formula, ind-Formula}
use Rattle.goal_form.specs.declared.formula.Formula.TheViews.{roll-Formula}
use Rattle.goal_form.specs.declared.sight.Condition.{Condition}
use Rattle.goal_form.specs.declared.sight.Condition as of
use Rattle.goal_form.specs.Formulas.{below_step, leaves_below}
use Rattle.goal_form.specs.Conditions.{condition_step, condition_of, leaf_condition, IsMeant}
use Rattle.goal_form.specs.Numbers.{Grows, Numbers, found, added}
use Rattle.goal_form.proofs.Meanings.{meant_grows, grows_on, grows_none, meant_not, meant_all, meant_any}
use Rattle.goal_form.specs.Meant.{AreMeant, AddsMeant}

pub meant_to : (a : List Atom) (x : Formula) (c d : Condition) → c ≡ d → IsMeant a x c → IsMeant a x d
meant_to a x c d e h = subst (IsMeant a x) e h

-- ---- formulas put together

all_below : (a : List Atom) (xs : List Formula) (cs : List Condition) → AreMeant a xs cs → list_all (leaves_below (length a)) xs ≡ true
all_below a [] [] h = refl
all_below a [] (c ∷ cs) h = elim h [ ]
all_below a (x ∷ xs) [] h = elim h [ ]
all_below a (x ∷ xs) (c ∷ cs) h = and_from (leaves_below (length a) x) (list_all (leaves_below (length a)) xs) h.0.leaves (all_below a xs cs h.1)

all_are : (a : List Atom) (xs : List Formula) (cs : List Condition) → AreMeant a xs cs → map (condition_of a) xs ≡ cs
all_are a [] [] h = refl
all_are a [] (c ∷ cs) h = elim h [ ]
all_are a (x ∷ xs) [] h = elim h [ ]
all_are a (x ∷ xs) (c ∷ cs) h = rw (h.0.is, all_are a xs cs h.1) refl

pub meant_every : (a : List Atom) (xs : List Formula) (cs : List Condition) → AreMeant a xs cs → IsMeant a (f.All xs) (of.All cs)
meant_every a xs cs h = meant_all a xs cs (record { leaves = all_below a xs cs h; are = all_are a xs cs h })

pub meant_some : (a : List Atom) (xs : List Formula) (cs : List Condition) → AreMeant a xs cs → IsMeant a (f.Any xs) (of.Any cs)
meant_some a xs cs h = meant_any a xs cs (record { leaves = all_below a xs cs h; are = all_are a xs cs h })

-- ---- lists

pub are_later : (a b : List Atom) (xs : List Formula) (cs : List Condition) → Grows a b → AreMeant a xs cs → AreMeant b xs cs
are_later a b [] [] g h = tt
are_later a b [] (c ∷ cs) g h = h
are_later a b (x ∷ xs) [] g h = h
are_later a b (x ∷ xs) (c ∷ cs) g h = (meant_grows a b x c g h.0, are_later a b xs cs g h.1)

pub are_both : (a : List Atom) (xs ys : List Formula) (cs ds : List Condition) → AreMeant a xs cs → AreMeant a ys ds → AreMeant a (xs ++ ys) (cs ++ ds)
are_both a [] ys [] ds h k = k
are_both a [] ys (c ∷ cs) ds h k = elim h [ ]
are_both a (x ∷ xs) ys [] ds h k = elim h [ ]
are_both a (x ∷ xs) ys (c ∷ cs) ds h k = (h.0, are_both a xs ys cs ds h.1 k)

pub adds_none : (a : List Atom) (l : List Formula) → AddsMeant a l l []
adds_none a l = record { added = []; is = sym (append-nil l); meant = tt }

pub adds_one : (a : List Atom) (l : List Formula) (x : Formula) (c : Condition) → IsMeant a x c → AddsMeant a l (l ++ x ∷ []) (c ∷ [])
adds_one a l x c h = record { added = x ∷ []; is = refl; meant = (h, tt) }

-- more, over more atoms
pub adds_on : (a b : List Atom) (l m n : List Formula) (cs ds : List Condition) → Grows a b → AddsMeant a l m cs → AddsMeant b m n ds → AddsMeant b l n (cs ++ ds)
adds_on a b l m n cs ds g h k =
    record {
      added = h.added ++ k.added;
      is = k.is ∙ ap (λ x. x ++ k.added) h.is ∙ append_assoc l h.added k.added;
      meant = are_both b h.added k.added cs ds (are_later a b h.added cs g h.meant) k.meant;
    }

pub adds_push : (a b : List Atom) (l m n : List Formula) (cs : List Condition) (x : Formula) (c : Condition) → Grows a b → AddsMeant a l m cs → IsMeant b x c →
    n ≡ m ++ x ∷ [] → AddsMeant b l n (cs ++ c ∷ [])
adds_push a b l m n cs x c g h k e = subst (λ z. AddsMeant b l z (cs ++ c ∷ [])) (sym e) (adds_on a b l m (m ++ x ∷ []) cs (c ∷ []) g h (adds_one b m x c k))

pub adds_are : (a : List Atom) (xs : List Formula) (cs : List Condition) → AddsMeant a [] xs cs → AreMeant a xs cs
adds_are a xs cs h = subst (λ z. AreMeant a z cs) (sym h.is) h.meant

-- ---- two formulas put together

pub meant_both : (a b : List Atom) (x y z : Formula) (c d : Condition) → z ≡ f.All (x ∷ y ∷ []) → Grows a b → IsMeant a x c → IsMeant b y d →
    IsMeant b z (of.All (c ∷ d ∷ []))
meant_both a b x y z c d e g h k = subst (λ w. IsMeant b w (of.All (c ∷ d ∷ []))) (sym e) (meant_every b (x ∷ y ∷ []) (c ∷ d ∷ []) (meant_grows a b x c g h, (k, tt)))

pub meant_either : (a b : List Atom) (x y z : Formula) (c d : Condition) → z ≡ f.Any (x ∷ y ∷ []) → Grows a b → IsMeant a x c → IsMeant b y d →
    IsMeant b z (of.Any (c ∷ d ∷ []))
meant_either a b x y z c d e g h k = subst (λ w. IsMeant b w (of.Any (c ∷ d ∷ []))) (sym e) (meant_some b (x ∷ y ∷ []) (c ∷ d ∷ []) (meant_grows a b x c g h, (k, tt)))

pub meant_negated : (a : List Atom) (x z : Formula) (c : Condition) → z ≡ f.Not x → IsMeant a x c → IsMeant a z (of.Not c)
meant_negated a x z c e h = subst (λ w. IsMeant a w (of.Not c)) (sym e) (meant_not a x c h)

pub all_from : (a : List Atom) (l xs : List Formula) (cs : List Condition) → l ≡ [] → AddsMeant a l xs cs → IsMeant a (f.All xs) (of.All cs)
all_from a l xs cs e h = meant_every a xs cs (adds_are a xs cs (subst (λ z. AddsMeant a z xs cs) e h))

pub map_through : {A B : Type 0} (g : A → B) (xs : List A) (i : ℕ) (x : A) → i < length xs → x ≡ get_or xs i x → map g (take (i + 1) xs) ≡ map g (take i xs) ++ g x ∷ []
map_through g xs i x l e = ap (map g) (take_more xs i x l ∙ ap (λ y. take i xs ++ y ∷ []) (sym e)) ∙ map-append g (take i xs) (x ∷ [])

-- a formula and then four lists more
pub five_meant : (a b c d e : List Atom) (l m n o p r : List Formula) (x : Formula) (y : Condition) (hs xs gs fs : List Condition) →
    l ≡ [] → IsMeant a x y → m ≡ l ++ x ∷ [] → Grows a b → AddsMeant b m n hs → Grows b c → AddsMeant c n o xs → Grows c d → AddsMeant d o p gs →
    Grows d e → AddsMeant e p r fs → IsMeant e (f.All r) (of.All (y ∷ (hs ++ (xs ++ (gs ++ fs)))))
five_meant a b c d e l m n o p r x y hs xs gs fs none is push gb hb gc xc gd dd ge fe =
    let first : AddsMeant a l m (y ∷ []) = adds_push a a l l m [] x y (grows_none a) (adds_none a l) is push in
    let last : AddsMeant e o r (gs ++ fs) = adds_on d e o p r gs fs ge dd fe in
    let more : AddsMeant e n r (xs ++ (gs ++ fs)) = adds_on c e n o r xs (gs ++ fs) (grows_on c d e gd ge) xc last in
    let rest : AddsMeant e m r (hs ++ (xs ++ (gs ++ fs))) = adds_on b e m n r hs (xs ++ (gs ++ fs)) (grows_on b c e gc (grows_on c d e gd ge)) hb more in
    all_from e l r (y ∷ (hs ++ (xs ++ (gs ++ fs)))) none
    (adds_on a e l m r (y ∷ []) (hs ++ (xs ++ (gs ++ fs))) (grows_on a b e gb (grows_on b c e gc (grows_on c d e gd ge))) first rest)
