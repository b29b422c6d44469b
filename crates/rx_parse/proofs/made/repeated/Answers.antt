use Rattle.std.proofs.Common.{◌≡◌, ◌-◌, [], ◌∷◌, ◌++◌, replicate, refl, ◌∙◌, ap, append-nil}
use Rattle.rx_term.specs.declared.terms.Term.{Empty}
use Rattle.rx_term.specs.Term.{cat, alt, star}
use Rattle.rx_term.specs.Pattern.{row, repeated as repeated_term}
use Rattle.rx_term.proofs.Shapes.{cat_is, alt_is, star_is}
use Rattle.rx_parse.specs.declared.made.Often.TheVariants.{Star, Plus, Optional, Exactly, AtLeast, Between}
use Rattle.rx_parse.specs.Answer.{times_of}
use Rattle.rx_parse.proofs.Terms.{ok_map, row_append, one_row, often_is}
use Rattle.rx_parse.proofs.made.repeated.Goals as goal

pub returns-in-Star : goal.returns-in-Star
returns-in-Star c =
    ok_map _ (λ made. made ≡ repeated_term (times_of c.args.often) c.args.term) c.star.result
    (λ made e. often_is c.args.often Star c.args.term made c.in-Star.is (e ∙ star_is _)) c.star.ensures

pub returns-in_ok-star-in-Plus : goal.returns-in_ok-star-in-Plus
returns-in_ok-star-in-Plus c =
    ok_map _ (λ made. made ≡ repeated_term (times_of c.args.often) c.args.term) c.cat.result
    (λ made e.
    let s = c.in_ok-star-in-Plus.ensures ∙ star_is c.args.term in
    let k = c.in_ok-copy-in-Plus.ensures in
    often_is c.args.often Plus c.args.term made c.in-Plus.is (e ∙ (cat_is _ _ ∙ (ap (λ x. cat x c.in_ok-star-in-Plus.field-0) k ∙ ap (cat c.args.term) s))))
    c.cat.ensures

pub returns-in-Optional : goal.returns-in-Optional
returns-in-Optional c =
    ok_map _ (λ made. made ≡ repeated_term (times_of c.args.often) c.args.term) c.alt.result
    (λ made e. often_is c.args.often Optional c.args.term made c.in-Optional.is (e ∙ alt_is _ _)) c.alt.ensures

pub returns-in_ok-copies-in-Exactly : goal.returns-in_ok-copies-in-Exactly
returns-in_ok-copies-in-Exactly c =
    let n = c.in-Exactly.n in
    let k = c.in_ok-copies-in-Exactly.ensures [] refl in
    often_is c.args.often (Exactly n) c.args.term _ c.in-Exactly.is (c.some_or_empty.ensures (replicate n c.args.term ++ []) k ∙ row_append (replicate n c.args.term))

pub returns-in_ok-copies-in-AtLeast : goal.returns-in_ok-copies-in-AtLeast
returns-in_ok-copies-in-AtLeast c =
    let n = c.in-AtLeast.n in
    let s = c.in_ok-star-in-AtLeast.ensures ∙ (star_is _ ∙ ap star c.in_ok-copy-in-AtLeast.ensures) in
    let k = c.in_ok-copies-in-AtLeast.ensures (star c.args.term ∷ []) (one_row c.in_ok-star-in-AtLeast.star (star c.args.term) s) in
    often_is c.args.often (AtLeast n) c.args.term _ c.in-AtLeast.is (c.some_or_empty-in-AtLeast.ensures (replicate n c.args.term ++ star c.args.term ∷ []) k)

pub returns-in_ok-copies-in-Between : goal.returns-in_ok-copies-in-Between
returns-in_ok-copies-in-Between c =
    let n = c.in-Between.n in
    let m = c.in-Between.m in
    let s = c.in_ok-optional-in-Between.ensures ∙ (alt_is _ _ ∙ ap (alt Empty) c.in_ok-copy-in-Between.ensures) in
    let r = c.in_ok-rest-in-Between.ensures [] refl in
    let k = c.in_ok-copies-in-Between.ensures (replicate (m - n) c.in_ok-optional-in-Between.optional ++ []) r in
    often_is c.args.often (Between n m) c.args.term _ c.in-Between.is
    (c.some_or_empty-in-Between.ensures (replicate n c.args.term ++ (replicate (m - n) c.in_ok-optional-in-Between.optional ++ [])) k
    ∙ ap (λ ts. row (replicate n c.args.term ++ ts)) (append-nil (replicate (m - n) c.in_ok-optional-in-Between.optional) ∙ ap (replicate (m - n)) s))
