use Rattle.std.proofs.Common.{◌≡◌, ◌++◌, ◌∷◌, [], true, sym, subst, arith}
use Rattle.std.proofs.lemmas.List.Sums.{AllPass-from_list_all}
use Rattle.text_base.specs.Asked.{Head}
use Rattle.text_base.specs.Heads.{SameHeads}
use Rattle.head_edit.specs.Maps.{heads_of, is_map_head}
use Rattle.head_edit.proofs.NameValues.{same-push}
use Rattle.head_edit.proofs.maps.add_heads.Goals as goal

pub add_head-requires-clause-valid : goal.add_head-requires-clause-valid
add_head-requires-clause-valid c =
    let here : is_map_head c.head-item.result ≡ true = subst (λ (h : Head). is_map_head h ≡ true) (sym c.head-item.is) (AllPass-from_list_all is_map_head c.args.heads.now c.requires.valid c.loop-head.head-index c.head-item.result c.loop-head-test.true) in
    rw (c.as_slice.ensures, c.as_slice-in-loop-head.ensures) here

pub loop-head-preserved : goal.loop-head-preserved
loop-head-preserved c =
    let put : SameHeads (heads_of c.add_head.new.map) (heads_of c.loop-head.map ++ c.head-item.result ∷ []) =
    rw (c.as_slice.ensures, c.as_slice-in-loop-head.ensures) at c.in_ok-add_head.ensures.ok in
    record {
      same = same-push c.args.heads.now c.loop-head.head-index c.head-item.result (heads_of c.args.map.now) (heads_of c.loop-head.map) (heads_of c.add_head.new.map) c.loop-head-test.true c.head-item.is c.loop-head.invariant.same put;
      size = let before = c.loop-head.invariant.size in let more = c.in_ok-add_head.ensures.size in omega arith;
    }
