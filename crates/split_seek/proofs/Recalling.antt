-- What is known of the texts that were found last.
use Rattle.std.proofs.Common.{◌≡◌, ℕ, ◌+◌, ◌<◌, ◌↔◌, zero, suc, Bool, true, false, IsTrue, List, [], ◌∷◌, ◌++◌, map, take, set, get_or, length, Option, None, Some, slice_get, refl, sym, ap, subst, ◌∙◌}
use mathlib.Core.Bool.{not, beq}
use Rattle.std.proofs.Math.ListN.{replicate, length-replicate}
use Rattle.std.specs.Global.{Vec}
use Rattle.std.proofs.lemmas.List.{take_more}
use Rattle.std.proofs.lemmas.List.Elements.{All-set, All-push, All-get_or}
use Rattle.text_base.specs.Asked.{Bytes}
use Rattle.text_base.specs.declared.request.Field.{Field}
use Rattle.rx_term.specs.declared.terms.Term.{Term}
use Rattle.rx_term.specs.Language.{In, Each}
use Rattle.rx_term.specs.Closing.{Is, Claim, Meets}
use Rattle.rx_auto.specs.Node.{term_at}
use Rattle.rx_rows.proofs.RowParts.{Each_append}
use Rattle.rx_joint.specs.Claims.{chosen}
use Rattle.rx_joint.proofs.Choosing.{map_push}
use Rattle.goal_form.specs.Fields.{same_field}
use Rattle.goal_form.proofs.SameFields.{same_field_is}
use Rattle.rx_joint.specs.Meanings.{JointMeaning}
use Rattle.goal_tables.specs.Meanings.{TablesMeaning}
use Rattle.goal_tables.specs.Fields.{IsJointOf}
use Rattle.goal_tables.specs.declared.fields.FieldTables.{FieldTables}
use Rattle.split_seek.specs.declared.kept.Kept.{Kept}
use Rattle.split_seek.specs.Known.{IsKnown, IsKept, AreHints, IsPlaceOf}

-- ---- one more claim

clash : false ≡ true → ⊥
clash e = cc

is_so : (found holds : Bool) (P : Type 0) → (IsTrue found ↔ P) → not (beq found holds) ≡ false → Is holds P
is_so true true P k e = k.0 refl
is_so true false P k e = absurd (clash (sym e))
is_so false true P k e = absurd (clash (sym e))
is_so false false P k e = λ p. clash (k.1 p)

pub meets_more : (valid : Term) (terms : List Term) (choice : List (ℕ × Bool)) (i : ℕ) (text : Bytes) (found : Bool) → i < length choice →
    Meets valid (chosen terms (take i choice)) text → (IsTrue found ↔ In text (term_at terms (get_or choice i (0, false)).0)) → not (beq found (get_or choice i (0, false)).1) ≡ false →
    Meets valid (chosen terms (take (i + 1) choice)) text
meets_more valid terms choice i text found lt m k e =
    let claim : ℕ × Bool → Claim = λ p. (term_at terms p.0, p.1) in
    let here : ℕ × Bool = get_or choice i (0, false) in
    let fits : Claim → Type 0 = λ c. Is c.1 (In text c.0) in
    let last = is_so found here.1 (In text (term_at terms here.0)) k e in (
      m.0,
      subst (λ cs. Each fits (map claim cs)) (sym (take_more choice i (0, false) lt))
          (subst (Each fits) (sym (map_push claim (take i choice) here)) (Each_append fits (chosen terms (take i choice)) (claim here ∷ []) m.1 (last, tt))),
    )

-- ---- texts of the field

field_found : (kept : List Kept) (field : Field) (place : ℕ) (entry : Kept) → IsPlaceOf kept field place → entry ≡ get_or kept place entry → entry.field ≡ field
field_found kept field place entry p e =
    same_field_is entry.field field (subst (λ (x : Kept). same_field x.field field ≡ true) (sym e) (p.same entry))

of_field : (fields : List FieldTables) (field : Field) (j : JointMeaning) (entry : Kept) → IsJointOf fields field j → entry.field ≡ field → In entry.text j.valid → IsKnown j.terms entry.text entry.known.items → IsKept fields entry
of_field fields field j entry s same valid known i e h is =
    let own : j ≡ e.joint = sym (s.only i e h (is ∙ same)) in
    (subst (λ (x : JointMeaning). In entry.text x.valid) own valid, subst (λ (x : JointMeaning). IsKnown x.terms entry.text entry.known.items) own known)

module _ (tables : TablesMeaning) (kept : List Kept) (room : ℕ) (h : AreHints tables kept room) (field : Field) (j : JointMeaning) (s : IsJointOf tables.fields field j) where
  -- the field's text is valid by the tables, and what is known of it is so of their terms
  pub known_of : (place : ℕ) (entry : Kept) → IsPlaceOf kept field place → entry ≡ get_or kept place entry → In entry.text j.valid × IsKnown j.terms entry.text entry.known.items
  known_of place entry p is =
      let all : IsKept tables.fields entry = subst (IsKept tables.fields) (sym is) (All-get_or (IsKept tables.fields) kept place entry p.within h.right) in
      let t = s.there in
      subst (λ (x : JointMeaning). In entry.text x.valid × IsKnown x.terms entry.text entry.known.items) t.4 (all t.0 t.1 t.2 (t.3 ∙ sym (field_found kept field place entry p is)))

  module _ (entry : Kept) (same : entry.field ≡ field) (valid : In entry.text j.valid) (known : IsKnown j.terms entry.text entry.known.items) where
    pub hints_set : (place : ℕ) → AreHints tables (set kept place entry) room
    hints_set place = record {
      roomy = h.roomy;
      right = All-set (IsKept tables.fields) kept place entry (of_field tables.fields field j entry s same valid known) h.right;
    }

    pub hints_push : AreHints tables (kept ++ entry ∷ []) room
    hints_push = record {
      roomy = h.roomy;
      right = All-push (IsKept tables.fields) kept entry h.right (of_field tables.fields field j entry s same valid known);
    }

  pub hints_tested : (place : ℕ) (entry : Kept) (known : Vec (Option Bool)) → IsPlaceOf kept field place → entry ≡ get_or kept place entry → IsKnown j.terms entry.text known.items →
      AreHints tables (set kept place (record { field = entry.field; text = entry.text; known = known })) room
  hints_tested place entry known p is k =
      hints_set (record { field = entry.field; text = entry.text; known = known }) (field_found kept field place entry p is) (known_of place entry p is).0 k place

-- ---- a text of which nothing is known

none_at : (n k : ℕ) (b : Bool) → slice_get (replicate {A = Option Bool} n None) k ≡ Some (Some b) → ⊥
none_at zero k b e = cc
none_at (suc n) zero b e = cc
none_at (suc n) (suc k) b e = none_at n k b e

pub none_known : (terms : List Term) (text : Bytes) (n : ℕ) (known : List (Option Bool)) → known ≡ replicate n None → n ≡ length terms → IsKnown terms text known
none_known terms text n known e l = record {
  long = ap length e ∙ length-replicate n None ∙ l;
  right = λ k b h. absurd (none_at n k b (subst (λ xs. slice_get xs k ≡ Some (Some b)) e h));
}
