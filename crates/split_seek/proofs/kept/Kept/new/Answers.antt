use Rattle.std.proofs.Common.{◌≡◌, Bool, Option, None, Some, refl}
use Rattle.split_seek.proofs.Recalling.{none_known}
use Rattle.split_seek.proofs.kept.Kept.new.Goals as goal

only_none : (IsClone : Option Bool → Type 0) → ((b : Bool) → IsClone (Some b) → ⊥) → (o : Option Bool) → IsClone o → o ≡ None
only_none IsClone never None h = refl
only_none IsClone never (Some b) h = absurd (never b h)

pub returns-clause-known : goal.returns-clause-known
returns-clause-known c =
    none_known c.args.joint.now.terms _ c.count.result _ (c.in_ok-vec.ensures.items_if_clones_equal (only_none _ (λ b h. h))) c.count.ensures
