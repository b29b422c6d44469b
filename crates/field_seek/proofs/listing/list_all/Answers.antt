use Rattle.std.proofs.Common.{◌≡◌, ◌<◌, ◌≤◌, ◌+◌, ◌-◌, ◌*◌, ◌^◌, ℕ, length, subst, arith, inl, inr}
use Rattle.std.proofs.lemmas.Bool.{cases_lt}
use Rattle.rx_joint.specs.Claims.{LeadsBack}
use Rattle.field_seek.specs.Sought.{IsStep, IfDone}
use Rattle.field_seek.proofs.Rows.{few_states}
use Rattle.field_seek.proofs.Growing.{back_grows, grown}
use Rattle.field_seek.proofs.listing.list_all.Goals as goal

pub loop-word-smaller : goal.loop-word-smaller
loop-word-smaller c =
    let few = few_states c.args.chosen.now.tables c.args.chosen.now.holds c.loop-word.entries c.loop-word.states c.loop-word.invariant.listed in
    less (2 ^ (length c.args.chosen.now.tables * 4294967296)) c.loop-word.word (length c.loop-word.states) few (subst (λ n. c.loop-word.word < n) c.len.ensures c.loop-word-test.true)
  where
    less : (n word count : ℕ) → count ≤ n → word < count → n - (word + 1) < n - word
    less n word count h k = omega arith

pub loop-word-preserved : goal.loop-word-preserved
loop-word-preserved c =
    let tables = c.args.chosen.now.tables in
    let bytes = c.args.chosen.now.bytes in
    let es = c.explore.new.entries in
    let states = c.explore.new.states in
    let g = c.in_ok-byte.ensures.grows in
    let l : c.loop-word.word < length c.loop-word.states = subst (λ n. c.loop-word.word < n) c.len.ensures c.loop-word-test.true in
    record {
      listed = c.in_ok-byte.ensures.listed;
      roomy = subst (IsStep tables c.args.chosen.now.holds c.args.cap c.loop-word.word es states) c.in-Done.is c.in_ok-byte.ensures.step;
      back = λ k h. elim (cases_lt k c.loop-word.word) [
        | inl q ↦ back_grows tables bytes c.loop-word.entries c.loop-word.states es states k (omega arith) g (c.loop-word.invariant.back k q)
        | inr q ↦
            let e : c.loop-word.word ≡ k = omega arith in
            subst (LeadsBack tables bytes states) e (subst (λ s. IfDone s (LeadsBack tables bytes states c.loop-word.word)) c.in-Done.is c.in_ok-byte.ensures.back)
      ];
      within = omega (arith, grown c.loop-word.entries c.loop-word.states es states c.loop-word.word g l);
    }
