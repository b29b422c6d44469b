-- One row more is counted by its verdict.
use Rattle.std.proofs.Common.{◌≡◌, ◌+◌, ℕ, List, [], ◌∷◌, ◌++◌, Bool, true, false, if◌then◌else◌, count_by, refl, sym, ◌∙◌, ap, arith}
use Rattle.std.proofs.lemmas.List.Sums.{fold-append}
use Rattle.goal_form.specs.declared.goal.Row.{Row}
use Rattle.goal_form.specs.declared.goal.RowBody.{RowBody}
use Rattle.goal_form.specs.declared.goal.RowBody.TheVariants.{Reached, Refuted, Undecided}
use Rattle.check_core.specs.Rows.{is_reached_body, is_refuted_body, is_undecided_body, is_reached, is_refuted, is_undecided, AreCounts}
use Rattle.check_core.specs.declared.counts.Counts.{Counts}

counted : (p : Row → Bool) (rows : List Row) (row : Row) → count_by p (rows ++ row ∷ []) ≡ count_by p rows + (if p row then 1 else 0)
counted p rows row = fold-append (λ n x. n + (if p x then 1 else 0)) 0 rows (row ∷ [])

yes : (p : Row → Bool) (rows : List Row) (row : Row) (n : ℕ) → n ≡ count_by p rows → p row ≡ true → n + 1 ≡ count_by p (rows ++ row ∷ [])
yes p rows row n e is = ap (λ k. k + 1) e ∙ sym (counted p rows row ∙ ap (λ b. count_by p rows + (if b then 1 else 0)) is)

no : (p : Row → Bool) (rows : List Row) (row : Row) (n : ℕ) → n ≡ count_by p rows → p row ≡ false → n ≡ count_by p (rows ++ row ∷ [])
no p rows row n e is =
    let step : count_by p (rows ++ row ∷ []) ≡ count_by p rows + 0 = counted p rows row ∙ ap (λ b. count_by p rows + (if b then 1 else 0)) is in
    omega (arith, e, step)

module _ (s : Counts) (rows : List Row) (row : Row) (are : AreCounts rows s) where
  pub reached_more : (body : RowBody) → row.body ≡ body → is_reached_body body ≡ true → AreCounts (rows ++ row ∷ []) (record { reached = s.reached + 1; refuted = s.refuted; undecided = s.undecided })
  reached_more (Reached q) e is = record {
    reached = yes is_reached rows row s.reached are.reached (rw e refl);
    refuted = no is_refuted rows row s.refuted are.refuted (rw e refl);
    undecided = no is_undecided rows row s.undecided are.undecided (rw e refl);
  }
  reached_more (Refuted nodes) e is = absurd (cc is)
  reached_more (Undecided nodes splits states) e is = absurd (cc is)

  pub refuted_more : (body : RowBody) → row.body ≡ body → is_refuted_body body ≡ true → AreCounts (rows ++ row ∷ []) (record { reached = s.reached; refuted = s.refuted + 1; undecided = s.undecided })
  refuted_more (Reached q) e is = absurd (cc is)
  refuted_more (Refuted nodes) e is = record {
    reached = no is_reached rows row s.reached are.reached (rw e refl);
    refuted = yes is_refuted rows row s.refuted are.refuted (rw e refl);
    undecided = no is_undecided rows row s.undecided are.undecided (rw e refl);
  }
  refuted_more (Undecided nodes splits states) e is = absurd (cc is)

  pub undecided_more : (body : RowBody) → row.body ≡ body → is_undecided_body body ≡ true → AreCounts (rows ++ row ∷ []) (record { reached = s.reached; refuted = s.refuted; undecided = s.undecided + 1 })
  undecided_more (Reached q) e is = absurd (cc is)
  undecided_more (Refuted nodes) e is = absurd (cc is)
  undecided_more (Undecided nodes splits states) e is = record {
    reached = no is_reached rows row s.reached are.reached (rw e refl);
    refuted = no is_refuted rows row s.refuted are.refuted (rw e refl);
    undecided = yes is_undecided rows row s.undecided are.undecided (rw e refl);
  }
