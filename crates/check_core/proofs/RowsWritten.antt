-- Rows written one after the other.
use Rattle.std.proofs.Common.{◌≡◌, inl, inr, ◌+◌, ◌<◌, ℕ, List, [], ◌∷◌, ◌++◌, length, Option, Result, Ok, Err, IsErr, refl, sym, ◌∙◌, ap, subst, append-nil, arith}
use Rattle.std.specs.Prelude.{IsErrAnd}
use Rattle.std.proofs.lemmas.Grind.{flat_map-append}
use Rattle.std.proofs.lemmas.List.{length_push}
use Rattle.std.proofs.lemmas.List.Sums.{count_by-le-length}
use Rattle.outside.specs.States.{SinkState}
use Rattle.outside.specs.Written.{Appends, AppendsFront, IsFront, HasWriteCause, Wrote}
use Rattle.outside.specs.declared.sink.WriteFail.{WriteFail}
use Rattle.outside.specs.declared.sink.WriteFail.TheVariants.{OutOfMemory}
use Rattle.outside.proofs.Parts.{cause_later}
use Rattle.cfg_types.specs.Order.{routes}
use Rattle.cfg_types.specs.declared.configs.Config.{Config}
use Rattle.goal_form.specs.declared.goal.Row.{Row}
use Rattle.cert_rows.specs.Lines.{row_line}
use Rattle.check_core.specs.Rows.{is_reached, is_refuted, is_undecided, IsSearchedRow, AreRows, row_lines, BeginsRows, AreCounts, WroteSome, WroteRows}
use Rattle.check_core.specs.declared.calls.Budgets.{Budgets}
use Rattle.check_core.specs.declared.counts.Counts.{Counts}
use Rattle.check_core.proofs.LineEnds.{appends_none, appends_on}
use Rattle.check_core.proofs.Pointwise.{each_none, each_more}

-- the rows of the first routes are written and counted
pub record Written (c : Config) (b : Budgets) (old now : Option (List ℕ)) (count : ℕ) (counts : Counts) : Type 0 where
  pub rows : List Row
  pub each : AreRows c b rows
  pub many : length rows ≡ count
  pub are_counts : AreCounts rows counts
  pub text : Appends old now (row_lines rows)

lines_more : (rows : List Row) (row : Row) → row_lines (rows ++ row ∷ []) ≡ row_lines rows ++ row_line row
lines_more rows row = flat_map-append row_line rows (row ∷ []) ∙ ap (λ t. row_lines rows ++ t) (append-nil (row_line row))

module _ (c : Config) (b : Budgets) where
  pub none_written : (old : Option (List ℕ)) (counts : Counts) → AreCounts [] counts → Written c b old old 0 counts
  none_written old counts are = record { rows = []; each = each_none (IsSearchedRow c b); many = refl; are_counts = are; text = appends_none old }

  pub one_more : (old mid new : Option (List ℕ)) (count : ℕ) (counts more : Counts) (row : Row) (line : List ℕ) → Written c b old mid count counts → IsSearchedRow c b count row →
      line ≡ row_line row → Appends mid new line → ((rows : List Row) (x : Row) → AreCounts rows counts → x.body ≡ row.body → AreCounts (rows ++ x ∷ []) more) → Written c b old new (count + 1) more
  one_more old mid new count counts more row line w is same app counted = record {
    rows = w.rows ++ row ∷ [];
    each = each_more (IsSearchedRow c b) w.rows row (subst (λ k. IsSearchedRow c b k row) (sym w.many) is) w.each;
    many = length_push w.rows row ∙ ap (λ n. n + 1) w.many;
    are_counts = counted w.rows row w.are_counts refl;
    text = subst (λ t. Appends old new t) (sym (lines_more w.rows row)) (appends_on old mid new (row_lines w.rows) (row_line row) w.text (subst (λ t. Appends mid new t) same app));
  }

  -- there are no more of one verdict than rows
  pub few_counted : (old now : Option (List ℕ)) (count : ℕ) (counts : Counts) → Written c b old now count counts → count < 4294967295 →
      (counts.reached < 4294967295) × (counts.refuted < 4294967295) × (counts.undecided < 4294967295)
  few_counted old now count counts w lt = (
    omega (arith, w.are_counts.reached, count_by-le-length is_reached w.rows, w.many, lt),
    omega (arith, w.are_counts.refuted, count_by-le-length is_refuted w.rows, w.many, lt),
    omega (arith, w.are_counts.undecided, count_by-le-length is_undecided w.rows, w.many, lt),
  )

  -- rows alone
  begun : (rows : List Row) → AreRows c b rows → BeginsRows c b (row_lines rows)
  begun rows each = record { rows = rows; front = []; each = each; next = inl refl; are = sym (append-nil (row_lines rows)) }

  some_written : (old now : Option (List ℕ)) (count : ℕ) (counts : Counts) → Written c b old now count counts → WroteSome c b old now
  some_written old now count counts w = (row_lines w.rows, begun w.rows w.each, w.text)

  -- rows, and the front of one more
  front_written : (old mid new : Option (List ℕ)) (count : ℕ) (counts : Counts) (row : Row) (line : List ℕ) → Written c b old mid count counts → IsSearchedRow c b count row → line ≡ row_line row → AppendsFront mid new line → WroteSome c b old new
  front_written old mid new count counts row line w is same (front, part, app) = (
    row_lines w.rows ++ front,
    record {
      rows = w.rows;
      front = front;
      each = w.each;
      next = inr (row, subst (λ k. IsSearchedRow c b k row) (sym w.many) is, subst (λ t. IsFront front t) same part);
      are = refl;
    },
    appends_on old mid new (row_lines w.rows) front w.text app,
  )

  handed_rows : (old new : SinkState) (fail : WriteFail) (r : Result Counts WriteFail) → IsErr r × IsErrAnd r (λ e. e ≡ fail) → WroteSome c b old.written new.written → HasWriteCause {T = Counts} old.faults new.faults (Err fail) → WroteRows c b old new r
  handed_rows old new fail (Ok x) handed some cause = absurd handed.1
  handed_rows old new fail (Err e) handed some cause = subst (λ (f : WriteFail). WroteRows c b old new (Err f)) (sym handed.1) (record { ok = tt; err = some; cause = cause })

  -- memory ran out after the rows of the first routes
  pub stopped : (old now : SinkState) (count : ℕ) (counts : Counts) (r : Result Counts WriteFail) → IsErr r × IsErrAnd r (λ e. e ≡ OutOfMemory) → now.faults ≡ old.faults → Written c b old.written now.written count counts → WroteRows c b old now r
  stopped old now count counts r handed same w =
      handed_rows old now OutOfMemory r handed (some_written old.written now.written count counts w)
      (record { later = omega (arith, same); failed = λ e. absurd (cc e); kept = tt; memory = λ e. same })

  -- the line of the next row was not written whole
  pub failed : {U : Type 0} (old mid new : SinkState) (count : ℕ) (counts : Counts) (row : Row) (line : List ℕ) (fail : WriteFail) (r : Result Counts WriteFail) → IsErr r × IsErrAnd r (λ e. e ≡ fail) →
      mid.faults ≡ old.faults → Written c b old.written mid.written count counts → IsSearchedRow c b count row → line ≡ row_line row → Wrote {T = U} mid new line (Err fail) → WroteRows c b old new r
  failed {U} old mid new count counts row line fail r handed kept w is same wrote =
      handed_rows old new fail r handed (front_written old.written mid.written new.written count counts row line w is same wrote.err)
      (cause_later {T = U} {U = Counts} old.faults mid.faults new.faults fail kept wrote.cause)

  -- all rows are written
  pub all_written : (old now : SinkState) (count : ℕ) (counts : Counts) → now.faults ≡ old.faults → count ≡ length (routes c) → Written c b old.written now.written count counts → WroteRows c b old now (Ok counts)
  all_written old now count counts same all w = record {
    ok = (w.rows, record { each = w.each; all = w.many ∙ all }, w.are_counts, w.text);
    err = tt;
    cause = record { later = omega (arith, same); failed = λ e. absurd (cc e); kept = same; memory = λ e. absurd (cc e) };
  }
