-- A report judged line after line.
use Rattle.std.proofs.Common.{◌≡◌, ◌↔◌, ◌+◌, ◌<◌, ℕ, List, [], ◌∷◌, ◌++◌, length, drop, Bool, true, false, IsTrue, Option, None, Some, Result, Ok, Err, IfOk, IsErr, IsErrOf, refl, sym, ◌∙◌, ap, subst, append_assoc, append-nil}
use Rattle.std.specs.Prelude.{IfSome, IsErrAnd}
use Rattle.std.specs.declared.alloc.AllocError.{AllocError}
use Rattle.std.proofs.lemmas.Bool.{both_ways}
use Rattle.std.proofs.lemmas.Grind.{flat_map-append}
use Rattle.std.proofs.lemmas.List.{length_push}
use Rattle.serde_json.specs.Written.{has_float}
use Rattle.outside.specs.Contents.{Contents, find}
use Rattle.outside.specs.Written.{IsFront}
use Rattle.outside.specs.declared.whole.FileFail.{FileFail}
use Rattle.outside.specs.declared.whole.FileFail.TheVariants.{TooLong}
use Rattle.outside.specs.Lines.{Left, TakesLine, TakesLineOf, HasNoLine, IsLongLine, line_ended}
use Rattle.cfg_types.specs.Order.{routes}
use Rattle.cfg_types.specs.declared.configs.Config.{Config}
use Rattle.goal_form.specs.declared.goal.Row.{Row}
use Rattle.cert_check.specs.LawfulRows.{IsLawfulRow}
use Rattle.cert_rows.specs.Read.{row_at}
use Rattle.check_core.specs.Verify.{line_limit, IsRowLine, IsGoodLine, AreRowLines, lines_text, IsAtFault, other_row, no_whole_line, more_than_rows, accepted_line, rejected_line, IsJudged, accepted, rejected, too_long}
use Rattle.check_core.specs.Verdicts.{verdict_value, verdict_line, OfFile, IsVerdictOn, IsCutLong}
use Rattle.check_core.specs.declared.verify.Verdict.{Verdict}
use Rattle.check_core.specs.declared.verify.Verdict.TheVariants.{Accepted, Rejected}
use Rattle.check_core.specs.declared.status.Status.TheVariants as status
use Rattle.check_core.proofs.Pointwise.{each_none, each_more}

-- ---- what is known of a file's bytes

of_one : (P Q : List ℕ → Type 0) (held : Option (List ℕ)) → ((bytes : List ℕ) → P bytes → Q bytes) → IfSome held P → IfSome held Q
of_one P Q None h p = tt
of_one P Q (Some bytes) h p = h bytes p

pub of_map : (P Q : List ℕ → Type 0) (told : Option Contents) (name : List ℕ) → ((bytes : List ℕ) → P bytes → Q bytes) → OfFile told name P → OfFile told name Q
of_map P Q None name h p = tt
of_map P Q (Some files) name h p = of_one P Q (find name files) h p

both_of : (P Q R : List ℕ → Type 0) (held : Option (List ℕ)) → ((bytes : List ℕ) → P bytes → Q bytes → R bytes) → IfSome held P → IfSome held Q → IfSome held R
both_of P Q R None h p q = tt
both_of P Q R (Some bytes) h p q = h bytes p q

pub of_both : (P Q R : List ℕ → Type 0) (told : Option Contents) (name : List ℕ) → ((bytes : List ℕ) → P bytes → Q bytes → R bytes) → OfFile told name P → OfFile told name Q → OfFile told name R
of_both P Q R None name h p q = tt
of_both P Q R (Some files) name h p q = both_of P Q R (find name files) h p q

any_of : (P : List ℕ → Type 0) (held : Option (List ℕ)) → ((bytes : List ℕ) → P bytes) → IfSome held P
any_of P None h = tt
any_of P (Some bytes) h = h bytes

of_any : (P : List ℕ → Type 0) (told : Option Contents) (name : List ℕ) → ((bytes : List ℕ) → P bytes) → OfFile told name P
of_any P None name h = tt
of_any P (Some files) name h = any_of P (find name files) h

-- nothing is read ahead
pub none_ahead : (told : Option Contents) (name : List ℕ) (taken : ℕ) (ahead : List ℕ) → ahead ≡ [] → Left told name taken (IsFront ahead)
none_ahead told name taken ahead e = of_any (λ report. IsFront ahead (drop taken report)) told name (λ report. subst (λ (a : List ℕ). IsFront a (drop taken report)) (sym e) (drop taken report, refl))

-- what a failed read shows, after it is handed on
pub long_handed : {T U : Type 0} (P : Type 0) (fail : FileFail) (r : Result T FileFail) → IsErr r × IsErrAnd r (λ e. e ≡ fail) → (IsErrOf {T = U} (Err fail) TooLong → P) → IsErrOf r TooLong → P
long_handed P fail (Ok x) handed h e = absurd handed.1
long_handed P fail (Err f) handed h e = let same : f ≡ TooLong = cc e in h (ap Err (sym handed.1 ∙ same))

-- ---- the lines of the first routes

-- so many lines are judged as rows, and so many bytes of the report are taken for them
pub record IsRead (c : Config) (count taken : ℕ) (report : List ℕ) : Type 0 where
  pub lines : List (List ℕ)
  pub each : AreRowLines c lines
  pub many : length lines ≡ count
  pub are : report ≡ lines_text lines ++ drop taken report

abbrev pub Judging : Config → Option Contents → List ℕ → ℕ → ℕ → Type 0
Judging c told name count taken = OfFile told name (IsRead c count taken)

lines_more : (lines : List (List ℕ)) (line : List ℕ) → lines_text (lines ++ line ∷ []) ≡ lines_text lines ++ line_ended line
lines_more lines line = flat_map-append line_ended lines (line ∷ []) ∙ ap (λ t. lines_text lines ++ t) (append-nil (line_ended line))

-- a verdict has whole numbers alone
pub no_float : (v : Verdict) → has_float (verdict_value v) ≡ false
no_float (Accepted rows) = refl
no_float (Rejected row) = refl

-- what is said of the row that a line is, said of the line
pub row_line_told : (c : Config) (r : ℕ) (line : List ℕ) (row : Row) (yes : Result Bool AllocError) → row_at line ≡ Ok row → IfOk yes (λ b. IsTrue b ↔ IsLawfulRow c r row) → IfOk yes (λ b. IsTrue b ↔ IsRowLine c r line)
row_line_told c r line row (Err e) is h = tt
row_line_told c r line row (Ok b) is h = ((λ t. (row, is, h.0 t)), (λ k. h.1 (subst (λ x. IsLawfulRow c r x) (same k) k.2)))
  where
    same : (k : IsRowLine c r line) → k.0 ≡ row
    same k = let both : Ok k.0 ≡ Ok row = sym k.1 ∙ is in cc both

-- whether the line is a row is told of the bytes that it lends
pub is_row : (c : Config) (r : ℕ) (line lent : List ℕ) (said : Bool) → lent ≡ line → said ≡ true → IsTrue said ↔ IsRowLine c r lent → IsRowLine c r line
is_row c r line lent said same e h = subst (λ (l : List ℕ). IsRowLine c r l) same (h.0 e)

pub no_row : (c : Config) (r : ℕ) (line lent : List ℕ) (said : Bool) → lent ≡ line → said ≡ false → IsTrue said ↔ IsRowLine c r lent → IsRowLine c r line → ⊥
no_row c r line lent said same e h k = both_ways said e (h.1 (subst (λ (l : List ℕ). IsRowLine c r l) (sym same) k))

rejected_is : (row : ℕ) → rejected_line row ≡ verdict_line (Rejected row)
unfolding verdict_line rejected_line
rejected_is row = refl

accepted_is : (rows : ℕ) → accepted_line rows ≡ verdict_line (Accepted rows)
unfolding verdict_line accepted_line
accepted_is rows = refl

module _ (c : Config) where
  read_none : (report : List ℕ) → IsRead c 0 0 report
  read_none report = record { lines = []; each = each_none (IsGoodLine c); many = refl; are = refl }

  read_more : (count taken next : ℕ) (line report : List ℕ) → IsRowLine c count line → IsRead c count taken report → TakesLine line_limit line (drop next report) (drop taken report) → IsRead c (count + 1) next report
  read_more count taken next line report is w t = record {
    lines = w.lines ++ line ∷ [];
    each = each_more (IsGoodLine c) w.lines line (record { is_line = record { one = t.one; fit = t.fit }; is_row = subst (λ k. IsRowLine c k line) (sym w.many) is }) w.each;
    many = length_push w.lines line ∙ ap (λ n. n + 1) w.many;
    are = w.are ∙ ap (λ t. lines_text w.lines ++ t) t.are ∙ sym (append_assoc (lines_text w.lines) (line_ended line) (drop next report)) ∙ ap (λ t. t ++ drop next report) (sym (lines_more w.lines line));
  }

  -- the row of this number is at fault
  at_fault : (count taken : ℕ) (report : List ℕ) → IsRead c count taken report → IsAtFault c count (drop taken report) → IsJudged c report (verdict_line (Rejected (count + 1))) status.Rejected
  at_fault count taken report w f =
      rejected w.lines (drop taken report) w.each w.are (subst (λ k. IsAtFault c k (drop taken report)) (sym w.many) f)
      (sym (rejected_is (count + 1)) ∙ ap (λ n. rejected_line (n + 1)) (sym w.many)) refl

  wrong_line : (count taken next : ℕ) (line report : List ℕ) → count < length (routes c) → (IsRowLine c count line → ⊥) → IsRead c count taken report → TakesLine line_limit line (drop next report) (drop taken report) →
      IsJudged c report (verdict_line (Rejected (count + 1))) status.Rejected
  wrong_line count taken next line report lt n w t = at_fault count taken report w (other_row line (drop next report) lt (record { one = t.one; fit = t.fit }) t.are n)

  no_line : (count taken : ℕ) (report : List ℕ) → count < length (routes c) → IsRead c count taken report → HasNoLine line_limit (drop taken report) → IsJudged c report (verdict_line (Rejected (count + 1))) status.Rejected
  no_line count taken report lt w h = at_fault count taken report w (no_whole_line lt h)

  long_line : (count taken : ℕ) (report : List ℕ) → count < length (routes c) → IsRead c count taken report → IsLongLine line_limit (drop taken report) → IsJudged c report [] status.TooLong
  long_line count taken report lt w h =
      too_long w.lines (drop taken report) w.each w.are (record { more = subst (λ k. k < length (routes c)) (sym w.many) lt; long = h }) refl refl

  more_bytes : (count taken : ℕ) (report : List ℕ) → count ≡ length (routes c) → IsRead c count taken report → IsTrue false ↔ (drop taken report ≡ []) → IsJudged c report (verdict_line (Rejected (count + 1))) status.Rejected
  more_bytes count taken report all w h = at_fault count taken report w (more_than_rows all (λ e. absurd (cc (h.1 e))))

  all_read : (count taken : ℕ) (report : List ℕ) → count ≡ length (routes c) → IsRead c count taken report → IsTrue true ↔ (drop taken report ≡ []) → IsJudged c report (verdict_line (Accepted count)) status.Done
  all_read count taken report all w h =
      accepted w.lines w.each (w.many ∙ all) (w.are ∙ ap (λ t. lines_text w.lines ++ t) (h.0 refl) ∙ append-nil (lines_text w.lines)) (sym (accepted_is count) ∙ ap accepted_line (sym w.many)) refl

module _ (c : Config) (told : Option Contents) (name : List ℕ) where
  pub none_judged : (taken : ℕ) → taken ≡ 0 → Judging c told name 0 taken
  none_judged taken e = subst (λ t. Judging c told name 0 t) (sym e) (of_any (IsRead c 0 0) told name (read_none c))

  module _ (count taken : ℕ) (w : Judging c told name count taken) where
    pub one_more : (next : ℕ) (line : List ℕ) → IsRowLine c count line → TakesLineOf told name line_limit taken next line → Judging c told name (count + 1) next
    one_more next line is t = of_both (IsRead c count taken) (λ report. TakesLine line_limit line (drop next report) (drop taken report)) (IsRead c (count + 1) next) told name (λ report. read_more c count taken next line report is) w t

    pub wrong : (next : ℕ) (line : List ℕ) → count < length (routes c) → (IsRowLine c count line → ⊥) → TakesLineOf told name line_limit taken next line → IsVerdictOn c told name (Rejected (count + 1))
    wrong next line lt n t =
        of_both (IsRead c count taken) (λ report. TakesLine line_limit line (drop next report) (drop taken report)) (λ report. IsJudged c report (verdict_line (Rejected (count + 1))) status.Rejected) told name
        (λ report. wrong_line c count taken next line report lt n) w t

    pub cut : count < length (routes c) → Left told name taken (HasNoLine line_limit) → IsVerdictOn c told name (Rejected (count + 1))
    cut lt h =
        of_both (IsRead c count taken) (λ report. HasNoLine line_limit (drop taken report)) (λ report. IsJudged c report (verdict_line (Rejected (count + 1))) status.Rejected) told name
        (λ report. no_line c count taken report lt) w h

    pub long : count < length (routes c) → Left told name taken (IsLongLine line_limit) → IsCutLong c told name
    long lt h =
        of_both (IsRead c count taken) (λ report. IsLongLine line_limit (drop taken report)) (λ report. IsJudged c report [] status.TooLong) told name
        (λ report. long_line c count taken report lt) w h

    pub more : count ≡ length (routes c) → Left told name taken (λ rest. IsTrue false ↔ (rest ≡ [])) → IsVerdictOn c told name (Rejected (count + 1))
    more all h =
        of_both (IsRead c count taken) (λ report. IsTrue false ↔ (drop taken report ≡ [])) (λ report. IsJudged c report (verdict_line (Rejected (count + 1))) status.Rejected) told name
        (λ report. more_bytes c count taken report all) w h

    pub done : count ≡ length (routes c) → Left told name taken (λ rest. IsTrue true ↔ (rest ≡ [])) → IsVerdictOn c told name (Accepted count)
    done all h =
        of_both (IsRead c count taken) (λ report. IsTrue true ↔ (drop taken report ≡ [])) (λ report. IsJudged c report (verdict_line (Accepted count)) status.Done) told name
        (λ report. all_read c count taken report all) w h
