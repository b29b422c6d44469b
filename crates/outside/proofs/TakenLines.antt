-- Line after line, a file is gone through.
use Rattle.std.proofs.Common.{◌≡◌, ℕ, zero, suc, ◌+◌, ◌-◌, ◌<◌, ◌≤◌, ◌↔◌, ◌==◌, Bool, true, false, IsTrue, List, [], ◌∷◌, ◌++◌, length, take, drop, refl, ap, sym, ◌∙◌, arith, one-add, add-one, Option, None, Some, IfSome, append_assoc, length-append, length-drop, take-append-drop}
use Rattle.std.proofs.Math.Seq.{drop-append_seam}
use Rattle.std.proofs.lemmas.List.{drop-append-le, drop-drop, append-nil, nil_from_length, take_all, take-take, take-append-le}
use Rattle.std.proofs.lemmas.List.Folds.{length-prefix_len}
use Rattle.outside.specs.Contents.{Contents, find, ReadsAt, ReadsFrom}
use Rattle.outside.specs.Written.{IsFront}
use Rattle.outside.specs.Lines.{line_length, HasLineFeed, first_line, line_ended, Left, LinesState, AreAhead, TakesLine, TakesLineOf, IsLongLine}

seen_step : (b : ℕ) (bs : List ℕ) (n : ℕ) (v : Bool) → (b == 10) ≡ v → (n ≤ line_length bs → n + line_length (drop n bs) ≡ line_length bs) →
    suc n ≤ line_length (b ∷ bs) → suc n + line_length (drop n bs) ≡ line_length (b ∷ bs)
seen_step b bs n true e h le = let q = rw e at le in absurd (omega (arith, q))
seen_step b bs n false e h le = let q = rw e at le in let k = h (omega (arith, q)) in rw e (omega (arith, k))

-- the bytes that were looked at aren't looked at again
pub line_length_seen : (bytes : List ℕ) (seen : ℕ) → seen ≤ line_length bytes → seen + line_length (drop seen bytes) ≡ line_length bytes
line_length_seen [] zero le = refl
line_length_seen [] (suc n) le = absurd (omega arith)
line_length_seen (b ∷ bs) zero le = omega arith
line_length_seen (b ∷ bs) (suc n) le = seen_step b bs n (b == 10) refl (line_length_seen bs n) le

later_step : (b : ℕ) (bs more : List ℕ) (v : Bool) → (b == 10) ≡ v → line_length bs ≤ line_length (bs ++ more) → line_length (b ∷ bs) ≤ line_length (b ∷ (bs ++ more))
later_step b bs more true e h = rw e (omega arith)
later_step b bs more false e h = rw e (omega (arith, h))

-- with more bytes the first line feed comes no sooner
pub line_length_later : (bytes more : List ℕ) → line_length bytes ≤ line_length (bytes ++ more)
line_length_later [] more = omega arith
line_length_later (b ∷ bs) more = later_step b bs more (b == 10) refl (line_length_later bs more)

pub line_length_front : (bytes all : List ℕ) → IsFront bytes all → line_length bytes ≤ line_length all
line_length_front bytes all h = rw h.1 (line_length_later bytes h.0)

split_step : (b : ℕ) (bs : List ℕ) (v : Bool) → (b == 10) ≡ v → (HasLineFeed bs → bs ≡ line_ended (first_line bs) ++ drop (suc (line_length bs)) bs) →
    HasLineFeed (b ∷ bs) → b ∷ bs ≡ line_ended (first_line (b ∷ bs)) ++ drop (suc (line_length (b ∷ bs))) (b ∷ bs)
split_step b bs true e h f = let is : b ≡ 10 = grind (arith, e) in rw (e, is) refl
split_step b bs false e h f = let q = rw e at f in let k = h (omega (arith, q)) in rw (e, one-add) (ap (λ t. b ∷ t) k)

split_line : (bytes : List ℕ) → HasLineFeed bytes → bytes ≡ line_ended (first_line bytes) ++ drop (suc (line_length bytes)) bytes
split_line [] f = absurd (omega arith)
split_line (b ∷ bs) f = split_step b bs (b == 10) refl (split_line bs) f

-- a line, its line feed, and what comes after
line_split : (bytes : List ℕ) → HasLineFeed bytes → bytes ≡ line_ended (first_line bytes) ++ drop (line_length bytes + 1) bytes
line_split bytes f = split_line bytes f ∙ ap (λ n. line_ended (first_line bytes) ++ drop n bytes) (sym (add-one (line_length bytes)))

one_step : (b : ℕ) (bs : List ℕ) (v : Bool) → (b == 10) ≡ v → (HasLineFeed (first_line bs) → ⊥) → HasLineFeed (first_line (b ∷ bs)) → ⊥
one_step b bs true e h f = let q = rw e at f in omega (arith, q)
one_step b bs false e h f = let q = rw (e, one-add, e) at f in h (omega (arith, q))

-- no line feed stands in a line
line_is_one : (bytes : List ℕ) → HasLineFeed (first_line bytes) → ⊥
line_is_one [] f = omega (arith, f)
line_is_one (b ∷ bs) f = one_step b bs (b == 10) refl (line_is_one bs) f

rest_all : (n : ℕ) (xs : List ℕ) → take (length xs - n) (drop n xs) ≡ drop n xs
rest_all n xs = take_all (length xs - n) (drop n xs) (omega (arith, length-drop {A = ℕ}))

-- the end of a list's end, as code spells it
pub rest_of : (from seen : ℕ) (bytes ahead : List ℕ) → ahead ≡ drop from bytes → take (length (take (length bytes - from) (drop from bytes)) - seen) (drop seen (take (length bytes - from) (drop from bytes))) ≡ drop seen ahead
rest_of from seen bytes ahead e = rw (rest_all from bytes, e) (rest_all seen (drop from bytes))

-- what follows for the rest of a file from a fact about it
pub left_map : (P Q : List ℕ → Type 0) (told : Option Contents) (name : List ℕ) (from : ℕ) → ((rest : List ℕ) → P rest → Q rest) → Left told name from P → Left told name from Q
left_map P Q None name from f h = tt
left_map P Q (Some files) name from f h = by (find name files) h where
  by : (found : Option (List ℕ)) → IfSome found (λ held. P (drop from held)) → IfSome found (λ held. Q (drop from held))
  by None k = tt
  by (Some held) k = f (drop from held) k

-- a line longer than the limit among the bytes ahead
pub long_ahead : (told : Option Contents) (name : List ℕ) (s : LinesState) (limit : ℕ) → AreAhead told name s → limit < line_length s.ahead → Left told name s.taken (IsLongLine limit)
long_ahead told name s limit h lt = left_map (IsFront s.ahead) (IsLongLine limit) told name s.taken
    (λ rest k. let le = line_length_front s.ahead rest k in let len : length (first_line rest) ≡ line_length rest = length-prefix_len _ rest in omega (arith, le, len, lt)) h

-- bytes ahead are not the end
pub some_ahead : (told : Option Contents) (name : List ℕ) (s : LinesState) → AreAhead told name s → 0 < length s.ahead → Left told name s.taken (λ rest. IsTrue false ↔ (rest ≡ []))
some_ahead told name s h lt = left_map (IsFront s.ahead) (λ rest. IsTrue false ↔ (rest ≡ [])) told name s.taken
    (λ rest k. (λ no. absurd (let e : false ≡ true = no in cc), λ e. let q : length (s.ahead ++ k.0) ≡ 0 = ap length (sym k.1 ∙ e) in absurd (omega (arith, q, length-append {A = ℕ}, lt)))) h

took_held : (limit : ℕ) (held : List ℕ) (s t : LinesState) → HasLineFeed s.ahead → line_length s.ahead ≤ limit → t.ahead ≡ drop (line_length s.ahead + 1) s.ahead →
    t.taken ≡ s.taken + (line_length s.ahead + 1) → IsFront s.ahead (drop s.taken held) → TakesLine limit (first_line s.ahead) (drop t.taken held) (drop s.taken held) × IsFront t.ahead (drop t.taken held)
took_held limit held s t f fit ahead taken h =
    let len = line_length s.ahead + 1 in
    let le : len ≤ length s.ahead = omega (arith, f) in
    let left : drop t.taken held ≡ t.ahead ++ h.0 = ap (λ n. drop n held) taken ∙ sym (drop-drop len s.taken held) ∙ ap (drop len) h.1 ∙ drop-append-le len s.ahead h.0 le ∙ ap (λ a. a ++ h.0) (sym ahead) in
    let split : s.ahead ≡ line_ended (first_line s.ahead) ++ t.ahead = line_split s.ahead f ∙ ap (λ a. line_ended (first_line s.ahead) ++ a) (sym ahead) in
    let size : length (first_line s.ahead) ≡ line_length s.ahead = length-prefix_len _ s.ahead in (
      record {
        one = line_is_one s.ahead;
        fit = omega (arith, size, fit);
        are = h.1 ∙ ap (λ a. a ++ h.0) split ∙ append_assoc (line_ended (first_line s.ahead)) t.ahead h.0 ∙ ap (λ a. line_ended (first_line s.ahead) ++ a) (sym left);
      },
      (h.0, left),
    )

took_of : (limit : ℕ) (found : Option (List ℕ)) (s t : LinesState) → HasLineFeed s.ahead → line_length s.ahead ≤ limit → t.ahead ≡ drop (line_length s.ahead + 1) s.ahead →
    t.taken ≡ s.taken + (line_length s.ahead + 1) → IfSome found (λ held. IsFront s.ahead (drop s.taken held)) →
    IfSome found (λ held. TakesLine limit (first_line s.ahead) (drop t.taken held) (drop s.taken held)) × IfSome found (λ held. IsFront t.ahead (drop t.taken held))
took_of limit None s t f fit ahead taken h = (tt, tt)
took_of limit (Some held) s t f fit ahead taken h = took_held limit held s t f fit ahead taken h

-- the first line ahead is taken
pub took : (told : Option Contents) (name : List ℕ) (limit : ℕ) (s t : LinesState) → HasLineFeed s.ahead → line_length s.ahead ≤ limit → t.ahead ≡ drop (line_length s.ahead + 1) s.ahead →
    t.taken ≡ s.taken + (line_length s.ahead + 1) → AreAhead told name s → TakesLineOf told name limit s.taken t.taken (first_line s.ahead) × AreAhead told name t
took None name limit s t f fit ahead taken h = (tt, tt)
took (Some files) name limit s t f fit ahead taken h = took_of limit (find name files) s t f fit ahead taken h

filled_held : (held : List ℕ) (s : LinesState) (n : ℕ) (buf : List ℕ) → IsFront s.ahead (drop s.taken held) → ReadsAt held (s.taken + length s.ahead) n buf →
    IsFront (s.ahead ++ take n buf) (drop s.taken held) × (n ≡ 0 → drop s.taken held ≡ s.ahead)
filled_held held s n buf h r =
    let rest : drop (s.taken + length s.ahead) held ≡ h.0 = sym (drop-drop (length s.ahead) s.taken held) ∙ ap (drop (length s.ahead)) h.1 ∙ drop-append_seam s.ahead h.0 in
    let part : take n buf ≡ take n h.0 = r.part ∙ ap (take n) rest in (
      (drop n h.0, h.1 ∙ ap (λ a. s.ahead ++ a) (sym (take-append-drop n h.0) ∙ ap (λ a. a ++ drop n h.0) (sym part)) ∙ sym (append_assoc s.ahead (take n buf) (drop n h.0))),
      λ none. let size : length h.0 ≡ 0 = omega (arith, ap length rest, length-drop {A = ℕ}, r.end none) in h.1 ∙ ap (λ a. s.ahead ++ a) (nil_from_length h.0 size) ∙ append-nil s.ahead,
    )

filled_of : (found : Option (List ℕ)) (s : LinesState) (n : ℕ) (buf : List ℕ) → IfSome found (λ held. IsFront s.ahead (drop s.taken held)) → IfSome found (λ held. ReadsAt held (s.taken + length s.ahead) n buf) →
    IfSome found (λ held. IsFront (s.ahead ++ take n buf) (drop s.taken held)) × (n ≡ 0 → IfSome found (λ held. drop s.taken held ≡ s.ahead))
filled_of None s n buf h r = (tt, λ _. tt)
filled_of (Some held) s n buf h r = filled_held held s n buf h r

-- bytes are read after those ahead
pub filled : (told : Option Contents) (name : List ℕ) (s : LinesState) (n : ℕ) (buf : List ℕ) → AreAhead told name s → ReadsFrom told name (s.taken + length s.ahead) n buf →
    Left told name s.taken (IsFront (s.ahead ++ take n buf)) × (n ≡ 0 → Left told name s.taken (λ rest. rest ≡ s.ahead))
filled None name s n buf h r = (tt, λ _. tt)
filled (Some files) name s n buf h r = filled_of (find name files) s n buf h r

-- the same, with the words that code has for these values
pub filled_as : (told : Option Contents) (name : List ℕ) (s : LinesState) (n from taken : ℕ) (buf ahead : List ℕ) → taken ≡ s.taken → ahead ≡ s.ahead ++ take n buf → from ≡ s.taken + length s.ahead →
    AreAhead told name s → ReadsFrom told name from n buf → Left told name taken (IsFront ahead)
filled_as told name s n from taken buf ahead at is place h r =
    let r1 : ReadsFrom told name (s.taken + length s.ahead) n buf = rw place at r in
    rw (at, is) ((filled told name s n buf h r1).0)

pub ended_as : (told : Option Contents) (name : List ℕ) (s : LinesState) (n from : ℕ) (buf : List ℕ) → from ≡ s.taken + length s.ahead →
    AreAhead told name s → ReadsFrom told name from n buf → n ≡ 0 → Left told name s.taken (λ rest. rest ≡ s.ahead)
ended_as told name s n from buf place h r none =
    let r1 : ReadsFrom told name (s.taken + length s.ahead) n buf = rw place at r in
    (filled told name s n buf h r1).1 none

-- the bytes ahead after more are appended
pub grown : (from n : ℕ) (bytes ahead buf new : List ℕ) → from ≤ length bytes → ahead ≡ drop from bytes → new ≡ bytes ++ take n buf → drop from new ≡ ahead ++ take n buf
grown from n bytes ahead buf new le e is = ap (drop from) is ∙ drop-append-le from bytes (take n buf) le ∙ ap (λ a. a ++ take n buf) (sym e)

same_read : (held : List ℕ) (from n : ℕ) (buf next : List ℕ) → take n next ≡ take n buf → ReadsAt held from n buf → ReadsAt held from n next
same_read held from n buf next e r = record { part = e ∙ r.part; short = r.short; end = r.end }

-- what was read stands in a longer buffer too
pub reads_same : (told : Option Contents) (name : List ℕ) (from n : ℕ) (buf next : List ℕ) → take n next ≡ take n buf → ReadsFrom told name from n buf → ReadsFrom told name from n next
reads_same None name from n buf next e r = tt
reads_same (Some files) name from n buf next e r = by (find name files) r where
  by : (found : Option (List ℕ)) → IfSome found (λ held. ReadsAt held from n buf) → IfSome found (λ held. ReadsAt held from n next)
  by None k = tt
  by (Some held) k = same_read held from n buf next e k

-- the same, with the buffer as code spells it
pub reads_longer : (told : Option Contents) (name : List ℕ) (from n : ℕ) (part after : List ℕ) → n ≤ length part → ReadsFrom told name from n part → ReadsFrom told name from n (part ++ after)
reads_longer told name from n part after le r = reads_same told name from n part (part ++ after) (take-append-le n part after le) r

-- the first bytes of a part that was written into a buffer
pub part_of : (n len : ℕ) (part after : List ℕ) → n ≤ length part → n ≤ len → take n (take len (part ++ after)) ≡ take n part
part_of n len part after le fit = take-take n len (part ++ after) fit ∙ take-append-le n part after le

-- the same for a line that was looked for after more was read
pub took_as : (told : Option Contents) (name : List ℕ) (limit from : ℕ) (s t : LinesState) (line : List ℕ) (len : ℕ) → s.taken ≡ from → len ≡ line_length s.ahead → len < length s.ahead → len ≤ limit →
    line ≡ first_line s.ahead → t.ahead ≡ drop (len + 1) s.ahead → t.taken ≡ s.taken + (len + 1) → AreAhead told name s → TakesLineOf told name limit from t.taken line × AreAhead told name t
took_as told name limit from s t line len begin is within fit text ahead taken h =
    let e : drop (len + 1) s.ahead ≡ drop (line_length s.ahead + 1) s.ahead = ap (λ n. drop (n + 1) s.ahead) is in
    let both = took told name limit s t (omega (arith, is, within)) (omega (arith, is, fit)) (ahead ∙ e) (omega (arith, taken, is)) h in
    (rw (← begin, text) both.0, both.1)

-- a line that is too long among the bytes ahead
pub long_as : (told : Option Contents) (name : List ℕ) (s : LinesState) (limit from len : ℕ) → s.taken ≡ from → len ≡ line_length s.ahead → limit < len → AreAhead told name s → Left told name from (IsLongLine limit)
long_as told name s limit from len begin is lt h = rw (← begin) (long_ahead told name s limit h (omega (arith, is, lt)))
