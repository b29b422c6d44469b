-- The verdict on a test has no float.
use Rattle.std.proofs.Common.{◌≡◌, false, List, [], ◌∷◌, map, Result, Ok, Err, IfOk, refl, ap, ◌∙◌}
use Rattle.serde_json.specs.Data.{Data}
use Rattle.serde_json.specs.Written.{has_float, items_have_float}
use Rattle.serde_json.specs.View.{items_of}
use Rattle.text_base.specs.Asked.{Bytes}
use Rattle.test_run.specs.Lines.{line_of, failure_value, verdict_value, verdict_line}
use Rattle.test_run.specs.declared.verdicts.Failure.{Failure}
use Rattle.test_run.specs.declared.verdicts.Failure.TheVariants as failure

one_has_none : (f : Failure) → has_float (failure_value f) ≡ false
one_has_none (failure.Text field expected actual) = refl
one_has_none (failure.Header field index) = refl

all_have_none : (fs : List Failure) → items_have_float (items_of (map failure_value fs)) ≡ false
all_have_none [] = refl
all_have_none (f ∷ fs) = rw (one_has_none f) (all_have_none fs)

pub verdict_has_none : (name : Bytes) (fs : List Failure) → has_float (verdict_value name fs) ≡ false
verdict_has_none name fs = rw (all_have_none fs) refl

-- the line of a value that is the verdict
pub verdict_lined : {V E : Type 0} (items : V → Bytes) (r : Result V E) (d : Data) (name : Bytes) (fs : List Failure) → d ≡ verdict_value name fs →
    IfOk r (λ line. has_float d ≡ false → items line ≡ line_of d) → IfOk r (λ line. items line ≡ verdict_line name fs)
unfolding verdict_line
verdict_lined items (Ok line) d name fs e h = h (ap has_float e ∙ verdict_has_none name fs) ∙ ap line_of e
verdict_lined items (Err x) d name fs e h = tt
