-- Distinct lists of numbers.
use Rattle.std.specs.Prelude.{◌≡◌, ℕ, ◌<◌, List, [], length}
use Rattle.std.specs.List.{slice_index_or}

abbrev pub list_at : List (List ℕ) → ℕ → List ℕ
list_at lists i = slice_index_or lists i []

-- no list stands twice
abbrev pub AreApart : List (List ℕ) → Type 0
AreApart lists = (i j : ℕ) → i < j → j < length lists → list_at lists i ≡ list_at lists j → ⊥
