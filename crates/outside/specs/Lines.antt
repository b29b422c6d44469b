-- Lines of a file, each ended by a line feed.
use Rattle.std.specs.Prelude.{◌≡◌, ℕ, ◌==◌, ◌<◌, ◌≤◌, List, [], ◌∷◌, ◌++◌, length, take, drop, Option, IfSome}
use Rattle.std.specs.List.{position_or_len}
use Rattle.outside.specs.Contents.{Contents, find}
use Rattle.outside.specs.Written.{IsFront}

-- how many bytes stand before the first line feed, or all of them
abbrev pub line_length : List ℕ → ℕ
line_length = position_or_len (λ b. b == 10)

-- one of the bytes is a line feed
abbrev pub HasLineFeed : List ℕ → Type 0
HasLineFeed bytes = line_length bytes < length bytes

-- the bytes before the first line feed, or all of them
abbrev pub first_line : List ℕ → List ℕ
first_line bytes = take (line_length bytes) bytes

abbrev pub line_ended : List ℕ → List ℕ
line_ended line = line ++ 10 ∷ []

-- what holds of the file's bytes from this offset on, where they are told
abbrev pub Left : Option Contents → List ℕ → ℕ → (List ℕ → Type 0) → Type 0
Left told name from P = IfSome told (λ files. IfSome (find name files) (λ held. P (drop from held)))

-- how many bytes of a file are taken, and which ones after them are read already
pub record LinesState : Type 0 where
  pub taken : ℕ
  pub ahead : List ℕ

-- the bytes that are read already are the file's
abbrev pub AreAhead : Option Contents → List ℕ → LinesState → Type 0
AreAhead told name s = Left told name s.taken (IsFront s.ahead)

-- a line of at most so many bytes is taken with its line feed
pub record TakesLine (limit : ℕ) (line left rest : List ℕ) : Type 0 where
  pub one : HasLineFeed line → ⊥
  pub fit : length line ≤ limit
  pub are : rest ≡ line_ended line ++ left

-- no line feed is left, and at most so many bytes
pub record HasNoLine (limit : ℕ) (rest : List ℕ) : Type 0 where
  pub none : HasLineFeed rest → ⊥
  pub fit : length rest ≤ limit

-- the next line has more bytes than the limit, or none of them is the last
abbrev pub IsLongLine : ℕ → List ℕ → Type 0
IsLongLine limit rest = limit < length (first_line rest)

-- a line of a file is taken between these offsets, where the file is told
abbrev pub TakesLineOf : Option Contents → List ℕ → ℕ → ℕ → ℕ → List ℕ → Type 0
TakesLineOf told name limit from next line = IfSome told (λ files. IfSome (find name files) (λ held. TakesLine limit line (drop next held) (drop from held)))
