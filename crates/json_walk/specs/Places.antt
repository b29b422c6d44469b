-- Places: JSON pointers.
use Rattle.std.specs.Prelude.{ℕ, List, [], ◌∷◌, ◌++◌, ◌==◌, if◌then◌else◌, decimal}

-- `~` as `~0`, `/` as `~1`
abbrev pub piece : ℕ → List ℕ
piece b = if b == 126 then 126 ∷ 48 ∷ [] else (if b == 47 then 126 ∷ 49 ∷ [] else b ∷ [])

abbrev pub escape : List ℕ → List ℕ
escape [] = []
escape (b ∷ bs) = piece b ++ escape bs

-- the member k of the object at p
abbrev pub under : List ℕ → List ℕ → List ℕ
under p k = p ++ 47 ∷ escape k

-- the element with number i of the array at p
abbrev pub at_index : List ℕ → ℕ → List ℕ
at_index p i = p ++ 47 ∷ decimal i
