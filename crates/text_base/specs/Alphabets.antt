-- The alphabets of requests and of the texts of a configuration, byte by byte.
use Rattle.std.specs.Prelude.{ℕ, Bool, not, ◌&&◌, ◌||◌, ◌==◌, nat_le}

abbrev pub between : ℕ → ℕ → ℕ → Bool
between low high b = nat_le low b && nat_le b high

abbrev pub is_capital : ℕ → Bool
is_capital b = between 65 90 b

abbrev pub is_letter : ℕ → Bool
is_letter b = between 97 122 b || is_capital b

abbrev pub is_digit : ℕ → Bool
is_digit b = between 48 57 b

-- letters, digits and -._:[]
abbrev pub is_authority_byte : ℕ → Bool
is_authority_byte b = is_letter b || is_digit b || b == 45 || b == 46 || b == 95 || b == 58 || b == 91 || b == 93

-- letters, digits and !#$%&'*+-.^_`|~
abbrev pub is_token_byte : ℕ → Bool
is_token_byte b =
    is_letter b || is_digit b || b == 33 || between 35 39 b || b == 42 || b == 43 || b == 45 || b == 46 || between 94 96 b || b == 124 || b == 126

-- the printed bytes of ASCII, the space among them
abbrev pub is_printed : ℕ → Bool
is_printed b = between 32 126 b

-- visible bytes without #
abbrev pub is_target_byte : ℕ → Bool
is_target_byte b = between 33 126 b && not (b == 35)

-- printed bytes without ? and #, of which the paths of rules are made
abbrev pub is_path_byte : ℕ → Bool
is_path_byte b = is_printed b && not (b == 63) && not (b == 35)
