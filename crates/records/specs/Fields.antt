use Rattle.std.specs.Prelude.{ℕ, ◌+◌, ◌*◌, ◌/◌, ◌%◌, List, [], ◌∷◌, ◌++◌}

-- The four bytes of a field, the lowest first. The last byte has all that is left, below 256 for a number below 2^32.
abbrev pub four : ℕ → List ℕ
four n = (n % 256) ∷ (n / 256 % 256) ∷ (n / 65536 % 256) ∷ (n / 16777216) ∷ []

-- The bytes of a list of fields.
abbrev pub bytes_of : List ℕ → List ℕ
bytes_of [] = []
bytes_of (f ∷ fs) = four f ++ bytes_of fs

-- The field that four bytes make.
abbrev pub field_of : ℕ → ℕ → ℕ → ℕ → ℕ
field_of a b c d = a + b * 256 + c * 65536 + d * 16777216

-- The fields that stand in some bytes, four bytes to a field; fewer than four at the end make none.
abbrev pub fields_in : List ℕ → List ℕ
fields_in [] = []
fields_in (a ∷ []) = []
fields_in (a ∷ b ∷ []) = []
fields_in (a ∷ b ∷ c ∷ []) = []
fields_in (a ∷ b ∷ c ∷ d ∷ rest) = field_of a b c d ∷ fields_in rest
