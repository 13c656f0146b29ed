-- The timeout of a connection, in microseconds.
use Rattle.std.specs.Prelude.{ℕ, ◌*◌, min, List, [], ◌∷◌, get_or}

-- 5.17: the standard's table, for the multipliers 0 to 7 in order
abbrev pub factors : List ℕ
factors = 4 ∷ 8 ∷ 16 ∷ 32 ∷ 64 ∷ 128 ∷ 256 ∷ 512 ∷ []

-- a multiplier above 7 counts as 7
abbrev pub factor_of : ℕ → ℕ
factor_of m = get_or factors (min m 7) 512

-- O→T RPI times that
abbrev pub timeout_of : ℕ → ℕ → ℕ
timeout_of rpi m = rpi * factor_of m
