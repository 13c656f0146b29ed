-- How examples are written: a list of pairs, what a definition gives beside what the rules say.
use Rattle.std.specs.Prelude.{ℕ, ◌+◌, ◌*◌, ◌≡◌, List, [], ◌∷◌}

infixl 4 ◌is◌
pub data Example : Type 1 where
  ◌is◌ : {A : Type 0} → A → A → Example

abbrev pub Hold : List Example → Type 0
Hold [] = Unit
Hold ((a is b) ∷ es) = (a ≡ b) × Hold es

-- a.b.c.d
abbrev pub address : ℕ → ℕ → ℕ → ℕ → ℕ
address a b c d = a * 0x1000000 + b * 0x10000 + c * 0x100 + d
