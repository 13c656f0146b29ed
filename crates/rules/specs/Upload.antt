-- The EDS upload: one step by value, from what is set up, the position and the service data to the outcome and the next position.
use Rattle.std.specs.Prelude.{List, [], ◌∷◌, ◌++◌, Bool, true, false, cond, ℕ, ◌+◌, ◌-◌, ◌%◌, ◌^◌, min, max, eqb, leb, length, take, drop, Option, Some, None}
use Rattle.base_cells.specs.Numbers.{le_bytes}
use Rattle.base_cells.specs.Records.{sum}
use Rattle.base_cells.specs.Back.{all}
use Rattle.rules.specs.State.{Setup}
use Rattle.rules.specs.Attributes.{Outcome, Gives, Fails, StateConflict, NotEnoughData}
pub use Rattle.rules.specs.declared.objects.Transfer.{Transfer}
pub use Rattle.rules.specs.declared.objects.Position.{Position}
pub use Rattle.rules.specs.declared.objects.Turn.{Turn}
pub use Rattle.rules.specs.declared.objects.Turn.TheVariants.{Repeat, InTurn, OutOfTurn}

-- 14.9: the checksum, the negated 16-bit sum of bytes
unfoldable pub checksum : List ℕ → ℕ
checksum bytes = (2 ^ 16 - sum bytes % 2 ^ 16) % 2 ^ 16

-- ---- initiate

-- 14.2: initiate clamps the wanted size to 1 up to the transfer limit
unfoldable pub clamped : ℕ → ℕ → ℕ
clamped limit wanted = max 1 (min wanted limit)

abbrev pub started : ℕ → Position
started size = record { size = size; next = 0; offset = 0; last = None }

-- 14.3: its reply: the EDS length in 4 bytes, and the size
abbrev pub initiate_reply : List ℕ → ℕ → List ℕ
initiate_reply eds size = le_bytes 4 (length eds) ++ (size ∷ [])

unfoldable pub initiate : ℕ → List ℕ → Option Position → List ℕ → Outcome × Option Position
initiate limit eds up [] = (Fails NotEnoughData, up)
initiate limit eds up (wanted ∷ rest) = (Gives (initiate_reply eds (clamped limit wanted)), Some (started (clamped limit wanted)))

-- ---- transfer

-- 14.5: the position advances only on a transfer in turn; a repeat of the last number is looked for first
abbrev pub next_turn : ℕ → ℕ → Turn
next_turn next number = cond (eqb number next) InTurn OutOfTurn

-- a transfer that was made: its number, and where it began
abbrev pub was : ℕ → ℕ → Option Transfer
was number offset = Some (record { number = number; offset = offset })

abbrev pub turn_after : Option Transfer → ℕ → ℕ → Turn
turn_after None next number = next_turn next number
turn_after (Some last) next number = cond (eqb last.number number) (Repeat last.offset) (next_turn next number)

unfoldable pub turn_of : Position → ℕ → Turn
turn_of p number = turn_after p.last p.next number

-- 14.6: numbers wrap at 256
unfoldable pub advanced : List ℕ → Position → Position
advanced eds p =
    record {
      size = p.size;
      next = (p.next + 1) % 256;
      offset = min (p.offset + p.size) (length eds);
      last = was p.next p.offset;
    }

-- 14.9: the transfer at an offset is the last if it reaches the end
abbrev pub reaches_end : List ℕ → ℕ → ℕ → Bool
reaches_end eds size offset = leb (length eds) (offset + size)

-- 14.8: 0 first, 1 middle, 2 last, 4 first and last
abbrev pub transfer_type : Bool → Bool → ℕ
transfer_type true false = 0
transfer_type false false = 1
transfer_type false true = 2
transfer_type true true = 4

-- its bytes; the last transfer adds the checksum
unfoldable pub transfer_bytes : List ℕ → ℕ → ℕ → List ℕ
transfer_bytes eds size offset = take size (drop offset eds) ++ cond (reaches_end eds size offset) (le_bytes 2 (checksum eds)) []

unfoldable pub transfer_reply : List ℕ → ℕ → ℕ → ℕ → List ℕ
transfer_reply eds size number offset =
    number ∷ transfer_type (eqb offset 0) (reaches_end eds size offset) ∷ transfer_bytes eds size offset

-- 14.7: a repeat gives the same bytes again
abbrev pub transfer_for : List ℕ → Position → ℕ → Turn → Outcome × Option Position
transfer_for eds p number (Repeat offset) = (Gives (transfer_reply eds p.size number offset), Some p)
transfer_for eds p number InTurn = (Gives (transfer_reply eds p.size number p.offset), Some (advanced eds p))
transfer_for eds p number OutOfTurn = (Fails StateConflict, Some p)

abbrev pub transfer_at : List ℕ → ℕ → Option Position → Outcome × Option Position
transfer_at eds number None = (Fails StateConflict, None)
transfer_at eds number (Some p) = transfer_for eds p number (turn_of p number)

unfoldable pub transfer : List ℕ → Option Position → List ℕ → Outcome × Option Position
transfer eds up [] = (Fails NotEnoughData, up)
transfer eds up (number ∷ rest) = transfer_at eds number up

-- ---- 14.11, the position's own test: none, or a size of 1 up to the limit and offsets within the EDS; none if there is no EDS

abbrev pub last_ok : ℕ → Option Transfer → Bool
last_ok size None = true
last_ok size (Some last) = leb last.offset size

abbrev pub position_tests : ℕ → ℕ → Position → List Bool
position_tests limit size p = leb 1 p.size ∷ leb p.size limit ∷ leb p.offset size ∷ last_ok size p.last ∷ []

abbrev pub position_ok : ℕ → Option (List ℕ) → Position → Bool
position_ok limit None p = false
position_ok limit (Some eds) p = all (position_tests limit (length eds) p)

unfoldable pub upload_ok : Setup → Option Position → Bool
upload_ok u None = true
upload_ok u (Some p) = position_ok u.transfer_limit u.eds p
