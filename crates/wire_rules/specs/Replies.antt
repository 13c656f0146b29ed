-- The bytes of the replies: for each the widths of its fields, and the fields.
use Rattle.std.specs.Prelude.{ℕ, ◌+◌, ◌%◌, List, [], ◌∷◌, ◌++◌, map, length, take}
use Rattle.base_cells.specs.Records.{enc_fields}
use Rattle.base_ids.specs.declared.OtId.{OtId}
use Rattle.base_ids.specs.declared.ToId.{ToId}
use Rattle.base_ids.specs.declared.Triad.{Triad}

-- serial (2 bytes), vendor (2), originator serial (4)
abbrev pub triad_widths : List ℕ
triad_widths = 2 ∷ 2 ∷ 4 ∷ []

abbrev pub triad_fields : Triad → List ℕ
triad_fields t = t.serial ∷ t.vendor ∷ t.originator ∷ []

-- 5.20: the Forward Open reply: O→T id, T→O id, the triad, O→T RPI, T→O RPI, then two zero bytes
abbrev pub open_reply_widths : List ℕ
open_reply_widths = 4 ∷ 4 ∷ triad_widths ++ (4 ∷ 4 ∷ 1 ∷ 1 ∷ [])

abbrev pub open_reply_fields : OtId → ToId → Triad → ℕ → ℕ → List ℕ
open_reply_fields otid toid triad otrpi torpi = otid.0 ∷ toid.0 ∷ triad_fields triad ++ (otrpi ∷ torpi ∷ 0 ∷ 0 ∷ [])

unfoldable pub open_reply : OtId → ToId → Triad → ℕ → ℕ → List ℕ
open_reply otid toid triad otrpi torpi = enc_fields open_reply_widths (open_reply_fields otid toid triad otrpi torpi)

-- 5.21: the triad, and two zero bytes
abbrev pub triad_reply_widths : List ℕ
triad_reply_widths = triad_widths ++ (1 ∷ 1 ∷ [])

abbrev pub triad_reply_fields : Triad → List ℕ
triad_reply_fields triad = triad_fields triad ++ (0 ∷ 0 ∷ [])

unfoldable pub triad_reply : Triad → List ℕ
triad_reply triad = enc_fields triad_reply_widths (triad_reply_fields triad)

-- a refused open is answered with the triad, no words of path left, and a reserved byte
abbrev pub open_refusal : Triad → List ℕ
open_refusal triad = triad_reply triad

-- a close is answered with the triad, no words of application data, and a reserved byte
abbrev pub close_reply : Triad → List ℕ
close_reply triad = triad_reply triad

-- a byte with bit 7 set
abbrev pub with_bit7 : ℕ → ℕ
with_bit7 b = 128 + b % 128

-- the service with bit 7 set, 0, the general status, the number of words
abbrev pub head_widths : List ℕ
head_widths = 1 ∷ 1 ∷ 1 ∷ 1 ∷ []

abbrev pub head_fields : ℕ → ℕ → ℕ → List ℕ
head_fields service general words = with_bit7 service ∷ 0 ∷ general ∷ words ∷ []

-- the first so many of the two words
abbrev pub extended : ℕ → ℕ → ℕ → List ℕ
extended words first second = take words (first ∷ second ∷ [])

-- 5.22: the head of a reply: that, and the words of two bytes
abbrev pub reply_head_widths : ℕ → ℕ → ℕ → List ℕ
reply_head_widths words first second = head_widths ++ map (λ w. 2) (extended words first second)

abbrev pub reply_head_fields : ℕ → ℕ → ℕ → ℕ → ℕ → List ℕ
reply_head_fields service general words first second =
    head_fields service general (length (extended words first second)) ++ extended words first second

unfoldable pub reply_head : ℕ → ℕ → ℕ → ℕ → ℕ → List ℕ
reply_head service general words first second =
    enc_fields (reply_head_widths words first second) (reply_head_fields service general words first second)
