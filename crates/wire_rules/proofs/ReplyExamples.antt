-- Replies worked out byte by byte.
use mathlib.Core.Path.{◌≡◌, refl}
use mathlib.Core.List.{[], ◌∷◌}
use Rattle.base_cells.specs.Numbers.{le_bytes}
use Rattle.base_cells.specs.Records.{enc_fields}
use Rattle.base_ids.specs.declared.Triad.{Triad}
use Rattle.wire_rules.specs.Replies.{open_reply, triad_reply, open_refusal, close_reply, reply_head}

abbrev triad : Triad
triad = record { serial = 0x0A09; vendor = 0x0C0B; originator = 0x100F0E0D }

-- an accepted open: both ids, the triad, both RPIs (10,000 and 20,000), no application reply
pub opened : open_reply (record { 0 = 0x04030201 }) (record { 0 = 0x08070605 }) triad 10000 20000
    ≡ 0x01 ∷ 0x02 ∷ 0x03 ∷ 0x04 ∷ 0x05 ∷ 0x06 ∷ 0x07 ∷ 0x08 ∷ 0x09 ∷ 0x0A ∷ 0x0B ∷ 0x0C ∷ 0x0D ∷ 0x0E ∷ 0x0F ∷ 0x10
    ∷ 0x10 ∷ 0x27 ∷ 0 ∷ 0 ∷ 0x20 ∷ 0x4E ∷ 0 ∷ 0 ∷ 0 ∷ 0 ∷ []
unfolding open_reply enc_fields le_bytes
opened = refl

-- a refused open and a close: the triad and two zero bytes
pub refused_and_closed : (open_refusal triad ≡ 0x09 ∷ 0x0A ∷ 0x0B ∷ 0x0C ∷ 0x0D ∷ 0x0E ∷ 0x0F ∷ 0x10 ∷ 0 ∷ 0 ∷ [])
    × (close_reply triad ≡ 0x09 ∷ 0x0A ∷ 0x0B ∷ 0x0C ∷ 0x0D ∷ 0x0E ∷ 0x0F ∷ 0x10 ∷ 0 ∷ 0 ∷ [])
unfolding triad_reply enc_fields le_bytes
refused_and_closed = (refl, refl)

-- no word, one, two; a service with bit 7 set already
pub heads : (reply_head 0x0E 0x14 0 0x0109 0x26 ≡ 0x8E ∷ 0 ∷ 0x14 ∷ 0 ∷ [])
    × (reply_head 0x54 0x01 1 0x0113 0x26 ≡ 0xD4 ∷ 0 ∷ 0x01 ∷ 1 ∷ 0x13 ∷ 0x01 ∷ [])
    × (reply_head 0xDB 0x01 2 0x0109 0x26 ≡ 0xDB ∷ 0 ∷ 0x01 ∷ 2 ∷ 0x09 ∷ 0x01 ∷ 0x26 ∷ 0x00 ∷ [])
unfolding reply_head enc_fields le_bytes
heads = (refl, refl, refl)
