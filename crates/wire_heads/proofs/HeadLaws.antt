-- The head put, and the words behind it, are the whole answer.
use Rattle.std.proofs.Common.{◌≡◌, ℕ, zero, suc, ◌+◌, ◌*◌, ◌/◌, ◌%◌, ◌<◌, ◌≤◌, min, List, [], ◌∷◌, length, map, Some, None, refl, ap, ap₂, sym, ◌∙◌, arith, length-take}
use lib.Bits.{bit_or, or_block, or_zero_r}
use lib.Seq.{take-nil}
use Rattle.base_cells.specs.Records.{put_fields, put_fields_eq}
use Rattle.base_cells.specs.Writes.{written, written_all, written_none}
use Rattle.wire_replies.specs.ReplyLaws.{reply_head_long}
use Rattle.wire_rules.specs.Replies.{with_bit7, extended, head_widths, head_fields, reply_head_widths, reply_head_fields, reply_head}

or_one : (b : ℕ) → b < 2 → bit_or b 1 ≡ 1
or_one zero h = refl
or_one (suc zero) h = refl
or_one (suc (suc b)) h = absurd (omega arith)

-- bit 7 of a byte set
pub set_7 : (b : ℕ) → b < 256 → bit_or b 128 ≡ with_bit7 b
set_7 b h =
    let e : b ≡ b / 128 * 128 + b % 128 = omega arith in
    ap (λ (x : ℕ). bit_or x 128) e
    ∙ or_block 7 (b / 128) 1 (b % 128) 0 (omega arith) (omega arith)
    ∙ ap₂ (λ (x y : ℕ). x * 128 + y) (or_one (b / 128) (omega arith)) (or_zero_r (b % 128))

-- there are two words and no more
pub both : (words first second : ℕ) → 2 ≤ words → extended words first second ≡ first ∷ second ∷ []
both zero first second h = absurd (omega arith)
both (suc zero) first second h = absurd (omega arith)
both (suc (suc words)) first second h = ap (λ (x : List ℕ). first ∷ second ∷ x) (take-nil words)

module _ (service general words first second : ℕ) (out : List ℕ) where
  pub no_room : length out < 4 + 2 * min words 2 → (None, out) ≡ written out (reply_head service general words first second)
  no_room h = sym (written_none out _ (rw (reply_head_long service general words first second) h))

  pub all_put : (n size : ℕ) (h w : List ℕ) → n ≡ min words 2 → size ≡ 4 + 2 * n → size ≤ length out → h ≡ put_fields head_widths out 0 (head_fields service general n)
      → w ≡ put_fields (map (λ x. 2) (extended words first second)) h 4 (extended words first second)
      → (Some size, w) ≡ written out (reply_head service general words first second)
  unfolding reply_head
  all_put n size h w e q r f g =
      let x : List ℕ = extended words first second in
      let long = reply_head_long service general words first second in
      let m : n ≡ length x = omega (arith, length-take words (first ∷ second ∷ [])) in
      let l : size ≡ length (reply_head service general words first second) = omega arith in
      ap₂ (λ (k : ℕ) (y : List ℕ). (Some k, y)) l
      (g ∙ ap (λ (y : List ℕ). put_fields (map (λ z. 2) x) y 4 x) f
      ∙ ap (λ (k : ℕ). put_fields (map (λ z. 2) x) (put_fields head_widths out 0 (head_fields service general k)) 4 x) m
      ∙ put_fields_eq (reply_head_widths words first second) out 0 (reply_head_fields service general words first second))
      ∙ sym (written_all out (reply_head service general words first second) (omega arith))
