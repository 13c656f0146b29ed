-- What was written is read back: the fields of a reply at the start of an output are those that it was made of.
use Rattle.std.specs.Prelude.{ℕ, ◌+◌, ◌*◌, ◌≤◌, min, List, [], ◌∷◌, map, ◌≡◌, refl, T, length, drop}
use Rattle.std.proofs.Common.{ap, ◌∙◌, arith, zero-add, length-take}
use Rattle.std.proofs.lemmas.List.Edits.{sets, sets-eq}
use Rattle.base_cells.specs.Records.{sum, enc_fields, dec_fields, Laid, length_enc_fields, dec_enc}
use Rattle.base_ids.specs.declared.OtId.{OtId}
use Rattle.base_ids.specs.declared.ToId.{ToId}
use Rattle.base_ids.specs.declared.Triad.{Triad}
use Rattle.wire_rules.specs.Replies.{open_reply, open_reply_widths, open_reply_fields, open_refusal, close_reply, triad_reply_widths, triad_reply_fields, triad_reply, extended, reply_head_widths, reply_head_fields, reply_head}

pub read_back : (ws vs : List ℕ) → T (Laid ws vs) → (out : List ℕ) → sum ws ≤ length out → dec_fields ws (sets out 0 (enc_fields ws vs)) 0 ≡ vs
read_back ws vs t out h =
    ap (λ (x : List ℕ). dec_fields ws x 0) (sets-eq (enc_fields ws vs) out 0 (rw (length_enc_fields ws vs t) (rw zero-add h)))
    ∙ dec_enc ws vs t [] (drop (0 + length (enc_fields ws vs)) out) 0 refl

-- the words of a head each have their width
words_laid : (ws : List ℕ) → T (Laid (map (λ w. 2) ws) ws)
words_laid [] = tt
words_laid (w ∷ ws) = words_laid ws

module _ (out : List ℕ) where
  pub open_reply_back : (otid : OtId) (toid : ToId) (triad : Triad) (otrpi torpi : ℕ) → 26 ≤ length out
      → dec_fields open_reply_widths (sets out 0 (open_reply otid toid triad otrpi torpi)) 0 ≡ open_reply_fields otid toid triad otrpi torpi
  unfolding open_reply sum
  open_reply_back otid toid triad otrpi torpi h = read_back open_reply_widths _ tt out h

  pub open_refusal_back : (triad : Triad) → 10 ≤ length out → dec_fields triad_reply_widths (sets out 0 (open_refusal triad)) 0 ≡ triad_reply_fields triad
  unfolding triad_reply sum
  open_refusal_back triad h = read_back triad_reply_widths _ tt out h

  pub close_reply_back : (triad : Triad) → 10 ≤ length out → dec_fields triad_reply_widths (sets out 0 (close_reply triad)) 0 ≡ triad_reply_fields triad
  close_reply_back triad h = open_refusal_back triad h

  pub reply_head_back : (service general words first second : ℕ) → sum (reply_head_widths words first second) ≤ length out
      → dec_fields (reply_head_widths words first second) (sets out 0 (reply_head service general words first second)) 0
      ≡ reply_head_fields service general words first second
  unfolding reply_head
  reply_head_back service general words first second h =
      read_back (reply_head_widths words first second) _ (words_laid (extended words first second)) out h

-- ---- how long each is

pub open_reply_long : (otid : OtId) (toid : ToId) (triad : Triad) (otrpi torpi : ℕ) → length (open_reply otid toid triad otrpi torpi) ≡ 26
unfolding open_reply sum
open_reply_long otid toid triad otrpi torpi = length_enc_fields open_reply_widths (open_reply_fields otid toid triad otrpi torpi) tt

pub open_refusal_long : (triad : Triad) → length (open_refusal triad) ≡ 10
unfolding triad_reply sum
open_refusal_long triad = length_enc_fields triad_reply_widths (triad_reply_fields triad) tt

pub close_reply_long : (triad : Triad) → length (close_reply triad) ≡ 10
close_reply_long triad = open_refusal_long triad

words_sum : (ws : List ℕ) → sum (map (λ w. 2) ws) ≡ 2 * length ws
unfolding sum
words_sum [] = refl
words_sum (w ∷ ws) = rw (words_sum ws) (omega arith)

pub reply_head_long : (service general words first second : ℕ) → length (reply_head service general words first second) ≡ 4 + 2 * min words 2
unfolding reply_head sum
reply_head_long service general words first second =
    length_enc_fields (reply_head_widths words first second) (reply_head_fields service general words first second) (words_laid (extended words first second))
    ∙ omega (arith, words_sum (extended words first second), length-take words (first ∷ second ∷ []))
