-- A record put at the start of the output is a whole answer, and what is too long for it leaves it alone.
use Rattle.std.specs.Prelude.{Some, None}
use Prim.Native.Nat.{ℕ, ◌<◌, ◌≤◌}
use mathlib.Core.List.{List}
use mathlib.Core.Path.{◌≡◌, refl, ap₂, sym, ◌∙◌}
use lib.Dec.{T}
use lib.ListN.{length}
use Rattle.base_cells.specs.Records.{sum, enc_fields, put_fields, Laid, put_fields_eq, length_enc_fields}
use Rattle.base_cells.specs.Writes.{written, written_all, written_none}
use Rattle.base_ids.specs.declared.OtId.{OtId}
use Rattle.base_ids.specs.declared.ToId.{ToId}
use Rattle.base_ids.specs.declared.Triad.{Triad}
use Rattle.wire_rules.specs.Replies.{open_reply, open_reply_widths, open_reply_fields, triad_reply, triad_reply_widths, triad_reply_fields}

module _ (ws vs l : List ℕ) (t : T (Laid ws vs)) (n : ℕ) (e : sum ws ≡ n) where
  long : length (enc_fields ws vs) ≡ n
  long = length_enc_fields ws vs t ∙ e

  pub none_put : length l < n → (None, l) ≡ written l (enc_fields ws vs)
  none_put h = sym (written_none l (enc_fields ws vs) (rw long h))

  pub all_put : (l' : List ℕ) → n ≤ length l → l' ≡ put_fields ws l 0 vs → (Some n, l') ≡ written l (enc_fields ws vs)
  all_put l' h f =
      ap₂ (λ (k : ℕ) (x : List ℕ). (Some k, x)) (sym long) (f ∙ put_fields_eq ws l 0 vs)
      ∙ sym (written_all l (enc_fields ws vs) (rw long h))

module _ (otid : OtId) (toid : ToId) (triad : Triad) (otrpi torpi : ℕ) (out : List ℕ) where
  pub open_none : length out < 26 → (None, out) ≡ written out (open_reply otid toid triad otrpi torpi)
  unfolding open_reply sum
  open_none h = none_put open_reply_widths (open_reply_fields otid toid triad otrpi torpi) out tt 26 refl h

  pub open_all : (x : List ℕ) → 26 ≤ length out → x ≡ put_fields open_reply_widths out 0 (open_reply_fields otid toid triad otrpi torpi)
      → (Some 26, x) ≡ written out (open_reply otid toid triad otrpi torpi)
  unfolding open_reply sum
  open_all x h e = all_put open_reply_widths (open_reply_fields otid toid triad otrpi torpi) out tt 26 refl x h e

module _ (triad : Triad) (out : List ℕ) where
  pub triad_none : length out < 10 → (None, out) ≡ written out (triad_reply triad)
  unfolding triad_reply sum
  triad_none h = none_put triad_reply_widths (triad_reply_fields triad) out tt 10 refl h

  pub triad_all : (x : List ℕ) → 10 ≤ length out → x ≡ put_fields triad_reply_widths out 0 (triad_reply_fields triad) → (Some 10, x) ≡ written out (triad_reply triad)
  unfolding triad_reply sum
  triad_all x h e = all_put triad_reply_widths (triad_reply_fields triad) out tt 10 refl x h e
