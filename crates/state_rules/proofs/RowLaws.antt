-- A connection's row whole: what is written is read back, and what was read is written again.
use Prim.Native.Nat.{ℕ, ◌≤◌}
use Rattle.std.specs.Prelude.{◌≡◌, length, take, drop}
use mathlib.Core.List.{List, [], ◌∷◌, ◌++◌}
use Rattle.std.proofs.Math.Path.{ap, ap₂}
use Rattle.std.proofs.Common.{sym, ◌∙◌, arith, take_all, take-add, drop-drop}
use Rattle.base_cells.specs.Numbers.{le, le_1}
use Rattle.base_cells.specs.Records.{enc_fields, dec_fields, sum}
use Rattle.base_cells.specs.Back.{Bytes, enc_dec}
use Rattle.rules.specs.declared.Fixed.{Fixed}
use Rattle.rules.specs.declared.Conn.{Conn}
use Rattle.state_rules.specs.Places.{row_size}
use Rattle.state_rules.specs.Rows.{w_sent, w_heard, w_fixed, carried_of, RowFits, list_sent, list_heard, list_fixed, as_sent, as_heard, as_fixed, enc_sent, enc_heard, enc_fixed, enc_conn, dec_sent, dec_heard, dec_fixed, dec_conn}
use Rattle.state_rules.specs.RowLaws.{of_to_due, of_to_role, kind_of_role, output_of_role, input_of_flags, multicast_of_flags, of_to_flags, fixed_fields, flags_stored, sent_stored, heard_stored}

module _ (c : Conn) where
  pub fixed_stored : RowFits c → dec_fixed (enc_conn c) ≡ c.fixed
  unfolding dec_fixed
  fixed_stored fit =
      let f = c.fixed in
      ap₂ as_fixed (flags_stored c) (fixed_fields c)
      ∙ (λ i. record {
        kind = kind_of_role f.kind f.output fit i;
        triad = f.triad;
        originator = f.originator;
        otid = f.otid;
        toid = f.toid;
        otrpi = f.otrpi;
        multiplier = f.multiplier;
        torpi = f.torpi;
        input = input_of_flags f c.heard i;
        output = output_of_role f.kind f.output fit i;
        dest = f.dest;
        multicast = multicast_of_flags f c.heard i;
        local = f.local;
      })

  pub dec_enc_conn : RowFits c → dec_conn (enc_conn c) ≡ c
  dec_enc_conn fit i = record { fixed = fixed_stored fit i; heard = heard_stored c i; sent = sent_stored c i }

pub enc_dec_conn : (b : List ℕ) → Bytes b → length b ≡ row_size → enc_conn (dec_conn b) ≡ b
unfolding enc_sent enc_heard enc_fixed dec_sent dec_heard dec_fixed sum
enc_dec_conn b y n =
    let k : le 1 b 29 ≤ 255 = rw (le_1 b 29) (let z = y 29 in omega arith) in
    let es : list_sent (as_sent (dec_fields w_sent b 0)) ≡ dec_fields w_sent b 0 =
    λ i. of_to_due (le 8 b 0) i ∷ le 4 b 8 ∷ le 2 b 12 ∷ [] in
    let eh : list_heard (carried_of (dec_fixed b)) (as_heard (dec_fields w_heard b 14)) ≡ dec_fields w_heard b 14 =
    λ i. le 2 b 14 ∷ le 8 b 16 ∷ le 4 b 24 ∷ of_to_flags (le 1 b 28) i ∷ [] in
    let ef : list_fixed (dec_fixed b) ≡ dec_fields w_fixed b 29 =
    ap (λ (v : ℕ). v ∷ dec_fields (2 ∷ 4 ∷ 4 ∷ 4 ∷ 4 ∷ 4 ∷ 4 ∷ 4 ∷ 2 ∷ 2 ∷ 4 ∷ 1 ∷ []) b 30) (of_to_role (le 1 b 29) k) in
    ap₂ ◌++◌ (ap (enc_fields w_sent) es ∙ enc_dec w_sent tt b 0 y (omega arith))
    (ap₂ ◌++◌ (ap (enc_fields w_heard) eh ∙ enc_dec w_heard tt b 14 y (omega arith)) (ap (enc_fields w_fixed) ef ∙ enc_dec w_fixed tt b 29 y (omega arith))
    ∙ ap (λ (z : List ℕ). take 15 (drop 14 b) ++ take 40 z) (sym (drop-drop 15 14 b))
    ∙ sym (take-add 15 40 (drop 14 b)))
    ∙ sym (take-add 14 55 b)
    ∙ take_all row_size b (omega arith)
