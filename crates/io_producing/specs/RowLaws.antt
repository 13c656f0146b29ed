-- Row i: not due, no room, sent.
use Rattle.std.specs.Prelude.{ℕ, ◌+◌, ◌-◌, ◌≤◌, ◌<◌, Bool, true, false, cond, List, [], ◌≡◌, length, get_or, take, drop, set}
use Rattle.std.proofs.Common.{ap, sym, ◌∙◌, arith, length-drop, length-take-le}
use Rattle.std.proofs.lemmas.List.Edits.{sets}
use Rattle.std.proofs.lemmas.List.{set-get_or}
use borrow.Rule.Slice.PartMut.{put_mid}
use Rattle.base_cells.specs.Numbers.{lent}
use Rattle.rules.specs.State.{State, with_table, with_sent}
use Rattle.rules.specs.Producing.{due_by, due, sent, sends, input_bytes}
use Rattle.rules.specs.declared.Conn.{Conn}
use Rattle.rules.specs.declared.Fixed.{Fixed}
use Rattle.rules.specs.declared.Sent.{Sent}
use Rattle.state_rules.specs.Places.{table_in, state_size, connections_of}
use Rattle.state_rules.specs.Rows.{dec_fixed, dec_sent, row_at}
use Rattle.state_rules.specs.Image.{store}
use Rattle.state_image.specs.Holds.{Holds, Becomes}
use Rattle.state_image.specs.Updates.{no_conn}
use Rattle.state_image.specs.Changes.{sent_as}
use Rattle.io_packets.specs.Steps.{stepped, packet_of, Data}
use Rattle.io_packets.specs.PacketLaws.{length_packet}
use Rattle.io_packets.specs.Rows.{row_held, sent_is, due_packet, no_packet}
use Rattle.io_producing.specs.Passes.{packet_at, Sends}

-- ---- row i

module _ (t i : ℕ) (s : List ℕ) (p : i < connections_of s) where
  module _ (x : Sent) (ex : x ≡ dec_sent (row_at (table_in s) i)) (b : Bool) (eb : b ≡ due_by t x.due) where
    sent_held : (st : State) (l : List ℕ) → Holds s st l → (get_or st.table i no_conn).sent ≡ x
    sent_held st l h = sym (ex ∙ ap (λ (c : Conn). c.sent) (row_held i s p st l h))

    due_held : (st : State) (l : List ℕ) → Holds s st l → due t (get_or st.table i no_conn) ≡ b
    due_held st l h = ap (λ (y : Sent). due_by t y.due) (sent_held st l h) ∙ sym eb

    -- not due: the row and the output stay
    pub send_none : b ≡ false → (at : ℕ) (o : List ℕ) → Sends t i at s s o o 0
    send_none e at o st l h q =
        let c : Conn = get_or st.table i no_conn in
        let d : due t c ≡ false = due_held st l h ∙ e in
        let k : packet_at t i st ≡ [] = no_packet t st.contents c d in
        let y : sends t c ≡ c = ap (λ (z : Bool). cond z (with_sent (sent t c) c) c) d in
        record {
          is = h.is ∙ ap (λ (z : List Conn). store (with_table z st) l) (sym (set-get_or st.table i no_conn) ∙ ap (set st.table i) (sym y));
          out = ap (sets o at) (sym k);
          counts = ap length (sym k);
        }

    module _ (yes' : b ≡ true) (f : Fixed) (ef : f ≡ dec_fixed (row_at (table_in s) i)) (a n : ℕ) (inside : a + n ≤ state_size) (long : length s ≡ state_size) (d : Data f.input s a n) where
      fixed_held : (st : State) (l : List ℕ) → Holds s st l → (get_or st.table i no_conn).fixed ≡ f
      fixed_held st l h = sym (ef ∙ ap (λ (c : Conn). c.fixed) (row_held i s p st l h))

      packet_held : (st : State) (l : List ℕ) → Holds s st l → packet_at t i st ≡ packet_of f (stepped t f.torpi x) (take n (drop a s))
      packet_held st l h =
          due_packet t st.contents (get_or st.table i no_conn) (due_held st l h ∙ yes')
          ∙ (λ j. packet_of (fixed_held st l h j) (stepped t (fixed_held st l h j).torpi (sent_held st l h j)) (input_bytes st.contents (fixed_held st l h j)))
          ∙ ap (packet_of f (stepped t f.torpi x)) (sym (d st l h))

      size_held : (st : State) (l : List ℕ) → Holds s st l → length (packet_at t i st) ≡ 33 + n
      size_held st l h =
          ap length (packet_held st l h)
          ∙ length_packet f (stepped t f.torpi x) (take n (drop a s))
          ∙ ap (λ (m : ℕ). 33 + m) (length-take-le n (drop a s) (rw length-drop (omega arith)))

      -- no room: this cannot be where there is room
      pub send_short : (at : ℕ) (o o' s' : List ℕ) (r : ℕ) → at ≤ length o → length o - at < 33 + n → Sends t i at s s' o o' r
      send_short at o o' s' r q w st l h v = absurd (let e = size_held st l h in omega arith)

      pub send_some : (at : ℕ) (o part : List ℕ) → at ≤ length o → 33 + n ≤ length o - at → (y : Sent) → y ≡ stepped t f.torpi x
          → (d' : List ℕ) → d' ≡ take n (drop a s) → part ≡ sets (take (length o - at) (drop at o)) 0 (packet_of f y d')
          → (s' : List ℕ) → Becomes s s' (sent_as i y) → Sends t i at s s' o (put_mid at (length o - at) o part) (33 + n)
      send_some at o part q w y ey d' ed ep s' b' st l h v =
          let c : Conn = get_or st.table i no_conn in
          let m = size_held st l h in
          let sc : with_sent y c ≡ sends t c =
          sym (ap (λ (z : Bool). cond z (with_sent (sent t c) c) c) (due_held st l h ∙ yes')
          ∙ ap (λ (z : Sent). with_sent z c) (sent_is t c ∙ (λ j. stepped t (fixed_held st l h j).torpi (sent_held st l h j)) ∙ sym ey)) in
          let pk : packet_of f y d' ≡ packet_at t i st = (λ j. packet_of f (ey j) (ed j)) ∙ sym (packet_held st l h) in
          record {
            is = b' st l h ∙ ap (λ (z : Conn). store (with_table (set st.table i z) st) l) sc;
            out = ap (put_mid at (length o - at) o) (ep ∙ ap (sets (take (length o - at) (drop at o)) 0) pk) ∙ lent o at (length o - at) (packet_at t i st) (omega arith) (omega arith);
            counts = sym m;
          }
