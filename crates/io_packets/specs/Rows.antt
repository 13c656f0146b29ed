-- The packet of a connection that is due, in the rules' words and as code writes it; and the connection of a row.
use Rattle.std.specs.Prelude.{ℕ, ◌+◌, ◌*◌, ◌<◌, Bool, true, false, cond, List, [], ◌≡◌, refl, length, get_or}
use Rattle.std.proofs.Common.{append_assoc, ap, ◌∙◌, arith}
use Rattle.rules.specs.State.{Content, State}
use Rattle.rules.specs.Producing.{due, sent, input_bytes, frame_sent, packet}
use Rattle.rules.specs.declared.Conn.{Conn}
use Rattle.rules.specs.declared.Sent.{Sent}
use Rattle.state_rules.specs.Places.{table_in, connections_of}
use Rattle.state_rules.specs.Rows.{conn_at}
use Rattle.state_image.specs.Holds.{Holds, conns_held, conn_held}
use Rattle.state_image.specs.Updates.{no_conn}
use Rattle.io_packets.specs.Steps.{stepped, head, packet_of}
use Rattle.io_packets.specs.PacketLaws.{length_packet}

-- the bytes of a connection's packet; none where it is not due
unfoldable pub packet_or : ℕ → List Content → Conn → List ℕ
packet_or t contents c = cond (due t c) (packet t (input_bytes contents c.fixed) c) []

-- ---- the rules' packet is the one that code writes

pub sent_is : (t : ℕ) (c : Conn) → sent t c ≡ stepped t c.fixed.torpi c.sent
unfolding sent stepped
sent_is t c = refl

pub packet_is : (t : ℕ) (d : List ℕ) (c : Conn) → packet t d c ≡ packet_of c.fixed (sent t c) d
unfolding packet frame_sent packet_of head
packet_is t d c = simp append_assoc

pub due_packet : (t : ℕ) (contents : List Content) (c : Conn) → due t c ≡ true
    → packet_or t contents c ≡ packet_of c.fixed (stepped t c.fixed.torpi c.sent) (input_bytes contents c.fixed)
unfolding packet_or
due_packet t contents c e =
    ap (λ (b : Bool). cond b (packet t (input_bytes contents c.fixed) c) []) e
    ∙ packet_is t (input_bytes contents c.fixed) c
    ∙ ap (λ (x : Sent). packet_of c.fixed x (input_bytes contents c.fixed)) (sent_is t c)

pub no_packet : (t : ℕ) (contents : List Content) (c : Conn) → due t c ≡ false → packet_or t contents c ≡ []
unfolding packet_or
no_packet t contents c e = ap (λ (b : Bool). cond b (packet t (input_bytes contents c.fixed) c) []) e

pub long_packet : (t : ℕ) (contents : List Content) (c : Conn) → due t c ≡ true → length (packet_or t contents c) ≡ 33 + length (input_bytes contents c.fixed)
long_packet t contents c e =
    ap length (due_packet t contents c e) ∙ length_packet c.fixed (stepped t c.fixed.torpi c.sent) (input_bytes contents c.fixed)

-- ---- row i of a held state

pub row_held : (i : ℕ) (s : List ℕ) → i < connections_of s → (st : State) (l : List ℕ) → Holds s st l → conn_at (table_in s) i ≡ get_or st.table i no_conn
row_held i s p st l h = conn_held s st l h i (let e = conns_held s st l h in omega arith)
