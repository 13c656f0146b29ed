-- A buffer that holds a state over a buffer lent: the contracts' words, and what is read of such a buffer.
use Prim.Native.Nat.{ℕ, ◌+◌, ◌*◌, ◌-◌, ◌≤◌, ◌<◌}
use Rattle.std.specs.Prelude.{true, ◌≡◌, drop}
use mathlib.Core.List.{List, [], map}
use Rattle.std.proofs.Math.Path.{ap, sym}
use Rattle.std.proofs.Common.{◌∙◌, drop-drop, take-take}
use native.Mathlib.Omega.{arith}
use Rattle.std.proofs.Math.ListN.{length, get_or, take, length-map, get_or-map}
use Rattle.base_cells.specs.Numbers.{drop_take, le_take}
use Rattle.base_cells.specs.Records.{of_bool}
use Rattle.base_cells.specs.Back.{Bytes}
use Rattle.base_tables.specs.Tables.{rows, length_rows}
use Rattle.base_tables.specs.Store.{row_stored}
use Rattle.base_tables.specs.Slots.{slot_at}
use Rattle.rules.specs.State.{Setup, State, no_content, shape_at, content_at}
use Rattle.state_rules.specs.Places.{setup_in, marks_in, table_in, data_in, setup_size, data_from, data_size, state_size, row_size, instances_at, sizes_at, kinds_at, next_id_of, ring_word_of, first_of, waiting_of, fault_of, connections_of, produced_of, late_of, max_late_of, mark_at, assemblies_of}
use Rattle.state_rules.specs.Setups.{setup_of, shape_in, kind_named}
use Rattle.state_rules.specs.SetupLaws.{shape_short}
use Rattle.state_rules.specs.Rows.{dec_conn, enc_conn, conn_at, conns_in}
use Rattle.state_rules.specs.RowLaws.{length_enc_conn}
use Rattle.state_rules.proofs.RowLaws.{dec_enc_conn}
use Rattle.state_rules.specs.Bits.{word_of, run_in, notified_in}
use Rattle.state_rules.specs.Image.{view, store, tested, bytes_of, marks_of, table_of, data_of}
use Rattle.state_image.specs.RowsFit.{fits_at}
use Rattle.state_image.specs.Fits.{Suits, few_assemblies, shape_at_lem, is_long, is_sound, shapes_good, few_conns, few_events}
use Rattle.state_image.specs.Contents.{run_over, notified_over}
use Rattle.state_image.specs.StoreLaws.{length_setup_in, length_store, few_contents, short_bytes, content_short, room, table_of_store, data_of_store, setup_kept, assemblies_is, produced_is, late_is, max_late_is, next_id_is, word_is, gone_is, waiting_is, fault_is, conns_is, mark_is}
use Rattle.state_image.specs.ViewLaws.{suits_view, store_view, table_read}
use Rattle.state_image.specs.TestLaws.{assemblies_in}
use Rattle.state_image.specs.Updates.{no_conn}

pub record Holds (s : List ℕ) (st : State) (l : List ℕ) : Type 0 where
  pub is : s ≡ store st l
  pub suits : Suits st l

-- s' holds what f makes of the state that s holds, over the same buffer
abbrev pub Becomes : List ℕ → List ℕ → (State → State) → Type 0
Becomes s s' f = (st : State) (l : List ℕ) → Holds s st l → s' ≡ store (f st) l

-- a held state that has no more connections than the buffer had when the call began: then a freed row is one that was in use
pub record Held (s : List ℕ) (st : State) (l : List ℕ) : Type 0 where
  pub holds : Holds s st l
  pub fewer : length st.table ≤ connections_of l

abbrev pub BecomesHeld : List ℕ → List ℕ → (State → State) → Type 0
BecomesHeld s s' f = (st : State) (l : List ℕ) → Held s st l → s' ≡ store (f st) l

-- what code needs to know of the buffer, to stay inside
pub record Ready (s : List ℕ) : Type 0 where
  pub long : length s ≡ state_size
  pub assemblies : assemblies_of s ≤ 16
  pub events : waiting_of s ≤ 1024
  pub conns : connections_of s ≤ 32

-- no shape says more bytes than a slot has
abbrev pub Slotted : List ℕ → Type 0
Slotted s = (i : ℕ) → i < assemblies_of s → (shape_in s i).size ≤ 512

-- the setup's region is all there, and has at most 16 assemblies
pub setup_ready : (s : List ℕ) → Ready s → (setup_size ≤ length (setup_in s)) × (assemblies_of (setup_in s) ≤ 16)
setup_ready s r = (let n = length_setup_in s r.long in omega arith, let e = assemblies_in s in let a = r.assemblies in omega arith)

-- a part of a part
pub part_in : (n k m : ℕ) (x : List ℕ) → k + n ≤ m → take n (drop k (take m x)) ≡ take n (drop k x)
part_in n k m x h =
    let e : m ≡ k + (m - k) = omega arith in
    ap (λ (j : ℕ). take n (drop k (take j x))) e ∙ ap (take n) (drop_take k (m - k) x) ∙ take-take n (m - k) (drop k x) (omega arith)

-- a shape is read from the setup's region, or from the whole buffer
pub shape_in_lem : (s : List ℕ) (i : ℕ) → i < 16 → shape_in (setup_in s) i ≡ shape_in s i
unfolding shape_in
shape_in_lem s i h =
    λ j.
    record {
      instance = le_take 2 s setup_size (instances_at + i * 2) (omega arith) j;
      kind = kind_named (le_take 1 s setup_size (kinds_at + i) (omega arith) j);
      size = le_take 2 s setup_size (sizes_at + i * 2) (omega arith) j;
    }

-- ---- a tested buffer holds its own state

module _ (s : List ℕ) (t : tested s ≡ true) where
  pub ready_tested : Ready s
  ready_tested =
      record {
        long = is_long s t;
        assemblies = let e = assemblies_in s in let f = few_assemblies (setup_in s) (is_sound s t) in omega arith;
        events = few_events s t;
        conns = few_conns s t;
      }

  pub slotted_tested : Slotted s
  slotted_tested i h =
      let e = assemblies_in s in let f = few_assemblies (setup_in s) (is_sound s t) in
      let g : (shape_in (setup_in s) i).size ≤ 512 = shape_short (setup_in s) (shapes_good s t) i (omega arith) in
      rw (shape_in_lem s i (omega arith)) at g

  pub holds_tested : Bytes s → Holds s (view s) s
  holds_tested b = record { is = sym (store_view s t b); suits = suits_view s t }

  pub held_tested : Bytes s → Held s (view s) s
  unfolding view
  held_tested b = record { holds = holds_tested b; fewer = let e = length_rows row_size dec_conn (connections_of s) (table_in s) in omega arith }

-- ---- what is read of a held state

module _ (s : List ℕ) (st : State) (l : List ℕ) (h : Holds s st l) where
  abbrev w : Suits st l
  w = h.suits

  pub assemblies_held : assemblies_of s ≡ length st.contents
  assemblies_held = sym (assemblies_in s) ∙ ap (λ (z : List ℕ). assemblies_of (setup_in z)) h.is ∙ assemblies_is st l w

  pub produced_held : produced_of s ≡ st.counters.produced
  produced_held = ap (λ (z : List ℕ). produced_of z) h.is ∙ produced_is st l w

  pub late_held : late_of s ≡ st.counters.late
  late_held = ap (λ (z : List ℕ). late_of z) h.is ∙ late_is st l w

  pub max_late_held : max_late_of s ≡ st.counters.max_late
  max_late_held = ap (λ (z : List ℕ). max_late_of z) h.is ∙ max_late_is st l w

  pub next_id_held : next_id_of s ≡ st.next_id
  next_id_held = ap (λ (z : List ℕ). next_id_of z) h.is ∙ next_id_is st l w

  pub word_held : ring_word_of s ≡ word_of (length st.events.waiting) st.events.gone st.fault
  word_held = ap (λ (z : List ℕ). ring_word_of z) h.is ∙ word_is st l w

  pub fault_held : fault_of s ≡ of_bool st.fault
  fault_held = ap (λ (z : List ℕ). fault_of z) h.is ∙ fault_is st l w

  pub gone_held : first_of s ≡ st.events.gone
  gone_held = ap (λ (z : List ℕ). first_of z) h.is ∙ gone_is st l w

  pub waiting_held : waiting_of s ≡ length st.events.waiting
  waiting_held = ap (λ (z : List ℕ). waiting_of z) h.is ∙ waiting_is st l w

  pub conns_held : connections_of s ≡ length st.table
  conns_held = ap (λ (z : List ℕ). connections_of z) h.is ∙ conns_is st l w

  pub ready_held : Ready s
  ready_held =
      let a = assemblies_held in let b = few_contents st l w in
      let e = waiting_held in let f = w.fits.waiting in
      let g = conns_held in let i = w.fits.table in
      record {
        long = ap length h.is ∙ length_store st l w;
        assemblies = omega arith;
        events = omega arith;
        conns = omega arith;
      }

  -- what was set up
  pub setup_held : setup_of s ≡ st.setup
  setup_held = ap setup_of h.is ∙ setup_kept st l w ∙ sym w.setup

  pub shape_held : (i : ℕ) → i < assemblies_of s → shape_in s i ≡ shape_at st.setup i
  shape_held i p =
      let a = assemblies_in s in let b = ready_held.assemblies in
      sym (shape_in_lem s i (omega arith)) ∙ sym (shape_at_lem s i (omega arith)) ∙ ap (λ (u : Setup). shape_at u i) setup_held

  -- the table, and a row of it
  pub table_held : conns_in (connections_of s) (table_in s) ≡ st.table
  table_held = ap (λ (z : List ℕ). conns_in (connections_of z) (table_in z)) h.is ∙ table_read st l w

  pub conn_held : (i : ℕ) → i < length st.table → conn_at (table_in s) i ≡ get_or st.table i no_conn
  unfolding table_of
  conn_held i p =
      ap (λ (z : List ℕ). conn_at z i) (ap table_in h.is ∙ table_of_store st l w)
      ∙ ap dec_conn (row_stored row_size enc_conn length_enc_conn (connections_of l) st.table (table_in l) i no_conn p)
      ∙ dec_enc_conn (get_or st.table i no_conn) (fits_at st.table w.fits.rows i)

  -- an assembly's mark and bytes
  mark_held : (i : ℕ) → i < length st.contents → mark_at s i ≡ get_or (marks_of st l) i 0
  mark_held i p = let f = few_contents st l w in ap (λ (z : List ℕ). mark_at z i) h.is ∙ mark_is st l w i (omega arith)

  pub run_held : (i : ℕ) → i < length st.contents → run_in (mark_at s i) ≡ (content_at st i).run
  unfolding marks_of
  run_held i p = ap run_in (mark_held i p) ∙ run_over st.contents (marks_in l) i p

  pub notified_held : (i : ℕ) → i < length st.contents → notified_in (mark_at s i) ≡ (content_at st i).notified
  unfolding marks_of
  notified_held i p = ap notified_in (mark_held i p) ∙ notified_over st.contents (marks_in l) i p

  pub bytes_held : (i : ℕ) → i < length st.contents
      → take (length (content_at st i).bytes) (drop (data_from + i * 512) s) ≡ (content_at st i).bytes
  unfolding data_of
  bytes_held i p =
      let n : ℕ = length (content_at st i).bytes in
      let b = content_short st l w i in
      let f = few_contents st l w in
      let m = length-map st.contents bytes_of in
      let a : get_or (map bytes_of st.contents) i [] ≡ (content_at st i).bytes = get_or-map bytes_of st.contents i no_content in
      ap (take n) (sym (drop-drop (i * 512) data_from s))
      ∙ sym (part_in n (i * 512) data_size (drop data_from s) (omega arith))
      ∙ ap (λ (z : List ℕ). take n (drop (i * 512) z)) (ap data_in h.is ∙ data_of_store st l w)
      ∙ ap (λ (z : List ℕ). take (length z) (drop (i * 512) (data_of st l))) (sym a)
      ∙ slot_at (map bytes_of st.contents) (data_in l) i (short_bytes st l w) (room st l w) (omega arith)
      ∙ a
