-- A stored state: the sizes of its regions, its regions, and its numbers.
use Prim.Native.Nat.{ℕ, ◌+◌, ◌*◌, ◌-◌, ◌/◌, ◌%◌, ◌≤◌, ◌<◌}
use mathlib.Core.List.{List, [], ◌++◌, append_assoc, map}
use Rattle.std.specs.Prelude.{◌≡◌, T, length, get_or, take}
use Rattle.std.proofs.Math.Path.{ap, ap₂}
use Rattle.std.proofs.Common.{sym, ◌∙◌, arith, length-append, length-drop, length-take-le, get_or-drop, get_or-take}
use Rattle.std.proofs.Math.ListN.{drop, get_or-map}
use Rattle.std.proofs.lemmas.List.{length-map}
use borrow.Rule.Slice.PartMut.{mid_of}
use Rattle.base_cells.specs.Numbers.{le, le_1}
use Rattle.base_cells.specs.Records.{enc_fields, dec_fields, of_bool, sum, Laid, dec_enc, length_enc_fields}
use Rattle.base_tables.specs.Store.{length_store_rows}
use Rattle.base_tables.specs.Ring.{length_ring}
use Rattle.base_tables.specs.Slots.{Short, length_store_slots}
use Rattle.base_tables.specs.Regions.{joined, Sized, none, one, start, length_joined, region_at}
use Rattle.rules.specs.State.{Setup, State, no_content, shape_at, content_at}
use Rattle.state_rules.specs.Places.{widths, setup_in, head_in, w_head, marks_in, table_in, ring_in, data_in, eds_in, marks_at, table_at, table_size, events_at, events_size, data_from, data_size, eds_at, state_size, row_size, head_used, next_id_of, ring_word_of, first_of, waiting_of, connections_of, fault_of, produced_of, late_of, max_late_of, mark_at, assemblies_of}
use Rattle.state_rules.specs.Setups.{setup_of, setup_from}
use Rattle.state_rules.specs.Rows.{enc_conn}
use Rattle.state_rules.specs.RowLaws.{length_enc_conn}
use Rattle.state_rules.specs.Bits.{word_of, waiting_of_word, first_of_word, fault_of_word}
use Rattle.state_rules.specs.Image.{list_head, bytes_of, record32, head_of, marks_of, table_of, events_of, data_of, regions_of, store}
use Rattle.state_image.specs.Fits.{Suits, few_assemblies, length_assemblies, size_short}
use Rattle.state_image.specs.Contents.{length_marks_over}

-- a region of a buffer that is long enough
pub mid_long : (a k : ℕ) (l : List ℕ) → a + k ≤ length l → length (mid_of a k l) ≡ k
mid_long a k l h = length-take-le k (drop a l) (rw length-drop (omega arith))

-- the regions of a buffer of the whole size
module _ (l : List ℕ) (long : length l ≡ state_size) where
  pub length_setup_in : length (setup_in l) ≡ 192
  length_setup_in = mid_long 0 192 l (omega arith)

  pub length_head_in : length (head_in l) ≡ 48
  length_head_in = mid_long 192 48 l (omega arith)

  pub length_marks_in : length (marks_in l) ≡ 16
  length_marks_in = mid_long marks_at 16 l (omega arith)

  pub length_table_in : length (table_in l) ≡ table_size
  length_table_in = mid_long table_at table_size l (omega arith)

  pub length_ring_in : length (ring_in l) ≡ events_size
  length_ring_in = mid_long events_at events_size l (omega arith)

  pub length_data_in : length (data_in l) ≡ data_size
  length_data_in = mid_long data_from data_size l (omega arith)

  pub length_eds_in : length (eds_in l) ≡ 65536
  length_eds_in = mid_long eds_at 65536 l (omega arith)

-- any numbers in the head
pub length_head : (vs l : List ℕ) → length l ≡ state_size → T (Laid w_head vs) → length (enc_fields w_head vs ++ drop head_used (head_in l)) ≡ 48
unfolding sum
length_head vs l long t =
    let a = length_head_in l long in
    let b : length (drop head_used (head_in l)) ≡ 14 = length-drop head_used (head_in l) ∙ omega arith in
    let c : length (enc_fields w_head vs) ≡ head_used = length_enc_fields w_head vs t in
    length-append (enc_fields w_head vs) (drop head_used (head_in l)) ∙ omega arith

-- a slot of a region
pub slot_long : (r : List ℕ) (i size : ℕ) → i * size + size ≤ length r → length (take size (drop (i * size) r)) ≡ size
slot_long r i size h = length-take-le size (drop (i * size) r) (rw (length-drop (i * size) r) (omega arith))

module _ (st : State) (l : List ℕ) (w : Suits st l) where
  -- at most 16 assemblies, each in its slot
  pub few_contents : length st.contents ≤ 16
  few_contents =
      let a : length st.setup.assemblies ≡ assemblies_of (setup_in l) = ap (λ (u : Setup). length u.assemblies) w.setup ∙ length_assemblies l in
      let b = few_assemblies (setup_in l) w.lent.sound in let c = w.fits.contents in omega arith

  pub content_short : (i : ℕ) → length (content_at st i).bytes ≤ 512
  content_short i =
      let a : (shape_at st.setup i).size ≡ (shape_at (setup_of l) i).size = ap (λ (u : Setup). (shape_at u i).size) w.setup in
      let b = size_short l (few_assemblies (setup_in l) w.lent.sound) w.lent.shapes i in let c = w.fits.sized i in omega arith

  pub short_bytes : Short (map bytes_of st.contents)
  short_bytes i = rw (get_or-map bytes_of st.contents i no_content) (content_short i)

  pub room : length (map bytes_of st.contents) * 512 ≤ length (data_in l)
  room = let m = length-map st.contents bytes_of in let n = length_data_in l w.lent.long in let a = few_contents in omega arith

  -- ---- sizes
  pub length_head_of : length (head_of st l) ≡ 48
  unfolding head_of
  length_head_of = length_head (list_head st) l w.lent.long tt

  pub length_marks_of : length (marks_of st l) ≡ 16
  unfolding marks_of
  length_marks_of =
      let a = length_marks_in l w.lent.long in let b = few_contents in
      length_marks_over st.contents (marks_in l) (omega arith) ∙ a

  pub length_table_of : length (table_of st l) ≡ table_size
  unfolding table_of
  length_table_of =
      let n = length_table_in l w.lent.long in let a = w.fits.table in let b = w.lent.conns in
      length_store_rows row_size enc_conn length_enc_conn (connections_of l) st.table (table_in l) (omega arith) (omega arith) ∙ n

  pub length_events_of : length (events_of st l) ≡ events_size
  unfolding events_of
  length_events_of = length_ring 32 record32 st.events.gone st.events.waiting (ring_in l) ∙ length_ring_in l w.lent.long

  pub length_data_of : length (data_of st l) ≡ data_size
  unfolding data_of
  length_data_of = length_store_slots (map bytes_of st.contents) (data_in l) short_bytes room ∙ length_data_in l w.lent.long

  pub sized : Sized widths (regions_of st l)
  sized =
      let n = w.lent.long in
      one (length_setup_in l n) (one length_head_of (one length_marks_of (one length_table_of (one length_events_of (one length_data_of (one (length_eds_in l n) none))))))

  pub length_store : length (store st l) ≡ state_size
  unfolding store sum
  length_store = length_joined sized

  -- ---- the regions
  pub setup_of_store : setup_in (store st l) ≡ setup_in l
  unfolding store start
  setup_of_store = region_at 0 sized (omega arith)

  pub marks_of_store : marks_in (store st l) ≡ marks_of st l
  unfolding store start
  marks_of_store = region_at 2 sized (omega arith)

  pub table_of_store : table_in (store st l) ≡ table_of st l
  unfolding store start
  table_of_store = region_at 3 sized (omega arith)

  pub ring_of_store : ring_in (store st l) ≡ events_of st l
  unfolding store start
  ring_of_store = region_at 4 sized (omega arith)

  pub data_of_store : data_in (store st l) ≡ data_of st l
  unfolding store start
  data_of_store = region_at 5 sized (omega arith)

  pub eds_of_store : eds_in (store st l) ≡ eds_in l
  unfolding store start
  eds_of_store = region_at 6 sized (omega arith)

  -- what was set up stays
  pub setup_kept : setup_of (store st l) ≡ setup_of l
  unfolding setup_of
  setup_kept = ap₂ setup_from setup_of_store eds_of_store

  -- ---- the head's numbers
  pub head_of_store : dec_fields w_head (store st l) 192 ≡ list_head st
  unfolding store joined head_of
  head_of_store =
      let e : List ℕ = enc_fields w_head (list_head st) in
      let p : List ℕ = drop head_used (head_in l) in
      let q : List ℕ = marks_of st l ++ (table_of st l ++ (events_of st l ++ (data_of st l ++ (eds_in l ++ [])))) in
      ap (λ (z : List ℕ). dec_fields w_head (setup_in l ++ z) 192) (append_assoc e p q)
      ∙ dec_enc w_head (list_head st) tt (setup_in l) (p ++ q) 192 (length_setup_in l w.lent.long)

  pub produced_is : produced_of (store st l) ≡ st.counters.produced
  produced_is = ap (λ (vs : List ℕ). get_or vs 0 0) head_of_store

  pub late_is : late_of (store st l) ≡ st.counters.late
  late_is = ap (λ (vs : List ℕ). get_or vs 1 0) head_of_store

  pub max_late_is : max_late_of (store st l) ≡ st.counters.max_late
  max_late_is = ap (λ (vs : List ℕ). get_or vs 2 0) head_of_store

  pub next_id_is : next_id_of (store st l) ≡ st.next_id
  next_id_is = ap (λ (vs : List ℕ). get_or vs 3 0) head_of_store

  pub word_is : ring_word_of (store st l) ≡ word_of (length st.events.waiting) st.events.gone st.fault
  word_is = ap (λ (vs : List ℕ). get_or vs 4 0) head_of_store

  pub gone_is : first_of (store st l) ≡ st.events.gone
  gone_is = ap (λ (v : ℕ). v / 2 % 1024) word_is ∙ first_of_word (length st.events.waiting) st.events.gone st.fault w.fits.gone

  pub waiting_is : waiting_of (store st l) ≡ length st.events.waiting
  waiting_is = ap (λ (v : ℕ). v / 2048) word_is ∙ waiting_of_word (length st.events.waiting) st.events.gone st.fault w.fits.gone

  pub fault_is : fault_of (store st l) ≡ of_bool st.fault
  fault_is = ap (λ (v : ℕ). v % 2) word_is ∙ fault_of_word (length st.events.waiting) st.events.gone st.fault w.fits.gone

  pub conns_is : connections_of (store st l) ≡ length st.table
  conns_is = ap (λ (vs : List ℕ). get_or vs 5 0) head_of_store

  -- ---- a mark
  pub mark_is : (i : ℕ) → i < 16 → mark_at (store st l) i ≡ get_or (marks_of st l) i 0
  mark_is i h =
      le_1 (store st l) (marks_at + i)
      ∙ sym (get_or-drop marks_at (store st l) i 0)
      ∙ sym (get_or-take 16 (drop marks_at (store st l)) i 0 h)
      ∙ ap (λ (z : List ℕ). get_or z i 0) marks_of_store

  pub assemblies_is : le 1 (setup_in (store st l)) 0 ≡ length st.contents
  assemblies_is =
      ap (λ (r : List ℕ). assemblies_of r) setup_of_store
      ∙ sym (w.fits.contents ∙ ap (λ (u : Setup). length u.assemblies) w.setup ∙ length_assemblies l)
