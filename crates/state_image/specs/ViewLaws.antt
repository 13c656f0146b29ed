-- View and store: what is stored is read back, and a tested buffer's own state written over it changes nothing.
use Rattle.std.specs.Prelude.{ℕ, zero, suc, ◌+◌, ◌*◌, ◌-◌, ◌%◌, ◌≤◌, ◌<◌, true, ◌≡◌, length, take}
use mathlib.Core.List.{List, [], ◌∷◌, ◌++◌}
use Rattle.std.proofs.Math.Path.{refl, ap, ap₂, sym}
use Rattle.std.proofs.Common.{◌∙◌, arith, length-drop, length-take-le, take-take}
use Rattle.std.proofs.Math.ListN.{drop, take-append-drop}
use borrow.Rule.Slice.PartMut.{mid_of}
use Rattle.base_cells.specs.Records.{enc_fields, dec_fields, to_bool, to_of, sum}
use Rattle.base_cells.specs.Back.{Bytes, enc_dec, bytes_take, bytes_drop}
use Rattle.base_tables.specs.Tables.{rows, length_rows}
use Rattle.base_tables.specs.Store.{store_rows_lem}
use Rattle.base_tables.specs.Ring.{ring_of, length_ring_of, store_ring_lem}
use Rattle.base_tables.specs.RingRead.{ring_read}
use Rattle.base_tables.specs.Regions.{joined, start, regions, joined_regions, regions_at}
use Rattle.rules.specs.State.{Shape, State}
use Rattle.state_rules.specs.Places.{widths, setup_in, head_in, w_head, marks_in, table_in, ring_in, data_in, eds_in, head_at, table_at, table_size, events_at, events_size, state_size, row_size, head_used, next_id_of, ring_word_of, first_of, waiting_of, connections_of, fault_of, produced_of, late_of, max_late_of}
use Rattle.state_rules.specs.Setups.{setup_of}
use Rattle.state_rules.specs.Rows.{dec_conn, enc_conn, row_at, conns_in}
use Rattle.state_rules.proofs.RowLaws.{enc_dec_conn}
use Rattle.state_rules.specs.Bits.{word_of, of_to_word}
use Rattle.state_rules.specs.Image.{contents_of, record32, as_is, view, list_head, head_of, marks_of, table_of, events_of, data_of, store, tested}
use Rattle.state_image.specs.RowsFit.{rows_fit, rows_read}
use Rattle.state_image.specs.Fits.{Records32, none, one, Fits, Suits, few_assemblies, length_assemblies, size_short, is_long, is_sound, some_id, first_slot, few_events, few_conns, shapes_good, lent}
use Rattle.state_image.specs.Contents.{length_contents_of, marks_back, data_back, sized_back, contents_back, length_record32, record32_own, records_back}
use Rattle.state_image.specs.StoreLaws.{mid_long, slot_long, length_marks_in, length_ring_in, length_data_in, content_short, few_contents, marks_of_store, table_of_store, ring_of_store, data_of_store, setup_kept, produced_is, late_is, max_late_is, next_id_is, gone_is, waiting_is, conns_is, fault_is}

-- a buffer's regions, by their widths
regions_are : (l : List ℕ) → regions widths l ≡ setup_in l ∷ head_in l ∷ marks_in l ∷ table_in l ∷ ring_in l ∷ data_in l ∷ eds_in l ∷ []
unfolding regions start
regions_are l i =
    setup_in l
    ∷ head_in l
    ∷ regions_at widths l 2 (omega arith) i
    ∷ regions_at widths l 3 (omega arith) i
    ∷ regions_at widths l 4 (omega arith) i
    ∷ regions_at widths l 5 (omega arith) i
    ∷ regions_at widths l 6 (omega arith) i
    ∷ []

-- ---- a state that is stored is read back
module _ (st : State) (l : List ℕ) (w : Suits st l) where
  pub contents_read : contents_of (setup_of (store st l)).assemblies (marks_in (store st l)) (data_in (store st l)) ≡ st.contents
  unfolding marks_of data_of
  contents_read =
      let u : setup_of (store st l) ≡ st.setup = setup_kept st l w ∙ sym w.setup in
      let a = few_contents st l w in
      let b = w.fits.contents in
      let n = length_data_in l w.lent.long in
      (λ i. contents_of (u i).assemblies (marks_of_store st l w i) (data_of_store st l w i))
      ∙ contents_back st.setup.assemblies st.contents (marks_in l) (data_in l) b w.fits.sized
      (λ i. let c = content_short st l w i in let d = w.fits.sized i in omega arith) (omega arith)

  pub table_read : conns_in (connections_of (store st l)) (table_in (store st l)) ≡ st.table
  unfolding table_of
  table_read =
      ap₂ (conns_in) (conns_is st l w) (table_of_store st l w)
      ∙ rows_read (connections_of l) st.table (table_in l) w.fits.rows

  pub waiting_read : ring_of 32 record32 as_is (first_of (store st l)) (waiting_of (store st l)) (ring_in (store st l)) ≡ st.events.waiting
  unfolding events_of
  waiting_read =
      let n = length_ring_in l w.lent.long in
      (λ i. ring_of 32 record32 as_is (gone_is st l w i) (waiting_is st l w i) (ring_of_store st l w i))
      ∙ ring_read 32 record32 length_record32 as_is st.events.gone st.events.waiting (ring_in l) w.fits.gone w.fits.waiting (omega arith)
      ∙ records_back st.events.waiting w.fits.records

  pub view_store : view (store st l) ≡ st
  unfolding view
  view_store =
      let u : setup_of (store st l) ≡ st.setup = setup_kept st l w ∙ sym w.setup in
      let b : to_bool (fault_of (store st l)) ≡ st.fault = ap to_bool (fault_is st l w) ∙ to_of st.fault in
      λ i. record {
        setup = u i;
        contents = contents_read i;
        table = table_read i;
        events = record { gone = gone_is st l w i; waiting = waiting_read i };
        fault = b i;
        next_id = next_id_is st l w i;
        counters = record { produced = produced_is st l w i; late = late_is st l w i; max_late = max_late_is st l w i };
      }

-- ---- what a tested buffer says fits
ring_records : (f n : ℕ) (r : List ℕ) → f < 1024 → events_size ≤ length r → Records32 (ring_of 32 record32 as_is f n r)
unfolding ring_of
ring_records f zero r h g = none
ring_records f (suc n) r h g =
    let e = length-drop (f * 32) r in
    one (length-take-le 32 (drop (f * 32) r) (omega arith)) (ring_records ((f + 1) % 1024) n r (omega arith) g)

module _ (l : List ℕ) (ok : tested l ≡ true) where
  pub room_for_all : length (setup_of l).assemblies * 512 ≤ length (data_in l)
  room_for_all =
      let a = length_assemblies l in let b = few_assemblies (setup_in l) (is_sound l ok) in let n = length_data_in l (is_long l ok) in omega arith

  pub fits_view : Fits (view l)
  unfolding view
  fits_view =
      let ss : List Shape = (setup_of l).assemblies in
      let n = length_ring_in l (is_long l ok) in
      record {
        contents = length_contents_of ss (marks_in l) (data_in l);
        sized = sized_back ss (marks_in l) (data_in l) (size_short l (few_assemblies (setup_in l) (is_sound l ok)) (shapes_good l ok)) room_for_all;
        table = rw (length_rows row_size dec_conn (connections_of l) (table_in l)) (few_conns l ok);
        rows = rows_fit (connections_of l) (table_in l);
        gone = first_slot l ok;
        waiting = rw (length_ring_of 32 record32 as_is (first_of l) (waiting_of l) (ring_in l)) (few_events l ok);
        records = ring_records (first_of l) (waiting_of l) (ring_in l) (first_slot l ok) (omega arith);
        id = some_id l ok;
      }

  pub suits_view : Suits (view l) l
  unfolding view
  suits_view = record { fits = fits_view; lent = lent l ok; setup = refl }

  -- ---- the state that a buffer holds, written over it: nothing changes
  module _ (b : Bytes l) where
    mid_bytes : (a k i size : ℕ) → Bytes (take size (drop (i * size) (mid_of a k l)))
    mid_bytes a k i size = bytes_take size (drop (i * size) (mid_of a k l)) (bytes_drop (i * size) (mid_of a k l) (bytes_take k (drop a l) (bytes_drop a l b)))

    mid_cut : (a k i size : ℕ) → a + k ≤ state_size → i * size + size ≤ k → length (take size (drop (i * size) (mid_of a k l))) ≡ size
    mid_cut a k i size p q =
        let n = is_long l ok in
        let e : length (mid_of a k l) ≡ k = mid_long a k l (omega arith) in
        slot_long (mid_of a k l) i size (omega arith)

    head_back : head_of (view l) l ≡ head_in l
    unfolding head_of view sum
    head_back =
        let n = is_long l ok in
        let word : word_of (length (ring_of 32 record32 as_is (first_of l) (waiting_of l) (ring_in l))) (first_of l) (to_bool (fault_of l)) ≡ ring_word_of l =
        ap (λ (k : ℕ). word_of k (first_of l) (to_bool (fault_of l))) (length_ring_of 32 record32 as_is (first_of l) (waiting_of l) (ring_in l)) ∙ of_to_word (ring_word_of l) in
        let e : list_head (view l) ≡ dec_fields w_head l head_at =
        λ i.
        produced_of l
        ∷ late_of l
        ∷ max_late_of l
        ∷ next_id_of l
        ∷ word i
        ∷ length_rows row_size dec_conn (connections_of l) (table_in l) i
        ∷ [] in
        ap (λ (z : List ℕ). z ++ drop head_used (head_in l))
        (ap (enc_fields w_head) e ∙ enc_dec w_head tt l 192 b (omega arith) ∙ sym (take-take head_used 48 (drop 192 l) (omega arith)))
        ∙ take-append-drop head_used (head_in l)

    marks_same : marks_of (view l) l ≡ marks_in l
    unfolding marks_of view
    marks_same =
        let ss : List Shape = (setup_of l).assemblies in
        let c = length_assemblies l in
        let f = few_assemblies (setup_in l) (is_sound l ok) in
        let n = length_marks_in l (is_long l ok) in
        marks_back ss (marks_in l) (data_in l) (omega arith)

    table_same : table_of (view l) l ≡ table_in l
    unfolding table_of view
    table_same =
        let f = few_conns l ok in
        store_rows_lem row_size enc_conn dec_conn (connections_of l) (table_in l)
        (λ i g. enc_dec_conn (row_at (table_in l) i) (mid_bytes table_at table_size i row_size) (mid_cut table_at table_size i row_size (omega arith) (omega arith)))

    pub events_same : events_of (view l) l ≡ ring_in l
    unfolding events_of view
    events_same =
        store_ring_lem 32 record32 as_is (first_of l) (waiting_of l) (ring_in l) (first_slot l ok) (let q = length_ring_in l (is_long l ok) in omega arith)
        (λ i g. record32_own (take 32 (drop (i * 32) (ring_in l))) (mid_cut events_at events_size i 32 (omega arith) (omega arith)))

    data_same : data_of (view l) l ≡ data_in l
    unfolding data_of view
    data_same = data_back (setup_of l).assemblies (marks_in l) (data_in l)

    pub store_view : store (view l) l ≡ l
    unfolding store sum
    store_view =
        (λ i. joined (setup_in l ∷ head_back i ∷ marks_same i ∷ table_same i ∷ events_same i ∷ data_same i ∷ eds_in l ∷ []))
        ∙ ap joined (sym (regions_are l))
        ∙ joined_regions widths l (is_long l ok)
