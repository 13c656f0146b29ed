-- Changes in place: what code does to the bytes of a stored state is the store of the changed state.
use Rattle.std.specs.Prelude.{ℕ, zero, suc, ◌+◌, ◌*◌, ◌/◌, ◌-◌, ◌≤◌, ◌<◌, Bool, ◌≡◌, T, set}
use mathlib.Core.List.{List, [], ◌∷◌, ◌++◌, map}
use Rattle.std.proofs.Math.Path.{refl, ap, sym}
use Rattle.std.proofs.Common.{◌∙◌, length-append, length-set}
use native.Mathlib.Omega.{arith}
use Rattle.std.proofs.Math.ListN.{length, get_or, drop}
use Rattle.std.proofs.Math.Seq.{sets, length-sets}
use borrow.Rule.Slice.PartMut.{put_mid}
use Rattle.base_cells.specs.Numbers.{le, put, le_bytes, length_le_bytes, sets_left}
use Rattle.base_cells.specs.Records.{enc_fields, sum, offset, Laid, length_enc_fields}
use Rattle.base_tables.specs.Tables.{without}
use Rattle.base_tables.specs.Store.{store_rows_set, row_stored}
use Rattle.base_tables.specs.Grow.{store_rows_push, store_rows_cut}
use Rattle.base_tables.specs.Slots.{enc_set}
use Rattle.base_tables.specs.Regions.{joined, Sized, start, region_put, sized_set}
use Rattle.base_tables.specs.RegionWrites.{region_sets}
use Rattle.rules.specs.State.{State, with_table, with_fault, with_next_id, with_counters, with_heard, with_sent}
use Rattle.rules.specs.declared.Conn.{Conn}
use Rattle.rules.specs.declared.Heard.{Heard}
use Rattle.rules.specs.declared.Sent.{Sent}
use Rattle.state_rules.specs.Places.{widths, setup_in, head_in, w_head, table_in, eds_in, table_at, table_size, row_size, head_used, next_id_at, ring_at, connections_at, connections_of}
use Rattle.state_rules.specs.Rows.{enc_conn, enc_heard, enc_sent, carried_of, flags_of, dec_conn}
use Rattle.state_rules.specs.RowLaws.{length_enc_conn, length_enc_heard, length_enc_sent, enc_heard_lem, enc_sent_lem, flags_stored, in_row, bit_small}
use Rattle.state_rules.specs.Cut.{cut, length_cut}
use Rattle.state_rules.specs.Bits.{word_of}
use Rattle.state_rules.specs.Image.{list_head, head_of, marks_of, table_of, events_of, data_of, regions_of, store}
use Rattle.state_image.specs.Fits.{Suits}
use Rattle.state_image.specs.StoreLaws.{sized, table_of_store, length_table_in, length_table_of}

-- what is at a place past the table
abbrev pub no_conn : Conn
no_conn = dec_conn []

pub map_set : {A B : Type 0} (f : A → B) (l : List A) (i : ℕ) (a : A) → map f (set l i a) ≡ set (map f l) i (f a)
map_set f [] i a = refl
map_set f (x ∷ l) zero a = refl
map_set f (x ∷ l) (suc i) a = ap (λ z. f x ∷ z) (map_set f l i a)

set_own : {A : Type 0} (l : List A) (i : ℕ) (d : A) → set l i (get_or l i d) ≡ l
set_own [] i d = refl
set_own (x ∷ l) zero d = refl
set_own (x ∷ l) (suc i) d = ap (λ z. x ∷ z) (set_own l i d)

fewer : (xs : List Conn) (i : ℕ) → i < length xs → length xs - 1 ≡ length (without xs i)
unfolding without
fewer [] i h = elim h [ ]
fewer (x ∷ xs) zero h = omega arith
fewer (x ∷ xs) (suc i) h = let e = fewer xs i (omega arith) in omega arith

-- one number of the head
pub head_put : (rs : List (List ℕ)) (vs p : List ℕ) → Sized widths rs → get_or rs 1 [] ≡ enc_fields w_head vs ++ p → T (Laid w_head vs)
    → (k v : ℕ) → k < 6 → offset w_head k + get_or w_head k 0 ≤ head_used
    → put (get_or w_head k 0) (joined rs) (192 + offset w_head k) v ≡ joined (set rs 1 (enc_fields w_head (set vs k v) ++ p))
unfolding put start sum
head_put rs vs p z e t k v h b =
    let bs : List ℕ = le_bytes (get_or w_head k 0) v in
    let n : length bs ≡ get_or w_head k 0 = length_le_bytes (get_or w_head k 0) v in
    let m : length (enc_fields w_head vs) ≡ head_used = length_enc_fields w_head vs t in
    region_sets 1 (offset w_head k) bs z (omega arith) (omega arith)
    ∙ ap (λ (x : List ℕ). joined (set rs 1 x))
    (ap (λ (x : List ℕ). sets x (offset w_head k) bs) e
    ∙ sets_left (enc_fields w_head vs) p (offset w_head k) bs (omega arith)
    ∙ ap (λ (x : List ℕ). x ++ p) (enc_set w_head vs t k v h))

module _ (st : State) (l : List ℕ) (w : Suits st l) where
  -- ---- the head

  pub produced_stored : (v : ℕ) → put 8 (store st l) 192 v ≡ store (with_counters (record { produced = v; late = st.counters.late; max_late = st.counters.max_late }) st) l
  unfolding store head_of marks_of table_of events_of data_of offset
  produced_stored v = head_put (regions_of st l) (list_head st) (drop head_used (head_in l)) (sized st l w) refl tt 0 v (omega arith) (omega arith)

  pub late_stored : (v : ℕ) → put 8 (store st l) 200 v ≡ store (with_counters (record { produced = st.counters.produced; late = v; max_late = st.counters.max_late }) st) l
  unfolding store head_of marks_of table_of events_of data_of offset
  late_stored v = head_put (regions_of st l) (list_head st) (drop head_used (head_in l)) (sized st l w) refl tt 1 v (omega arith) (omega arith)

  pub max_late_stored : (v : ℕ) → put 8 (store st l) 208 v ≡ store (with_counters (record { produced = st.counters.produced; late = st.counters.late; max_late = v }) st) l
  unfolding store head_of marks_of table_of events_of data_of offset
  max_late_stored v = head_put (regions_of st l) (list_head st) (drop head_used (head_in l)) (sized st l w) refl tt 2 v (omega arith) (omega arith)

  pub next_id_stored : (v : ℕ) → put 4 (store st l) next_id_at v ≡ store (with_next_id v st) l
  unfolding store head_of marks_of table_of events_of data_of offset
  next_id_stored v = head_put (regions_of st l) (list_head st) (drop head_used (head_in l)) (sized st l w) refl tt 3 v (omega arith) (omega arith)

  pub fault_stored : (b : Bool) → put 4 (store st l) ring_at (word_of (length st.events.waiting) st.events.gone b) ≡ store (with_fault b st) l
  unfolding store head_of marks_of table_of events_of data_of offset
  fault_stored b =
      head_put (regions_of st l) (list_head st) (drop head_used (head_in l)) (sized st l w) refl tt 4 (word_of (length st.events.waiting) st.events.gone b) (omega arith) (omega arith)

  -- ---- a row of the table

  -- the table's region put back with other bytes, of as many rows
  table_changed : (x : List ℕ) (cs : List Conn) → length cs ≡ length st.table → x ≡ table_of (with_table cs st) l
      → put_mid table_at table_size (store st l) x ≡ store (with_table cs st) l
  unfolding store head_of marks_of table_of events_of data_of start
  table_changed x cs n e =
      region_put 3 x (sized st l w) (omega arith)
      ∙ (λ j. joined (setup_in l ∷ (enc_fields w_head (set (list_head st) 5 (sym n j)) ++ drop head_used (head_in l)) ∷ marks_of st l ∷ e j ∷ events_of st l ∷ data_of st l ∷ eds_in l ∷ []))

  -- multicast and the input, which stand in a row's flags
  pub carried_stored : (i : ℕ) → i < length st.table → le 1 (table_of st l) (i * row_size + 28) / 4 ≡ carried_of (get_or st.table i no_conn).fixed
  unfolding table_of
  carried_stored i p =
      let c : Conn = get_or st.table i no_conn in
      let a = bit_small c.heard.any in let b = bit_small c.heard.anycip in
      let e : le 1 (table_of st l) (i * row_size + 28) ≡ flags_of (carried_of c.fixed) c.heard =
      sym (in_row 1 row_size 28 (table_of st l) (i * row_size) (omega arith))
      ∙ ap (λ (z : List ℕ). le 1 z 28) (row_stored row_size enc_conn length_enc_conn (connections_of l) st.table (table_in l) i no_conn p)
      ∙ flags_stored c in
      omega arith

  heard_row : (i : ℕ) (h : Heard) → i < length st.table
      → sets (table_of st l) (i * row_size + 14) (enc_heard (carried_of (get_or st.table i no_conn).fixed) h)
      ≡ table_of (with_table (set st.table i (with_heard h (get_or st.table i no_conn))) st) l
  unfolding table_of
  heard_row i h p =
      let c : Conn = get_or st.table i no_conn in
      store_rows_set row_size enc_conn length_enc_conn (connections_of l) st.table (table_in l) i 14 (enc_heard (carried_of c.fixed) h) (with_heard h c) no_conn p
      (let e = length_enc_heard (carried_of c.fixed) h in omega arith) (enc_heard_lem c h)

  pub heard_stored : (i : ℕ) (h : Heard) → i < length st.table
      → put_mid table_at table_size (store st l) (sets (table_in (store st l)) (i * row_size + 14) (enc_heard (le 1 (table_in (store st l)) (i * row_size + 28) / 4) h))
      ≡ store (with_table (set st.table i (with_heard h (get_or st.table i no_conn))) st) l
  heard_stored i h p =
      let c : Conn = get_or st.table i no_conn in
      ap (λ (z : List ℕ). put_mid table_at table_size (store st l) (sets z (i * row_size + 14) (enc_heard (le 1 z (i * row_size + 28) / 4) h))) (table_of_store st l w)
      ∙ ap (λ (n : ℕ). put_mid table_at table_size (store st l) (sets (table_of st l) (i * row_size + 14) (enc_heard n h))) (carried_stored i p)
      ∙ table_changed (sets (table_of st l) (i * row_size + 14) (enc_heard (carried_of c.fixed) h)) (set st.table i (with_heard h c))
      (length-set st.table i (with_heard h c)) (heard_row i h p)

  sent_row_lem : (i : ℕ) (x : Sent) → i < length st.table
      → sets (table_of st l) (i * row_size + 0) (enc_sent x) ≡ table_of (with_table (set st.table i (with_sent x (get_or st.table i no_conn))) st) l
  unfolding table_of
  sent_row_lem i x p =
      let c : Conn = get_or st.table i no_conn in
      store_rows_set row_size enc_conn length_enc_conn (connections_of l) st.table (table_in l) i 0 (enc_sent x) (with_sent x c) no_conn p
      (let e = length_enc_sent x in omega arith) (enc_sent_lem c x)

  pub sent_stored : (i : ℕ) (x : Sent) → i < length st.table
      → put_mid table_at table_size (store st l) (sets (table_in (store st l)) (i * row_size + 0) (enc_sent x))
      ≡ store (with_table (set st.table i (with_sent x (get_or st.table i no_conn))) st) l
  sent_stored i x p =
      let c : Conn = get_or st.table i no_conn in
      ap (λ (z : List ℕ). put_mid table_at table_size (store st l) (sets z (i * row_size + 0) (enc_sent x))) (table_of_store st l w)
      ∙ table_changed (sets (table_of st l) (i * row_size + 0) (enc_sent x)) (set st.table i (with_sent x c)) (length-set st.table i (with_sent x c)) (sent_row_lem i x p)

  -- ---- a row more, and a row less: the table's region put back, then the count

  table_counted : (x : List ℕ) (n : ℕ) (cs : List Conn) → n ≡ length cs → x ≡ table_of (with_table cs st) l → length x ≡ table_size
      → put 2 (put_mid table_at table_size (store st l) x) connections_at n ≡ store (with_table cs st) l
  unfolding store head_of marks_of table_of events_of data_of start offset
  table_counted x n cs en ex lx =
      let z : Sized widths (set (regions_of st l) 3 x) = sized_set 3 x (sized st l w) lx in
      ap (λ (s : List ℕ). put 2 s connections_at n) (region_put 3 x (sized st l w) (omega arith))
      ∙ head_put (set (regions_of st l) 3 x) (list_head st) (drop head_used (head_in l)) z refl tt 5 n (omega arith) (omega arith)
      ∙ (λ j. joined (setup_in l ∷ (enc_fields w_head (set (list_head st) 5 (en j)) ++ drop head_used (head_in l)) ∷ marks_of st l ∷ ex j ∷ events_of st l ∷ data_of st l ∷ eds_in l ∷ []))

  appended_row : (c : Conn) → length st.table < 32
      → sets (table_of st l) (length st.table * row_size + 0) (enc_conn c) ≡ table_of (with_table (st.table ++ (c ∷ [])) st) l
  unfolding table_of
  appended_row c p =
      let n = length_table_in l w.lent.long in
      ap (λ (k : ℕ). sets (table_of st l) k (enc_conn c)) (let q : length st.table * row_size + 0 ≡ length st.table * row_size = omega arith in q)
      ∙ store_rows_push row_size enc_conn length_enc_conn (connections_of l) st.table c (table_in l) (omega arith)

  pub appended_stored : (c : Conn) → length st.table < 32
      → put 2 (put_mid table_at table_size (store st l) (sets (table_in (store st l)) (length st.table * row_size + 0) (enc_conn c))) connections_at (length st.table + 1)
      ≡ store (with_table (st.table ++ (c ∷ [])) st) l
  appended_stored c p =
      let n : ℕ = length st.table in
      let x : List ℕ = sets (table_of st l) (n * row_size + 0) (enc_conn c) in
      ap (λ (z : List ℕ). put 2 (put_mid table_at table_size (store st l) (sets z (n * row_size + 0) (enc_conn c))) connections_at (n + 1)) (table_of_store st l w)
      ∙ table_counted x (n + 1) (st.table ++ (c ∷ [])) (sym (length-append st.table (c ∷ []))) (appended_row c p)
      (length-sets (table_of st l) (n * row_size + 0) (enc_conn c) ∙ length_table_of st l w)

  removed_rows : (i : ℕ) → i < length st.table → length st.table ≤ connections_of l
      → cut (length st.table) i (table_of st l) ≡ table_of (with_table (without st.table i) st) l
  unfolding table_of cut
  removed_rows i p h = store_rows_cut row_size enc_conn length_enc_conn (connections_of l) st.table (table_in l) i p h

  pub removed_stored : (i : ℕ) → i < length st.table → length st.table ≤ connections_of l
      → put 2 (put_mid table_at table_size (store st l) (cut (length st.table) i (table_in (store st l)))) connections_at (length st.table - 1)
      ≡ store (with_table (without st.table i) st) l
  removed_stored i p h =
      let n : ℕ = length st.table in
      let x : List ℕ = cut n i (table_of st l) in
      let lt = length_table_of st l w in
      let f = w.fits.table in
      ap (λ (z : List ℕ). put 2 (put_mid table_at table_size (store st l) (cut n i z)) connections_at (n - 1)) (table_of_store st l w)
      ∙ table_counted x (n - 1) (without st.table i) (fewer st.table i p) (removed_rows i p h)
      (length_cut (table_of st l) n i p f (omega arith) ∙ lt)
