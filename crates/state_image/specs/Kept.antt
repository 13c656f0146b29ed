-- A changed state can be stored where the state could: one law for each part that calls change; and a changed buffer keeps its bounds.
use Rattle.std.specs.Prelude.{ℕ, zero, suc, ◌+◌, ◌-◌, ◌≤◌, ◌<◌, Bool, true, false, List, [], ◌∷◌, ◌++◌, ◌≡◌, refl, length, get_or, take, drop, set}
use Rattle.std.proofs.Common.{ap, sym, ◌∙◌, arith, length-append, length-set, take-take}
use Rattle.std.proofs.lemmas.List.Edits.{sets}
use Rattle.std.proofs.Math.Seq.{length-sets}
use borrow.Rule.Slice.PartMut.{mid_of, put_mid, take_put, same_len_mid}
use mir.Val.{bool_byte}
use Rattle.base_cells.specs.Records.{of_bool}
use Rattle.base_cells.specs.Numbers.{le, put, le_bytes, length_put, le_same, le_put_same, le_put_before, le_put_after, take_sets, take_put as take-put-le}
use Rattle.base_tables.specs.Tables.{without}
use Rattle.rules.specs.State.{Content, Counters, Events, State, no_content, content_at, with_contents, with_table, with_events, with_fault, with_next_id, with_counters}
use Rattle.rules.specs.declared.Conn.{Conn}
use Rattle.state_rules.specs.Setups.{shape_in}
use Rattle.state_rules.specs.Places.{marks_at, table_at, table_size, state_size, ring_at, ring_bound, connections_at, connections_of, assemblies_of}
use Rattle.state_rules.specs.Rows.{RowFits}
use Rattle.state_rules.specs.Bits.{word_fits}
use Rattle.state_image.specs.RowsFit.{RowsFit, fits_at, fits_same, fits_set, fits_append, fits_without}
use Rattle.state_image.specs.Fits.{Records32, none, one, Fits, Suits}
use Rattle.state_image.specs.Updates.{no_conn}
use Rattle.state_image.specs.Holds.{Ready, Slotted, shape_in_lem}

-- ---- lists

pub length_without : (xs : List Conn) (i : ℕ) → length (without xs i) ≤ length xs
unfolding without
length_without [] i = omega arith
length_without (x ∷ xs) zero = omega arith
length_without (x ∷ xs) (suc i) = let e = length_without xs i in omega arith

pub records_append : (es : List (List ℕ)) (e : List ℕ) → Records32 es → length e ≡ 32 → Records32 (es ++ (e ∷ []))
records_append [] e none h = one h none
records_append (x ∷ es) e (one p r) h = one p (records_append es e r h)

pub records_drop : (es : List (List ℕ)) → Records32 es → Records32 (drop 1 es)
records_drop [] none = none
records_drop (x ∷ es) (one p r) = r

content_set : (cs : List Content) (i : ℕ) (c : Content) → length c.bytes ≡ length (get_or cs i no_content).bytes
    → (j : ℕ) → length (get_or (set cs i c) j no_content).bytes ≡ length (get_or cs j no_content).bytes
content_set [] i c e j = refl
content_set (x ∷ cs) zero c e zero = e
content_set (x ∷ cs) zero c e (suc j) = refl
content_set (x ∷ cs) (suc i) c e zero = refl
content_set (x ∷ cs) (suc i) c e (suc j) = content_set cs i c e j

-- ---- states

module _ (st : State) (l : List ℕ) (w : Suits st l) where
  abbrev f : Fits st
  f = w.fits

  pub suits_table : (cs : List Conn) → length cs ≤ 32 → RowsFit cs → Suits (with_table cs st) l
  suits_table cs p q =
      record {
        fits = record { contents = f.contents; sized = f.sized; table = p; rows = q; gone = f.gone; waiting = f.waiting; records = f.records; id = f.id };
        lent = w.lent;
        setup = w.setup;
      }

  -- a row of which nothing changes that never does
  pub suits_row : (i : ℕ) (c : Conn) → c.fixed ≡ (get_or st.table i no_conn).fixed → Suits (with_table (set st.table i c) st) l
  suits_row i c e =
      suits_table (set st.table i c) (let n = length-set st.table i c in let t = f.table in omega arith)
      (fits_set st.table i c (fits_same (get_or st.table i no_conn) c e (fits_at st.table f.rows i)) f.rows)

  pub suits_appended : (c : Conn) → RowFits c → length st.table < 32 → Suits (with_table (st.table ++ (c ∷ [])) st) l
  suits_appended c q p =
      suits_table (st.table ++ (c ∷ [])) (let e = length-append st.table (c ∷ []) in omega arith) (fits_append st.table c q f.rows)

  pub suits_removed : (i : ℕ) → Suits (with_table (without st.table i) st) l
  suits_removed i =
      suits_table (without st.table i) (let e = length_without st.table i in let t = f.table in omega arith) (fits_without st.table i f.rows)

  pub suits_contents : (cs : List Content) → length cs ≡ length st.contents
      → ((i : ℕ) → length (get_or cs i no_content).bytes ≡ length (content_at st i).bytes) → Suits (with_contents cs st) l
  suits_contents cs n e =
      record {
        fits = record { contents = n ∙ f.contents; sized = λ i. e i ∙ f.sized i; table = f.table; rows = f.rows; gone = f.gone; waiting = f.waiting; records = f.records; id = f.id };
        lent = w.lent;
        setup = w.setup;
      }

  pub suits_content : (i : ℕ) (c : Content) → length c.bytes ≡ length (content_at st i).bytes → Suits (with_contents (set st.contents i c) st) l
  suits_content i c e = suits_contents (set st.contents i c) (length-set st.contents i c) (content_set st.contents i c e)

  pub suits_events : (es : Events) → es.gone < 1024 → length es.waiting ≤ 1024 → Records32 es.waiting → Suits (with_events es st) l
  suits_events es g n r =
      record {
        fits = record { contents = f.contents; sized = f.sized; table = f.table; rows = f.rows; gone = g; waiting = n; records = r; id = f.id };
        lent = w.lent;
        setup = w.setup;
      }

  pub suits_fault : (b : Bool) → Suits (with_fault b st) l
  suits_fault b =
      record {
        fits = record { contents = f.contents; sized = f.sized; table = f.table; rows = f.rows; gone = f.gone; waiting = f.waiting; records = f.records; id = f.id };
        lent = w.lent;
        setup = w.setup;
      }

  pub suits_next_id : (v : ℕ) → 0 < v → Suits (with_next_id v st) l
  suits_next_id v p =
      record {
        fits = record { contents = f.contents; sized = f.sized; table = f.table; rows = f.rows; gone = f.gone; waiting = f.waiting; records = f.records; id = p };
        lent = w.lent;
        setup = w.setup;
      }

  pub suits_counters : (n : Counters) → Suits (with_counters n st) l
  suits_counters n =
      record {
        fits = record { contents = f.contents; sized = f.sized; table = f.table; rows = f.rows; gone = f.gone; waiting = f.waiting; records = f.records; id = f.id };
        lent = w.lent;
        setup = w.setup;
      }

-- ---- buffers

-- the same bytes before the marks: the same bounds
module _ (s s' : List ℕ) (len : length s' ≡ length s) (same : take marks_at s' ≡ take marks_at s) where
  pub ready_same : Ready s → Ready s'
  ready_same r =
      record {
        long = len ∙ r.long;
        assemblies = rw (le_same 1 s' s 0 marks_at (omega arith) same) r.assemblies;
        events = rw (le_same 4 s' s ring_at marks_at (omega arith) same) r.events;
        conns = rw (le_same 2 s' s connections_at marks_at (omega arith) same) r.conns;
      }

  pub conns_same : connections_of s' ≡ connections_of s
  conns_same = le_same 2 s' s connections_at marks_at (omega arith) same

-- the same setup: the same shapes
pub slotted_same : (s s' : List ℕ) → take 192 s' ≡ take 192 s → assemblies_of s ≤ 16 → Slotted s → Slotted s'
slotted_same s s' same b t i h =
    let n : assemblies_of s' ≡ assemblies_of s = le_same 1 s' s 0 192 (omega arith) same in
    let g : (shape_in s i).size ≤ 512 = t i (omega arith) in
    let e : shape_in s i ≡ shape_in s' i = sym (shape_in_lem s i (omega arith)) ∙ ap (λ (z : List ℕ). shape_in z i) (sym same) ∙ shape_in_lem s' i (omega arith) in
    rw e at g

-- stores behind the head, and a region put back behind it
pub ready_sets : (s : List ℕ) (at : ℕ) (bs : List ℕ) → marks_at ≤ at → Ready s → Ready (sets s at bs)
ready_sets s at bs h = ready_same s (sets s at bs) (length-sets s at bs) (take_sets marks_at s at bs h)

pub ready_mid : (s : List ℕ) (a k : ℕ) (x : List ℕ) → marks_at ≤ a → a ≤ state_size → length x ≡ length (mid_of a k s) → Ready s → Ready (put_mid a k s x)
ready_mid s a k x h g n r =
    let long = r.long in
    ready_same s (put_mid a k s x) (same_len_mid a k s x n)
    (sym (take-take marks_at a (put_mid a k s x) h) ∙ ap (take marks_at) (take_put a k s x (omega arith)) ∙ take-take marks_at a s h) r

-- the head's numbers
module _ (s : List ℕ) (r : Ready s) where
  pub ready_conns : (n : ℕ) → n ≤ 32 → Ready (put 2 s connections_at n)
  ready_conns n h =
      let long = r.long in
      record {
        long = length_put 2 s connections_at n ∙ r.long;
        assemblies = rw (le_put_before 1 2 s 0 connections_at n (omega arith)) r.assemblies;
        events = rw (le_put_before 4 2 s ring_at connections_at n (omega arith)) r.events;
        conns = rw (le_put_same 1 s connections_at n (omega arith)) h;
      }

  pub ready_ring : (v : ℕ) → v < ring_bound → Ready (put 4 s ring_at v)
  ready_ring v h =
      let long = r.long in
      record {
        long = length_put 4 s ring_at v ∙ r.long;
        assemblies = rw (le_put_before 1 4 s 0 ring_at v (omega arith)) r.assemblies;
        events = rw (le_put_same 3 s ring_at v (omega arith)) (word_fits v h).0;
        conns = rw (le_put_after 2 4 s connections_at ring_at v (omega arith)) r.conns;
      }

  -- a number that bounds nothing: a counter, the next id
  pub ready_low : (k at v : ℕ) → 192 ≤ at → at + k ≤ ring_at → Ready (put k s at v)
  ready_low k at v h g =
      record {
        long = length_put k s at v ∙ r.long;
        assemblies = rw (le_put_before 1 k s 0 at v (omega arith)) r.assemblies;
        events = rw (le_put_after 4 k s ring_at at v (omega arith)) r.events;
        conns = rw (le_put_after 2 k s connections_at at v (omega arith)) r.conns;
      }

-- ---- what a change in place keeps: the bounds, the setup, and a number of connections

pub record Kept (n : ℕ) (s s' : List ℕ) : Type 0 where
  pub ready : Ready s'
  pub setup : take 192 s' ≡ take 192 s
  pub conns : connections_of s' ≡ n

pub kept_slotted : (n : ℕ) (s s' : List ℕ) → Ready s → Kept n s s' → Slotted s → Slotted s'
kept_slotted n s s' r k = slotted_same s s' k.setup r.assemblies

-- as many assemblies as before
pub kept_few : (n : ℕ) (s s' : List ℕ) → Kept n s s' → assemblies_of s' ≡ assemblies_of s
kept_few n s s' k = le_same 1 s' s 0 192 (omega arith) k.setup

pub kept_none : (s : List ℕ) → Ready s → Kept (connections_of s) s s
kept_none s r = record { ready = r; setup = refl; conns = refl }

module _ (s : List ℕ) (r : Ready s) where
  -- stores behind the head
  pub kept_sets : (at : ℕ) (bs : List ℕ) → marks_at ≤ at → Kept (connections_of s) s (sets s at bs)
  kept_sets at bs h =
      record {
        ready = ready_sets s at bs h r;
        setup = take_sets 192 s at bs (omega arith);
        conns = conns_same s (sets s at bs) (length-sets s at bs) (take_sets marks_at s at bs h);
      }

  -- the table's region put back, and put back with another count
  module _ (x : List ℕ) (n : length x ≡ length (mid_of table_at table_size s)) where
    mid_same : (k : ℕ) → k ≤ 256 → take k (put_mid table_at table_size s x) ≡ take k s
    mid_same k h =
        let long = r.long in
        sym (take-take k 256 (put_mid table_at table_size s x) h) ∙ ap (take k) (take_put table_at table_size s x (omega arith)) ∙ take-take k 256 s h

    pub kept_table : Kept (connections_of s) s (put_mid table_at table_size s x)
    kept_table =
        record {
          ready = ready_mid s table_at table_size x (omega arith) (omega arith) n r;
          setup = mid_same 192 (omega arith);
          conns = conns_same s (put_mid table_at table_size s x) (same_len_mid table_at table_size s x n) (mid_same marks_at (omega arith));
        }

    pub kept_counted : (m : ℕ) → m ≤ 32 → Kept m s (put 2 (put_mid table_at table_size s x) connections_at m)
    kept_counted m h =
        let s₁ : List ℕ = put_mid table_at table_size s x in
        let long = kept_table.ready.long in
        record {
          ready = ready_conns s₁ kept_table.ready m h;
          setup = take-put-le 2 s₁ connections_at m 192 (omega arith) ∙ kept_table.setup;
          conns = le_put_same 1 s₁ connections_at m (omega arith);
        }

  -- one of the head's other numbers
  pub kept_low : (k at v : ℕ) → 192 ≤ at → at + k ≤ ring_at → Kept (connections_of s) s (put k s at v)
  kept_low k at v h g =
      record { ready = ready_low s r k at v h g; setup = take-put-le k s at v 192 h; conns = le_put_after 2 k s connections_at at v (omega arith) }

  -- the ring's word, and an event's record before it
  pub kept_ring : (v : ℕ) → v < ring_bound → Kept (connections_of s) s (put 4 s ring_at v)
  kept_ring v h = record { ready = ready_ring s r v h; setup = take-put-le 4 s ring_at v 192 (omega arith); conns = le_put_after 2 4 s connections_at ring_at v (omega arith) }

  pub kept_pushed : (at : ℕ) (bs : List ℕ) (v : ℕ) → marks_at ≤ at → v < ring_bound → Kept (connections_of s) s (put 4 (sets s at bs) ring_at v)
  kept_pushed at bs v h g =
      let k = kept_sets at bs h in
      let s₁ : List ℕ = sets s at bs in
      record {
        ready = ready_ring s₁ k.ready v g;
        setup = take-put-le 4 s₁ ring_at v 192 (omega arith) ∙ k.setup;
        conns = le_put_after 2 4 s₁ connections_at ring_at v (omega arith) ∙ k.conns;
      }

  -- a number behind the head
  pub kept_put : (k at v : ℕ) → marks_at ≤ at → Kept (connections_of s) s (put k s at v)
  unfolding put
  kept_put k at v h = kept_sets at (le_bytes k v) h

  -- the three counters
  pub kept_counters : (p q m : ℕ) → Kept (connections_of s) s (put 8 (put 8 (put 8 s 192 p) 200 q) 208 m)
  kept_counters p q m =
      let k₁ = kept_low 8 192 p (omega arith) (omega arith) in
      let s₁ : List ℕ = put 8 s 192 p in
      let s₂ : List ℕ = put 8 s₁ 200 q in
      let r₂ : Ready s₂ = ready_low s₁ k₁.ready 8 200 q (omega arith) (omega arith) in
      record {
        ready = ready_low s₂ r₂ 8 208 m (omega arith) (omega arith);
        setup = take-put-le 8 s₂ 208 m 192 (omega arith) ∙ take-put-le 8 s₁ 200 q 192 (omega arith) ∙ k₁.setup;
        conns = le_put_after 2 8 s₂ connections_at 208 m (omega arith) ∙ le_put_after 2 8 s₁ connections_at 200 q (omega arith) ∙ k₁.conns;
      }

-- a bool that code takes as a number
pub byte_of : (b : Bool) → bool_byte b ≡ of_bool b
byte_of true = refl
byte_of false = refl
