-- What each change in place makes of a held state.
use Rattle.std.specs.Prelude.{ℕ, ◌+◌, ◌*◌, ◌/◌, ◌-◌, ◌≤◌, ◌<◌, ◌%◌, Bool, cond, List, [], ◌∷◌, ◌++◌, ◌≡◌, refl, get_or, drop, set}
use Rattle.std.proofs.Math.Bool.{true, false}
use Rattle.std.proofs.Math.Path.{ap}
use Rattle.std.proofs.Common.{sym, ◌∙◌, length-append, length-drop}
use native.Mathlib.Omega.{arith}
use Rattle.std.proofs.Math.Dec.{ltb}
use Rattle.std.proofs.Math.ListN.{length}
use Rattle.std.proofs.lemmas.List.Edits.{sets}
use borrow.Rule.Slice.PartMut.{put_mid}
use borrow.Author.Tests.{lt-ltb, le-ltb, ltb-true, ltb-false}
use Rattle.base_cells.specs.Numbers.{le, put}
use Rattle.base_cells.specs.Records.{of_bool}
use Rattle.base_tables.specs.Tables.{without}
use Rattle.base_tables.specs.Ring.{by_cases}
use Rattle.rules.specs.Events.{max_events, oldest_gone, appended}
use Rattle.rules.specs.State.{Content, Events, State, content_at, with_contents, with_table, with_events, with_fault, with_next_id, with_counters, with_heard, with_sent}
use Rattle.rules.specs.declared.Conn.{Conn}
use Rattle.rules.specs.declared.Heard.{Heard}
use Rattle.rules.specs.declared.Sent.{Sent}
use Rattle.state_rules.specs.Places.{table_in, marks_at, table_at, table_size, events_at, data_from, row_size, next_id_at, ring_at, connections_at, ring_word_of, connections_of, mark_at, assemblies_of}
use Rattle.state_rules.specs.Rows.{enc_conn, enc_heard, enc_sent}
use Rattle.state_rules.specs.Cut.{cut}
use Rattle.state_rules.specs.RowLaws.{bit_small}
use Rattle.state_rules.specs.Bits.{word_of, mark_over}
use Rattle.state_rules.specs.Image.{store}
use Rattle.state_image.specs.Fits.{Suits}
use Rattle.state_image.specs.Updates.{no_conn, produced_stored, late_stored, max_late_stored, next_id_stored, fault_stored, heard_stored, sent_stored, appended_stored, removed_stored}
use Rattle.state_image.specs.Writes.{with_bytes, bytes_stored, mark_stored, pushed_stored, pushed_full_stored}
use Rattle.state_image.specs.Holds.{Holds, Becomes, BecomesHeld, assemblies_held, conns_held, word_held, gone_held, waiting_held, fault_held}
use Rattle.state_image.specs.Kept.{suits_counters, suits_events, records_append, records_drop}

-- ---- the head

abbrev pub produced_as : ℕ → State → State
produced_as v st = with_counters (record { produced = v; late = st.counters.late; max_late = st.counters.max_late }) st

abbrev pub late_as : ℕ → State → State
late_as v st = with_counters (record { produced = st.counters.produced; late = v; max_late = st.counters.max_late }) st

abbrev pub max_late_as : ℕ → State → State
max_late_as v st = with_counters (record { produced = st.counters.produced; late = st.counters.late; max_late = v }) st

module _ (s : List ℕ) where
  pub produced_becomes : (v : ℕ) → Becomes s (put 8 s 192 v) (produced_as v)
  produced_becomes v st l h = ap (λ (z : List ℕ). put 8 z 192 v) h.is ∙ produced_stored st l h.suits v

  pub late_becomes : (v : ℕ) → Becomes s (put 8 s 200 v) (late_as v)
  late_becomes v st l h = ap (λ (z : List ℕ). put 8 z 200 v) h.is ∙ late_stored st l h.suits v

  pub max_late_becomes : (v : ℕ) → Becomes s (put 8 s 208 v) (max_late_as v)
  max_late_becomes v st l h = ap (λ (z : List ℕ). put 8 z 208 v) h.is ∙ max_late_stored st l h.suits v

  pub next_id_becomes : (v : ℕ) → Becomes s (put 4 s next_id_at v) (with_next_id v)
  next_id_becomes v st l h = ap (λ (z : List ℕ). put 4 z next_id_at v) h.is ∙ next_id_stored st l h.suits v

  pub fault_becomes : (b : Bool) → Becomes s (put 4 s ring_at (ring_word_of s / 2 * 2 + of_bool b)) (with_fault b)
  fault_becomes b st l h =
      let f = bit_small st.fault in
      let e = word_held s st l h in
      let word : ring_word_of s / 2 * 2 + of_bool b ≡ word_of (length st.events.waiting) st.events.gone b = omega arith in
      (λ j. put 4 (h.is j) ring_at (word j)) ∙ fault_stored st l h.suits b

abbrev pub counters_as : ℕ → ℕ → ℕ → State → State
counters_as produced late max_late st = with_counters (record { produced = produced; late = late; max_late = max_late }) st

pub counters_become : (s : List ℕ) (p q m : ℕ) → Becomes s (put 8 (put 8 (put 8 s 192 p) 200 q) 208 m) (counters_as p q m)
counters_become s p q m st l h =
    let st₁ : State = produced_as p st in
    let w₁ : Suits st₁ l = suits_counters st l h.suits st₁.counters in
    let h₁ : Holds (put 8 s 192 p) st₁ l = record { is = produced_becomes s p st l h; suits = w₁ } in
    let st₂ : State = late_as q st₁ in
    let h₂ : Holds (put 8 (put 8 s 192 p) 200 q) st₂ l =
    record { is = late_becomes (put 8 s 192 p) q st₁ l h₁; suits = suits_counters st l h.suits st₂.counters } in
    max_late_becomes (put 8 (put 8 s 192 p) 200 q) m st₂ l h₂

-- ---- the table

abbrev pub heard_as : ℕ → Heard → State → State
heard_as i h st = with_table (set st.table i (with_heard h (get_or st.table i no_conn))) st

abbrev pub sent_as : ℕ → Sent → State → State
sent_as i x st = with_table (set st.table i (with_sent x (get_or st.table i no_conn))) st

abbrev pub row_added : Conn → State → State
row_added c st = with_table (st.table ++ (c ∷ [])) st

abbrev pub row_gone : ℕ → State → State
row_gone i st = with_table (without st.table i) st

module _ (s x : List ℕ) where
  pub heard_becomes : (i : ℕ) (y : Heard) → i < connections_of s → x ≡ sets (table_in s) (i * row_size + 14) (enc_heard (le 1 (table_in s) (i * row_size + 28) / 4) y)
      → Becomes s (put_mid table_at table_size s x) (heard_as i y)
  heard_becomes i y p e st l h =
      let n = conns_held s st l h in
      ap (put_mid table_at table_size s) e
      ∙ ap (λ (z : List ℕ). put_mid table_at table_size z (sets (table_in z) (i * row_size + 14) (enc_heard (le 1 (table_in z) (i * row_size + 28) / 4) y))) h.is
      ∙ heard_stored st l h.suits i y (omega arith)

  pub sent_becomes : (i : ℕ) (y : Sent) → i < connections_of s → x ≡ sets (table_in s) (i * row_size + 0) (enc_sent y) → Becomes s (put_mid table_at table_size s x) (sent_as i y)
  sent_becomes i y p e st l h =
      let n = conns_held s st l h in
      ap (put_mid table_at table_size s) e
      ∙ ap (λ (z : List ℕ). put_mid table_at table_size z (sets (table_in z) (i * row_size + 0) (enc_sent y))) h.is
      ∙ sent_stored st l h.suits i y (omega arith)

  pub added_becomes : (n : ℕ) (c : Conn) → n ≡ connections_of s → n < 32 → x ≡ sets (table_in s) (n * row_size + 0) (enc_conn c)
      → Becomes s (put 2 (put_mid table_at table_size s x) connections_at (n + 1)) (row_added c)
  added_becomes n c en p e st l h =
      let q : n ≡ length st.table = en ∙ conns_held s st l h in
      ap (λ (z : List ℕ). put 2 (put_mid table_at table_size s z) connections_at (n + 1)) e
      ∙ (λ j. put 2 (put_mid table_at table_size (h.is j) (sets (table_in (h.is j)) (q j * row_size + 0) (enc_conn c))) connections_at (q j + 1))
      ∙ appended_stored st l h.suits c (omega arith)

  pub gone_becomes : (n i : ℕ) → n ≡ connections_of s → i < n → x ≡ cut n i (table_in s)
      → BecomesHeld s (put 2 (put_mid table_at table_size s x) connections_at (n - 1)) (row_gone i)
  gone_becomes n i en p e st l o =
      let h = o.holds in
      let q : n ≡ length st.table = en ∙ conns_held s st l h in
      ap (λ (z : List ℕ). put 2 (put_mid table_at table_size s z) connections_at (n - 1)) e
      ∙ (λ j. put 2 (put_mid table_at table_size (h.is j) (cut (q j) i (table_in (h.is j)))) connections_at (q j - 1))
      ∙ removed_stored st l h.suits i (omega arith) o.fewer

-- ---- an assembly: as many other bytes, and other marks

abbrev pub bytes_as : ℕ → List ℕ → State → State
bytes_as i d st = with_contents (set st.contents i (with_bytes d (content_at st i))) st

abbrev pub marked : Bool → Bool → Content → Content
marked run notified c = record { bytes = c.bytes; run = run; notified = notified }

abbrev pub mark_as : ℕ → Bool → Bool → State → State
mark_as i run notified st = with_contents (set st.contents i (marked run notified (content_at st i))) st

module _ (s : List ℕ) (st : State) (l : List ℕ) (h : Holds s st l) where
  pub bytes_put : (i : ℕ) (d : List ℕ) → i < length st.contents → length d ≡ length (content_at st i).bytes
      → sets s (data_from + i * 512) d ≡ store (bytes_as i d st) l
  bytes_put i d p n = ap (λ (z : List ℕ). sets z (data_from + i * 512) d) h.is ∙ bytes_stored st l h.suits i d p n

  pub mark_put : (i : ℕ) (run notified : Bool) → i < length st.contents
      → put 1 s (marks_at + i) (mark_over run notified (mark_at s i)) ≡ store (mark_as i run notified st) l
  mark_put i run notified p =
      ap (λ (z : List ℕ). put 1 z (marks_at + i) (mark_over run notified (mark_at z i))) h.is
      ∙ mark_stored st l h.suits i (marked run notified (content_at st i)) p refl

-- the same as contracts say it; bytes only where there are as many
abbrev pub BytesBecome : ℕ → List ℕ → List ℕ → List ℕ → Type 0
BytesBecome i d s s' = (st : State) (l : List ℕ) → Holds s st l → length d ≡ length (content_at st i).bytes → s' ≡ store (bytes_as i d st) l

pub bytes_become : (s : List ℕ) (i : ℕ) (d : List ℕ) → i < assemblies_of s → BytesBecome i d s (sets s (data_from + i * 512) d)
bytes_become s i d p st l h n = let e = assemblies_held s st l h in bytes_put s st l h i d (omega arith) n

pub mark_becomes : (s : List ℕ) (i : ℕ) (run notified : Bool) → i < assemblies_of s
    → Becomes s (put 1 s (marks_at + i) (mark_over run notified (mark_at s i))) (mark_as i run notified)
mark_becomes s i run notified p st l h = let e = assemblies_held s st l h in mark_put s st l h i run notified (omega arith)

-- ---- an event more

-- a record behind the last, or over the oldest
abbrev pub record_pushed : List ℕ → Events → Events
record_pushed e es = appended e (cond (ltb (length es.waiting) max_events) es (oldest_gone es))

abbrev pub event_pushed : List ℕ → State → State
event_pushed e st = with_events (record_pushed e st.events) st

-- w is the ring's word
module _ (s : List ℕ) (e : List ℕ) (whole : length e ≡ 32) (w : ℕ) (ew : w ≡ ring_word_of s) where
  pub push_room : w / 2048 < 1024 → Becomes s (put 4 (sets s (events_at + ((w / 2 % 1024 + w / 2048) % 1024) * 32) e) ring_at (w + 2048)) (event_pushed e)
  unfolding appended
  push_room p st l h =
      let a : w / 2 % 1024 ≡ st.events.gone = ap (λ (v : ℕ). v / 2 % 1024) ew ∙ gone_held s st l h in
      let b : w / 2048 ≡ length st.events.waiting = ap (λ (v : ℕ). v / 2048) ew ∙ waiting_held s st l h in
      let z = word_held s st l h in
      let word : w + 2048 ≡ word_of (length st.events.waiting + 1) st.events.gone st.fault = omega arith in
      let t : ltb (length st.events.waiting) 1024 ≡ true = lt-ltb (length st.events.waiting) 1024 (omega arith) in
      (λ j. put 4 (sets (h.is j) (events_at + ((a j + b j) % 1024) * 32) e) ring_at (word j))
      ∙ pushed_stored st l h.suits e whole (omega arith)
      ∙ ap (λ (v : Bool). store (with_events (appended e (cond v st.events (oldest_gone st.events))) st) l) (sym t)

  pub push_full : 1024 ≤ w / 2048
      → Becomes s (put 4 (sets s (events_at + (w / 2 % 1024) * 32) e) ring_at (w / 2048 * 2048 + (w / 2 % 1024 + 1) % 1024 * 2 + w % 2)) (event_pushed e)
  unfolding appended oldest_gone
  push_full p st l h =
      let a : w / 2 % 1024 ≡ st.events.gone = ap (λ (v : ℕ). v / 2 % 1024) ew ∙ gone_held s st l h in
      let b : w / 2048 ≡ length st.events.waiting = ap (λ (v : ℕ). v / 2048) ew ∙ waiting_held s st l h in
      let f : w % 2 ≡ of_bool st.fault = ap (λ (v : ℕ). v % 2) ew ∙ fault_held s st l h in
      let m = h.suits.fits.waiting in
      let t : ltb (length st.events.waiting) 1024 ≡ false = le-ltb (length st.events.waiting) 1024 (omega arith) in
      (λ j. put 4 (sets (h.is j) (events_at + a j * 32) e) ring_at (b j * 2048 + (a j + 1) % 1024 * 2 + f j))
      ∙ pushed_full_stored st l h.suits e whole (omega arith)
      ∙ ap (λ (v : Bool). store (with_events (appended e (cond v st.events (oldest_gone st.events))) st) l) (sym t)

-- the state with an event more can be stored
pub suits_pushed : (st : State) (l : List ℕ) → Suits st l → (e : List ℕ) → length e ≡ 32 → Suits (event_pushed e st) l
unfolding appended oldest_gone
suits_pushed st l w e whole =
    let es : Events = st.events in
    let f = w.fits in
    let g = f.gone in
    let n = f.waiting in
    by_cases (ltb (length es.waiting) 1024)
    (λ t. let q = ltb-true (length es.waiting) 1024 t in
    rw t (suits_events st l w (record { gone = es.gone; waiting = es.waiting ++ (e ∷ []) }) g
    (let z = length-append es.waiting (e ∷ []) in omega arith) (records_append es.waiting e f.records whole)))
    (λ t.
    rw t (suits_events st l w (record { gone = (es.gone + 1) % 1024; waiting = drop 1 es.waiting ++ (e ∷ []) }) (omega arith)
    (let z = length-append (drop 1 es.waiting) (e ∷ []) in let y = length-drop 1 es.waiting in let q = ltb-false (length es.waiting) 1024 t in omega arith)
    (records_append (drop 1 es.waiting) e (records_drop es.waiting f.records) whole)))
