-- Changes in place, the other regions: an assembly's bytes and mark, and the ring of events.
use Prim.Native.Nat.{ℕ, zero, suc, ◌+◌, ◌*◌, ◌-◌, ◌≤◌, ◌<◌, ◌%◌}
use mathlib.Core.List.{List, [], ◌∷◌, ◌++◌, map}
use Rattle.std.specs.Prelude.{◌≡◌, get_or}
use Rattle.std.proofs.Math.Path.{refl, ap, sym}
use Rattle.std.proofs.Common.{◌∙◌, arith, length-append}
use Rattle.std.proofs.Math.ListN.{length, drop, set, length-drop, length-map, get_or-map}
use Rattle.std.proofs.Math.Seq.{sets, length-sets}
use Rattle.base_cells.specs.Numbers.{put, le_bytes}
use Rattle.base_cells.specs.Records.{enc_fields, offset}
use Rattle.base_tables.specs.Ring.{store_ring, ring_push, ring_full}
use Rattle.base_tables.specs.Slots.{store_slots, slots_set}
use Rattle.base_tables.specs.Regions.{joined, start, sized_set}
use Rattle.base_tables.specs.RegionWrites.{region_sets}
use Rattle.rules.specs.State.{Content, State, no_content, content_at, with_contents, with_events}
use Rattle.state_rules.specs.Places.{setup_in, head_in, w_head, marks_in, ring_in, data_in, eds_in, marks_at, events_at, events_size, data_from, head_used, ring_at, mark_at}
use Rattle.state_rules.specs.Bits.{word_of}
use Rattle.state_rules.specs.Image.{list_head, mark_on, marks_over, bytes_of, record32, head_of, marks_of, table_of, events_of, data_of, regions_of, store}
use Rattle.state_image.specs.Fits.{Suits}
use Rattle.state_image.specs.Contents.{marks_set, length_record32, record32_own}
use Rattle.state_image.specs.StoreLaws.{sized, few_contents, short_bytes, room, length_events_of, mark_is}
use Rattle.state_image.specs.Updates.{map_set, head_put}

-- nothing else of the bytes
bytes_same : (cs : List Content) (i : ℕ) (c : Content) → c.bytes ≡ (get_or cs i no_content).bytes → map bytes_of (set cs i c) ≡ map bytes_of cs
bytes_same [] i c e = refl
bytes_same (x ∷ cs) zero c e = ap (λ (z : List ℕ). z ∷ map bytes_of cs) e
bytes_same (x ∷ cs) (suc i) c e = ap (λ (z : List (List ℕ)). x.bytes ∷ z) (bytes_same cs i c e)

-- a full ring's records, one dropped and one behind the last
full : (es : List (List ℕ)) (e : List ℕ) (k : ℕ) (r : List ℕ) → k < 1024 → length es ≡ 1024
    → sets (store_ring 32 record32 k es r) (k * 32) (record32 e) ≡ store_ring 32 record32 ((k + 1) % 1024) (drop 1 es ++ (e ∷ [])) r
full [] e k r a b = absurd (omega arith)
full (x ∷ es) e k r a b = sym (ring_full 32 record32 length_record32 k x es e r a (omega arith))

-- the content with other bytes, and with other marks
abbrev pub with_bytes : List ℕ → Content → Content
with_bytes d c = record { bytes = d; run = c.run; notified = c.notified }

-- nothing of the marks
marks_kept : (cs : List Content) (i : ℕ) (d m : List ℕ) → marks_over (set cs i (with_bytes d (get_or cs i no_content))) m ≡ marks_over cs m
unfolding marks_over
marks_kept [] i d m = refl
marks_kept (x ∷ cs) zero d m = refl
marks_kept (x ∷ cs) (suc i) d m = ap (λ (z : List ℕ). mark_on x (get_or m 0 0) ∷ z) (marks_kept cs i d (drop 1 m))

module _ (st : State) (l : List ℕ) (w : Suits st l) where
  -- as many bytes over an assembly's
  pub bytes_stored : (i : ℕ) (d : List ℕ) → i < length st.contents → length d ≡ length (content_at st i).bytes
      → sets (store st l) (data_from + i * 512) d ≡ store (with_contents (set st.contents i (with_bytes d (content_at st i))) st) l
  unfolding store head_of marks_of table_of events_of data_of start
  bytes_stored i d p q =
      let cs : List Content = st.contents in
      let c : Content = with_bytes d (content_at st i) in
      let n : length (map bytes_of cs) ≡ length cs = length-map cs bytes_of in
      let f = few_contents st l w in
      let e : length (get_or (map bytes_of cs) i []) ≡ length d = ap length (get_or-map bytes_of cs i no_content) ∙ sym q in
      let b : length (get_or (map bytes_of cs) i []) ≤ 512 = short_bytes st l w i in
      let ed : sets (data_of st l) (i * 512) d ≡ store_slots (map bytes_of (set cs i c)) (data_in l) =
      slots_set (map bytes_of cs) (data_in l) i d (short_bytes st l w) (room st l w) (omega arith) e
      ∙ ap (λ (z : List (List ℕ)). store_slots z (data_in l)) (sym (map_set bytes_of cs i c)) in
      let em : marks_over cs (marks_in l) ≡ marks_over (set cs i c) (marks_in l) = sym (marks_kept cs i d (marks_in l)) in
      region_sets 5 (i * 512) d (sized st l w) (omega arith) (omega arith)
      ∙ (λ j. joined (setup_in l ∷ head_of st l ∷ em j ∷ table_of st l ∷ events_of st l ∷ ed j ∷ eds_in l ∷ []))

  -- an assembly's mark
  pub mark_stored : (i : ℕ) (c : Content) → i < length st.contents → c.bytes ≡ (content_at st i).bytes
      → put 1 (store st l) (marks_at + i) (mark_on c (mark_at (store st l) i)) ≡ store (with_contents (set st.contents i c) st) l
  unfolding put le_bytes store head_of marks_of table_of events_of data_of start
  mark_stored i c p q =
      let cs : List Content = st.contents in
      let f = few_contents st l w in
      ap (λ (old : ℕ). put 1 (store st l) (marks_at + i) (mark_on c old)) (mark_is st l w i (omega arith))
      ∙ region_sets 2 i (mark_on c (get_or (marks_of st l) i 0) ∷ []) (sized st l w) (omega arith) (omega arith)
      ∙ (λ j. joined (setup_in l ∷ head_of st l ∷ marks_set cs (marks_in l) i c p j ∷ table_of st l ∷ events_of st l
      ∷ store_slots (sym (bytes_same cs i c q) j) (data_in l) ∷ eds_in l ∷ []))

  -- ---- an event's record more: written into its slot, or over the oldest where 1,024 wait, then the ring's word

  event_put : (k : ℕ) (e : List ℕ) → k < 1024 → length e ≡ 32
      → sets (store st l) (events_at + k * 32) e ≡ joined (set (regions_of st l) 4 (sets (events_of st l) (k * 32) (record32 e)))
  unfolding store start
  event_put k e p n =
      region_sets 4 (k * 32) e (sized st l w) (omega arith) (omega arith)
      ∙ ap (λ (z : List ℕ). joined (set (regions_of st l) 4 (sets (events_of st l) (k * 32) z))) (sym (record32_own e n))

  -- the ring's region with other bytes, and then one of the head's numbers
  ring_counted : (x : List ℕ) (k v : ℕ) (vs : List ℕ) → length x ≡ events_size → k < 6 → offset w_head k + get_or w_head k 0 ≤ head_used → set (list_head st) k v ≡ vs
      → put (get_or w_head k 0) (joined (set (regions_of st l) 4 x)) (192 + offset w_head k) v
      ≡ joined (setup_in l ∷ (enc_fields w_head vs ++ drop head_used (head_in l)) ∷ marks_of st l ∷ table_of st l ∷ x ∷ data_of st l ∷ eds_in l ∷ [])
  unfolding head_of
  ring_counted x k v vs lx h b e =
      head_put (set (regions_of st l) 4 x) (list_head st) (drop head_used (head_in l)) (sized_set 4 x (sized st l w) lx) refl tt k v h b
      ∙ ap (λ (z : List ℕ). joined (setup_in l ∷ (enc_fields w_head z ++ drop head_used (head_in l)) ∷ marks_of st l ∷ table_of st l ∷ x ∷ data_of st l ∷ eds_in l ∷ [])) e

  pub pushed_stored : (e : List ℕ) → length e ≡ 32 → length st.events.waiting < 1024
      → put 4 (sets (store st l) (events_at + ((st.events.gone + length st.events.waiting) % 1024) * 32) e) ring_at
      (word_of (length st.events.waiting + 1) st.events.gone st.fault)
      ≡ store (with_events (record { gone = st.events.gone; waiting = st.events.waiting ++ (e ∷ []) }) st) l
  unfolding store head_of marks_of table_of events_of data_of offset
  pushed_stored e ne h =
      let g : ℕ = st.events.gone in
      let es : List (List ℕ) = st.events.waiting in
      let n : ℕ = length es in
      let x : List ℕ = sets (events_of st l) (((g + n) % 1024) * 32) (record32 e) in
      let lx : length x ≡ events_size = length-sets (events_of st l) (((g + n) % 1024) * 32) (record32 e) ∙ length_events_of st l w in
      let r : x ≡ store_ring 32 record32 g (es ++ (e ∷ [])) (ring_in l) = sym (ring_push 32 record32 g es e (ring_in l) w.fits.gone) in
      let word : ℕ = word_of (length (es ++ (e ∷ []))) g st.fault in
      ap (λ (s : List ℕ). put 4 s ring_at (word_of (n + 1) g st.fault)) (event_put ((g + n) % 1024) e (omega arith) ne)
      ∙ ring_counted x 4 (word_of (n + 1) g st.fault) (set (list_head st) 4 word) lx (omega arith) (omega arith)
      (ap (λ (k : ℕ). set (list_head st) 4 (word_of k g st.fault)) (sym (length-append es (e ∷ []))))
      ∙ (λ j. joined (setup_in l ∷ (enc_fields w_head (set (list_head st) 4 word) ++ drop head_used (head_in l)) ∷ marks_of st l ∷ table_of st l ∷ r j ∷ data_of st l ∷ eds_in l ∷ []))

  pub pushed_full_stored : (e : List ℕ) → length e ≡ 32 → length st.events.waiting ≡ 1024
      → put 4 (sets (store st l) (events_at + st.events.gone * 32) e) ring_at (word_of (length st.events.waiting) ((st.events.gone + 1) % 1024) st.fault)
      ≡ store (with_events (record { gone = (st.events.gone + 1) % 1024; waiting = drop 1 st.events.waiting ++ (e ∷ []) }) st) l
  unfolding store head_of marks_of table_of events_of data_of offset
  pushed_full_stored e ne h =
      let g : ℕ = st.events.gone in
      let g' : ℕ = (g + 1) % 1024 in
      let es : List (List ℕ) = st.events.waiting in
      let es' : List (List ℕ) = drop 1 es ++ (e ∷ []) in
      let n : length es ≡ length es' = sym (length-append (drop 1 es) (e ∷ []) ∙ (let z = length-drop 1 es in omega arith)) in
      let x : List ℕ = sets (events_of st l) (g * 32) (record32 e) in
      let lx : length x ≡ events_size = length-sets (events_of st l) (g * 32) (record32 e) ∙ length_events_of st l w in
      let r : x ≡ store_ring 32 record32 g' es' (ring_in l) = full es e g (ring_in l) w.fits.gone h in
      let word : ℕ = word_of (length es') g' st.fault in
      ap (λ (s : List ℕ). put 4 s ring_at (word_of (length es) g' st.fault)) (event_put g e w.fits.gone ne)
      ∙ ring_counted x 4 (word_of (length es) g' st.fault) (set (list_head st) 4 word) lx (omega arith) (omega arith)
      (ap (λ (k : ℕ). set (list_head st) 4 (word_of k g' st.fault)) n)
      ∙ (λ j. joined (setup_in l ∷ (enc_fields w_head (set (list_head st) 4 word) ++ drop head_used (head_in l)) ∷ marks_of st l ∷ table_of st l ∷ r j ∷ data_of st l ∷ eds_in l ∷ []))
