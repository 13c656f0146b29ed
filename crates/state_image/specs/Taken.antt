-- The oldest event read: the oldest one's slot is the next one, and one event fewer waits. Its record's bytes stay where they are.
use Prim.Native.Nat.{ℕ, zero, suc, ◌+◌, ◌*◌, ◌-◌, ◌%◌}
use Rattle.std.specs.Prelude.{true, ◌≡◌, length, take, set}
use mathlib.Core.List.{List, [], ◌∷◌, ◌++◌}
use Rattle.std.proofs.Math.Path.{refl, ap, sym}
use Rattle.std.proofs.Common.{◌∙◌, arith, length-drop}
use Rattle.std.proofs.Math.ListN.{drop}
use Rattle.base_cells.specs.Numbers.{put}
use Rattle.base_cells.specs.Records.{enc_fields, offset, to_bool}
use Rattle.base_cells.specs.Back.{Bytes}
use Rattle.base_tables.specs.Ring.{store_ring, ring_of, length_ring_of, store_ring_lem}
use Rattle.base_tables.specs.Regions.{joined}
use Rattle.rules.specs.State.{Events, State, with_events}
use Rattle.state_rules.specs.Places.{setup_in, head_in, w_head, ring_in, eds_in, head_used, ring_at, first_of, waiting_of, fault_of}
use Rattle.state_rules.specs.Bits.{word_of}
use Rattle.state_rules.specs.Image.{record32, as_is, view, list_head, head_of, marks_of, table_of, events_of, data_of, regions_of, store, tested}
use Rattle.state_image.specs.Fits.{is_long, first_slot}
use Rattle.state_image.specs.Contents.{record32_own}
use Rattle.state_image.specs.StoreLaws.{sized, length_ring_in, slot_long}
use Rattle.state_image.specs.ViewLaws.{suits_view, store_view, events_same}
use Rattle.state_image.specs.Updates.{head_put}

abbrev pub one_taken : Events → Events
one_taken es = record { gone = (es.gone + 1) % 1024; waiting = drop 1 es.waiting }

-- the records behind the first are those that stand from the next slot on
ring_rest : (f n : ℕ) (r : List ℕ) → drop 1 (ring_of 32 record32 as_is f n r) ≡ ring_of 32 record32 as_is ((f + 1) % 1024) (n - 1) r
unfolding ring_of
ring_rest f zero r = refl
ring_rest f (suc n) r = ap (λ (k : ℕ). ring_of 32 record32 as_is ((f + 1) % 1024) k r) (let e : n ≡ suc n - 1 = omega arith in e)

module _ (l : List ℕ) (ok : tested l ≡ true) (b : Bytes l) where
  abbrev st : State
  st = view l

  rest_same : store_ring 32 record32 ((first_of l + 1) % 1024) (drop 1 (ring_of 32 record32 as_is (first_of l) (waiting_of l) (ring_in l))) (ring_in l) ≡ ring_in l
  rest_same =
      let g : ℕ = (first_of l + 1) % 1024 in
      let f = first_slot l ok in
      let q = length_ring_in l (is_long l ok) in
      ap (λ (z : List (List ℕ)). store_ring 32 record32 g z (ring_in l)) (ring_rest (first_of l) (waiting_of l) (ring_in l))
      ∙ store_ring_lem 32 record32 as_is g (waiting_of l - 1) (ring_in l) (omega arith) (omega arith)
      (λ i p. record32_own (take 32 (drop (i * 32) (ring_in l))) (slot_long (ring_in l) i 32 (omega arith)))

  count_taken : length (drop 1 (ring_of 32 record32 as_is (first_of l) (waiting_of l) (ring_in l))) ≡ waiting_of l - 1
  count_taken =
      length-drop 1 (ring_of 32 record32 as_is (first_of l) (waiting_of l) (ring_in l))
      ∙ ap (λ (n : ℕ). n - 1) (length_ring_of 32 record32 as_is (first_of l) (waiting_of l) (ring_in l))

  pub taken_stored : put 4 l ring_at (word_of (waiting_of l - 1) ((first_of l + 1) % 1024) (to_bool (fault_of l))) ≡ store (with_events (one_taken (view l).events) (view l)) l
  unfolding store head_of marks_of table_of events_of data_of offset view
  taken_stored =
      let g : ℕ = (first_of l + 1) % 1024 in
      let p : List ℕ = drop head_used (head_in l) in
      let v : ℕ = word_of (waiting_of l - 1) g (to_bool (fault_of l)) in
      let word : v ≡ word_of (length (drop 1 st.events.waiting)) g st.fault = ap (λ (k : ℕ). word_of k g (to_bool (fault_of l))) (sym count_taken) in
      let r : events_of st l ≡ store_ring 32 record32 g (drop 1 st.events.waiting) (ring_in l) = events_same l ok b ∙ sym rest_same in
      ap (λ (z : List ℕ). put 4 z ring_at v) (sym (store_view l ok b))
      ∙ head_put (regions_of st l) (list_head st) p (sized st l (suits_view l ok)) refl tt 4 v (omega arith) (omega arith)
      ∙ (λ j. joined (setup_in l ∷ (enc_fields w_head (set (list_head st) 4 (word j)) ++ p) ∷ marks_of st l ∷ table_of st l ∷ r j ∷ data_of st l ∷ eds_in l ∷ []))
