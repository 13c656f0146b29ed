-- The pass that counts: one row, the rows in turn, and what the rules count.
use Rattle.std.specs.Prelude.{◌≡◌, ℕ, ◌+◌, ◌-◌, ◌*◌, ◌<◌, ◌≤◌, max, Bool, true, false, cond, leb, List, [], ◌∷◌, ◌++◌, length, drop, ◌≢◌, nat_le, slice_index_or, Option, Some, None}
use Rattle.std.proofs.Math.Path.{ap, ap₂, sym}
use Rattle.std.proofs.Common.{◌∙◌, add-one, drop_of_length-le, drop-cons, length-take-le}
use native.Mathlib.Omega.{arith}
use Rattle.std.proofs.Math.ListN.{length-append, length-drop}
use borrow.Author.Tests.{le-leb, lt-leb, ne_eqb}
use Rattle.base_cells.specs.Numbers.{le, le_take}
use Rattle.base_cells.specs.Records.{of_bool}
use Rattle.base_tables.specs.Ring.{by_cases}
use Rattle.rules.specs.Lists.{keep}
use Rattle.rules.specs.State.{Setup, Content, State, no_content}
use Rattle.rules.specs.Producing.{due_by, due, late_by, late_limit, delays, greatest, input_bytes, packet, packets}
use Rattle.rules.specs.declared.Conn.{Conn}
use Rattle.state_rules.specs.Places.{table_in, state_size, connections_of, max_late_of}
use Rattle.state_rules.specs.Setups.{setup_of}
use Rattle.state_rules.specs.Rows.{dec_fixed, dec_sent, row_at}
use Rattle.state_image.specs.Holds.{Holds, conns_held, setup_held, max_late_held}
use Rattle.state_image.specs.Updates.{no_conn}
use Rattle.io_packets.specs.Steps.{Data}
use Rattle.io_packets.specs.Rows.{packet_or, row_held, long_packet}
use Rattle.io_counting.specs.declared.Tally.{Tally}
use Rattle.io_counting.specs.Tallies.{limit_of, added, tallied, tally_from, Tallies, totals, Totals}

-- ---- numbers

pub limit_none : (n m : ℕ) → n ≡ m → n ≡ 0 → 1000 ≡ limit_of m
limit_none n m e z = ap limit_of (sym z ∙ e)

pub limit_some : (n m : ℕ) → n ≡ m → (n ≢ 0) → n ≡ limit_of m
limit_some n m e z = sym (ap (λ (b : Bool). cond b 1000 n) (ne_eqb n 0 z)) ∙ ap limit_of e

pub added_is : (n d limit late worst : ℕ) (k : Tally) → late ≡ of_bool (nat_le limit d) → worst ≡ max k.worst d
    → record { need = k.need + n; count = k.count + 1; late = k.late + late; worst = worst } ≡ added n d limit k
unfolding added
added_is n d limit late worst k el ew = λ j. record { need = k.need + n; count = k.count + 1; late = k.late + el j; worst = ew j }

-- ---- row i

module _ (t limit i : ℕ) (s : List ℕ) (p : i < connections_of s) (d : Option ℕ) (ed : d ≡ (dec_sent (row_at (table_in s) i)).due) (k : Tally) where
  due_is : (st : State) (l : List ℕ) → Holds s st l → (slice_index_or st.table i no_conn).sent.due ≡ d
  due_is st l h = sym (ed ∙ ap (λ (c : Conn). c.sent.due) (row_held i s p st l h))

  not_counted : due_by t d ≡ false → Tallies t limit i s k k
  unfolding tallied
  not_counted e st l h =
      let c : Conn = slice_index_or st.table i no_conn in
      sym (ap (λ (b : Bool). cond b (added (33 + length (input_bytes st.contents c.fixed)) (late_by t c.sent.due) limit k) k) (ap (due_by t) (due_is st l h) ∙ e))

  pub count_never : d ≡ None → Tallies t limit i s k k
  count_never e = not_counted (ap (due_by t) e)

  pub count_later : (v : ℕ) → d ≡ Some v → t < v → Tallies t limit i s k k
  count_later v e q = not_counted (ap (due_by t) e ∙ lt-leb v t q)

  pub count_due : (v : ℕ) → d ≡ Some v → v ≤ t → (j : ℕ) → j ≡ (dec_fixed (row_at (table_in s) i)).input
      → (a n : ℕ) → a + n ≤ state_size → length s ≡ state_size → Data j s a n → (r : Tally) → r ≡ added (33 + n) (t - v) limit k → Tallies t limit i s k r
  unfolding tallied
  count_due v e q j ej a n inside long g r er st l h =
      let c : Conn = slice_index_or st.table i no_conn in
      let now' : due_by t c.sent.due ≡ true = ap (due_by t) (due_is st l h ∙ e) ∙ le-leb v t q in
      let by : t - v ≡ late_by t c.sent.due = sym (ap (late_by t) (due_is st l h ∙ e)) in
      let size : n ≡ length (input_bytes st.contents c.fixed) =
      sym (length-take-le n (drop a s) (rw length-drop (omega arith)))
      ∙ ap length (g st l h)
      ∙ ap (λ (m : ℕ). length (slice_index_or st.contents m no_content).bytes) (ej ∙ ap (λ (y : Conn). y.fixed.input) (row_held i s p st l h)) in
      er
      ∙ (λ x. added (33 + size x) (by x) limit k)
      ∙ sym (ap (λ (b : Bool). cond b (added (33 + length (input_bytes st.contents c.fixed)) (late_by t c.sent.due) limit k) k) now')

-- ---- the rows in turn: the rest gives the whole

abbrev pub start : ℕ → Tally
start worst = record { need = 0; count = 0; late = 0; worst = worst }

abbrev pub TallySoFar : ℕ → ℕ → ℕ → ℕ → List ℕ → Tally → Type 0
TallySoFar t limit worst i s k =
    (st : State) (l : List ℕ) → Holds s st l → tally_from t limit st.contents k (drop i st.table) ≡ tally_from t limit st.contents (start worst) st.table

module _ (t limit worst : ℕ) (s : List ℕ) where
  pub tally_start : (w : ℕ) → w ≡ worst → TallySoFar t limit worst 0 s (start w)
  tally_start w e st l h = ap (λ (n : ℕ). tally_from t limit st.contents (start n) st.table) e

  pub tally_turn : (i : ℕ) (k r : Tally) → i < connections_of s → TallySoFar t limit worst i s k → Tallies t limit i s k r → TallySoFar t limit worst (i + 1) s r
  unfolding tally_from
  tally_turn i k r p g d st l h =
      let e = conns_held s st l h in
      let cs : List Conn = st.table in
      ap₂ (λ (z : Tally) (m : ℕ). tally_from t limit st.contents z (drop m cs)) (d st l h) (add-one i)
      ∙ sym (ap (tally_from t limit st.contents k) (drop-cons cs i no_conn (omega arith)))
      ∙ g st l h

-- ---- what the rules count

module _ (t limit : ℕ) (contents : List Content) where
  abbrev counts : Tally → List Conn → Tally
  counts k cs =
      record {
        need = k.need + length (packets t contents cs);
        count = k.count + length (delays t cs);
        late = k.late + length (keep (leb limit) (delays t cs));
        worst = greatest k.worst (delays t cs);
      }

  one_more : (ds : List ℕ) (d : ℕ) → length (keep (leb limit) (d ∷ ds)) ≡ of_bool (nat_le limit d) + length (keep (leb limit) ds)
  one_more ds d = by_cases (nat_le limit d) (λ e. rw e (omega arith)) (λ e. rw e (omega arith))

  counts_nil : (k : Tally) → k ≡ counts k []
  unfolding packets
  counts_nil k = λ j. record { need = zero' k.need j; count = zero' k.count j; late = zero' k.late j; worst = k.worst }
    where
      zero' : (n : ℕ) → n ≡ n + 0
      zero' n = omega arith

  counts_out : (k : Tally) (c : Conn) (cs : List Conn) → due t c ≡ false → counts k (c ∷ cs) ≡ counts k cs
  unfolding packets
  counts_out k c cs e = rw e

  counts_in : (k : Tally) (c : Conn) (cs : List Conn) → due t c ≡ true
      → counts k (c ∷ cs) ≡ counts (added (33 + length (input_bytes contents c.fixed)) (late_by t c.sent.due) limit k) cs
  unfolding packets added packet_or
  counts_in k c cs e =
      let d : ℕ = late_by t c.sent.due in
      let pk : List ℕ = packet t (input_bytes contents c.fixed) c in
      let n : length pk ≡ 33 + length (input_bytes contents c.fixed) = ap (λ (b : Bool). length (cond b pk [])) (sym e) ∙ long_packet t contents c e in
      let whole : packets t contents (c ∷ cs) ≡ pk ++ packets t contents cs = rw e in
      let ds : delays t (c ∷ cs) ≡ d ∷ delays t cs = rw e in
      let need' : k.need + length (packets t contents (c ∷ cs)) ≡ k.need + (33 + length (input_bytes contents c.fixed)) + length (packets t contents cs) =
      let a = ap length whole in let b = length-append pk (packets t contents cs) in omega arith in
      let count' : k.count + length (delays t (c ∷ cs)) ≡ k.count + 1 + length (delays t cs) = let a = ap length ds in omega arith in
      let late' : k.late + length (keep (leb limit) (delays t (c ∷ cs))) ≡ k.late + of_bool (nat_le limit d) + length (keep (leb limit) (delays t cs)) =
      let a = ap (λ (z : List ℕ). length (keep (leb limit) z)) ds in let b = one_more (delays t cs) d in omega arith in
      λ j. record { need = need' j; count = count' j; late = late' j; worst = greatest k.worst (ds j) }

  pub tally_counts : (k : Tally) (cs : List Conn) → tally_from t limit contents k cs ≡ counts k cs
  unfolding tally_from tallied
  tally_counts k [] = counts_nil k
  tally_counts k (c ∷ cs) =
      let more : Tally = added (33 + length (input_bytes contents c.fixed)) (late_by t c.sent.due) limit k in
      by_cases (due t c)
      (λ e. ap (λ (b : Bool). tally_from t limit contents (cond b more k) cs) e ∙ tally_counts more cs ∙ sym (counts_in k c cs e))
      (λ e. ap (λ (b : Bool). tally_from t limit contents (cond b more k) cs) e ∙ tally_counts k cs ∙ sym (counts_out k c cs e))

-- ---- the whole pass

limit_held : (s : List ℕ) (st : State) (l : List ℕ) → Holds s st l → limit_of (le 4 s 36) ≡ late_limit st.setup
unfolding setup_of
limit_held s st l h = ap limit_of (sym (le_take 4 s 192 36 (omega arith)) ∙ ap (λ (u : Setup). u.late_limit) (setup_held s st l h))

from_start : (t : ℕ) (st : State) → counts t (late_limit st.setup) st.contents (start st.counters.max_late) st.table ≡ totals t st
from_start t st =
    let z : (n : ℕ) → 0 + n ≡ n = λ n. omega arith in
    let x : Tally = totals t st in
    λ j. record { need = z x.need j; count = z x.count j; late = z x.late j; worst = x.worst }

pub tally_end : (t limit worst i : ℕ) (s : List ℕ) (k : Tally) → limit ≡ limit_of (le 4 s 36) → worst ≡ max_late_of s → connections_of s ≤ i → TallySoFar t limit worst i s k → Totals t s k
unfolding tally_from
tally_end t limit worst i s k el ew p g st l h =
    let e = conns_held s st l h in
    let cs : List Conn = st.table in
    let none : k ≡ tally_from t limit st.contents k (drop i cs) = sym (ap (tally_from t limit st.contents k) (drop_of_length-le cs {i = i} (omega arith))) in
    none ∙ g st l h
    ∙ (λ j. tally_from t ((el ∙ limit_held s st l h) j) st.contents (start ((ew ∙ max_late_held s st l h) j)) cs)
    ∙ tally_counts t (late_limit st.setup) st.contents (start st.counters.max_late) cs
    ∙ from_start t st
