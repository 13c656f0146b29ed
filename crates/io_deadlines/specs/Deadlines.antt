-- The laws of the walk along the table, and of each way out.
use Rattle.std.specs.Prelude.{◌≡◌, ℕ, zero, suc, ◌+◌, ◌%◌, ◌<◌, ◌≤◌, min, true, false, List, [], ◌∷◌, length, drop, ◌≢◌, nat_le, refl, Option, Some, None}
use Rattle.std.proofs.Common.{ap, sym, ◌∙◌}
use native.Mathlib.Omega.{arith}
use borrow.Author.Tests.{le-leb, lt-leb}
use Rattle.base_cells.specs.Numbers.{put, le_bytes, length_le_bytes}
use Rattle.base_tables.specs.Tables.{rows, rows_rest, rows_end}
use Rattle.rules.specs.State.{State}
use Rattle.rules.specs.declared.Conn.{Conn}
use Rattle.rules.specs.Lists.{maybe}
use Rattle.rules.specs.Answers.{Wrote, Refused, fitting, answer_number}
use Rattle.rules.specs.Removal.{due_or, deadline_of, least_of, deadline, deadline_answer}
use Rattle.state_rules.specs.Places.{table_in, row_size, connections_of}
use Rattle.state_rules.specs.Rows.{of_due, dec_heard, dec_sent, dec_conn, conn_at, conns_in}
use Rattle.state_image.specs.Holds.{Holds, conns_held, table_held}
use Rattle.io_deadlines.specs.Reading.{Answered, Answers}
use Rattle.rules.specs.declared.No.TheVariants.{NothingThere}

-- a row's own deadline: one less than the due number, modulo 2^64
least_due : (u n : ℕ) (d : Option ℕ) → u ≤ 18446744073709551615 → n ≤ 18446744073709551615 → n ≡ of_due d → min u ((n + 18446744073709551615) % 18446744073709551616) ≡ due_or u d
least_due u n None hu hn e = omega arith
least_due u n (Some t) hu hn e = omega arith

pub row_least : (b : List ℕ) (u d x : ℕ) → u ≡ (dec_heard b).until → d ≡ of_due (dec_sent b).due → x ≡ min u ((d + 18446744073709551615) % 18446744073709551616)
    → u ≤ 18446744073709551615 → d ≤ 18446744073709551615 → x ≡ deadline_of (dec_conn b)
row_least b u d x eu ed ex hu hd = ex ∙ least_due u d (dec_sent b).due hu hd ed ∙ ap (λ (z : ℕ). due_or z (dec_sent b).due) eu

module _ (n : ℕ) (r : List ℕ) where
  pub least_turn : (m x i : ℕ) → i < n → x ≡ deadline_of (conn_at r i)
      → least_of m (drop i (conns_in n r)) ≡ least_of (min m x) (drop (i + 1) (conns_in n r))
  least_turn m x i h e =
      ap (least_of m) (rows_rest row_size dec_conn n r i h)
      ∙ ap (λ (y : ℕ). least_of (min m y) (drop (i + 1) (conns_in n r))) (sym e)

  pub least_end : (m i : ℕ) → n ≤ i → least_of m (drop i (conns_in n r)) ≡ m
  least_end m i h = ap (least_of m) (rows_end row_size dec_conn n r i h)

pub least_whole : (n : ℕ) (r : List ℕ) (m : ℕ) → 0 < n → m ≡ deadline_of (conn_at r 0)
    → deadline (conns_in n r) ≡ Some (least_of m (drop 1 (conns_in n r)))
unfolding rows
least_whole zero r m h e = absurd (omega arith)
least_whole (suc n) r m h e = ap (λ (y : ℕ). Some (least_of y (conns_in n (drop row_size r)))) (sym e)

empty : (cs : List Conn) → length cs ≡ 0 → deadline cs ≡ None
empty [] e = refl
empty (c ∷ cs) e = absurd (omega arith)

module _ (s out : List ℕ) (n : ℕ) (en : n ≡ connections_of s) where
  pub none_waits : n ≡ 0 → Answers deadline_answer s out 9 out
  unfolding deadline_answer answer_number
  none_waits z st l h =
      let e : deadline st.table ≡ None = empty st.table (let k = conns_held s st l h in omega arith) in
      record { number = rw e; bytes = rw e }

  module _ (x : ℕ) (ex : deadline (conns_in n (table_in s)) ≡ Some x) where
    is : (st : State) (l : List ℕ) → Holds s st l → deadline st.table ≡ Some x
    is st l h = ap deadline (sym (ap (λ (k : ℕ). conns_in k (table_in s)) en ∙ table_held s st l h)) ∙ ex

    pub answered : 8 ≤ length out → (out' : List ℕ) → out' ≡ put 8 out 0 x → Answers deadline_answer s out 2048 out'
    unfolding deadline_answer answer_number put
    answered p out' e st l h =
        let k : length (le_bytes 8 x) ≡ 8 = length_le_bytes 8 x in
        let b : nat_le (length (le_bytes 8 x)) (length out) ≡ true = le-leb (length (le_bytes 8 x)) (length out) (omega arith) in
        record { number = rw (is st l h, b) (omega arith); bytes = e ∙ rw (is st l h, b) }

  some_waits : (cs : List Conn) → 0 < length cs → (Q : Option ℕ → Type 0) → ((x : ℕ) → Q (Some x)) → Q (deadline cs)
  some_waits [] p Q f = absurd (omega arith)
  some_waits (c ∷ cs) p Q f = f (least_of (deadline_of c) cs)

  pub short : (n ≢ 0) → length out < 8 → Answers deadline_answer s out 8 out
  unfolding deadline_answer answer_number
  short z p st l h =
      some_waits st.table (let k = conns_held s st l h in by_ne (length st.table) (λ e. z (en ∙ k ∙ e)))
      (λ o. Answered (maybe (Refused NothingThere) (λ t. fitting (length out) (le_bytes 8 t) (Wrote (le_bytes 8 t))) o) out 8 out)
      (λ x.
      let k : length (le_bytes 8 x) ≡ 8 = length_le_bytes 8 x in
      let b : nat_le (length (le_bytes 8 x)) (length out) ≡ false = lt-leb (length (le_bytes 8 x)) (length out) (omega arith) in
      record { number = rw b; bytes = rw b })
    where
      by_ne : (k : ℕ) → (k ≢ 0) → 0 < k
      by_ne zero f = absurd (f refl)
      by_ne (suc k) f = omega arith
