-- Whether any connection is due, told by the least of the due numbers less one, modulo 2^64.
use Rattle.std.specs.Prelude.{◌≡◌, ℕ, ◌+◌, ◌%◌, ◌<◌, ◌≤◌, min, Bool, true, false, ◌||◌, leb, List, drop, nat_le, refl, Option, Some, None}
use Rattle.std.proofs.Common.{ap, sym, ◌∙◌, arith, le-leb, leb-true, leb-false}
use Rattle.std.proofs.lemmas.Bool.{lt-leb}
use Rattle.base_tables.specs.Ring.{by_cases}
use Rattle.base_tables.specs.Tables.{rows_rest, rows_end}
use Rattle.rules.specs.Lists.{any}
use Rattle.rules.specs.Producing.{due_by, due}
use Rattle.rules.specs.declared.Conn.{Conn}
use Rattle.state_rules.specs.Places.{row_size}
use Rattle.state_rules.specs.Rows.{of_due, row_at, dec_sent, dec_conn, conns_in}

-- one less than the due number, as code takes it: never wraps to the largest number
abbrev less_one : ℕ → ℕ
less_one n = (n + 18446744073709551615) % 18446744073709551616

reached_by : (n t : ℕ) (d : Option ℕ) → n < 18446744073709551616 → t < 9223372036854775808 → n ≡ of_due d → nat_le (less_one n) t ≡ due_by t d
reached_by n t None hn ht e = lt-leb (less_one n) t (omega arith)
reached_by n t (Some d) hn ht e = let z : less_one n ≡ d = omega arith in ap (λ (k : ℕ). leb k t) z

least_reached : (m v t : ℕ) → nat_le (min m v) t ≡ nat_le m t || nat_le v t
least_reached m v t =
    by_cases (nat_le m t)
    (λ e. let h = leb-true m t e in le-leb (min m v) t (omega arith) ∙ sym (ap (λ (b : Bool). b || nat_le v t) e))
    (λ e. let h = leb-false m t e in
    by_cases (nat_le v t)
    (λ f. let g = leb-true v t f in le-leb (min m v) t (omega arith) ∙ sym (ap (λ (b : Bool). b || nat_le v t) e ∙ f))
    (λ f. let g = leb-false v t f in lt-leb (min m v) t (omega arith) ∙ sym (ap (λ (b : Bool). b || nat_le v t) e ∙ f)))

or_or : (a b c : Bool) → a || (b || c) ≡ (a || b) || c
or_or true b c = refl
or_or false b c = refl

or_false : (b : Bool) → b || false ≡ b
or_false true = refl
or_false false = refl

-- the least so far tells of the rows before i
abbrev pub DueSoFar : ℕ → ℕ → List ℕ → ℕ → ℕ → Type 0
DueSoFar t n r m i = any (due t) (conns_in n r) ≡ nat_le m t || any (due t) (drop i (conns_in n r))

module _ (t n : ℕ) (r : List ℕ) where
  pub none_yet : (m : ℕ) → t < m → DueSoFar t n r m 0
  none_yet m h = ap (λ (b : Bool). b || any (due t) (conns_in n r)) (sym (lt-leb m t h))

  pub one_more : (m d i least : ℕ) → i < n → d ≡ of_due (dec_sent (row_at r i)).due → d < 18446744073709551616
      → t < 9223372036854775808 → least ≡ min m ((d + 18446744073709551615) % 18446744073709551616) → DueSoFar t n r m i → DueSoFar t n r least (i + 1)
  one_more m d i least h ed hd ht em g =
      let rest : Bool = any (due t) (drop (i + 1) (conns_in n r)) in
      let v : ℕ = less_one d in
      g
      ∙ ap (λ (z : List Conn). nat_le m t || any (due t) z) (rows_rest row_size dec_conn n r i h)
      ∙ ap (λ (b : Bool). nat_le m t || (b || rest)) (sym (reached_by d t (dec_sent (row_at r i)).due hd ht ed))
      ∙ or_or (nat_le m t) (nat_le v t) rest
      ∙ ap (λ (b : Bool). b || rest) (sym (least_reached m v t))
      ∙ ap (λ (k : ℕ). nat_le k t || rest) (sym em)

  pub by_least : (m i : ℕ) → n ≤ i → DueSoFar t n r m i → nat_le m t ≡ any (due t) (conns_in n r)
  by_least m i h g = sym (g ∙ ap (λ (z : List Conn). nat_le m t || any (due t) z) (rows_end row_size dec_conn n r i h) ∙ or_false (nat_le m t))
