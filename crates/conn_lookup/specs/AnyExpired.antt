-- Whether any connection has expired, told by the least of their times.
use Rattle.std.specs.Prelude.{ℕ, ◌+◌, ◌≤◌, ◌<◌, min, Bool, true, false, ◌||◌, List, ◌≡◌, refl, ltb, drop}
use Rattle.std.proofs.Common.{ap, sym, ◌∙◌, arith, lt-ltb, le-ltb, ltb-true, ltb-false}
use Rattle.base_tables.specs.Tables.{rows_rest, rows_end}
use Rattle.rules_laws.specs.ListLaws.{by_cases}
use Rattle.rules.specs.Lists.{any}
use Rattle.rules.specs.Removal.{expired}
use Rattle.rules.specs.declared.Conn.{Conn}
use Rattle.state_rules.specs.Places.{row_size}
use Rattle.state_rules.specs.Rows.{row_at, dec_heard, dec_conn, conns_in}

below_least : (m u t : ℕ) → ltb (min m u) t ≡ ltb m t || ltb u t
below_least m u t =
    by_cases (ltb m t)
    (λ e. let h = ltb-true m t e in lt-ltb (min m u) t (omega arith) ∙ sym (ap (λ (b : Bool). b || ltb u t) e))
    (λ e. let h = ltb-false m t e in
    by_cases (ltb u t)
    (λ f. let g = ltb-true u t f in lt-ltb (min m u) t (omega arith) ∙ sym (ap (λ (b : Bool). b || ltb u t) e ∙ f))
    (λ f. let g = ltb-false u t f in le-ltb (min m u) t (omega arith) ∙ sym (ap (λ (b : Bool). b || ltb u t) e ∙ f)))

or_or : (a b c : Bool) → a || (b || c) ≡ (a || b) || c
or_or true b c = refl
or_or false b c = refl

or_false : (b : Bool) → b || false ≡ b
or_false true = refl
or_false false = refl

-- the least so far tells of the rows before i
abbrev pub ExpiredSoFar : ℕ → ℕ → List ℕ → ℕ → ℕ → Type 0
ExpiredSoFar t n r m i = any (expired t) (conns_in n r) ≡ ltb m t || any (expired t) (drop i (conns_in n r))

module _ (t n : ℕ) (r : List ℕ) where
  pub none_yet : (m : ℕ) → t ≤ m → ExpiredSoFar t n r m 0
  none_yet m h = ap (λ (b : Bool). b || any (expired t) (conns_in n r)) (sym (le-ltb m t h))

  pub one_more : (m u i least : ℕ) → i < n → u ≡ (dec_heard (row_at r i)).until → least ≡ min m u → ExpiredSoFar t n r m i → ExpiredSoFar t n r least (i + 1)
  one_more m u i least h eu em g =
      let rest : Bool = any (expired t) (drop (i + 1) (conns_in n r)) in
      g
      ∙ ap (λ (z : List Conn). ltb m t || any (expired t) z) (rows_rest row_size dec_conn n r i h)
      ∙ ap (λ (v : ℕ). ltb m t || (ltb v t || rest)) (sym eu)
      ∙ or_or (ltb m t) (ltb u t) rest
      ∙ ap (λ (b : Bool). b || rest) (sym (below_least m u t))
      ∙ ap (λ (v : ℕ). ltb v t || rest) (sym em)

  pub by_least : (m i : ℕ) → n ≤ i → ExpiredSoFar t n r m i → ltb m t ≡ any (expired t) (conns_in n r)
  by_least m i h g = sym (g ∙ ap (λ (z : List Conn). ltb m t || any (expired t) z) (rows_end row_size dec_conn n r i h) ∙ or_false (ltb m t))

-- or what was found among the rows before i tells of them
abbrev pub FoundSoFar : ℕ → ℕ → List ℕ → Bool → ℕ → Type 0
FoundSoFar t n r b i = any (expired t) (conns_in n r) ≡ b || any (expired t) (drop i (conns_in n r))

module _ (t n : ℕ) (r : List ℕ) where
  pub found_more : (b : Bool) (u i : ℕ) → i < n → u ≡ (dec_heard (row_at r i)).until → FoundSoFar t n r b i → FoundSoFar t n r (b || ltb u t) (i + 1)
  found_more b u i h eu g =
      let rest : Bool = any (expired t) (drop (i + 1) (conns_in n r)) in
      g
      ∙ ap (λ (z : List Conn). b || any (expired t) z) (rows_rest row_size dec_conn n r i h)
      ∙ ap (λ (v : ℕ). b || (ltb v t || rest)) (sym eu)
      ∙ or_or b (ltb u t) rest

  pub found_all : (b : Bool) (i : ℕ) → n ≤ i → FoundSoFar t n r b i → b ≡ any (expired t) (conns_in n r)
  found_all b i h g = sym (g ∙ ap (λ (z : List Conn). b || any (expired t) z) (rows_end row_size dec_conn n r i h) ∙ or_false b)
