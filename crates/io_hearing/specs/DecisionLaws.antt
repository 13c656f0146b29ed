-- One law for each way out of the functions that decide.
use Rattle.std.specs.Prelude.{ℕ, ◌+◌, ◌≤◌, ◌<◌, Bool, true, false, not, ◌&&◌, ◌||◌, List, ◌≡◌, refl, eqb, leb}
use Rattle.std.proofs.Common.{ap, ◌∙◌, arith}
use borrow.Author.Tests.{le-leb, lt-leb}
use Rattle.base_ids.specs.declared.OtId.{OtId}
use Rattle.rules.specs.Receiving.{ahead, newer}
use Rattle.rules.specs.declared.Heard.{Heard}
use Rattle.state_rules.specs.Rows.{dec_conn, conn_at}
use Rattle.state_rules.specs.Places.{row_size}
use Rattle.state_searches.specs.Searches.{search_miss}
use Rattle.io_hearing.specs.Decisions.{has_id, hears, id_in_four, place_from}

-- ---- four rows at once

pub four_is : (id : OtId) (r : List ℕ) (i : ℕ) (a b c d : OtId) → a ≡ (conn_at r i).fixed.otid → b ≡ (conn_at r (i + 1)).fixed.otid
    → c ≡ (conn_at r (i + 2)).fixed.otid → d ≡ (conn_at r (i + 3)).fixed.otid
    → (eqb a.0 id.0 || eqb b.0 id.0) || (eqb c.0 id.0 || eqb d.0 id.0) ≡ id_in_four id r i
four_is id r i a b c d ea eb ec ed = λ j. (eqb (ea j).0 id.0 || eqb (eb j).0 id.0) || (eqb (ec j).0 id.0 || eqb (ed j).0 id.0)

true_false : {P : Type 0} → ◌≡◌ {A = Bool} true false → P
true_false e = absurd (let z : ◌≡◌ {A = ℕ} 0 1 = cc in omega arith)

-- of four, none
none_of : (a b c d : Bool) → (a || b) || (c || d) ≡ false → (a ≡ false) × (b ≡ false) × (c ≡ false) × (d ≡ false)
none_of true b c d e = true_false e
none_of false true c d e = true_false e
none_of false false true d e = true_false e
none_of false false false true e = true_false e
none_of false false false false e = (refl, refl, refl, refl)

-- a row with another id is passed over; and four of them
module _ (id : OtId) (from n : ℕ) (r : List ℕ) where
  row_passed : (i : ℕ) → i < n → has_id id (conn_at r i) ≡ false → place_from id from n r i ≡ place_from id from n r (i + 1)
  row_passed i h e =
      search_miss row_size dec_conn (hears id from) n r i h (ap (λ (b : Bool). b && eqb (conn_at r i).fixed.originator from) e)

  pub four_passed : (i : ℕ) → i + 4 ≤ n → id_in_four id r i ≡ false → place_from id from n r i ≡ place_from id from n r (i + 4)
  four_passed i h e =
      let z = none_of (has_id id (conn_at r i)) (has_id id (conn_at r (i + 1))) (has_id id (conn_at r (i + 2))) (has_id id (conn_at r (i + 3))) e in
      let to : (j k : ℕ) → j ≡ k → place_from id from n r j ≡ place_from id from n r k = λ j k q. ap (place_from id from n r) q in
      row_passed i (omega arith) z.0
      ∙ row_passed (i + 1) (omega arith) z.1
      ∙ to (i + 1 + 1) (i + 2) (omega arith)
      ∙ row_passed (i + 2) (omega arith) z.2
      ∙ to (i + 2 + 1) (i + 3) (omega arith)
      ∙ row_passed (i + 3) (omega arith) z.3
      ∙ to (i + 3 + 1) (i + 4) (omega arith)

-- ---- sequences

module _ (h : Heard) (q : ℕ) where
  pub newer_first : h.any ≡ false → not h.any ≡ newer h q
  unfolding newer
  newer_first e = simp e

  -- how far ahead it is, as code takes it
  module _ (e : h.any ≡ true) (a : ℕ) (f : ahead h.sequence q ≡ a) where
    pub newer_low : a < 1 → leb 1 a ≡ newer h q
    unfolding newer
    newer_low p = simp (e, f, lt-leb 1 a p)

    pub newer_rest : 1 ≤ a → leb a 2147483647 ≡ newer h q
    unfolding newer
    newer_rest p = simp (e, f, le-leb 1 a p)
