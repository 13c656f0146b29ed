-- Rows that can be stored: every row that is read is one, what is stored is read back, and every change of the table keeps it.
use Rattle.std.specs.Prelude.{ℕ, zero, suc, Bool, true, false, List, [], ◌∷◌, ◌++◌, map, ◌≡◌, refl, length, get_or, take, drop, set}
use Rattle.std.proofs.Common.{ap, ap₂, sym, subst, ◌∙◌, take_at, drop_at}
use Rattle.base_tables.specs.Tables.{rows, without}
use Rattle.base_tables.specs.Store.{store_rows, less}
use Rattle.base_tables.specs.Ring.{by_cases}
use Rattle.rules.specs.Lists.{keep, change_first}
use Rattle.rules.specs.declared.Conn.{Conn}
use Rattle.rules.specs.declared.Fixed.{Fixed}
use Rattle.state_rules.specs.Places.{row_size}
use Rattle.state_rules.specs.Rows.{RoleFits, RowFits, enc_conn, dec_conn, conns_in}
use Rattle.state_rules.specs.RowLaws.{length_enc_conn, fits_dec_conn}
use Rattle.state_rules.proofs.RowLaws.{dec_enc_conn}

pub data RowsFit : List Conn → Type 0 where
  none : RowsFit []
  one : {c : Conn} {cs : List Conn} → RowFits c → RowsFit cs → RowsFit (c ∷ cs)

-- ---- rows that are read

pub rows_fit : (n : ℕ) (r : List ℕ) → RowsFit (conns_in n r)
unfolding rows
rows_fit zero r = none
rows_fit (suc n) r = one (fits_dec_conn (take row_size r)) (rows_fit n (drop row_size r))

pub rows_read : (n : ℕ) (xs : List Conn) (r : List ℕ) → RowsFit xs → conns_in (length xs) (store_rows row_size enc_conn n xs r) ≡ xs
unfolding store_rows rows
rows_read n [] r none = refl
rows_read n (x ∷ xs) r (one p q) =
    let s : List ℕ = store_rows row_size enc_conn (less n) xs (drop row_size r) in
    ap₂ ◌∷◌ (ap dec_conn (take_at (enc_conn x) s row_size (length_enc_conn x)) ∙ dec_enc_conn x p)
    (ap (λ (z : List ℕ). conns_in (length xs) z) (drop_at (enc_conn x) s row_size (length_enc_conn x)) ∙ rows_read (less n) xs (drop row_size r) q)

-- the row at a place; past the last, that of no bytes
pub fits_at : (cs : List Conn) → RowsFit cs → (i : ℕ) → RowFits (get_or cs i (dec_conn []))
fits_at [] none i = fits_dec_conn []
fits_at (c ∷ cs) (one p q) zero = p
fits_at (c ∷ cs) (one p q) (suc i) = fits_at cs q i

-- ---- rows that are changed: what never changes of a row says whether it fits

pub fits_same : (c d : Conn) → d.fixed ≡ c.fixed → RowFits c → RowFits d
fits_same c d e p = subst (λ (f : Fixed). RoleFits f.kind f.output) (sym e) p

pub fits_set : (cs : List Conn) (i : ℕ) (c : Conn) → RowFits c → RowsFit cs → RowsFit (set cs i c)
fits_set [] i c p none = none
fits_set (x ∷ cs) zero c p (one q r) = one p r
fits_set (x ∷ cs) (suc i) c p (one q r) = one q (fits_set cs i c p r)

pub fits_append : (cs : List Conn) (c : Conn) → RowFits c → RowsFit cs → RowsFit (cs ++ (c ∷ []))
fits_append [] c p none = one p none
fits_append (x ∷ cs) c p (one q r) = one q (fits_append cs c p r)

pub fits_without : (cs : List Conn) (i : ℕ) → RowsFit cs → RowsFit (without cs i)
unfolding without
fits_without [] i none = none
fits_without (x ∷ cs) zero (one q r) = r
fits_without (x ∷ cs) (suc i) (one q r) = one q (fits_without cs i r)

pub fits_map : (u : Conn → Conn) → ((c : Conn) → (u c).fixed ≡ c.fixed) → (cs : List Conn) → RowsFit cs → RowsFit (map u cs)
fits_map u e [] none = none
fits_map u e (x ∷ cs) (one q r) = one (fits_same x (u x) (e x) q) (fits_map u e cs r)

pub fits_change : (p : Conn → Bool) (u : Conn → Conn) → ((c : Conn) → (u c).fixed ≡ c.fixed) → (cs : List Conn) → RowsFit cs → RowsFit (change_first p u cs)
fits_change p u e [] none = none
fits_change p u e (x ∷ cs) (one q r) =
    by_cases (p x) (λ t. rw t (one (fits_same x (u x) (e x) q) r)) (λ t. rw t (one q (fits_change p u e cs r)))

pub fits_keep : (p : Conn → Bool) (cs : List Conn) → RowsFit cs → RowsFit (keep p cs)
fits_keep p [] none = none
fits_keep p (x ∷ cs) (one q r) = by_cases (p x) (λ t. rw t (one q (fits_keep p cs r))) (λ t. rw t (fits_keep p cs r))
