-- A row gone from the table's region: the rows behind it move down, and the last row's place is zero.
use Rattle.std.specs.Prelude.{ℕ, zero, suc, ◌+◌, ◌*◌, ◌-◌, ◌≤◌, ◌<◌, List, ◌++◌, ◌≡◌, refl, length, take, drop, replicate}
use Rattle.std.proofs.Common.{append_assoc, ap, ap₂, sym, ◌∙◌, arith, length-drop, drop-drop}
use Rattle.std.proofs.lemmas.List.Edits.{sets, sets-eq, take-paste, drop-paste, length-paste}
use Rattle.std.proofs.Math.Seq.{length-sets, paste}
use Rattle.base_tables.specs.Grow.{cut_row}
use Rattle.state_rules.specs.Places.{table_size, row_size}
use Rattle.state_rules.specs.Rows.{enc_conn}
use Rattle.state_rules.specs.RowLaws.{length_enc_conn}

unfoldable pub cut : ℕ → ℕ → List ℕ → List ℕ
cut n i r = cut_row row_size enc_conn length_enc_conn n i r

-- ---- as code does it: the rows moved down, then the last row's place zero

pub cut_is : (r x : List ℕ) (n i : ℕ) → i < n → n ≤ 32 → table_size ≤ length r
    → x ≡ paste r (i * row_size) (drop (i * row_size + row_size) r) ((n - 1) * row_size - i * row_size)
    → sets x ((n - 1) * row_size) (replicate row_size 0) ≡ cut n i r
unfolding cut cut_row
cut_is r x n i p q h e =
    let m : ℕ = (n - 1) * row_size - i * row_size in
    let f : List ℕ = drop (i * row_size + row_size) r in
    let lf : length f ≡ length r - (i * row_size + row_size) = length-drop (i * row_size + row_size) r in
    let lx : length x ≡ length r = ap length e ∙ length-paste r (i * row_size) f m (omega arith) (omega arith) in
    let a : (n - 1) * row_size ≡ i * row_size + m = omega arith in
    let b : (n - 1) * row_size + row_size ≡ (i * row_size + m) + row_size = omega arith in
    let tk : take ((n - 1) * row_size) x ≡ take (i * row_size) r ++ take m f =
    ap₂ take a e ∙ take-paste r (i * row_size) f m (omega arith) (omega arith) in
    let dr : drop ((n - 1) * row_size + row_size) x ≡ drop (n * row_size) r =
    ap₂ drop b e
    ∙ sym (drop-drop row_size (i * row_size + m) (paste r (i * row_size) f m))
    ∙ ap (drop row_size) (drop-paste r (i * row_size) f m (omega arith) (omega arith))
    ∙ drop-drop row_size (i * row_size + m) r
    ∙ ap (λ (k : ℕ). drop k r) (let w : (i * row_size + m) + row_size ≡ n * row_size = omega arith in w) in
    let zs : List ℕ = replicate row_size 0 in
    let c₁ : m ≡ (n - 1 - i) * row_size = omega arith in
    let c₂ : i * row_size + row_size ≡ suc i * row_size = omega arith in
    sets-eq zs x ((n - 1) * row_size) (omega arith)
    ∙ (λ j. tk j ++ zs ++ dr j)
    ∙ append_assoc (take (i * row_size) r ++ take m f) zs (drop (n * row_size) r)
    ∙ append_assoc (take (i * row_size) r) (take m f) (zs ++ drop (n * row_size) r)
    ∙ (λ j. take (i * row_size) r ++ (take (c₁ j) (drop (c₂ j) r) ++ (zs ++ drop (n * row_size) r)))

pub length_cut : (r : List ℕ) (n i : ℕ) → i < n → n ≤ 32 → table_size ≤ length r → length (cut n i r) ≡ length r
unfolding cut cut_row
length_cut r n i p q h =
    let x : List ℕ = paste r (i * row_size) (drop (i * row_size + row_size) r) ((n - 1) * row_size - i * row_size) in
    let lf : length (drop (i * row_size + row_size) r) ≡ length r - (i * row_size + row_size) = length-drop (i * row_size + row_size) r in
    let lx : length x ≡ length r = length-paste r (i * row_size) (drop (i * row_size + row_size) r) ((n - 1) * row_size - i * row_size) (omega arith) (omega arith) in
    ap length (sym (cut_is r x n i p q h refl))
    ∙ length-sets x ((n - 1) * row_size) (replicate row_size 0)
    ∙ lx
