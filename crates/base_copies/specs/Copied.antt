-- Bytes copied part by part, the last part over bytes that were copied before.
use Rattle.std.specs.Prelude.{ℕ, zero, suc, ◌+◌, ◌-◌, ◌≤◌, List, [], ◌∷◌, ◌≡◌, refl, length, take, drop, set}
use Rattle.std.proofs.Common.{ap, sym, ◌∙◌, arith, length-drop, take-append-drop, set-set, take-add, take_all, length-take-le}
use Rattle.std.proofs.lemmas.List.Edits.{sets}
use lib.Seq.{length-sets}
use borrow.Rule.Slice.PartMut.{put_mid}
use Rattle.base_cells.specs.Numbers.{le, put, sets_append, part_sets}
use Rattle.base_cells.specs.Back.{Bytes, bytes_le}
use Rattle.base_tables.specs.Ring.{set_sets}

-- the number read from 8 bytes, put, is those 8 bytes
pub put_read : (s d : List ℕ) (at j : ℕ) → Bytes d → j + 8 ≤ length d → put 8 s at (le 8 d j) ≡ sets s at (take 8 (drop j d))
unfolding put
put_read s d at j b h = ap (sets s at) (bytes_le 7 d j b h)

-- bytes stored over some of the same bytes
sets_over : (l : List ℕ) (i k : ℕ) (xs : List ℕ) → sets (sets l i (take k xs)) i xs ≡ sets l i xs
sets_over l i zero xs = refl
sets_over l i (suc k) [] = refl
sets_over l i (suc k) (x ∷ xs) =
    ap (λ (z : List ℕ). sets z (suc i) xs) (sym (set_sets (set l i x) i x (suc i) (take k xs) (omega arith)) ∙ ap (λ (z : List ℕ). sets z (suc i) (take k xs)) (set-set l i x x))
    ∙ sets_over (set l i x) (suc i) k xs

module _ (s d : List ℕ) (at j : ℕ) (x : List ℕ) (e : x ≡ sets s at (take j d)) where
  pub copied_part : (k : ℕ) → j + k ≤ length d → sets x (at + j) (take k (drop j d)) ≡ sets s at (take (j + k) d)
  copied_part k h =
      ap (λ (z : List ℕ). sets z (at + j) (take k (drop j d))) e
      ∙ ap (λ (n : ℕ). sets (sets s at (take j d)) (at + n) (take k (drop j d))) (sym (length-take-le j d (omega arith)))
      ∙ sym (sets_append s at (take j d) (take k (drop j d)))
      ∙ ap (sets s at) (sym (take-add j k d))

  pub copied_last : (i k : ℕ) → i ≤ j → length d ≡ i + k → sets x (at + i) (take k (drop i d)) ≡ sets s at d
  copied_last i k h n =
      let r : List ℕ = drop i d in
      let p : List ℕ = sets s at (take i d) in
      let all : take k r ≡ r = take_all k r (rw length-drop (omega arith)) in
      let m : at + length (take i d) ≡ at + i = ap (λ (z : ℕ). at + z) (length-take-le i d (omega arith)) in
      let u : x ≡ sets p (at + i) (take (j - i) r) =
      e ∙ ap (λ (z : ℕ). sets s at (take z d)) (let q : j ≡ i + (j - i) = omega arith in q) ∙ ap (sets s at) (take-add i (j - i) d)
      ∙ sets_append s at (take i d) (take (j - i) r) ∙ ap (λ (z : ℕ). sets p z (take (j - i) r)) m in
      ap (sets x (at + i)) all
      ∙ ap (λ (z : List ℕ). sets z (at + i) r) u
      ∙ sets_over p (at + i) (j - i) r
      ∙ ap (λ (z : ℕ). sets p z r) (sym m)
      ∙ sym (sets_append s at (take i d) r)
      ∙ ap (sets s at) (take-append-drop i d)

-- the first m bytes, which are all, put where a part of a slice was written whole
pub copied_first : (s d : List ℕ) (at m : ℕ) (x : List ℕ) → x ≡ take m d → m ≡ length d → at + length d ≤ length s → put_mid at (at + m - at) s x ≡ sets s at d
copied_first s d at m x e h r =
    let all : take m d ≡ d = take_all m d (omega arith) in
    part_sets s x d at _ (e ∙ all) (omega arith) (omega arith)

-- two parts of a slice that were written whole, the second over the end of the first
pub copied_twice : (s d : List ℕ) (at n j : ℕ) (x₁ x₂ : List ℕ) → x₁ ≡ take n d → x₂ ≡ take (length d - j) (drop j d) → n ≤ length d → j ≤ n → at + length d ≤ length s
    → put_mid (at + j) (at + length d - (at + j)) (put_mid at (at + n - at) s x₁) x₂ ≡ sets s at d
copied_twice s d at n j x₁ x₂ e₁ e₂ h k r =
    let x : List ℕ = put_mid at (at + n - at) s x₁ in
    let rest : List ℕ = drop j d in
    let ln : length (take n d) ≡ n = length-take-le n d h in
    let lr : length (take (length d - j) rest) ≡ length d - j = length-take-le (length d - j) rest (rw length-drop (omega arith)) in
    let e : x ≡ sets s at (take n d) = part_sets s x₁ (take n d) at _ e₁ (omega arith) (omega arith) in
    let lx : length x ≡ length s = ap length e ∙ length-sets s at (take n d) in
    part_sets x x₂ (take (length d - j) rest) (at + j) _ e₂ (omega arith) (omega arith)
    ∙ copied_last s d at n x e j (length d - j) k (omega arith)
