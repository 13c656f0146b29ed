-- Whether bytes are the same, told part by part.
use Rattle.std.specs.Prelude.{ℕ, suc, ◌+◌, ◌-◌, ◌*◌, ◌/◌, ◌≤◌, ◌<◌, Bool, true, false, ◌&&◌, List, [], ◌∷◌, ◌++◌, ◌≡◌, refl, eqb, length, get_or, take, drop}
use Rattle.std.proofs.Common.{ap, ap₂, sym, ◌∙◌, arith, add-one, eq-eqb, eqb-true, length-drop, take-add, take_all, take-take, take-suc, drop-drop, get_or-take, get_or-drop}
use Rattle.std.specs.Int.Bits.{bit_or, bit_xor, or_add_and, xor_add_and, or_zero_l, xor_self}
use Rattle.std.proofs.Math.Nat.{mul-div-le, mul-le-mul_left}
use Rattle.std.proofs.lemmas.Nat.{and_le_l, and_le_r, div-add-mod', mod_below}
use Rattle.base_cells.specs.Numbers.{le, le_bytes, drop_take, le_same, le_drop}
use Rattle.base_cells.specs.Back.{Bytes, bytes_le}

-- r is whether P holds
abbrev pub Tells : Bool → Type 0 → Type 0
Tells r P = (r ≡ true → P) × (P → r ≡ true)

tells_false : {P : Type 0} → (P → false ≡ true) → Tells false P
tells_false f = (λ e. absurd (let z : ◌≡◌ {A = ℕ} 0 1 = cc in omega arith), f)

-- ---- a part of what is the same; parts one behind the other

module _ (x d : List ℕ) where
  part_same : (j k : ℕ) → j + k ≤ length d → take (length d) x ≡ d → take k (drop j x) ≡ take k (drop j d)
  part_same j k h e =
      let m : ℕ = length d - j in
      let n : length d ≡ j + m = omega arith in
      sym (take-take k m (drop j x) (omega arith))
      ∙ ap (take k) (sym (drop_take j m x) ∙ ap (λ (i : ℕ). drop j (take i x)) (sym n) ∙ ap (drop j) e)

  more_same : (j k : ℕ) → take j x ≡ take j d → take k (drop j x) ≡ take k (drop j d) → take (j + k) x ≡ take (j + k) d
  more_same j k e f = take-add j k x ∙ ap₂ ◌++◌ e f ∙ sym (take-add j k d)

  last_same : (i j k : ℕ) → i ≤ j → length d ≡ i + k → take j x ≡ take j d → take k (drop i x) ≡ take k (drop i d) → take (length d) x ≡ d
  last_same i j k h n e f =
      let g : take i x ≡ take i d = sym (take-take i j x h) ∙ ap (take i) e ∙ take-take i j d h in
      ap (λ (m : ℕ). take m x) n ∙ more_same i k g f ∙ take_all (i + k) d (omega arith)

  -- two tests, of the first bytes and of those behind them
  both_told : (j k : ℕ) (p q : Bool) → Tells p (take j x ≡ take j d) → Tells q (take k (drop j x) ≡ take k (drop j d))
      → Tells (p && q) (take (j + k) x ≡ take (j + k) d)
  both_told j k true q t u = (
    λ e. more_same j k (t.0 refl) (u.0 e),
    λ e. u.1 (sym (drop_take j k x) ∙ ap (drop j) e ∙ drop_take j k d),
  )
  both_told j k false q t u =
      tells_false (λ e. t.1 (sym (take-take j (j + k) x (omega arith)) ∙ ap (take j) e ∙ take-take j (j + k) d (omega arith)))

-- ---- numbers that are the same are the same bytes

module _ (s d : List ℕ) (bs : Bytes s) (bd : Bytes d) (at j : ℕ) where
  numbers_same : (k : ℕ) → at + k + 8 ≤ length s → j + k + 8 ≤ length d → le 8 s (at + k) ≡ le 8 d (j + k)
      → take 8 (drop k (drop at s)) ≡ take 8 (drop k (drop j d))
  numbers_same k p q e =
      rw (drop-drop k at s, drop-drop k j d) (sym (bytes_le 7 s (at + k) bs p) ∙ ap (le_bytes 8) e ∙ bytes_le 7 d (j + k) bd q)

  bytes_same : (m k : ℕ) → k + 8 ≤ m → take m (drop at s) ≡ take m (drop j d) → le 8 s (at + k) ≡ le 8 d (j + k)
  bytes_same m k h e = sym (le_drop 8 s at k) ∙ le_same 8 (drop at s) (drop j d) k m h e ∙ le_drop 8 d j k

  module _ (a₀ b₀ : ℕ) (ea₀ : a₀ ≡ le 8 s at) (eb₀ : b₀ ≡ le 8 d j) where
    first_same : at + 8 ≤ length s → j + 8 ≤ length d → a₀ ≡ b₀ → take 8 (drop at s) ≡ take 8 (drop j d)
    first_same p q e = sym (bytes_le 7 s at bs p) ∙ ap (le_bytes 8) (sym ea₀ ∙ e ∙ eb₀) ∙ bytes_le 7 d j bd q

    first_number : (m : ℕ) → 8 ≤ m → take m (drop at s) ≡ take m (drop j d) → a₀ ≡ b₀
    first_number m h e =
        ea₀ ∙ ap (le 8 s) (let z : at ≡ at + 0 = omega arith in z) ∙ bytes_same m 0 h e ∙ ap (le 8 d) (let z : j + 0 ≡ j = omega arith in z) ∙ sym eb₀

    pub number_told : at + 8 ≤ length s → j + 8 ≤ length d → Tells (eqb a₀ b₀) (take 8 (drop at s) ≡ take 8 (drop j d))
    number_told p q = (λ t. first_same p q (eqb-true a₀ b₀ t), λ e. eq-eqb a₀ b₀ (first_number 8 (omega arith) e))

-- one more number
module _ (s d : List ℕ) (bs : Bytes s) (bd : Bytes d) (at j k a b : ℕ) (ea : a ≡ le 8 s (at + k)) (eb : b ≡ le 8 d (j + k)) where
  pub number_more : at + k + 8 ≤ length s → j + k + 8 ≤ length d → (r : Bool) → Tells r (take k (drop at s) ≡ take k (drop j d))
      → Tells (r && eqb a b) (take (k + 8) (drop at s) ≡ take (k + 8) (drop j d))
  number_more p q r t =
      let u = number_told s d bs bd (at + k) (j + k) a b ea eb p q in
      both_told (drop at s) (drop j d) k 8 r (eqb a b) t
      (rw (drop-drop k at s, drop-drop k j d) u)

-- ---- four numbers at once

or_zero : (a b : ℕ) → bit_or a b ≡ 0 → (a ≡ 0) × (b ≡ 0)
or_zero a b h = (omega (arith, h, or_add_and a b, and_le_l a b, and_le_r a b), omega (arith, h, or_add_and a b, and_le_l a b, and_le_r a b))

or_none : (a b : ℕ) → a ≡ 0 → b ≡ 0 → bit_or a b ≡ 0
or_none a b e f = ap₂ bit_or e f ∙ or_zero_l 0

xor_eq : (a b : ℕ) → bit_xor a b ≡ 0 → a ≡ b
xor_eq a b h = omega (arith, h, xor_add_and a b, and_le_l a b, and_le_r a b)

xor_none : (a b : ℕ) → a ≡ b → bit_xor a b ≡ 0
xor_none a b e = ap (λ (z : ℕ). bit_xor z b) e ∙ xor_self b

module _ (s d : List ℕ) (bs : Bytes s) (bd : Bytes d) (at j a₀ b₀ a₁ b₁ a₂ b₂ a₃ b₃ : ℕ) (ea₀ : a₀ ≡ le 8 s at) (eb₀ : b₀ ≡ le 8 d j) where
  module _ (ea₁ : a₁ ≡ le 8 s (at + 8)) (eb₁ : b₁ ≡ le 8 d (j + 8)) (ea₂ : a₂ ≡ le 8 s (at + 16)) (eb₂ : b₂ ≡ le 8 d (j + 16)) where
    pub block_told : a₃ ≡ le 8 s (at + 24) → b₃ ≡ le 8 d (j + 24) → at + 32 ≤ length s → j + 32 ≤ length d
        → Tells (eqb (bit_or (bit_or (bit_xor a₀ b₀) (bit_xor a₁ b₁)) (bit_or (bit_xor a₂ b₂) (bit_xor a₃ b₃))) 0) (take 32 (drop at s) ≡ take 32 (drop j d))
    block_told ea₃ eb₃ p q =
        let x : List ℕ = drop at s in
        let y : List ℕ = drop j d in
        let v₀ : ℕ = bit_xor a₀ b₀ in
        let v₁ : ℕ = bit_xor a₁ b₁ in
        let v₂ : ℕ = bit_xor a₂ b₂ in
        let v₃ : ℕ = bit_xor a₃ b₃ in
        let low : ℕ = bit_or v₀ v₁ in
        let high : ℕ = bit_or v₂ v₃ in (
          λ t.
              let z = or_zero low high (eqb-true (bit_or low high) 0 t) in
              let l = or_zero v₀ v₁ z.0 in
              let h = or_zero v₂ v₃ z.1 in
              let n₀ : take 8 x ≡ take 8 y = first_same s d bs bd at j a₀ b₀ ea₀ eb₀ (omega arith) (omega arith) (xor_eq a₀ b₀ l.0) in
              let n₁ : take 8 (drop 8 x) ≡ take 8 (drop 8 y) = numbers_same s d bs bd at j 8 (omega arith) (omega arith) (sym ea₁ ∙ xor_eq a₁ b₁ l.1 ∙ eb₁) in
              let n₂ : take 8 (drop 16 x) ≡ take 8 (drop 16 y) = numbers_same s d bs bd at j 16 (omega arith) (omega arith) (sym ea₂ ∙ xor_eq a₂ b₂ h.0 ∙ eb₂) in
              let n₃ : take 8 (drop 24 x) ≡ take 8 (drop 24 y) = numbers_same s d bs bd at j 24 (omega arith) (omega arith) (sym ea₃ ∙ xor_eq a₃ b₃ h.1 ∙ eb₃) in
              more_same x y 24 8 (more_same x y 16 8 (more_same x y 8 8 n₀ n₁) n₂) n₃,
          λ e.
              let n₀ : v₀ ≡ 0 = xor_none a₀ b₀ (first_number s d bs bd at j a₀ b₀ ea₀ eb₀ 32 (omega arith) e) in
              let n₁ : v₁ ≡ 0 = xor_none a₁ b₁ (ea₁ ∙ bytes_same s d bs bd at j 32 8 (omega arith) e ∙ sym eb₁) in
              let n₂ : v₂ ≡ 0 = xor_none a₂ b₂ (ea₂ ∙ bytes_same s d bs bd at j 32 16 (omega arith) e ∙ sym eb₂) in
              let n₃ : v₃ ≡ 0 = xor_none a₃ b₃ (ea₃ ∙ bytes_same s d bs bd at j 32 24 (omega arith) e ∙ sym eb₃) in
              eq-eqb (bit_or low high) 0 (or_none low high (or_none v₀ v₁ n₀ n₁) (or_none v₂ v₃ n₂ n₃)),
        )

-- ---- part by part, as code looks at them

-- the parts of w bytes before the last reach it, and lie in what is compared
pub part_fits : (n w k : ℕ) → k < (n - 1) / w → w * k + w ≤ n - 1
part_fits n w k h = omega (arith, mul-div-le (n - 1) w, mul-le-mul_left {m = suc k} {n = (n - 1) / w} w (omega arith))

pub parts_reach : (n w : ℕ) → 0 < w → n - w ≤ w * ((n - 1) / w)
parts_reach n w h = omega (arith, div-add-mod' (n - 1) w, mod_below (n - 1) w h)

module _ (s d : List ℕ) (at j : ℕ) where
  pub part_differs : (k : ℕ) → j + k ≤ length d → (r : Bool) → Tells r (take k (drop (at + j) s) ≡ take k (drop j d)) → r ≡ false
      → Tells false (take (length d) (drop at s) ≡ d)
  part_differs k h r t f = tells_false (λ e. sym f ∙ t.1 (ap (take k) (sym (drop-drop j at s)) ∙ part_same (drop at s) d j k h e))

  pub byte_differs : j < length d → (get_or s (at + j) 0 ≡ get_or d j 0 → ⊥) → Tells false (take (length d) (drop at s) ≡ d)
  byte_differs h n =
      tells_false (λ e. absurd (n (sym (get_or-drop at s j 0) ∙ sym (get_or-take (length d) (drop at s) j 0 h) ∙ ap (λ (z : List ℕ). get_or z j 0) e)))

  module _ (same : take j (drop at s) ≡ take j d) where
    pub part_agrees : (k : ℕ) (r : Bool) → Tells r (take k (drop (at + j) s) ≡ take k (drop j d)) → r ≡ true → take (j + k) (drop at s) ≡ take (j + k) d
    part_agrees k r t e = more_same (drop at s) d j k same (ap (take k) (drop-drop j at s) ∙ t.0 e)

    pub byte_agrees : j < length d → at + length d ≤ length s → get_or s (at + j) 0 ≡ get_or d j 0 → take (j + 1) (drop at s) ≡ take (j + 1) d
    byte_agrees h p e =
        ap (λ (n : ℕ). take n (drop at s)) (add-one j)
        ∙ take-suc (drop at s) j 0 (rw length-drop (omega arith))
        ∙ ap₂ (λ (u : List ℕ) (v : ℕ). u ++ (v ∷ [])) same (get_or-drop at s j 0 ∙ e)
        ∙ sym (take-suc d j 0 h)
        ∙ ap (λ (n : ℕ). take n d) (sym (add-one j))

    pub last_told : (i k : ℕ) → i ≤ j → length d ≡ i + k → (r : Bool) → Tells r (take k (drop (at + i) s) ≡ take k (drop i d))
        → Tells r (take (length d) (drop at s) ≡ d)
    last_told i k h n r t = (
      λ e. last_same (drop at s) d i j k h n same (ap (take k) (drop-drop i at s) ∙ t.0 e),
      λ e. t.1 (ap (take k) (sym (drop-drop i at s)) ∙ part_same (drop at s) d i k (omega arith) e),
    )

    pub all_told : length d ≤ j → Tells true (take (length d) (drop at s) ≡ d)
    all_told h = (
      λ e. sym (take-take (length d) j (drop at s) h) ∙ ap (take (length d)) same ∙ take-take (length d) j d h ∙ take_all (length d) d (omega arith),
      λ e. refl,
    )
