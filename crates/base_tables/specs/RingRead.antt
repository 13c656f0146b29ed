-- What a ring gives back: each record, decoded from its own bytes. No law on dec is asked.
use Prim.Native.Nat.{ℕ, suc, ◌+◌, ◌*◌, ◌%◌, ◌≤◌, ◌<◌}
use mathlib.Core.List.{List, [], ◌∷◌, map}
use Rattle.std.specs.Prelude.{◌≡◌, drop, ltb, eqb}
use Rattle.std.proofs.Math.Path.{refl, ap, ap₂}
use Rattle.std.proofs.Common.{sym, ◌∙◌, ltb-true, ltb-false, eqb-true}
use native.Mathlib.Omega.{arith}
use Rattle.std.proofs.Math.Nat.{mul-le-mul_right, suc-mul}
use Rattle.std.proofs.Math.ListN.{length, take}
use Rattle.std.proofs.Math.Seq.{sets, length-sets}
use Rattle.std.proofs.lemmas.Bool.{eqb-false}
use Rattle.base_cells.specs.Numbers.{take_sets, drop_sets, slice_sets, drop_take}
use Rattle.base_tables.specs.Ring.{by_cases, store_ring, ring_of}

module _ {A : Type 0} (size : ℕ) (enc : A → List ℕ) (whole : (x : A) → length (enc x) ≡ size) where
  apart : (i j : ℕ) → i < j → i * size + size ≤ j * size
  apart i j h = let m : suc i * size ≤ j * size = mul-le-mul_right size h in let e = suc-mul i size in omega arith

  -- a store at one slot leaves the others
  other : (r : List ℕ) (i j : ℕ) (x : A) → (i ≡ j → ⊥) → take size (drop (j * size) (sets r (i * size) (enc x))) ≡ take size (drop (j * size) r)
  other r i j x ne =
      by_cases (ltb i j)
      (λ t. let a = apart i j (ltb-true i j t) in ap (take size) (drop_sets (j * size) r (i * size) (enc x) (omega (arith, whole x))))
      (λ f. let h : j ≤ i = ltb-false i j f in
      let h' : j < i = by_cases (eqb i j) (λ t. absurd (ne (eqb-true i j t))) (λ n. let z = eqb-false i j n in omega arith) in
      let a = apart j i h' in
      sym (drop_take (j * size) size (sets r (i * size) (enc x)))
      ∙ ap (drop (j * size)) (take_sets (j * size + size) r (i * size) (enc x) a)
      ∙ drop_take (j * size) size r)

  -- a slot that none of the records takes
  untouched : (f : ℕ) (es : List A) (r : List ℕ) (j : ℕ) → ((k : ℕ) → k < length es → (f + k) % 1024 ≡ j → ⊥) → f < 1024
      → take size (drop (j * size) (store_ring size enc f es r)) ≡ take size (drop (j * size) r)
  unfolding store_ring
  untouched f [] r j n h = refl
  untouched f (e ∷ es) r j n h =
      untouched ((f + 1) % 1024) es (sets r (f * size) (enc e)) j (λ k g q. n (suc k) (omega arith) (omega arith)) (omega arith)
      ∙ other r f j e (λ q. n 0 (omega arith) (omega arith))

  pub ring_read : (dec : List ℕ → A) (f : ℕ) (es : List A) (r : List ℕ) → f < 1024 → length es ≤ 1024 → 1024 * size ≤ length r
      → ring_of size enc dec f (length es) (store_ring size enc f es r) ≡ map (λ x. dec (enc x)) es
  unfolding store_ring ring_of
  ring_read dec f [] r h n g = refl
  ring_read dec f (e ∷ es) r h n g =
      let f' : ℕ = (f + 1) % 1024 in
      let m : suc f * size ≤ 1024 * size = mul-le-mul_right size h in
      let m' : f * size + size ≤ length r = let q = suc-mul f size in omega arith in
      let s : List ℕ = sets r (f * size) (enc e) in
      ap₂ ◌∷◌
      (ap dec (untouched f' es s f (λ k p q. omega arith) (omega arith)
      ∙ ap (λ (k : ℕ). take k (drop (f * size) s)) (sym (whole e))
      ∙ slice_sets r (f * size) (enc e) (omega (arith, whole e))))
      (ring_read dec f' es s (omega arith) (omega arith) (rw length-sets g))
