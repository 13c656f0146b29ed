-- A ring of 1,024 records: the oldest at slot first, and each next one at the next slot, the slot after the last being the first.
use Prim.Native.Nat.{ℕ, zero, suc, ◌+◌, ◌*◌, ◌%◌, ◌-◌, ◌≤◌, ◌<◌}
use Rattle.std.specs.Prelude.{Bool, true, false, ◌≡◌, take, drop, set, ltb, eqb}
use mathlib.Core.List.{List, [], ◌∷◌, ◌++◌, append_assoc}
use Rattle.std.proofs.Math.Path.{refl, ap, sym}
use Rattle.std.proofs.Common.{◌∙◌, length-drop, take-append-drop, set-set, length-take-le, drop-drop}
use native.Mathlib.Omega.{arith}
use Rattle.std.proofs.Math.Nat.{mul-le-mul_right, suc-mul}
use Rattle.std.proofs.Math.ListN.{length}
use Rattle.std.proofs.Math.Seq.{sets, length-sets}
use Rattle.std.proofs.lemmas.List.Edits.{sets-eq}
use Rattle.std.proofs.lemmas.List.{set_comm}
use borrow.Author.Tests.{ltb-true, ltb-false, eqb-true, eqb-false}

pub by_cases {ℓ} : {P : Type ℓ} (b : Bool) → (b ≡ true → P) → (b ≡ false → P) → P
by_cases true t f = t refl
by_cases false t f = f refl

-- ---- runs of stores that do not meet, or that cover each other
pub set_sets : (l : List ℕ) (i a j : ℕ) (bs : List ℕ) → i < j → sets (set l i a) j bs ≡ set (sets l j bs) i a
set_sets l i a j [] h = refl
set_sets l i a j (b ∷ bs) h = ap (λ (z : List ℕ). sets z (suc j) bs) (set_comm l i j a b (λ e. omega arith)) ∙ set_sets (set l j b) i a (suc j) bs (omega arith)

pub sets_before : (l : List ℕ) (i : ℕ) (vs : List ℕ) (j : ℕ) (bs : List ℕ) → i + length vs ≤ j → sets (sets l i vs) j bs ≡ sets (sets l j bs) i vs
sets_before l i [] j bs h = refl
sets_before l i (a ∷ vs) j bs h =
    sets_before (set l i a) (suc i) vs j bs (omega arith) ∙ ap (λ (z : List ℕ). sets z (suc i) vs) (set_sets l i a j bs (omega arith))

pub sets_again : (l : List ℕ) (i : ℕ) (vs bs : List ℕ) → length vs ≡ length bs → sets (sets l i vs) i bs ≡ sets l i bs
sets_again l i [] [] e = refl
sets_again l i [] (b ∷ bs) e = absurd (omega arith)
sets_again l i (a ∷ vs) [] e = absurd (omega arith)
sets_again l i (a ∷ vs) (b ∷ bs) e =
    ap (λ (z : List ℕ). sets z (suc i) bs) (sym (set_sets (set l i a) i b (suc i) vs (omega arith)))
    ∙ sets_again (set (set l i a) i b) (suc i) vs bs (omega arith)
    ∙ ap (λ (z : List ℕ). sets z (suc i) bs) (set-set l i a b)

-- what stands there, stored there
pub sets_same : (r : List ℕ) (at k : ℕ) → at + k ≤ length r → sets r at (take k (drop at r)) ≡ r
sets_same r at k h =
    let e : length (take k (drop at r)) ≡ k = length-take-le k (drop at r) (rw length-drop (omega arith)) in
    sets-eq (take k (drop at r)) r at (omega arith)
    ∙ append_assoc (take at r) (take k (drop at r)) (drop (at + length (take k (drop at r))) r)
    ∙ ap (λ (z : List ℕ). take at r ++ (take k (drop at r) ++ z)) (ap (λ (n : ℕ). drop (at + n) r) e ∙ sym (drop-drop k at r))
    ∙ ap (λ (z : List ℕ). take at r ++ z) (take-append-drop k (drop at r))
    ∙ take-append-drop at r

module _ {A : Type 0} (size : ℕ) (enc : A → List ℕ) where
  unfoldable pub store_ring : ℕ → List A → List ℕ → List ℕ
  store_ring f [] r = r
  store_ring f (e ∷ es) r = store_ring ((f + 1) % 1024) es (sets r (f * size) (enc e))

  -- one more behind the last
  pub ring_push : (f : ℕ) (es : List A) (e : A) (r : List ℕ) → f < 1024
      → store_ring f (es ++ (e ∷ [])) r ≡ sets (store_ring f es r) (((f + length es) % 1024) * size) (enc e)
  unfolding store_ring
  ring_push f [] e r h = ap (λ (k : ℕ). sets r (k * size) (enc e)) (omega arith)
  ring_push f (x ∷ es) e r h =
      ring_push ((f + 1) % 1024) es e (sets r (f * size) (enc x)) (omega arith)
      ∙ ap (λ (k : ℕ). sets (store_ring ((f + 1) % 1024) es (sets r (f * size) (enc x))) (k * size) (enc e)) (omega arith)

  pub length_ring : (f : ℕ) (es : List A) (r : List ℕ) → length (store_ring f es r) ≡ length r
  unfolding store_ring
  length_ring f [] r = refl
  length_ring f (e ∷ es) r = length_ring ((f + 1) % 1024) es (sets r (f * size) (enc e)) ∙ length-sets r (f * size) (enc e)

  module _ (whole : (x : A) → length (enc x) ≡ size) where
    rows_apart : (i j : ℕ) → i < j → i * size + size ≤ j * size
    rows_apart i j h = let m : suc i * size ≤ j * size = mul-le-mul_right size h in let e = suc-mul i size in omega arith

    -- stores at two slots, in either order; the later one counts at one slot
    two : (r : List ℕ) (i j : ℕ) (x y : A) → (i ≡ j → ⊥) → sets (sets r (i * size) (enc x)) (j * size) (enc y) ≡ sets (sets r (j * size) (enc y)) (i * size) (enc x)
    two r i j x y ne =
        by_cases (ltb i j)
        (λ t. let h : i < j = ltb-true i j t in let a = rows_apart i j h in
        sets_before r (i * size) (enc x) (j * size) (enc y) (omega (arith, whole x)))
        (λ f. let h : j ≤ i = ltb-false i j f in
        let h' : j < i = by_cases (eqb i j) (λ t. absurd (ne (eqb-true i j t))) (λ n. let z = eqb-false i j n in omega arith) in
        let a = rows_apart j i h' in
        sym (sets_before r (j * size) (enc y) (i * size) (enc x) (omega (arith, whole y))))

    -- what stood at a slot before does not matter once the slot is written
    covered : (f : ℕ) (es : List A) (r : List ℕ) (j : ℕ) (x y : A)
        → sets (store_ring f es (sets r (j * size) (enc x))) (j * size) (enc y) ≡ sets (store_ring f es r) (j * size) (enc y)
    unfolding store_ring
    covered f [] r j x y = sets_again r (j * size) (enc x) (enc y) (whole x ∙ sym (whole y))
    covered f (e ∷ es) r j x y =
        let f' : ℕ = (f + 1) % 1024 in
        by_cases (eqb f j)
        (λ t. let q : f ≡ j = eqb-true f j t in
        ap (λ (k : ℕ). sets (store_ring f' es (sets (sets r (j * size) (enc x)) (k * size) (enc e))) (j * size) (enc y)) q
        ∙ ap (λ (z : List ℕ). sets (store_ring f' es z) (j * size) (enc y)) (sets_again r (j * size) (enc x) (enc e) (whole x ∙ sym (whole e)))
        ∙ ap (λ (k : ℕ). sets (store_ring f' es (sets r (k * size) (enc e))) (j * size) (enc y)) (sym q))
        (λ n.
        ap (λ (z : List ℕ). sets (store_ring f' es z) (j * size) (enc y)) (two r j f x e (λ q. eqb-false f j n (sym q)))
        ∙ covered f' es (sets r (f * size) (enc e)) j x y)

    -- one more behind the last of 1,024: the oldest goes
    pub ring_full : (f : ℕ) (x : A) (es : List A) (e : A) (r : List ℕ) → f < 1024 → length es ≡ 1023
        → store_ring ((f + 1) % 1024) (es ++ (e ∷ [])) r ≡ sets (store_ring f (x ∷ es) r) (f * size) (enc e)
    unfolding store_ring
    ring_full f x es e r h n =
        ring_push ((f + 1) % 1024) es e r (omega arith)
        ∙ ap (λ (k : ℕ). sets (store_ring ((f + 1) % 1024) es r) (k * size) (enc e)) (omega arith)
        ∙ sym (covered ((f + 1) % 1024) es r f x e)

  module _ (dec : List ℕ → A) where
    unfoldable pub ring_of : ℕ → ℕ → List ℕ → List A
    ring_of f zero r = []
    ring_of f (suc n) r = dec (take size (drop (f * size) r)) ∷ ring_of ((f + 1) % 1024) n r

    pub length_ring_of : (f n : ℕ) (r : List ℕ) → length (ring_of f n r) ≡ n
    unfolding ring_of
    length_ring_of f zero r = refl
    length_ring_of f (suc n) r = ap suc (length_ring_of ((f + 1) % 1024) n r)

    -- the ring's own records over it: nothing changes
    pub store_ring_lem : (f n : ℕ) (r : List ℕ) → f < 1024 → 1024 * size ≤ length r
        → ((i : ℕ) → i < 1024 → enc (dec (take size (drop (i * size) r))) ≡ take size (drop (i * size) r))
        → store_ring f (ring_of f n r) r ≡ r
    unfolding store_ring ring_of
    store_ring_lem f zero r h g q = refl
    store_ring_lem f (suc n) r h g q =
        let m : suc f * size ≤ 1024 * size = mul-le-mul_right size h in
        let m' : f * size + size ≤ length r = let e = suc-mul f size in omega arith in
        let s : sets r (f * size) (enc (dec (take size (drop (f * size) r)))) ≡ r =
        ap (sets r (f * size)) (q f h) ∙ sets_same r (f * size) size m' in
        ap (store_ring ((f + 1) % 1024) (ring_of ((f + 1) % 1024) n r)) s
        ∙ store_ring_lem ((f + 1) % 1024) n r (omega arith) g q
