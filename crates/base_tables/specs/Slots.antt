-- Slots of 512 bytes, each with a list of bytes at its start. What stands behind it stays.
use Rattle.std.specs.Prelude.{ℕ, zero, suc, ◌+◌, ◌*◌, ◌-◌, ◌≤◌, ◌<◌, List, [], ◌∷◌, ◌++◌, ◌≡◌, refl, length, take, drop, set, get_or, T}
use Rattle.std.proofs.Common.{append_assoc, append-nil, ap, ap₂, sym, ◌∙◌, arith, length-append, length-drop, drop_of_length-le, length-take-le, drop_at, take_at, drop-drop}
use Rattle.std.proofs.lemmas.List.Edits.{sets, sets-eq}
use Rattle.base_cells.specs.Numbers.{sets_left, le_bytes, length_le_bytes}
use Rattle.base_cells.specs.Records.{enc_fields, offset, Laid}
use Rattle.base_tables.specs.Store.{sets_right}

-- x at the start of s
abbrev pub fill : List ℕ → List ℕ → List ℕ
fill x s = x ++ drop (length x) s

pub fill_own : (n : ℕ) (s : List ℕ) → fill (take n s) s ≡ s
fill_own zero s = refl
fill_own (suc n) [] = refl
fill_own (suc n) (a ∷ s) = ap (λ (z : List ℕ). a ∷ z) (fill_own n s)

pub length_fill : (x s : List ℕ) → length x ≤ length s → length (fill x s) ≡ length s
length_fill x s h = length-append x (drop (length x) s) ∙ omega (arith, length-drop (length x) s)

unfoldable pub store_slots : List (List ℕ) → List ℕ → List ℕ
store_slots [] d = d
store_slots (x ∷ xs) d = fill x (take 512 d) ++ store_slots xs (drop 512 d)

abbrev pub Short : List (List ℕ) → Type 0
Short xs = (i : ℕ) → length (get_or xs i []) ≤ 512

slot_length : (x d : List ℕ) → length x ≤ 512 → 512 ≤ length d → length (fill x (take 512 d)) ≡ 512
slot_length x d h g = let e = length-take-le 512 d g in length_fill x (take 512 d) (omega arith) ∙ e

pub length_store_slots : (xs : List (List ℕ)) (d : List ℕ) → Short xs → length xs * 512 ≤ length d → length (store_slots xs d) ≡ length d
unfolding store_slots
length_store_slots [] d h g = refl
length_store_slots (x ∷ xs) d h g =
    let e = slot_length x d (h 0) (omega arith) in
    let l' : length (drop 512 d) ≡ length d - 512 = length-drop 512 d in
    let ih = length_store_slots xs (drop 512 d) (λ i. h (suc i)) (omega arith) in
    length-append (fill x (take 512 d)) (store_slots xs (drop 512 d)) ∙ omega arith

pub sets_whole : (x y : List ℕ) → length x ≡ length y → sets x 0 y ≡ y
sets_whole x y e = sets-eq y x 0 (omega arith) ∙ ap (λ (z : List ℕ). y ++ z) (drop_of_length-le x {i = 0 + length y} (omega arith)) ∙ append-nil y

-- bytes of the same number written over one slot's
pub slots_set : (xs : List (List ℕ)) (d : List ℕ) (i : ℕ) (y : List ℕ) → Short xs → length xs * 512 ≤ length d → i < length xs
    → length (get_or xs i []) ≡ length y → sets (store_slots xs d) (i * 512) y ≡ store_slots (set xs i y) d
unfolding store_slots
slots_set [] d i y h g p e = elim p [ ]
slots_set (x ∷ xs) d zero y h g p e =
    let s : List ℕ = drop (length x) (take 512 d) in
    sets_left (x ++ s) (store_slots xs (drop 512 d)) 0 y (omega (arith, length-append x s))
    ∙ ap (λ (z : List ℕ). z ++ store_slots xs (drop 512 d))
    (sets_left x s 0 y (omega arith)
    ∙ ap₂ ◌++◌ (sets_whole x y e) (ap (λ (k : ℕ). drop k (take 512 d)) e))
slots_set (x ∷ xs) d (suc i) y h g p e =
    let l' : length (drop 512 d) ≡ length d - 512 = length-drop 512 d in
    ap (λ (k : ℕ). sets (fill x (take 512 d) ++ store_slots xs (drop 512 d)) k y) (omega arith)
    ∙ sets_right (fill x (take 512 d)) (store_slots xs (drop 512 d)) 512 (slot_length x d (h 0) (omega arith)) (i * 512) y
    ∙ ap (λ (z : List ℕ). fill x (take 512 d) ++ z) (slots_set xs (drop 512 d) i y (λ j. h (suc j)) (omega arith) (omega arith) e)

pub slot_at : (xs : List (List ℕ)) (d : List ℕ) (i : ℕ) → Short xs → length xs * 512 ≤ length d → i < length xs
    → take (length (get_or xs i [])) (drop (i * 512) (store_slots xs d)) ≡ get_or xs i []
unfolding store_slots
slot_at [] d i h g p = elim p [ ]
slot_at (x ∷ xs) d zero h g p =
    ap (take (length x)) (append_assoc x (drop (length x) (take 512 d)) (store_slots xs (drop 512 d)))
    ∙ take_at x (drop (length x) (take 512 d) ++ store_slots xs (drop 512 d)) (length x) refl
slot_at (x ∷ xs) d (suc i) h g p =
    let l' : length (drop 512 d) ≡ length d - 512 = length-drop 512 d in
    let s : List ℕ = store_slots xs (drop 512 d) in
    let f : List ℕ = fill x (take 512 d) in
    let k' : suc i * 512 ≡ 512 + i * 512 = omega arith in
    ap (λ (k : ℕ). take (length (get_or xs i [])) (drop k (f ++ s))) k'
    ∙ ap (take (length (get_or xs i []))) (sym (drop-drop (i * 512) 512 (f ++ s)) ∙ ap (drop (i * 512)) (drop_at f s 512 (slot_length x d (h 0) (omega arith))))
    ∙ slot_at xs (drop 512 d) i (λ j. h (suc j)) (omega arith) (omega arith)

-- ---- one field of a record's bytes

pub enc_set : (ws vs : List ℕ) → T (Laid ws vs) → (k v : ℕ) → k < length ws
    → sets (enc_fields ws vs) (offset ws k) (le_bytes (get_or ws k 0) v) ≡ enc_fields ws (set vs k v)
unfolding enc_fields offset
enc_set [] vs t k v h = absurd (omega arith)
enc_set (zero ∷ ws) [] t k v h = absurd t
enc_set (zero ∷ ws) (x ∷ vs) t k v h = absurd t
enc_set (suc w ∷ ws) [] t k v h = absurd t
enc_set (suc w ∷ ws) (x ∷ vs) t zero v h =
    let a : length (le_bytes (suc w) x) ≡ suc w = length_le_bytes (suc w) x in
    let b : length (le_bytes (suc w) v) ≡ suc w = length_le_bytes (suc w) v in
    sets_left (le_bytes (suc w) x) (enc_fields ws vs) 0 (le_bytes (suc w) v) (omega arith)
    ∙ ap (λ (z : List ℕ). z ++ enc_fields ws vs) (sets_whole (le_bytes (suc w) x) (le_bytes (suc w) v) (omega arith))
enc_set (suc w ∷ ws) (x ∷ vs) t (suc k) v h =
    sets_right (le_bytes (suc w) x) (enc_fields ws vs) (suc w) (length_le_bytes (suc w) x) (offset ws k) (le_bytes (get_or ws k 0) v)
    ∙ ap (λ (z : List ℕ). le_bytes (suc w) x ++ z) (enc_set ws vs t k v (omega arith))
