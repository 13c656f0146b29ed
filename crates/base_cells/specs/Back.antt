-- What was read is put back: bytes below 256 are the bytes of the numbers that they stand for.
use Rattle.std.specs.Prelude.{ℕ, zero, suc, ◌+◌, ◌≤◌, ◌<◌, Bool, true, false, List, [], ◌∷◌, ◌++◌, ◌≡◌, refl, T, length, take, drop, get_or}
use Rattle.std.proofs.Common.{ap, ap₂, sym, ◌∙◌, arith, drop-cons, drop-drop, take-add, get_or-drop}
use Rattle.base_cells.specs.Numbers.{le, le_bytes, le_suc, le_1}
use Rattle.base_cells.specs.Records.{sum, enc_fields, dec_fields, Wide, of_bool, to_bool}

abbrev pub Bytes : List ℕ → Type 0
Bytes l = (i : ℕ) → get_or l i 0 < 256

pub bytes_drop : (n : ℕ) (l : List ℕ) → Bytes l → Bytes (drop n l)
bytes_drop n l b i = rw get_or-drop (b (n + i))

pub bytes_take : (n : ℕ) (l : List ℕ) → Bytes l → Bytes (take n l)
bytes_take zero l b i = omega arith
bytes_take (suc n) [] b i = omega arith
bytes_take (suc n) (x ∷ l) b zero = b 0
bytes_take (suc n) (x ∷ l) b (suc i) = bytes_take n l (λ j. b (suc j)) i

pub bytes_le : (k : ℕ) (l : List ℕ) (at : ℕ) → Bytes l → at + suc k ≤ length l → le_bytes (suc k) (le (suc k) l at) ≡ take (suc k) (drop at l)
unfolding le_bytes
bytes_le zero l at b h = rw (le_1 l at, drop-cons l at 0 (omega arith))
bytes_le (suc k) l at b h =
    let g : ℕ = get_or l at 0 in
    let m : ℕ = le (suc k) l (suc at) in
    let lt : g < 256 = b at in
    ap (le_bytes (suc (suc k))) (le_suc (suc k) l at)
    ∙ ap₂ (λ (x y : ℕ). x ∷ le_bytes (suc k) y) (omega arith) (omega arith)
    ∙ ap (λ (z : List ℕ). g ∷ z) (bytes_le k l (suc at) b (omega arith))
    ∙ ap (take (suc (suc k))) (sym (drop-cons l at 0 (omega arith)))

pub enc_dec : (ws : List ℕ) → T (Wide ws) → (l : List ℕ) (at : ℕ) → Bytes l → at + sum ws ≤ length l
    → enc_fields ws (dec_fields ws l at) ≡ take (sum ws) (drop at l)
unfolding enc_fields sum
enc_dec [] t l at b h = refl
enc_dec (zero ∷ ws) t l at b h = absurd t
enc_dec (suc w ∷ ws) t l at b h =
    ap₂ ◌++◌ (bytes_le w l at b (omega arith)) (enc_dec ws t l (at + suc w) b (omega arith))
    ∙ ap (λ (z : List ℕ). take (suc w) (drop at l) ++ take (sum ws) z) (sym (drop-drop (suc w) at l))
    ∙ sym (take-add (suc w) (sum ws) (drop at l))

pub of_to : (n : ℕ) → n ≤ 1 → of_bool (to_bool n) ≡ n
of_to zero h = refl
of_to (suc zero) h = refl
of_to (suc (suc n)) h = absurd (omega arith)

-- ---- tests, one after the other

unfoldable pub all : List Bool → Bool
all [] = true
all (true ∷ bs) = all bs
all (false ∷ bs) = false

pub all_at : (bs : List Bool) → all bs ≡ true → (k : ℕ) → get_or bs k true ≡ true
unfolding all
all_at [] e k = refl
all_at (true ∷ bs) e zero = refl
all_at (true ∷ bs) e (suc k) = all_at bs e k
all_at (false ∷ bs) e k = absurd (let z : ◌≡◌ {A = ℕ} 0 1 = cc in omega arith)

pub all_fails : (bs : List Bool) (k : ℕ) → get_or bs k true ≡ false → all bs ≡ false
unfolding all
all_fails [] k e = e
all_fails (true ∷ bs) zero e = absurd (let z : ◌≡◌ {A = ℕ} 0 1 = cc in omega arith)
all_fails (true ∷ bs) (suc k) e = all_fails bs k e
all_fails (false ∷ bs) k e = refl

pub all_cons : (b : Bool) (bs : List Bool) → b ≡ true → all bs ≡ true → all (b ∷ bs) ≡ true
unfolding all
all_cons b bs p q = ap (λ (x : Bool). all (x ∷ bs)) p ∙ q

pub all_nil : all [] ≡ true
unfolding all
all_nil = refl
