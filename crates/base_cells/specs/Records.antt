-- Records of numbers, laid out one after the other, over the list of the fields' widths.
use Rattle.std.specs.Prelude.{ℕ, zero, suc, ◌+◌, ◌≤◌, ◌<◌, Bool, true, false, not, List, [], ◌∷◌, ◌++◌, ◌≡◌, refl, T, eqb, length, take, drop, get_or, set}
use Rattle.std.proofs.Common.{append_assoc, ap, ap₂, sym, ◌∙◌, arith, add-zero, add_assoc, length-append, drop_at, take_at}
use Rattle.std.proofs.lemmas.List.Edits.{sets}
use Rattle.base_cells.specs.Numbers.{le, put, le_bytes, length_le_bytes, le_of_le_bytes, sets_append, le_drop, le_take, le_put_same, le_put_before, le_put_after}

unfoldable pub sum : List ℕ → ℕ
sum [] = 0
sum (w ∷ ws) = w + sum ws

-- the values' bytes
unfoldable pub enc_fields : List ℕ → List ℕ → List ℕ
enc_fields [] vs = []
enc_fields (w ∷ ws) [] = []
enc_fields (w ∷ ws) (v ∷ vs) = le_bytes w v ++ enc_fields ws vs

-- the values that stand from at
abbrev pub dec_fields : List ℕ → List ℕ → ℕ → List ℕ
dec_fields [] l at = []
dec_fields (w ∷ ws) l at = le w l at ∷ dec_fields ws l (at + w)

-- l with the values put one after the other, at running places
abbrev pub put_fields : List ℕ → List ℕ → ℕ → List ℕ → List ℕ
put_fields [] l at vs = l
put_fields (w ∷ ws) l at [] = l
put_fields (w ∷ ws) l at (v ∷ vs) = put_fields ws (put w l at v) (at + w) vs

-- each value has a width, and each width is at least 1
abbrev pub Laid : List ℕ → List ℕ → Bool
Laid [] [] = true
Laid [] (v ∷ vs) = false
Laid (zero ∷ ws) [] = false
Laid (suc w ∷ ws) [] = false
Laid (zero ∷ ws) (v ∷ vs) = false
Laid (suc w ∷ ws) (v ∷ vs) = Laid ws vs

pub put_fields_eq : (ws l : List ℕ) (at : ℕ) (vs : List ℕ) → put_fields ws l at vs ≡ sets l at (enc_fields ws vs)
unfolding enc_fields put
put_fields_eq [] l at vs = refl
put_fields_eq (w ∷ ws) l at [] = refl
put_fields_eq (w ∷ ws) l at (v ∷ vs) =
    put_fields_eq ws (sets l at (le_bytes w v)) (at + w) vs
    ∙ ap (λ (n : ℕ). sets (sets l at (le_bytes w v)) (at + n) (enc_fields ws vs)) (sym (length_le_bytes w v))
    ∙ sym (sets_append l at (le_bytes w v) (enc_fields ws vs))

pub length_enc_fields : (ws vs : List ℕ) → T (Laid ws vs) → length (enc_fields ws vs) ≡ sum ws
unfolding enc_fields sum
length_enc_fields [] [] h = refl
length_enc_fields [] (v ∷ vs) h = absurd h
length_enc_fields (zero ∷ ws) [] h = absurd h
length_enc_fields (zero ∷ ws) (v ∷ vs) h = absurd h
length_enc_fields (suc w ∷ ws) [] h = absurd h
length_enc_fields (suc w ∷ ws) (v ∷ vs) h = rw (length-append, length_le_bytes, length_enc_fields ws vs h)

-- what stands in the bytes of v, wherever these are
pub le_mid : (k v : ℕ) (p q : List ℕ) (n : ℕ) → length p ≡ n → le (suc k) (p ++ (le_bytes (suc k) v ++ q)) n ≡ v
unfolding le
le_mid k v p q n e = rw (drop_at p _ n e, take_at (le_bytes (suc k) v) q (suc k) (length_le_bytes (suc k) v)) (le_of_le_bytes k v)

-- decoding what was encoded gives the values back, wherever it stands
pub dec_enc : (ws vs : List ℕ) → T (Laid ws vs) → (p q : List ℕ) (n : ℕ) → length p ≡ n
    → dec_fields ws (p ++ (enc_fields ws vs ++ q)) n ≡ vs
unfolding enc_fields
dec_enc [] [] h p q n e = refl
dec_enc [] (v ∷ vs) h p q n e = absurd h
dec_enc (zero ∷ ws) [] h p q n e = absurd h
dec_enc (zero ∷ ws) (v ∷ vs) h p q n e = absurd h
dec_enc (suc w ∷ ws) [] h p q n e = absurd h
dec_enc (suc w ∷ ws) (v ∷ vs) h p q n e =
    rw (append_assoc (le_bytes (suc w) v) (enc_fields ws vs) q)
    (ap₂ ◌∷◌ (le_mid w v p (enc_fields ws vs ++ q) n e)
    (rw (← append_assoc p (le_bytes (suc w) v) (enc_fields ws vs ++ q))
    (dec_enc ws vs h (p ++ le_bytes (suc w) v) q (n + suc w) (rw (length-append, length_le_bytes, e)))))

-- only the record's own bytes are read
pub dec_fields_take : (ws l : List ℕ) (n at : ℕ) → at + sum ws ≤ n → dec_fields ws (take n l) at ≡ dec_fields ws l at
unfolding sum
dec_fields_take [] l n at h = refl
dec_fields_take (w ∷ ws) l n at h = ap₂ ◌∷◌ (le_take w l n at (omega arith)) (dec_fields_take ws l n (at + w) (omega arith))

pub dec_fields_drop : (ws l : List ℕ) (n at : ℕ) → dec_fields ws (drop n l) at ≡ dec_fields ws l (n + at)
dec_fields_drop [] l n at = refl
dec_fields_drop (w ∷ ws) l n at = ap₂ ◌∷◌ (le_drop w l n at) (dec_fields_drop ws l n (at + w) ∙ ap (λ (k : ℕ). dec_fields ws l k) (sym (add_assoc n at w)))

-- a bool is a byte
abbrev pub of_bool : Bool → ℕ
of_bool true = 1
of_bool false = 0

abbrev pub to_bool : ℕ → Bool
to_bool n = not (eqb n 0)

pub to_of : (b : Bool) → to_bool (of_bool b) ≡ b
to_of true = refl
to_of false = refl

-- a run of puts as code makes it: each step's equation, in their order
pub data Puts : List ℕ → ℕ → List ℕ → List ℕ → List ℕ → Type 0 where
  done : {at : ℕ} {l : List ℕ} → Puts [] at [] l l
  step : {w at v : ℕ} {ws vs l l' l'' : List ℕ} → l' ≡ put w l at v → Puts ws (at + w) vs l' l'' → Puts (w ∷ ws) at (v ∷ vs) l l''

pub puts : {ws : List ℕ} {at : ℕ} {vs l l' : List ℕ} → Puts ws at vs l l' → l' ≡ put_fields ws l at vs
puts done = refl
puts (step {w = w} {at = at} {ws = ws} {vs = vs} e p) = puts p ∙ ap (λ (x : List ℕ). put_fields ws x (at + w) vs) e

-- ---- one field written in place

-- where field k begins
unfoldable pub offset : List ℕ → ℕ → ℕ
offset [] k = 0
offset (w ∷ ws) zero = 0
offset (w ∷ ws) (suc k) = w + offset ws k

abbrev pub Wide : List ℕ → Bool
Wide [] = true
Wide (zero ∷ ws) = false
Wide (suc w ∷ ws) = Wide ws

-- a put that ends before the fields begin
pub dec_fields_after : (ws l : List ℕ) (k at v a : ℕ) → at + k ≤ a → dec_fields ws (put k l at v) a ≡ dec_fields ws l a
dec_fields_after [] l k at v a h = refl
dec_fields_after (w ∷ ws) l k at v a h = ap₂ ◌∷◌ (le_put_after w k l a at v h) (dec_fields_after ws l k at v (a + w) (omega arith))

pub dec_fields_put : (ws : List ℕ) → T (Wide ws) → (l : List ℕ) (at k v : ℕ) → k < length ws → at + sum ws ≤ length l
    → dec_fields ws (put (get_or ws k 0) l (at + offset ws k) v) at ≡ set (dec_fields ws l at) k v
unfolding offset sum
dec_fields_put [] t l at k v h f = absurd (omega arith)
dec_fields_put (zero ∷ ws) t l at k v h f = absurd t
dec_fields_put (suc w ∷ ws) t l at zero v h f =
    rw add-zero (ap₂ ◌∷◌ (le_put_same w l at v (omega arith)) (dec_fields_after ws l (suc w) at v (at + suc w) (omega arith)))
dec_fields_put (suc w ∷ ws) t l at (suc k) v h f =
    ap₂ ◌∷◌ (le_put_before (suc w) (get_or ws k 0) l at (at + (suc w + offset ws k)) v (omega arith))
    (ap (λ (n : ℕ). dec_fields ws (put (get_or ws k 0) l n v) (at + suc w)) (sym (add_assoc at (suc w) (offset ws k)))
    ∙ dec_fields_put ws t l (at + suc w) k v (omega arith) (omega arith))
