-- A buffer made of regions one after another, by the list of their widths. Each law is stated once, for every region: with a
-- literal list of widths a region's place is a literal too, so that `mid_of` and `put_mid` are those of a lent part.
use Rattle.std.specs.Prelude.{ℕ, zero, suc, ◌+◌, ◌-◌, ◌<◌, List, [], ◌∷◌, ◌++◌, ◌≡◌, refl, length, take, drop, get_or, set}
use Rattle.std.proofs.Common.{append_assoc, ap, ap₂, sym, ◌∙◌, arith, length-append, length-drop, take-append-drop, drop_at, take_at, drop-drop}
use Rattle.std.proofs.Math.Seq.{take-append-add}
use borrow.Rule.Slice.PartMut.{mid_of, put_mid}
use Rattle.base_cells.specs.Records.{sum}

-- the regions as one list of bytes
unfoldable pub joined : List (List ℕ) → List ℕ
joined [] = []
joined (r ∷ rs) = r ++ joined rs

-- each region has its width
pub data Sized : List ℕ → List (List ℕ) → Type 0 where
  none : Sized [] []
  one : {w : ℕ} {ws : List ℕ} {r : List ℕ} {rs : List (List ℕ)} → length r ≡ w → Sized ws rs → Sized (w ∷ ws) (r ∷ rs)

-- where region i begins
unfoldable pub start : List ℕ → ℕ → ℕ
start [] i = 0
start (w ∷ ws) zero = 0
start (w ∷ ws) (suc i) = w + start ws i

-- the regions of a buffer
unfoldable pub regions : List ℕ → List ℕ → List (List ℕ)
regions [] l = []
regions (w ∷ ws) l = take w l ∷ regions ws (drop w l)

pub length_joined : {ws : List ℕ} {rs : List (List ℕ)} → Sized ws rs → length (joined rs) ≡ sum ws
unfolding joined sum
length_joined none = refl
length_joined (one {r = r} {rs = rs} e s) = length-append r (joined rs) ∙ ap₂ ◌+◌ e (length_joined s)

past : (n k : ℕ) (xs ys : List ℕ) → length xs ≡ n → drop (n + k) (xs ++ ys) ≡ drop k ys
past n k xs ys e = sym (drop-drop k n (xs ++ ys)) ∙ ap (drop k) (drop_at xs ys n e)

before : (n k : ℕ) (xs ys : List ℕ) → length xs ≡ n → take (n + k) (xs ++ ys) ≡ xs ++ take k ys
before n k xs ys e = ap (λ (m : ℕ). take (m + k) (xs ++ ys)) (sym e) ∙ take-append-add xs ys k

-- a region is found at its place
pub region_at : {ws : List ℕ} {rs : List (List ℕ)} (i : ℕ) → Sized ws rs → i < length ws
    → mid_of (start ws i) (get_or ws i 0) (joined rs) ≡ get_or rs i []
unfolding joined start
region_at i none h = absurd (omega arith)
region_at zero (one {w = w} {r = r} {rs = rs} e s) h = take_at r (joined rs) w e
region_at (suc i) (one {w = w} {ws = ws} {r = r} {rs = rs} e s) h =
    ap (take (get_or ws i 0)) (past w (start ws i) r (joined rs) e) ∙ region_at i s (omega arith)

-- a region put back at its place: that region changes, and no other
pub region_put : {ws : List ℕ} {rs : List (List ℕ)} (i : ℕ) (x : List ℕ) → Sized ws rs → i < length ws
    → put_mid (start ws i) (get_or ws i 0) (joined rs) x ≡ joined (set rs i x)
unfolding joined start
region_put i x none h = absurd (omega arith)
region_put zero x (one {w = w} {r = r} {rs = rs} e s) h = ap (λ (z : List ℕ). x ++ z) (drop_at r (joined rs) w e)
region_put (suc i) x (one {w = w} {ws = ws} {r = r} {rs = rs} e s) h =
    ap₂ (λ (a b : List ℕ). a ++ (x ++ drop (get_or ws i 0) b)) (before w (start ws i) r (joined rs) e) (past w (start ws i) r (joined rs) e)
    ∙ append_assoc r (take (start ws i) (joined rs)) (x ++ drop (get_or ws i 0) (drop (start ws i) (joined rs)))
    ∙ ap (λ (z : List ℕ). r ++ z) (region_put i x s (omega arith))

pub sized_set : {ws : List ℕ} {rs : List (List ℕ)} (i : ℕ) (x : List ℕ) → Sized ws rs → length x ≡ get_or ws i 0 → Sized ws (set rs i x)
sized_set i x none e = none
sized_set zero x (one d s) e = one e s
sized_set (suc i) x (one d s) e = one d (sized_set i x s e)

-- a buffer of the whole size is its regions, one after another
pub joined_regions : (ws l : List ℕ) → length l ≡ sum ws → joined (regions ws l) ≡ l
unfolding joined regions sum
joined_regions [] [] e = refl
joined_regions [] (x ∷ l) e = absurd (omega arith)
joined_regions (w ∷ ws) l e =
    ap (λ (z : List ℕ). take w l ++ z) (joined_regions ws (drop w l) (length-drop w l ∙ omega arith)) ∙ take-append-drop w l

-- the same region, from the buffer and from the list of regions
pub regions_at : (ws l : List ℕ) (i : ℕ) → i < length ws → get_or (regions ws l) i [] ≡ mid_of (start ws i) (get_or ws i 0) l
unfolding regions start
regions_at [] l i h = absurd (omega arith)
regions_at (w ∷ ws) l zero h = refl
regions_at (w ∷ ws) l (suc i) h =
    regions_at ws (drop w l) i (omega arith) ∙ ap (take (get_or ws i 0)) (drop-drop (start ws i) w l)
