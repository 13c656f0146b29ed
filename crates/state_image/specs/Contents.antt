-- What assemblies hold, as marks and slots: what is written is read back, what was read is written again.
use Rattle.std.specs.Prelude.{ℕ, zero, suc, ◌-◌, ◌*◌, ◌≤◌, ◌<◌, List, [], ◌∷◌, ◌++◌, map, ◌≡◌, refl, length, get_or, take, drop, set, replicate}
use Rattle.std.proofs.Common.{ap, ap₂, ◌∙◌, arith, length-append, length-drop, take-append-drop, length-take-le, take_at, drop_at}
use Rattle.std.proofs.lemmas.List.{length-replicate}
use Rattle.base_tables.specs.Slots.{store_slots, fill_own, length_fill}
use Rattle.rules.specs.State.{Shape, Content, no_shape, no_content}
use Rattle.state_rules.specs.Bits.{run_in, notified_in, mark_own, mark_twice, run_of_mark, notified_of_mark}
use Rattle.state_rules.specs.Image.{contents_of, record32, mark_on, marks_over, bytes_of}
use Rattle.state_image.specs.Fits.{Records32, none, one}

-- ---- marks over those that were

pub length_marks_over : (cs : List Content) (m : List ℕ) → length cs ≤ length m → length (marks_over cs m) ≡ length m
unfolding marks_over
length_marks_over [] m h = refl
length_marks_over (c ∷ cs) [] h = absurd (omega arith)
length_marks_over (c ∷ cs) (x ∷ m) h = ap suc (length_marks_over cs m (omega arith))

-- a mark's two bits are read back
pub run_over : (cs : List Content) (m : List ℕ) (i : ℕ) → i < length cs → run_in (get_or (marks_over cs m) i 0) ≡ (get_or cs i no_content).run
unfolding marks_over
run_over [] m i p = absurd (omega arith)
run_over (c ∷ cs) m zero p = run_of_mark c.run c.notified (get_or m 0 0)
run_over (c ∷ cs) m (suc i) p = run_over cs (drop 1 m) i (omega arith)

pub notified_over : (cs : List Content) (m : List ℕ) (i : ℕ) → i < length cs → notified_in (get_or (marks_over cs m) i 0) ≡ (get_or cs i no_content).notified
unfolding marks_over
notified_over [] m i p = absurd (omega arith)
notified_over (c ∷ cs) m zero p = notified_of_mark c.run c.notified (get_or m 0 0)
notified_over (c ∷ cs) m (suc i) p = notified_over cs (drop 1 m) i (omega arith)

-- a mark over another: the bits that stand for nothing are the first one's
pub marks_set : (cs : List Content) (m : List ℕ) (i : ℕ) (c : Content) → i < length cs
    → set (marks_over cs m) i (mark_on c (get_or (marks_over cs m) i 0)) ≡ marks_over (set cs i c) m
unfolding marks_over
marks_set [] m i c p = absurd (omega arith)
marks_set (x ∷ cs) m zero c p =
    ap (λ (z : ℕ). z ∷ marks_over cs (drop 1 m)) (mark_twice x.run x.notified c.run c.notified (get_or m 0 0))
marks_set (x ∷ cs) m (suc i) c p = ap (λ (z : List ℕ). mark_on x (get_or m 0 0) ∷ z) (marks_set cs (drop 1 m) i c (omega arith))

-- ---- lists of contents

pub length_contents_of : (ss : List Shape) (m d : List ℕ) → length (contents_of ss m d) ≡ length ss
unfolding contents_of
length_contents_of [] m d = refl
length_contents_of (a ∷ ss) m d = ap suc (length_contents_of ss (drop 1 m) (drop 512 d))

-- the marks of what was read, over those that were read, are these
pub marks_back : (ss : List Shape) (m d : List ℕ) → length ss ≤ length m → marks_over (contents_of ss m d) m ≡ m
unfolding contents_of marks_over
marks_back [] m d g = refl
marks_back (a ∷ ss) [] d g = absurd (omega arith)
marks_back (a ∷ ss) (x ∷ m) d g = ap₂ ◌∷◌ (mark_own x) (marks_back ss m (drop 512 d) (omega arith))

pub data_back : (ss : List Shape) (m d : List ℕ) → store_slots (map bytes_of (contents_of ss m d)) d ≡ d
unfolding contents_of store_slots
data_back [] m d = refl
data_back (a ∷ ss) m d = ap₂ ◌++◌ (fill_own a.size (take 512 d)) (data_back ss (drop 1 m) (drop 512 d)) ∙ take-append-drop 512 d

-- each is as long as its shape says
pub sized_back : (ss : List Shape) (m d : List ℕ) → ((i : ℕ) → (get_or ss i no_shape).size ≤ 512) → length ss * 512 ≤ length d
    → (i : ℕ) → length (get_or (contents_of ss m d) i no_content).bytes ≡ (get_or ss i no_shape).size
unfolding contents_of
sized_back [] m d h g i = refl
sized_back (a ∷ ss) m d h g zero =
    let k = h 0 in let e : length (take 512 d) ≡ 512 = length-take-le 512 d (omega arith) in length-take-le a.size (take 512 d) (omega arith)
sized_back (a ∷ ss) m d h g (suc i) =
    let e : length (drop 512 d) ≡ length d - 512 = length-drop 512 d in
    sized_back ss (drop 1 m) (drop 512 d) (λ j. h (suc j)) (omega arith) i

-- what was written is read back
pub contents_back : (ss : List Shape) (cs : List Content) (m d : List ℕ) → length cs ≡ length ss
    → ((i : ℕ) → length (get_or cs i no_content).bytes ≡ (get_or ss i no_shape).size) → ((i : ℕ) → (get_or ss i no_shape).size ≤ 512)
    → length ss * 512 ≤ length d
    → contents_of ss (marks_over cs m) (store_slots (map bytes_of cs) d) ≡ cs
unfolding contents_of store_slots marks_over
contents_back [] [] m d e z h g = refl
contents_back [] (c ∷ cs) m d e z h g = absurd (omega arith)
contents_back (a ∷ ss) [] m d e z h g = absurd (omega arith)
contents_back (a ∷ ss) (c ∷ cs) m d e z h g =
    let x : List ℕ = c.bytes in
    let s : List ℕ = drop (length x) (take 512 d) in
    let rest : List ℕ = store_slots (map bytes_of cs) (drop 512 d) in
    let k = h 0 in
    let z0 : length x ≡ a.size = z 0 in
    let t : length (take 512 d) ≡ 512 = length-take-le 512 d (omega arith) in
    let n : length (x ++ s) ≡ 512 = length_fill x (take 512 d) (omega arith) ∙ t in
    let b : take a.size (take 512 ((x ++ s) ++ rest)) ≡ x =
    ap (take a.size) (take_at (x ++ s) rest 512 n) ∙ take_at x s a.size z0 in
    let l' : length (drop 512 d) ≡ length d - 512 = length-drop 512 d in
    let old : ℕ = get_or m 0 0 in
    ap₂ ◌∷◌ (λ i. record { bytes = b i; run = run_of_mark c.run c.notified old i; notified = notified_of_mark c.run c.notified old i })
    (ap (contents_of ss (marks_over cs (drop 1 m))) (drop_at (x ++ s) rest 512 n)
    ∙ contents_back ss cs (drop 1 m) (drop 512 d) (omega arith) (λ i. z (suc i)) (λ i. h (suc i)) (omega arith))

-- ---- records of 32 bytes

pub length_record32 : (e : List ℕ) → length (record32 e) ≡ 32
unfolding record32
length_record32 e =
    let n = length-replicate {A = ℕ} 32 0 in
    length-take-le 32 (e ++ replicate 32 0) (let a = length-append e (replicate 32 0) in omega arith)

pub record32_own : (e : List ℕ) → length e ≡ 32 → record32 e ≡ e
unfolding record32
record32_own e h = take_at e (replicate 32 0) 32 h

pub records_back : (es : List (List ℕ)) → Records32 es → map (λ e. record32 e) es ≡ es
records_back [] none = refl
records_back (e ∷ es) (one h r) = ap₂ ◌∷◌ (record32_own e h) (records_back es r)
