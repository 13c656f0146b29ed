-- The ring's word and an assembly's mark: numbers made of smaller ones, of which every one says one thing.
use Rattle.std.specs.Prelude.{ℕ, ◌+◌, ◌*◌, ◌/◌, ◌%◌, ◌≤◌, ◌<◌, Bool, ◌≡◌}
use Rattle.std.proofs.Common.{ap, ◌∙◌, arith}
use Rattle.base_cells.specs.Records.{to_bool, of_bool, to_of}
use Rattle.base_cells.specs.Back.{of_to}
use Rattle.state_rules.specs.Places.{ring_bound}
use Rattle.state_rules.specs.RowLaws.{bit_small}

-- ---- the ring's word: events that wait, the oldest one's slot, the fault mark; one comparison for the three

abbrev pub word_of : ℕ → ℕ → Bool → ℕ
word_of waiting first fault = waiting * 2048 + first * 2 + of_bool fault

pub of_to_word : (w : ℕ) → word_of (w / 2048) (w / 2 % 1024) (to_bool (w % 2)) ≡ w
of_to_word w =
    let a : of_bool (to_bool (w % 2)) ≡ w % 2 = of_to (w % 2) (omega arith) in
    (λ i. w / 2048 * 2048 + w / 2 % 1024 * 2 + a i) ∙ omega arith

pub word_fits : (w : ℕ) → w < ring_bound → (w / 2048 ≤ 1024) × (w / 2 % 1024 < 1024)
word_fits w h = (omega arith, omega arith)

pub word_small : (waiting first : ℕ) (fault : Bool) → waiting ≤ 1024 → first < 1024 → word_of waiting first fault < ring_bound
word_small waiting first fault p q = let a = bit_small fault in omega arith

module _ (waiting first : ℕ) (fault : Bool) (q : first < 1024) where
  pub waiting_of_word : word_of waiting first fault / 2048 ≡ waiting
  waiting_of_word = let a = bit_small fault in omega arith

  pub first_of_word : word_of waiting first fault / 2 % 1024 ≡ first
  first_of_word = let a = bit_small fault in omega arith

  pub fault_of_word : word_of waiting first fault % 2 ≡ of_bool fault
  fault_of_word = let a = bit_small fault in omega arith

-- ---- an assembly's mark: whether it runs, whether an event waits for it; the bits that stand for nothing stay

abbrev pub run_in : ℕ → Bool
run_in mark = to_bool (mark % 2)

abbrev pub notified_in : ℕ → Bool
notified_in mark = to_bool (mark / 2 % 2)

abbrev pub mark_over : Bool → Bool → ℕ → ℕ
mark_over run notified old = of_bool run + 2 * of_bool notified + 4 * (old / 4)

pub mark_own : (n : ℕ) → mark_over (run_in n) (notified_in n) n ≡ n
mark_own n =
    let a : of_bool (run_in n) ≡ n % 2 = of_to (n % 2) (omega arith) in
    let b : of_bool (notified_in n) ≡ n / 2 % 2 = of_to (n / 2 % 2) (omega arith) in
    (λ i. a i + 2 * b i + 4 * (n / 4)) ∙ omega arith

pub mark_twice : (r t r' t' : Bool) (n : ℕ) → mark_over r' t' (mark_over r t n) ≡ mark_over r' t' n
mark_twice r t r' t' n =
    let a = bit_small r in let b = bit_small t in
    let e : mark_over r t n / 4 ≡ n / 4 = omega arith in ap (λ (k : ℕ). of_bool r' + 2 * of_bool t' + 4 * k) e

module _ (run notified : Bool) (n : ℕ) where
  pub run_of_mark : run_in (mark_over run notified n) ≡ run
  run_of_mark =
      let a = bit_small run in let b = bit_small notified in
      let e : mark_over run notified n % 2 ≡ of_bool run = omega arith in ap to_bool e ∙ to_of run

  pub notified_of_mark : notified_in (mark_over run notified n) ≡ notified
  notified_of_mark =
      let a = bit_small run in let b = bit_small notified in
      let e : mark_over run notified n / 2 % 2 ≡ of_bool notified = omega arith in ap to_bool e ∙ to_of notified
