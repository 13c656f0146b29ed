-- Expiry: the first that has expired removed, repeatedly; what is left to do gives the whole answer.
use Rattle.std.specs.Prelude.{ℕ, zero, suc, ◌+◌, ◌-◌, ◌≤◌, ◌<◌, Bool, false, List, ◌≡◌, refl, length, None}
use Rattle.std.proofs.Common.{ap, ap₂, sym, subst, ◌∙◌, arith}
use Rattle.rules.specs.Lists.{repeat, any}
use Rattle.rules.specs.State.{State, with_fault}
use Rattle.rules.specs.Removal.{expired, expired_first, expire_effect}
use Rattle.state_rules.specs.Places.{table_in, connections_of}
use Rattle.state_rules.specs.Rows.{conns_in}
use Rattle.state_image.specs.Holds.{Held, Becomes, conns_held}
use Rattle.state_image.specs.Kept.{suits_fault}
use Rattle.conn_lookup.specs.RowTests.{never_place}
use Rattle.conn_removal.specs.Turns.{Turns, turn}
use Rattle.conn_removal.specs.Removals.{Ends, ends_none}

pub turn_fault : (s s' : List ℕ) (b : Bool) → Becomes s s' (with_fault b) → Turns s s' (with_fault b)
turn_fault s s' b d = turn s s' (with_fault b) d (λ st l w. suits_fault st l w b) (λ st. omega arith)

-- how many went, and what is left
pub record AllEnded (t r : ℕ) (s' : List ℕ) (st : State) (l : List ℕ) : Type 0 where
  pub count : r ≡ length st.table - length (expire_effect t st).table
  pub held : Held s' (expire_effect t st) l

abbrev pub EndsAll : ℕ → ℕ → List ℕ → List ℕ → Type 0
EndsAll t r s s' = (st : State) (l : List ℕ) → Held s st l → AllEnded t r s' st l

pub record Rest (t n k : ℕ) (s : List ℕ) (st : State) (l : List ℕ) : Type 0 where
  pub at : State
  pub held : Held s at l
  pub rest : repeat (n - k) (expired_first t) at ≡ expire_effect t st

abbrev pub Going : ℕ → ℕ → ℕ → List ℕ → List ℕ → Type 0
Going t n k s₀ s = (st : State) (l : List ℕ) → Held s₀ st l → Rest t n k s st l

pub rest_start : (t n : ℕ) (s : List ℕ) → n ≡ connections_of s → Going t n 0 s s
unfolding expire_effect
rest_start t n s e st l o =
    record {
      at = st;
      held = o;
      rest = ap (λ (m : ℕ). repeat m (expired_first t) st) (let w = conns_held s st l o.holds in let q : n - 0 ≡ length st.table = omega arith in q);
    }

pub rest_turn : (t n k : ℕ) (r : Bool) (s₀ s s' : List ℕ) → k < n → Going t n k s₀ s → Ends t r s s' → Going t n (k + 1) s₀ s'
rest_turn t n k r s₀ s s' p g d st l o =
    let w = g st l o in
    let y = d w.at l w.held in
    let e : n - k ≡ suc (n - (k + 1)) = omega arith in
    record {
      at = expired_first t w.at;
      held = y.held;
      rest = ap (λ (m : ℕ). repeat m (expired_first t) w.at) (sym e) ∙ w.rest;
    }

still : (n : ℕ) (f : State → State) (st : State) → f st ≡ st → repeat n f st ≡ st
still zero f st e = refl
still (suc n) f st e = ap (repeat n f) e ∙ still n f st e

pub rest_end : (t n k : ℕ) (s₀ s : List ℕ) → n ≤ k → Going t n k s₀ s → Turns s₀ s (expire_effect t)
rest_end t n k s₀ s p g st l o =
    let w = g st l o in
    let z : n - k ≡ 0 = omega arith in
    subst (λ (x : State). Held s x l) (ap (λ (j : ℕ). repeat j (expired_first t) w.at) (sym z) ∙ w.rest) w.held

-- nothing more has expired: the turns that are left change nothing
pub rest_stop : (t n k : ℕ) (r : Bool) (s₀ s s' : List ℕ) → Going t n k s₀ s → Ends t r s s' → r ≡ false → Turns s₀ s' (expire_effect t)
rest_stop t n k r s₀ s s' g d nn st l o =
    let w = g st l o in
    let y = d w.at l w.held in
    subst (λ (x : State). Held s' x l) (y.none_left nn ∙ sym (still (n - k) (expired_first t) w.at (y.none_left nn)) ∙ w.rest) y.held

-- how many went is told by the two numbers of connections
pub went : (t n m : ℕ) (s₀ s : List ℕ) → n ≡ connections_of s₀ → m ≡ connections_of s → Turns s₀ s (expire_effect t) → EndsAll t (n - m) s₀ s
went t n m s₀ s en em g st l o =
    let w = g st l o in record { count = ap₂ ◌-◌ (en ∙ conns_held s₀ st l o.holds) (em ∙ conns_held s (expire_effect t st) l w.holds); held = w }

-- none has expired: nothing goes
pub none_expired : (t n : ℕ) (s : List ℕ) → n ≡ connections_of s → any (expired t) (conns_in n (table_in s)) ≡ false → EndsAll t 0 s s
none_expired t n s en e =
    let z : n - n ≡ 0 = omega arith in
    subst (λ (k : ℕ). EndsAll t k s s) z
    (went t n n s s en en
    (rest_stop t n 0 false s s s (rest_start t n s en) (ends_none t s n None en (sym (never_place (expired t) (conns_in n (table_in s)) e)) refl) refl))
