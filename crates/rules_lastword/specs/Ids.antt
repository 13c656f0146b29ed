-- O→T ids do not come round again while fewer than 2^31 opens have been accepted: each is new to the table. That every step keeps it so stands
-- in proofs/Ids.antt.
use Rattle.std.specs.Prelude.{◌≡◌, true, false, cond, ℕ, suc, ◌+◌, ◌*◌, ◌-◌, ◌^◌, ◌≤◌, ◌<◌, eqb, leb}
use Rattle.std.proofs.Common.{ap, arith}
use borrow.Author.Tests.{le-leb, ltb-true, lt-ltb}
use Rattle.rules.specs.Lists.{any}
use Rattle.rules_laws.specs.ListLaws
use Rattle.rules_laws.specs.ListLaws.{by_cases, All, eqb_true}
use Rattle.rules.specs.State.{Setup, State}
use Rattle.rules.specs.Setup.{first_id, fresh}
use Rattle.rules_isolation.specs.Sound.{Sound, fresh_sound}
use Rattle.rules_lastword.specs.Words.{few, early}

-- where an id stands on a line from the first, on which ids go on behind 2^32 - 1
abbrev pub along : ℕ → ℕ → ℕ
along first n = cond (leb first n) n (n + (2 ^ 32 - 1))

-- every id of the table is behind the next, which is at most two for each open from the first
pub record Numbered (first d : ℕ) (s : State) : Type 0 where
  pub upto : along first s.next_id ≤ first + 2 * d
  pub ids : All (λ c. along first c.fixed.otid.0 < along first s.next_id) s.table

-- the next id is no connection's
pub next_is_new : (first d : ℕ) (s : State) → Numbered first d s → any (λ c. eqb c.fixed.otid.0 s.next_id) s.table ≡ false
next_is_new first d s h =
    ListLaws.none_is (λ c. eqb c.fixed.otid.0 s.next_id) s.table
    (ListLaws.all_to (λ c. along first c.fixed.otid.0 < along first s.next_id) (λ c. eqb c.fixed.otid.0 s.next_id ≡ false)
    (λ c k. by_cases (eqb c.fixed.otid.0 s.next_id)
    (λ y. let e = ap (along first) (eqb_true c.fixed.otid.0 s.next_id y) in absurd (omega (arith, e, k)))
    (λ n. n)) s.table h.ids)

-- THE GROUND on which a history stands: a sound state, and, while the opens are few, ids that are new
pub record Ground (u : Setup) (seed d : ℕ) (s : State) : Type 0 where
  pub sound : Sound u s
  pub ids : early d ≡ true → Numbered (first_id seed) d s

pub fewer_early : (d : ℕ) → early (suc d) ≡ true → early d ≡ true
fewer_early d y = let k = ltb-true (suc d) few y in lt-ltb d few (omega arith)

module _ (u : Setup) (seed : ℕ) (small : seed < 2 ^ 32) where
  pub fresh_ground : Ground u seed 0 (fresh u seed)
  unfolding fresh
  fresh_ground = record { sound = fresh_sound u seed; ids = λ y. record { upto = first_along (first_id seed); ids = tt } }
    where
      first_along : (first : ℕ) → along first first ≤ first + 2 * 0
      first_along first = let a = le-leb first first (omega arith) in rw a (omega arith)
