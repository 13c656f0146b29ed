-- The run bit: an assembly in run is an output with an owner in the table; and after an expiry call no owner has been silent for longer
-- than its timeout.
use Rattle.std.specs.Prelude.{◌≡◌, refl, List, [], ◌∷◌, Bool, true, false, ℕ, zero, suc, length, get_or}
use Rattle.std.proofs.Common.{sym, ap, subst, arith}
use Rattle.rules.specs.Lists.{any, change_at}
use Rattle.rules_laws.specs.ListLaws.{All}
use Rattle.rules.specs.State.{Setup, shape_at, Content, no_content, State, is_output}
use Rattle.rules.specs.Checks.{owns}
use Rattle.rules.specs.Removal.{expired, expire_effect}
use Rattle.rules_isolation.specs.Ends.{reaches}
use Rattle.rules_isolation.specs.Survive.{none_left}
use Rattle.rules_isolation.specs.Expiry.{expire_table}
use Rattle.rules_steps.specs.Names.{Conn}

-- a connection that owns the output at a place
abbrev pub owner_of : ℕ → Conn → Bool
owner_of i c = owns i c.fixed

-- what is in run is an output with an owner in the table; that every run keeps it is proved in proofs/RunBit
abbrev pub InRun : Setup → List Conn → ℕ → Content → Type 0
InRun u l i a = a.run ≡ true → (is_output (shape_at u i).kind ≡ true) × (any (owner_of i) l ≡ true)

abbrev pub Owned : State → Type 0
Owned s = (i : ℕ) → InRun s.setup s.table i (get_or s.contents i no_content)

-- at a place after a change at another or the same
pub at_change : (P : Content → Type 0) (i j : ℕ) (f : Content → Content) (l : List Content) → P (get_or l i no_content) → (i ≡ j → P (f (get_or l i no_content))) →
    P (get_or (change_at j f l) i no_content)
at_change P i j f [] p q = p
at_change P zero zero f (a ∷ l) p q = q refl
at_change P zero (suc j) f (a ∷ l) p q = p
at_change P (suc i) zero f (a ∷ l) p q = p
at_change P (suc i) (suc j) f (a ∷ l) p q = at_change P i j f l p (λ e. q (ap suc e))

-- after an expiry call none is left that has been silent for longer than its timeout
pub none_silent : (t : ℕ) (s : State) → All (λ c. expired t c ≡ false) (expire_effect t s).table
unfolding expire_effect
none_silent t s =
    subst (All (λ c. expired t c ≡ false)) (sym (expire_table t (length s.table) s)) (none_left (reaches (expired t) (length s.table) s.table (omega arith)))
