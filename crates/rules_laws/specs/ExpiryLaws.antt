-- Expiry in the words of rule 11.1, and that the kept time says the same.
use Rattle.std.specs.Prelude.{◌≡◌, Bool, true, ℕ, ◌+◌, ◌-◌, ltb}
use Rattle.std.proofs.Common.{sym, ◌∙◌, arith, ltb-true, ltb-false, lt-ltb, le-ltb}
use Rattle.wire_rules.specs.declared.ForwardOpen.{ForwardOpen}
use Rattle.wire_rules.specs.Timeout.{timeout_of}
use Rattle.rules_laws.specs.ListLaws.{by_cases}
use Rattle.rules.specs.declared.Conn.{Conn}
use Rattle.rules.specs.declared.Origin.{Origin}
use Rattle.rules.specs.declared.Plan.{Plan}
use Rattle.rules.specs.Opening.{new_heard, new_conn}
use Rattle.rules.specs.Removal.{expired}
use Rattle.rules.specs.Receiving.{Frame, newer, recorded, hear}

-- now minus the last receive time exceeds the timeout; a clock behind that time counts as 0
abbrev pub silent_too_long : ℕ → ℕ → ℕ → Bool
silent_too_long timeout last now = ltb timeout (now - last)

pub same_test : (timeout last now : ℕ) → silent_too_long timeout last now ≡ ltb (last + timeout) now
same_test timeout last now =
    by_cases (ltb (last + timeout) now)
    (λ y. let h = ltb-true (last + timeout) now y in lt-ltb timeout (now - last) (omega arith) ∙ sym y)
    (λ n. let h = ltb-false (last + timeout) now n in le-ltb timeout (now - last) (omega arith) ∙ sym n)

abbrev pub timeout : Conn → ℕ
timeout c = timeout_of c.fixed.otrpi c.fixed.multiplier

-- a connection whose frame of time `last` was recorded expires as the rule says
pub expires_after_frame : (last now : ℕ) (f : Frame) (c : Conn) → newer c.heard f.sequence ≡ true → expired now (hear last f c) ≡ silent_too_long (timeout c) last now
unfolding hear recorded
expires_after_frame last now f c e = rw e (sym (same_test (timeout c) last now))

-- before any frame its open time counts
pub expires_after_open : (last now : ℕ) (o : ForwardOpen) (g : Origin) (p : Plan) (n : ℕ) →
    expired now (new_conn last o g p n) ≡ silent_too_long (timeout_of o.ot.rpi o.multiplier) last now
unfolding new_conn new_heard
expires_after_open last now o g p n = sym (same_test (timeout_of o.ot.rpi o.multiplier) last now)
