use Rattle.std.proofs.Common.{ap, ◌∙◌, ℕ, take, drop}
use native.Mathlib.Nat.{add-sub_cancel_left}
use Rattle.rules.specs.Attributes.{Gives, short_string}
use Rattle.msg_attributes.specs.Told.{told}
use Rattle.msg_identity.proofs.name.Goals as goal

pub returns : goal.returns
returns c = let a = c.args in
    c.text.ensures ∙ ap (λ (k : ℕ). told (Gives (short_string (take k (drop 46 a.r.now)))) a.out.now) (add-sub_cancel_left 46 c.u8_at.result ∙ c.u8_at.ensures)
