use Rattle.std.proofs.Common.{ap, ◌∙◌, ℕ, take, drop}
use native.Mathlib.Nat.{add-sub_cancel_left}
use Rattle.rules.specs.Attributes.{Gives, tagged_text}
use Rattle.msg_attributes.specs.Told.{told}
use Rattle.msg_file.proofs.eds_name.Goals as goal

pub returns : goal.returns
returns c = let a = c.args in
    c.tagged.ensures ∙ ap (λ (k : ℕ). told (Gives (tagged_text (take k (drop 78 a.r.now)))) a.out.now) (add-sub_cancel_left 78 c.u8_at.result ∙ c.u8_at.ensures)
