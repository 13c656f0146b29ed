-- The reply's data of a refused open: what a writer says is what the rules answer.
use Rattle.std.specs.Prelude.{ℕ, Bool, true, false, cond, List, ◌≡◌, leb, length, Option, Some, None, Result, Ok}
use Rattle.std.specs.Option.{ok_or}
use Rattle.std.proofs.Common.{refl, ap, ◌∙◌}
use Rattle.std.proofs.Math.Seq.{sets}
use Rattle.base_cells.specs.Pick.{pick}
use Rattle.base_cells.specs.Writes.{written}
use Rattle.wire_rules.specs.declared.ForwardOpen.{ForwardOpen}
use Rattle.wire_rules.specs.Replies.{open_refusal}
use Rattle.rules.specs.Answers.{Wrote, Refused, answer_number, outcome_number}
use Rattle.rules.specs.Opening.{open_asked, refusal_answer}
use Rattle.rules.specs.declared.No.{No}
use Rattle.rules.specs.declared.No.TheVariants.{NotParsed, NoRoom}
use Rattle.msg_routing.specs.Answered.{answered, saying, wrote}

module _ (bs out out' : List ℕ) (x : Option ℕ) (e : (x, out') ≡ written out bs) where
  -- what is left, by whether it fits
  left : Bool → Option ℕ × List ℕ
  left b = pick b (Some (length bs), sets out 0 bs) (None, out)

  pub written_said : (y : Result ℕ No) → y ≡ ok_or x NoRoom → (outcome_number y, out') ≡ answered (wrote bs) out
  unfolding written answered answer_number left
  written_said y q =
      ap (λ (z : Result ℕ No). (outcome_number z, out')) q
      ∙ ap (λ (z : Option ℕ × List ℕ). (outcome_number (ok_or z.0 NoRoom), z.1)) e
      ∙ said (leb (length bs) (length out))
    where
      said : (b : Bool) → (outcome_number (ok_or (left b).0 NoRoom), (left b).1) ≡ saying (cond b (Wrote bs) (Refused NoRoom)) out
      said true = refl
      said false = refl

  pub written_long : (n : ℕ) → Ok n ≡ ok_or x NoRoom → n ≡ length bs
  unfolding written left
  written_long n q = long (leb (length bs) (length out)) (q ∙ ap (λ (z : Option ℕ × List ℕ). ok_or z.0 NoRoom) e)
    where
      long : (b : Bool) → Ok n ≡ ok_or (left b).0 NoRoom → n ≡ length bs
      long true h = cc
      long false h = absurd (cc)

-- an open that parsed is refused with the data of its triad
pub refused_with : (service : ℕ) (request out : List ℕ) (q : Option ForwardOpen) → q ≡ open_asked service request → (o : ForwardOpen) → Ok o ≡ ok_or q NotParsed
    → answered (wrote (open_refusal o.triad)) out ≡ answered (refusal_answer service request) out
unfolding refusal_answer answered
refused_with service request out None e o h = absurd (cc)
refused_with service request out (Some p) e o h = rw (← e) (let z : o ≡ p = cc in ap (λ (w : ForwardOpen). saying (wrote (open_refusal w.triad) (length out)) out) z)
