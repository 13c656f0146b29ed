-- One law for each way through a message.
use Rattle.std.specs.Prelude.{ℕ, ◌-◌, ◌≤◌, true, List, ◌≡◌, take, drop, Option, Result, Ok}
use Rattle.rules.specs.declared.objects.Position.{Position}
use Rattle.rules.specs.declared.objects.Fault.{Fault}
use Rattle.std.proofs.Math.Path.{ap}
use Rattle.std.proofs.Common.{sym, ◌∙◌, arith, length-drop, take_all}
use Rattle.std.proofs.Math.ListN.{length}
use Rattle.wire_rules.specs.declared.Request.{Request}
use Rattle.wire_rules.specs.Requests.{request_of}
use Rattle.rules.specs.State.{State}
use Rattle.rules.specs.Upload.{upload_ok}
use Rattle.rules.specs.Message.{of_object, of_request, service_of, reply_to, message_outcome, message_reply}
use Rattle.rules_laws.specs.ReplyLaws.{Sized, reply_fits}
use Rattle.msg_uploads.specs.Lent.{stepped}
use Rattle.msg_answering.specs.Replies.{replied}

-- the data of a message, as they are lent
pub data_lent : (m : List ℕ) (start : ℕ) → take (length m - start) (drop start m) ≡ drop start m
data_lent m start = take_all (length m - start) (drop start m) (rw length-drop (omega arith))

pub object_lent : (st : State) (local mask : ℕ) (r : Request) (m : List ℕ) (up : Option Position) (out : List ℕ) (x : Result ℕ Fault × (List ℕ × List ℕ))
    → x ≡ stepped (of_object st local mask r.service r.attribute (take (length m - r.datastart) (drop r.datastart m)) up r.object) out
    → x ≡ stepped (of_request st local mask m up (Ok r)) out
object_lent st local mask r m up out x e =
    e ∙ ap (λ (d : List ℕ). stepped (of_object st local mask r.service r.attribute d up r.object) out) (data_lent m r.datastart)

module _ (st : State) (local mask : ℕ) (m : List ℕ) (up : Option Position) (v : Result Request ℕ) (e : request_of m ≡ v) where
  -- the request, by what it was parsed to
  pub reply_for_lem : (out : List ℕ) (x : ℕ × (List ℕ × List ℕ)) → x ≡ replied (service_of v) (of_request st local mask m up v) out
      → x ≡ replied (service_of (request_of m)) (message_outcome st local mask m up) out
  unfolding message_outcome
  reply_for_lem out x f = f ∙ ap (λ (r : Result Request ℕ). replied (service_of r) (of_request st local mask m up r) out) (sym e)

  pub reply_short : Sized st → upload_ok st.setup up ≡ true → length (reply_to (service_of v) (of_request st local mask m up v).0) ≤ 516
  unfolding message_reply message_outcome
  reply_short sized ok =
      let h = reply_fits st local mask sized up ok m in
      let q : length (reply_to (service_of (request_of m)) (of_request st local mask m up (request_of m)).0) ≡ length (reply_to (service_of v) (of_request st local mask m up v).0) =
      ap (λ (r : Result Request ℕ). length (reply_to (service_of r) (of_request st local mask m up r).0)) e in
      omega (arith, h, q)
