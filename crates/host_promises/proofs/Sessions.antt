-- A session that hands back the position that it got, eight zeros at first, is served.
use Rattle.std.specs.Prelude.{ℕ, zero, suc, ◌*◌, ◌<◌, Bool, true, cond, List, ◌≡◌, leb, length, get_or, replicate}
use Rattle.std.proofs.Common.{ap, sym, subst, ◌∙◌, arith}
use Rattle.base_cells.specs.Back.{Bytes}
use Rattle.rules_laws.specs.ListLaws.{by_cases}
use Rattle.rules.specs.State.{Setup, State}
use Rattle.rules.specs.Answers.{Wrote, Refused, answer_number}
use Rattle.rules.specs.Message.{reply_room, message_reply, message_answer}
use Rattle.msg_positions.specs.Positions.{dec_upload}
use Rattle.state_rules.specs.Image.{view, tested}
use Rattle.msg_answering.specs.Positions.{position_tested}
use Rattle.msg_answering.specs.Lifted.{lifted_message}
use Rattle.msg_answering.specs.Accepted.{zeros_pass, message_accepted, message_bytes}
use Rattle.host_runs.specs.CallContracts.{Said, Met}
use Rattle.host_runs.specs.HostCalls.{HostCall, contract_of, CCall}
use Rattle.host_runs.specs.Steps.{same_next, suits}
use Rattle.host_runs.proofs.Steps.{agrees}
use Rattle.host_runs.specs.Runs.{Held}
use Rattle.host_runs.proofs.Held.{held_passes}
use Rattle.host_promises.specs.Sessions.{Session, done, other, asks, Never1}
use Rattle.rules.specs.declared.No.TheVariants.{NoRoom}

-- what is set up stays
setup_stays : (c : HostCall) (s : List ℕ) → tested s ≡ true → (s' : List ℕ) (a : Said) → Met (contract_of c) s s' a → (view s').setup ≡ (view s).setup
unfolding view
setup_stays c s ok s' a m =
    ap (λ (st : State). st.setup) ((agrees (CCall.On c) s ok s' a m).holds ∙ sym (same_next c (view s))) ∙ (suits s ok c).setup

-- a message's reply has a number that is a multiple of 256, or 8
not_1 : (st : State) (local mask : ℕ) (message upload : List ℕ) (room n : ℕ) → n ≡ answer_number (message_answer local mask message room st (dec_upload upload)) → n ≡ 1 → ⊥
unfolding message_answer answer_number
not_1 st local mask message upload room n e f =
    let reply : List ℕ = message_reply st local mask message (dec_upload upload) in
    by_cases (leb reply_room room)
    (λ y. let k : n ≡ 256 * length reply = e ∙ ap (λ (b : Bool). answer_number (cond b (Wrote reply) (Refused NoRoom))) y in omega arith)
    (λ y. let k : n ≡ 8 = e ∙ ap (λ (b : Bool). answer_number (cond b (Wrote reply) (Refused NoRoom))) y in omega arith)

-- A SESSION THAT HANDS BACK WHAT IT GOT IS SERVED
pub served : {s p s'' p'' : List ℕ} (r : Session s p s'' p'') → tested s ≡ true → Bytes p → position_tested (view s).setup p ≡ true
    → (position_tested (view s'').setup p'' ≡ true) × Never1 r
served done ok b t = (t, tt)
served (other c a {s} {s'} {p = p} m r) ok b t =
    let e = setup_stays c s ok s' a m in
    served r (agrees (CCall.On c) s ok s' a m).passes b (ap (λ (u : Setup). position_tested u p) e ∙ t)
served (asks local mask message out a {s} {s'} {p = p} bs m r) ok b t =
    let c : HostCall = HostCall.Message local mask message p out in
    let g = agrees (CCall.On c) s ok s' a m in
    let q : a.position ≡ (lifted_message local mask message s p out).1.0 = ap (λ (z : ℕ × (List ℕ × List ℕ)). z.1.0) m.0 in
    let k : position_tested (view s').setup a.position ≡ true =
    ap (λ (u : Setup). position_tested u a.position) (setup_stays c s ok s' a m)
    ∙ ap (position_tested (view s).setup) q
    ∙ message_accepted s ok bs local mask message p out b t in
    let f = served r g.passes (subst Bytes (sym q) (message_bytes s ok bs local mask message p out b t)) k in
    (f.0, (not_1 (view s) local mask message p (length out) a.number (g.answers.0 t).0.0, f.1))

zero_bytes : (n i : ℕ) → get_or (replicate n 0) i 0 < 256
zero_bytes zero i = omega arith
zero_bytes (suc n) zero = omega arith
zero_bytes (suc n) (suc i) = zero_bytes n i

-- and it may begin with eight zeros on any bytes that a host holds
pub served_from_zeros : {s s'' p'' : List ℕ} → Held s → (r : Session s (replicate 8 0) s'' p'') → (position_tested (view s'').setup p'' ≡ true) × Never1 r
served_from_zeros {s} h r = served r (held_passes h) (zero_bytes 8) (zeros_pass (view s).setup)
