-- An open with a plan as a call: No. 8, or the state and the reply.
use Prim.Native.Nat.{ℕ, ◌≤◌, ◌<◌}
use Rattle.std.specs.Prelude.{Bool, true, false, ◌≡◌, refl, length, Option, Ok}
use Rattle.std.proofs.Math.Bool.{cond}
use mathlib.Core.List.{List, []}
use Rattle.std.proofs.Math.Path.{ap}
use Rattle.std.proofs.Common.{sym, subst, ◌∙◌, le-leb}
use native.Mathlib.Omega.{arith}
use Rattle.std.proofs.Math.Seq.{sets}
use Rattle.std.proofs.lemmas.Bool.{lt-leb}
use Rattle.base_cells.specs.Back.{Bytes}
use Rattle.base_cells.specs.Writes.{written, written_all}
use Rattle.wire_rules.specs.declared.ForwardOpen.{ForwardOpen}
use Rattle.wire_replies.specs.ReplyLaws.{open_reply_long}
use Rattle.rules.specs.Answers.{Answer, Accepted, Refused, is_yes, answer_number, answer_bytes}
use Rattle.rules.specs.Checks.{asks_multicast}
use Rattle.rules.specs.Opening.{after_id, side_of, side_at, new_conn, opened, reply_of, plan_answer}
use Rattle.rules.specs.Opening
use Rattle.rules.specs.State.{State}
use Rattle.rules.specs.declared.Conn.{Conn}
use Rattle.rules.specs.declared.Origin.{Origin}
use Rattle.rules.specs.declared.Plan.{Plan}
use Rattle.rules.specs.declared.Socket.{Socket}
use Rattle.state_rules.specs.Places.{next_id_of}
use Rattle.state_rules.specs.Image.{view, store, tested}
use Rattle.state_image.specs.Holds.{holds_tested, next_id_held}
use Rattle.state_image.specs.Lift.{lifted_out, out_done, out_kept}
use Rattle.open_answering.specs.declared.making.Side.{Side}
use Rattle.open_answering.specs.Sides.{side_in, after_some, side_some}
use Rattle.open_answering.specs.Steps.{StoresFit, opened_as, Opens, reply_from, plan_call}
use Rattle.open_answering.specs.StepLaws.{opened_is}
use Rattle.rules.specs.declared.No.TheVariants.{NoRoom}

-- ---- the number

-- the reply does not change it
number_any : (multicast : Bool) (dest : Socket) (bs : List ℕ) → answer_number (Accepted multicast dest []) ≡ answer_number (Accepted multicast dest bs)
unfolding answer_number
number_any true dest bs = refl
number_any false dest bs = refl

-- ---- the reply

pub reply_written : (o : ForwardOpen) (n : ℕ) (x : Side) (out out' : List ℕ) (w : Option ℕ) → 26 ≤ length out
    → (w, out') ≡ written out (reply_from o n x) → out' ≡ sets out 0 (reply_from o n x)
reply_written o n x out out' w h e =
    let k = open_reply_long (record { 0 = n }) x.toid o.triad o.ot.rpi x.torpi in
    ap (λ (z : Option ℕ × List ℕ). z.1) (e ∙ written_all out (reply_from o n x) (omega arith))

-- ---- the call

module _ (t : ℕ) (o : ForwardOpen) (g : Origin) (d : List ℕ) (p : Plan) (s out : List ℕ) (ok : tested s ≡ true) (b : Bytes s) where
  abbrev n₀ : ℕ
  n₀ = (view s).next_id

  long : length (reply_of o g p n₀) ≡ 26
  unfolding reply_of
  long = open_reply_long (record { 0 = n₀ }) (side_at o g p n₀).toid o.triad o.ot.rpi (side_at o g p n₀).torpi

  abbrev yes : Answer
  yes = Accepted (asks_multicast o) (side_at o g p n₀).dest (reply_of o g p n₀)

  pub accept_short : length out < 26 → (8, (s, out)) ≡ lifted_out (plan_call t o g d p) s out
  unfolding plan_call answer_number
  accept_short h =
      let k = long in
      let a : Refused NoRoom ≡ plan_answer o g n₀ (length out) (Ok p) =
      ap (λ (v : Bool). cond v yes (Refused NoRoom)) (sym (lt-leb (length (reply_of o g p n₀)) (length out) (omega arith))) in
      out_kept (plan_call t o g d p) s out ok b 8 (ap answer_number a) (ap (λ (z : Answer). cond (is_yes z) (opened t o g d p (view s)) (view s)) (sym a)) (ap answer_bytes (sym a))

  module _ (n m : ℕ) (en : n ≡ next_id_of s) (em : m ≡ after_id n) (x : Side) (ex : side_in x ≡ side_of o g m p.stream) where
    n_is : n ≡ n₀
    n_is = en ∙ next_id_held s (view s) s (holds_tested s ok b)

    pub side_here : side_in x ≡ side_at o g p n
    side_here = ex ∙ ap (λ (k : ℕ). side_of o g k p.stream) em

    side_is : side_in x ≡ side_at o g p n₀
    side_is = side_here ∙ ap (side_at o g p) n_is

    -- the next id is not 0
    pub next_some : 0 < x.next
    next_some =
        let q : 0 < m = subst (λ (k : ℕ). 0 < k) (sym em) (after_some n) in
        subst (λ (z : Opening.Side). 0 < z.next) (sym ex) (side_some o g m q p.stream)

    reply_is : reply_from o n x ≡ reply_of o g p n₀
    unfolding reply_of
    reply_is = λ j. open_reply_at (n_is j) (side_is j)
      where
        open_reply_at : ℕ → Opening.Side → List ℕ
        open_reply_at k z = Rattle.wire_rules.specs.Replies.open_reply (record { 0 = k }) z.toid o.triad o.ot.rpi z.torpi

    pub accept_done : 26 ≤ length out → (c : Conn) → c ≡ new_conn t o g p n → (s' out' : List ℕ) → Opens c x.next p.stores d s s' → StoresFit p.stores d (view s)
        → out' ≡ sets out 0 (reply_from o n x) → (v : Bool) → v ≡ asks_multicast o → (r : ℕ) → r ≡ answer_number (Accepted v x.dest [])
        → (r, (s', out')) ≡ lifted_out (plan_call t o g d p) s out
    unfolding plan_call
    accept_done h c ec s' out' e f eo v ev r er =
        let k = long in
        let st : State = view s in
        let a : yes ≡ plan_answer o g n₀ (length out) (Ok p) =
        ap (λ (u : Bool). cond u yes (Refused NoRoom)) (sym (le-leb (length (reply_of o g p n₀)) (length out) (omega arith))) in
        let cc₀ : c ≡ new_conn t o g p n₀ = ec ∙ ap (new_conn t o g p) n_is in
        let i : s' ≡ store (opened_as c x.next p.stores d st) s = (e st s (holds_tested s ok b) f).is in
        out_done (plan_call t o g d p) s out ok r s' out'
        (er ∙ (λ j. answer_number (Accepted (ev j) (side_is j).dest [])) ∙ number_any (asks_multicast o) (side_at o g p n₀).dest (reply_of o g p n₀) ∙ ap answer_number a)
        (i ∙ (λ j. store (opened_as (cc₀ j) (side_is j).next p.stores d st) s) ∙ ap (λ (z : State). store z s) (opened_is t o g d p st)
        ∙ ap (λ (z : Answer). store (cond (is_yes z) (opened t o g d p st) st) s) a)
        (eo ∙ ap (sets out 0) reply_is ∙ ap (λ (z : Answer). sets out 0 (answer_bytes z)) a)
