-- An open as a call: over its path, and over the request as it came.
use Rattle.std.specs.Prelude.{ℕ, ◌+◌, ◌-◌, ◌≤◌, ◌<◌, Bool, true, false, List, ◌≡◌, eqb, length, take, drop, Option, Some, None, Result, Ok, Err}
use Rattle.wire_rules.specs.declared.ConnectionPath.{ConnectionPath}
use Rattle.std.proofs.Math.Bool.{cond}
use Rattle.std.proofs.Math.Path.{ap, sym}
use Rattle.std.proofs.Common.{◌∙◌, arith, le-leb}
use Rattle.std.proofs.lemmas.List.Edits.{sets}
use Rattle.std.proofs.lemmas.Bool.{lt-leb}
use Rattle.base_cells.specs.Back.{Bytes}
use Rattle.base_cells.specs.Pick.{pick}
use Rattle.wire_rules.specs.declared.ForwardOpen.{ForwardOpen}
use Rattle.wire_rules.specs.Opens.{open_of}
use Rattle.wire_opens.specs.RequestLaws.{open_path}
use Rattle.wire_rules.specs.ConnectionPath.{path_of}
use Rattle.rules.specs.Answers.{Answer, Refused, Failed, is_yes, answer_number, answer_bytes, settled}
use Rattle.rules.specs.Checks.{path_in, verdict}
use Rattle.rules.specs.Opening.{path_bytes, verdict_of, plan_answer, plan_effect, asked_answer, asked_effect, open_asked, open_answer, open_effect, open_call}
use Rattle.rules.specs.State.{State, fixeds}
use Rattle.rules.specs.declared.Origin.{Origin}
use Rattle.rules.specs.declared.Plan.{Plan}
use Rattle.rules.specs.declared.Stop.{Stop}
use Rattle.state_rules.specs.Image.{view, store, tested}
use Rattle.state_image.specs.Lift.{lifted_out, out_kept}
use Rattle.open_answering.specs.Steps.{plan_call}
use Rattle.rules.specs.declared.No.TheVariants.{BadTime, NotParsed}

-- ---- an open over its path

abbrev pub config_in : List ℕ → List ℕ
config_in path = take (path_in (path_of path)).datalen (drop (path_in (path_of path)).datastart path)

abbrev pub verdict_at : List ℕ → ForwardOpen → State → Result Plan Stop
verdict_at path o st = verdict st.setup (fixeds st.table) o (path_of path)

unfoldable pub path_call : ℕ → ForwardOpen → Origin → List ℕ → ℕ → State → Answer × State
path_call t o g path room st =
    settled (plan_answer o g st.next_id room (verdict_at path o st)) (plan_effect t o g (config_in path) st (verdict_at path o st)) st

-- two calls that do the same with this state and this room
pub out_same : (call call' : ℕ → State → Answer × State) (s out : List ℕ) → call (length out) (view s) ≡ call' (length out) (view s) → lifted_out call s out ≡ lifted_out call' s out
unfolding lifted_out
out_same call call' s out e =
    ap (λ (z : Answer × State). pick (tested s) (answer_number z.0, (store z.1 s, sets out 0 (answer_bytes z.0))) (1, (s, out))) e

module _ (t : ℕ) (o : ForwardOpen) (g : Origin) (path s out : List ℕ) (answer : Result ConnectionPath ℕ) (ea : answer ≡ path_of path)
    (v : Result Plan Stop) (ev : v ≡ verdict (view s).setup (fixeds (view s).table) o answer) where
  verdict_is : v ≡ verdict_at path o (view s)
  verdict_is = ev ∙ ap (verdict (view s).setup (fixeds (view s).table) o) ea

  pub path_stopped : tested s ≡ true → Bytes s → (x : Stop) → v ≡ Err x → (r : ℕ) → r ≡ answer_number (Failed x) → (r, (s, out)) ≡ lifted_out (path_call t o g path) s out
  unfolding path_call
  path_stopped ok b x e r er =
      let q : Err x ≡ verdict_at path o (view s) = sym e ∙ verdict_is in
      let a : Failed x ≡ plan_answer o g (view s).next_id (length out) (verdict_at path o (view s)) = ap (plan_answer o g (view s).next_id (length out)) q in
      out_kept (path_call t o g path) s out ok b r (er ∙ ap answer_number a)
      (ap (λ (z : Answer). cond (is_yes z) (plan_effect t o g (config_in path) (view s) (verdict_at path o (view s))) (view s)) (sym a)) (ap answer_bytes (sym a))

  pub path_planned : (p : Plan) → v ≡ Ok p → (d : List ℕ) → d ≡ config_in path → (r : ℕ) (s' out' : List ℕ)
      → (r, (s', out')) ≡ lifted_out (plan_call t o g d p) s out → (r, (s', out')) ≡ lifted_out (path_call t o g path) s out
  unfolding plan_call path_call
  path_planned p e d ed r s' out' h =
      let q : Ok p ≡ verdict_at path o (view s) = sym e ∙ verdict_is in
      h ∙ out_same (plan_call t o g d p) (path_call t o g path) s out
      (λ j. settled (plan_answer o g (view s).next_id (length out) (q j)) (plan_effect t o g (ed j) (view s) (q j)) (view s))

-- ---- an open as it came

-- its path as code takes it
asked_path_lem : (request : List ℕ) (o : ForwardOpen) → take (o.path.start + o.path.len - o.path.start) (drop o.path.start request) ≡ path_bytes request o
asked_path_lem request o = ap (λ (k : ℕ). take k (drop o.path.start request)) (let q : o.path.start + o.path.len - o.path.start ≡ o.path.len = omega arith in q)

pub asked_same : (t : ℕ) (o : ForwardOpen) (g : Origin) (request s out : List ℕ) (x : ℕ × (List ℕ × List ℕ))
    → x ≡ lifted_out (path_call t o g (take (o.path.start + o.path.len - o.path.start) (drop o.path.start request))) s out → x ≡ lifted_out (path_call t o g (path_bytes request o)) s out
asked_same t o g request s out x d = d ∙ ap (λ (z : List ℕ). lifted_out (path_call t o g z) s out) (asked_path_lem request o)

-- the path of an open that parsed is all there
pub open_inside : (service : ℕ) (request : List ℕ) (o : ForwardOpen) → open_asked service request ≡ Some o → o.path.start + o.path.len ≤ length request
open_inside service request o e = go (eqb service 0x5B) (eqb service 0x54) e
  where
    go : (b c : Bool) → cond b (open_of true request) (cond c (open_of false request) None) ≡ Some o → o.path.start + o.path.len ≤ length request
    go true c q = open_path true request o q
    go false true q = open_path false request o q
    go false false q = absurd (let z : ◌≡◌ {A = ℕ} 0 1 = cc in omega arith)

module _ (t service : ℕ) (request : List ℕ) (g : Origin) (s out : List ℕ) where
  pub open_late : tested s ≡ true → Bytes s → 9223372036854775807 < t → (3, (s, out)) ≡ lifted_out (open_call t service request g) s out
  unfolding open_call open_answer answer_number
  open_late ok b h =
      let a : Refused BadTime ≡ open_answer t service request g (length out) (view s) =
      ap (λ (v : Bool). cond v (asked_answer g request (length out) (view s) (open_asked service request)) (Refused BadTime)) (sym (lt-leb t 9223372036854775807 h)) in
      out_kept (open_call t service request g) s out ok b 3 (ap answer_number a)
      (ap (λ (z : Answer). cond (is_yes z) (open_effect t service request g (view s)) (view s)) (sym a)) (ap answer_bytes (sym a))

  module _ (h : t ≤ 9223372036854775807) where
    timely_answer : (q : Option ForwardOpen) → q ≡ open_asked service request → asked_answer g request (length out) (view s) q ≡ open_answer t service request g (length out) (view s)
    unfolding open_answer
    timely_answer q e = λ j. cond (sym (le-leb t 9223372036854775807 h) j) (asked_answer g request (length out) (view s) (e j)) (Refused BadTime)

    pub open_unread : tested s ≡ true → Bytes s → open_asked service request ≡ None → (4, (s, out)) ≡ lifted_out (open_call t service request g) s out
    unfolding open_call answer_number
    open_unread ok b e =
        let a : Refused NotParsed ≡ open_answer t service request g (length out) (view s) = timely_answer None (sym e) in
        out_kept (open_call t service request g) s out ok b 4 (ap answer_number a)
        (ap (λ (z : Answer). cond (is_yes z) (open_effect t service request g (view s)) (view s)) (sym a)) (ap answer_bytes (sym a))

    pub open_read : (o : ForwardOpen) → open_asked service request ≡ Some o → (r : ℕ) (s' out' : List ℕ)
        → (r, (s', out')) ≡ lifted_out (path_call t o g (path_bytes request o)) s out → (r, (s', out')) ≡ lifted_out (open_call t service request g) s out
    unfolding open_call open_effect verdict_of path_call
    open_read o e r s' out' d =
        let a = timely_answer (Some o) (sym e) in
        d ∙ out_same (path_call t o g (path_bytes request o)) (open_call t service request g) s out
        (λ j. settled (a j) (asked_effect t g request (view s) (sym e j)) (view s))
