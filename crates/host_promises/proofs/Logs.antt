-- What a host saw of its calls tells what the rules' own log tells: of one call, then of all of them.
use Rattle.std.specs.Prelude.{ℕ, ◌+◌, ◌%◌, Bool, true, false, cond, List, [], ◌∷◌, ◌++◌, ◌≡◌, refl, eqb, leb, length, drop, Option, Some, None, Result, Ok, Err}
use Rattle.rules.specs.declared.Stop.{Stop}
use Rattle.std.proofs.Common.{append_assoc, ap, sym, subst, ◌∙◌, arith, eq-eqb, leb-true}
use Rattle.std.proofs.lemmas.List.Edits.{sets, sets-eq}
use Rattle.std.proofs.lemmas.Bool.{eqb-false}
use Rattle.base_cells.specs.Numbers.{le, le_bytes}
use Rattle.base_cells.specs.Records.{enc_fields, le_mid}
use Rattle.wire_rules.specs.Replies.{open_reply}
use Rattle.rules_laws.specs.ListLaws.{by_cases, clash, either_way}
use Rattle.rules.specs.State.{State}
use Rattle.rules.specs.Answers.{Answer, Done, Wrote, Accepted, Gone, Refused, Failed, is_yes, timely, words_number, words_of, answer_number, answer_bytes}
use Rattle.rules.specs.Answers
use Rattle.rules.specs.Opening.{open_asked, asked_answer, plan_answer, reply_of, verdict_of, open_answer, open_call}
use Rattle.rules.specs.Calls
use Rattle.rules.specs.Calls.{answer, next, run}
use Rattle.rules_steps.specs.Names.{ForwardOpen, Origin, Plan}
use Rattle.rules_steps.specs.Steps.{log, Nothing, news, Reading, learnt, history, acceptance}
use Rattle.app_starting.specs.Block.{accepted}
use Rattle.msg_positions.specs.Positions.{dec_upload}
use Rattle.rules_lastword.specs.Knows.{id_told}
use Rattle.adapter.specs.Origins.{origin_of}
use Rattle.host_runs.specs.CallContracts.{Said, Answers}
use Rattle.host_runs.specs.HostCalls.{HostCall, contract_of, call_of, CCall, contract, next_c, answer_c}
use Rattle.host_runs.specs.Runs.{Turn, run_c, Answered}
use Rattle.host_promises.proofs.Refusals.{low_zero}
use Rattle.host_promises.specs.Logs.{seen, ruled, calls_of, logged, log_of, anew, OneSetup, Looks}
use Rattle.rules.specs.declared.No.TheVariants.{BadSetup, BadTime, NoAssembly, NoRoom, NotParsed, NothingThere, TooLong}

-- ---- a yes is seen as a yes

low_words : (ws : List ℕ) → (5 + words_number ws) % 256 ≡ 5
low_words [] = omega arith
low_words (w ∷ []) = omega arith
low_words (w ∷ v ∷ ws) = omega arith

low_is_yes : (x : Answer) → eqb (answer_number x % 256) 0 ≡ is_yes x
unfolding answer_number
low_is_yes Done = refl
low_is_yes (Wrote bs) = eq-eqb _ 0 (low_zero (Wrote bs) refl)
low_is_yes (Accepted m s bs) = eq-eqb _ 0 (low_zero (Accepted m s bs) refl)
low_is_yes (Gone n) = eq-eqb _ 0 (low_zero (Gone n) refl)
low_is_yes (Refused BadSetup) = refl
low_is_yes (Refused BadTime) = refl
low_is_yes (Refused NotParsed) = refl
low_is_yes (Refused NoAssembly) = refl
low_is_yes (Refused TooLong) = refl
low_is_yes (Refused NoRoom) = refl
low_is_yes (Refused NothingThere) = refl
low_is_yes (Failed s) = ap (λ (n : ℕ). eqb n 0) (low_words (words_of s))

seen_yes : (x : Answer) (a : Said) → a.number ≡ answer_number x → is_yes (seen a) ≡ is_yes x
seen_yes x a e = as_tested (eqb (a.number % 256) 0) ∙ ap (λ (n : ℕ). eqb (n % 256) 0) e ∙ low_is_yes x
  where
    as_tested : (b : Bool) → is_yes (cond b (Wrote a.output) (Refused NotParsed)) ≡ b
    as_tested true = refl
    as_tested false = refl

-- ---- the O→T id of an accepted open stands in the output

abbrev Stands : List ℕ → Answer → Type 0
Stands out x = is_yes x ≡ true → le 4 (sets out 0 (answer_bytes x)) 0 ≡ le 4 (answer_bytes x) 0

reply_first : (q : ForwardOpen) (g : Origin) (p : Plan) (n : ℕ) (rest : List ℕ) → le 4 (reply_of q g p n ++ rest) 0 ≡ n
unfolding reply_of open_reply enc_fields
reply_first q g p n rest = ap (λ (l : List ℕ). le 4 l 0) (append_assoc (le_bytes 4 n) _ rest) ∙ le_mid 3 n [] _ 0 refl

reply_stands : (q : ForwardOpen) (g : Origin) (p : Plan) (n : ℕ) (out : List ℕ) → leb (length (reply_of q g p n)) (length out) ≡ true → Stands out (acceptance q g p n)
reply_stands q g p n out k y =
    let bytes : List ℕ = reply_of q g p n in
    let fits = leb-true (length bytes) (length out) k in
    ap (λ (l : List ℕ). le 4 l 0) (sets-eq bytes out 0 (omega arith)) ∙ reply_first q g p n (drop (0 + length bytes) out) ∙ sym (id_told q g p n)

plan_stands : (q : ForwardOpen) (g : Origin) (n : ℕ) (out : List ℕ) (v : Result Plan Stop) → Stands out (plan_answer q g n (length out) v)
plan_stands q g n out (Err x) = λ y. clash true refl (sym y)
plan_stands q g n out (Ok p) =
    by_cases (leb (length (reply_of q g p n)) (length out))
    (λ k. subst (λ (b : Bool). Stands out (cond b (acceptance q g p n) (Refused NoRoom))) (sym k) (reply_stands q g p n out k))
    (λ k. subst (λ (b : Bool). Stands out (cond b (acceptance q g p n) (Refused NoRoom))) (sym k) (λ y. clash true refl (sym y)))

asked_stands : (g : Origin) (request out : List ℕ) (st : State) (o : Option ForwardOpen) → Stands out (asked_answer g request (length out) st o)
asked_stands g request out st None = λ y. clash true refl (sym y)
asked_stands g request out st (Some q) = plan_stands q g st.next_id out (verdict_of request q st)

open_stands : (t service : ℕ) (request : List ℕ) (g : Origin) (out : List ℕ) (st : State) → Stands out (open_call t service request g (length out) st).0
unfolding open_call open_answer
open_stands t service request g out st = either_way (Stands out) (timely t) (asked_stands g request out st (open_asked service request)) (λ y. clash true refl (sym y))

id_seen : (a : Said) → is_yes (seen a) ≡ true → answer_bytes (seen a) ≡ a.output
id_seen a = by_test (eqb (a.number % 256) 0)
  where
    by_test : (b : Bool) → is_yes (cond b (Wrote a.output) (Refused NotParsed)) ≡ true → answer_bytes (cond b (Wrote a.output) (Refused NotParsed)) ≡ a.output
    by_test true y = refl
    by_test false y = clash true refl (sym y)

-- ---- one call, and all of them

-- a setup that is not answered 0 leaves the state
setup_left : (block eds : List ℕ) (seed : ℕ) (st : State) (a : Said) → Answers (contract (CCall.Setup block eds seed)) st (answer_c (CCall.Setup block eds seed) st) a
    → eqb a.number 0 ≡ false → next_c (CCall.Setup block eds seed) st ≡ st
unfolding answer_number
setup_left block eds seed st a h n =
    by_cases (accepted block eds)
    (λ y. absurd (eqb-false a.number 0 n (h ∙ ap (λ (b : Bool). answer_number (cond b Done (Refused BadSetup))) y)))
    (λ y. rw y refl)

module _ {G : Type 0} (r : Reading G) (looks : Looks r) where
  open_learnt : (t service : ℕ) (request : List ℕ) (g : Origin) (room : ℕ) (x y : Answer) (w : G) → is_yes x ≡ is_yes y
      → (is_yes y ≡ true → le 4 (answer_bytes x) 0 ≡ le 4 (answer_bytes y) 0) → (o : Option ForwardOpen) → open_asked service request ≡ o
      → learnt r (news (Calls.Open t service request g room) x) w ≡ learnt r (news (Calls.Open t service request g room) y) w
  open_learnt t service request g room x y w e same None k = by_cases (is_yes y) (λ z. rw (k, e ∙ z, z) refl) (λ z. rw (e ∙ z, z) refl)
  open_learnt t service request g room x y w e same (Some q) k = by_cases (is_yes y) (λ z. rw (k, e ∙ z, z) (looks t request q g x y w (same z))) (λ z. rw (e ∙ z, z) refl)

  -- of the calls that bring no news
  no_news : (b c : Bool) (w : G) → learnt r (cond b Nothing Nothing) w ≡ learnt r (cond c Nothing Nothing) w
  no_news true true w = refl
  no_news true false w = refl
  no_news false true w = refl
  no_news false false w = refl

  -- ONE CALL: what is learnt from what was seen is what is learnt from the rules' answer
  learnt_same : (c : HostCall) (st : State) (a : Said) (w : G) → Answers (contract_of c) st (answer (call_of c) st) a
      → learnt r (news (call_of c) (seen a)) w ≡ learnt r (news (call_of c) (answer (call_of c) st)) w
  learnt_same (HostCall.Open time service request peer local mask given address port ioport out) st a w h =
      let g : Origin = origin_of peer local mask given address port ioport in
      let x : Answer = (open_call time service request g (length out) st).0 in
      let e = seen_yes x a h.0 in
      open_learnt time service request g (length out) (seen a) x w e
      (λ y. ap (λ (l : List ℕ). le 4 l 0) (id_seen a (e ∙ y) ∙ h.1) ∙ open_stands time service request g out st y) (open_asked service request) refl
  learnt_same (HostCall.Close request out) st a w h =
      let x : Answer = answer (Calls.Close request (length out)) st in
      let e = seen_yes x a h.0 in
      by_cases (is_yes x) (λ y. rw (e ∙ y, y) refl) (λ y. rw (e ∙ y, y) refl)
  learnt_same (HostCall.Receive time from frame) st a w h =
      let x : Answer = answer (Calls.Receive time from frame) st in
      let e = seen_yes x a h in
      by_cases (is_yes x) (λ y. rw (e ∙ y, y) refl) (λ y. rw (e ∙ y, y) refl)
  learnt_same (HostCall.Expire time) st a w h =
      let x : Answer = answer (Calls.Expire time) st in
      let e = seen_yes x a h in
      by_cases (is_yes x) (λ y. rw (e ∙ y, y) refl) (λ y. rw (e ∙ y, y) refl)
  learnt_same (HostCall.SetInput instance bytes) st a w h = no_news (is_yes (seen a)) (is_yes (answer (Calls.SetInput instance bytes) st)) w
  learnt_same (HostCall.Output instance out) st a w h = no_news (is_yes (seen a)) (is_yes (answer (Calls.ReadOutput instance (length out)) st)) w
  learnt_same (HostCall.Assembly kind instance out) st a w h = no_news (is_yes (seen a)) (is_yes (answer (Calls.ReadAssembly kind instance (length out)) st)) w
  learnt_same (HostCall.NextEvent out) st a w h = no_news (is_yes (seen a)) (is_yes (answer (Calls.NextEvent (length out)) st)) w
  learnt_same (HostCall.Connections out) st a w h = no_news (is_yes (seen a)) (is_yes (answer (Calls.Connections (length out)) st)) w
  learnt_same (HostCall.Stats out) st a w h = no_news (is_yes (seen a)) (is_yes (answer (Calls.Stats (length out)) st)) w
  learnt_same (HostCall.OpenRefusal service request out) st a w h = no_news (is_yes (seen a)) (is_yes (answer (Calls.OpenRefusal service request (length out)) st)) w
  learnt_same (HostCall.Produce time out) st a w h = no_news (is_yes (seen a)) (is_yes (answer (Calls.Produce time (length out)) st)) w
  learnt_same (HostCall.NextDeadline out) st a w h = no_news (is_yes (seen a)) (is_yes (answer (Calls.Deadline (length out)) st)) w
  learnt_same (HostCall.Message local mask message upload out) st a w h = no_news (is_yes (seen a)) (is_yes (answer (Calls.Message local mask message (length out) (dec_upload upload)) st)) w

  -- ALL OF THEM: the history of what was seen is the history of the rules' run
  turn_same : (c : CCall) (a : Said) (ts : List Turn) (st : State) (w : G) → Answers (contract c) st (answer_c c st) a → Answered ts (next_c c st) → anew c a ≡ false
      → ((st : State) (w : G) → Answered ts st → history r (log_of ts) w ≡ history r (log (calls_of ts) st) w)
      → history r (logged c a (log_of ts)) w ≡ history r (log (ruled c (calls_of ts)) st) w
  turn_same (CCall.Setup block eds seed) a ts st w h k n on = on st w (subst (Answered ts) (setup_left block eds seed st a h n) k)
  turn_same (CCall.On c) a ts st w h k n on =
      ap (history r (log_of ts)) (learnt_same c st a w h) ∙ on (next (call_of c) st) (learnt r (news (call_of c) (answer (call_of c) st)) w) k
  turn_same (CCall.Path path out) a ts st w h k n on = on st w k
  turn_same (CCall.Request message out) a ts st w h k n on = on st w k

  pub history_same : (ts : List Turn) (st : State) (w : G) → Answered ts st → OneSetup ts → history r (log_of ts) w ≡ history r (log (calls_of ts) st) w
  history_same [] st w h n = refl
  history_same (t ∷ ts) st w h n = turn_same t.0 t.1 ts st w h.0 h.1 n.0 (λ st w k. history_same ts st w k n.1)

-- and their run is the rules' run
turn_run : (c : CCall) (a : Said) (ts : List Turn) (st : State) → Answers (contract c) st (answer_c c st) a → Answered ts (next_c c st) → anew c a ≡ false
    → ((st : State) → Answered ts st → run_c ts st ≡ run (calls_of ts) st) → run_c ts (next_c c st) ≡ run (ruled c (calls_of ts)) st
turn_run (CCall.Setup block eds seed) a ts st h k n on =
    let e = setup_left block eds seed st a h n in
    ap (run_c ts) e ∙ on st (subst (Answered ts) e k)
turn_run (CCall.On c) a ts st h k n on = on (next (call_of c) st) k
turn_run (CCall.Path path out) a ts st h k n on = on st k
turn_run (CCall.Request message out) a ts st h k n on = on st k

pub run_same : (ts : List Turn) (st : State) → Answered ts st → OneSetup ts → run_c ts st ≡ run (calls_of ts) st
run_same [] st h n = refl
run_same (t ∷ ts) st h n = turn_run t.0 t.1 ts st h.0 h.1 n.0 (λ st k. run_same ts st k n.1)
