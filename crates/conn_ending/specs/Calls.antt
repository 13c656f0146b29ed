-- Close and expire as calls: what each way out answers, and the calls on lent bytes.
use Prim.Native.Nat.{ℕ, ◌*◌, ◌-◌, ◌≤◌, ◌<◌, ◌^◌}
use Rattle.std.specs.Prelude.{Bool, true, ◌≡◌, Option, Some, None}
use Rattle.std.proofs.Math.Bool.{cond}
use mathlib.Core.List.{List}
use Rattle.std.proofs.Math.Path.{ap, sym}
use Rattle.std.proofs.Common.{◌∙◌, le-leb}
use native.Mathlib.Omega.{arith}
use Rattle.std.proofs.Math.ListN.{length}
use Rattle.std.proofs.Math.Seq.{sets}
use Rattle.std.proofs.lemmas.Bool.{lt-leb}
use Rattle.base_cells.specs.Back.{Bytes}
use Rattle.base_cells.specs.Writes.{written, written_all}
use Rattle.wire_rules.specs.Opens.{close_of}
use Rattle.wire_rules.specs.Replies.{close_reply}
use Rattle.wire_replies.specs.ReplyLaws.{close_reply_long}
use Rattle.rules.specs.Lists.{place}
use Rattle.rules.specs.State.{State}
use Rattle.rules.specs.Answers.{no_number, Answer, Wrote, Gone, Refused, is_yes, answer_number, answer_bytes, fitting}
use Rattle.rules.specs.Removal.{conn_triad, closed, close_for, close_by, close_answer, close_effect, close_call, expire_effect, expire_answer, expire_call}
use Rattle.base_ids.specs.declared.Triad.{Triad}
use Rattle.state_rules.specs.Places.{table_in, connections_of}
use Rattle.state_rules.specs.Rows.{conns_in}
use Rattle.state_rules.specs.Image.{view, store, tested}
use Rattle.state_image.specs.Updates.{no_conn}
use Rattle.state_image.specs.Holds.{Held, held_tested}
use Rattle.state_image.specs.Lift.{lifted, lifted_out, lifted_done, lifted_kept, out_done, out_kept}
use Rattle.conn_lookup.specs.RowTests.{place_any, place_never}
use Rattle.conn_removal.specs.Turns.{Turns, found_there, found_nowhere}
use Rattle.conn_removal.specs.Removals.{gone_at, closed_is}
use Rattle.conn_ending.specs.Expiry.{EndsAll}
use Rattle.rules.specs.declared.No.{No}
use Rattle.rules.specs.declared.No.TheVariants.{BadTime, NoRoom, NotParsed, NothingThere}

-- a call's outcome over a held state: the answer's number, the state left and the answer's bytes
pub record Settles (a : Answer) (after before : State) (r : ℕ) (s' out out' l : List ℕ) : Type 0 where
  pub number : r ≡ answer_number a
  pub state : s' ≡ store (cond (is_yes a) after before) l
  pub bytes : out' ≡ sets out 0 (answer_bytes a)

-- a no leaves everything as it was
settles_no : (a : Answer) (w : No) (after before : State) (s out l : List ℕ) → Refused w ≡ a → s ≡ store before l → Settles a after before (no_number w) s out out l
unfolding answer_number
settles_no a w after before s out l e h =
    record {
      number = ap answer_number e;
      state = h ∙ ap (λ (z : Answer). store (cond (is_yes z) after before) l) e;
      bytes = ap (λ (z : Answer). sets out 0 (answer_bytes z)) e;
    }

-- ---- close

abbrev pub reply_for : Triad → ℕ → Answer
reply_for t room = fitting room (close_reply t) (Wrote (close_reply t))

abbrev pub ClosesAt : ℕ → Triad → ℕ → List ℕ → List ℕ → List ℕ → List ℕ → Type 0
ClosesAt i t r s s' out out' = (st : State) (l : List ℕ) → Held s st l → Settles (reply_for t (length out)) (gone_at 2 i st) st r s' out out' l

module _ (i : ℕ) (t : Triad) (s out : List ℕ) where
  pub close_short : length out < 10 → ClosesAt i t 8 s s out out
  close_short h st l o =
      let n = close_reply_long t in
      settles_no (reply_for t (length out)) NoRoom (gone_at 2 i st) st s out l
      (ap (λ (b : Bool). cond b (Wrote (close_reply t)) (Refused NoRoom)) (sym (lt-leb (length (close_reply t)) (length out) (omega arith)))) o.holds.is

  pub close_done : 10 ≤ length out → (s' out' : List ℕ) (x : Option ℕ) → Turns s s' (gone_at 2 i) → (x, out') ≡ written out (close_reply t) → ClosesAt i t 2560 s s' out out'
  unfolding answer_number
  close_done h s' out' x d e st l o =
      let n = close_reply_long t in
      let a : Wrote (close_reply t) ≡ reply_for t (length out) =
      ap (λ (b : Bool). cond b (Wrote (close_reply t)) (Refused NoRoom)) (sym (le-leb (length (close_reply t)) (length out) (omega arith))) in
      record {
        number = ap (λ (k : ℕ). 2 ^ 8 * k) (sym n) ∙ ap answer_number a;
        state = (d st l o).holds.is ∙ ap (λ (z : Answer). store (cond (is_yes z) (gone_at 2 i st) st) l) a;
        bytes = ap (λ (z : Option ℕ × List ℕ). z.1) (e ∙ written_all out (close_reply t) (omega arith)) ∙ ap (λ (z : Answer). sets out 0 (answer_bytes z)) a;
      }

abbrev pub ClosesFor : Triad → ℕ → List ℕ → List ℕ → List ℕ → List ℕ → Type 0
ClosesFor t r s s' out out' = (st : State) (l : List ℕ) → Held s st l → Settles (close_for (length out) st (Some t)) (closed t st) st r s' out out' l

module _ (t : Triad) (s out : List ℕ) (n : ℕ) (x : Option ℕ) (en : n ≡ connections_of s) (ex : x ≡ place (conn_triad t) (conns_in n (table_in s))) where
  pub close_nothing : x ≡ None → ClosesFor t 9 s s out out
  close_nothing e st l o =
      settles_no (close_for (length out) st (Some t)) NothingThere (closed t st) st s out l
      (ap (λ (b : Bool). cond b (reply_for t (length out)) (Refused NothingThere)) (sym (place_never (conn_triad t) st.table (found_nowhere (conn_triad t) s n x en ex e st l o))))
      o.holds.is

  pub close_found : (i : ℕ) → x ≡ Some i → (r : ℕ) (s' out' : List ℕ) → ClosesAt i t r s s' out out' → ClosesFor t r s s' out out'
  close_found i e r s' out' d st l o =
      let g = found_there (conn_triad t) s n x en ex i e st l o in
      let y = d st l o in
      let a : reply_for t (length out) ≡ close_for (length out) st (Some t) =
      ap (λ (b : Bool). cond b (reply_for t (length out)) (Refused NothingThere)) (sym (place_any (conn_triad t) no_conn st.table i g)) in
      record {
        number = y.number ∙ ap answer_number a;
        state = y.state ∙ (λ j. store (cond (is_yes (a j)) (closed_is t st i g j) st) l);
        bytes = y.bytes ∙ ap (λ (z : Answer). sets out 0 (answer_bytes z)) a;
      }

-- the call on lent bytes
module _ (request l out : List ℕ) (ok : tested l ≡ true) (b : Bytes l) where
  pub close_unread : close_of request ≡ None → (4, (l, out)) ≡ lifted_out (close_call request) l out
  unfolding close_call close_answer close_effect answer_number
  close_unread e =
      let a : Refused NotParsed ≡ close_for (length out) (view l) (close_of request) = ap (close_for (length out) (view l)) (sym e) in
      out_kept (close_call request) l out ok b 4 (ap answer_number a) (ap (λ (z : Answer). cond (is_yes z) (close_by (view l) (close_of request)) (view l)) (sym a)) (ap answer_bytes (sym a))

  pub close_read : (t : Triad) → close_of request ≡ Some t → (r : ℕ) (l' out' : List ℕ) → ClosesFor t r l l' out out' → (r, (l', out')) ≡ lifted_out (close_call request) l out
  unfolding close_call close_answer close_effect
  close_read t e r l' out' d =
      let y = d (view l) l (held_tested l ok b) in
      let q : Some t ≡ close_of request = sym e in
      out_done (close_call request) l out ok r l' out' (y.number ∙ ap (λ (z : Option Triad). answer_number (close_for (length out) (view l) z)) q)
      (y.state ∙ ap (λ (z : Option Triad). store (cond (is_yes (close_for (length out) (view l) z)) (close_by (view l) z) (view l)) l) q)
      (y.bytes ∙ ap (λ (z : Option Triad). sets out 0 (answer_bytes (close_for (length out) (view l) z))) q)

-- ---- expire

module _ (time : ℕ) (l : List ℕ) (ok : tested l ≡ true) (b : Bytes l) where
  gone : Answer
  gone = Gone (length (view l).table - length (expire_effect time (view l)).table)

  pub expire_late : 9223372036854775807 < time → (3, l) ≡ lifted (expire_call time) l
  unfolding expire_call expire_answer answer_number gone
  expire_late h =
      let a : Refused BadTime ≡ expire_answer time (view l) = ap (λ (v : Bool). cond v gone (Refused BadTime)) (sym (lt-leb time 9223372036854775807 h)) in
      lifted_kept (expire_call time) l ok b 3 (ap answer_number a) (ap (λ (z : Answer). cond (is_yes z) (expire_effect time (view l)) (view l)) (sym a))

  pub expire_done : time ≤ 9223372036854775807 → (r : ℕ) (l' : List ℕ) → EndsAll time r l l' → (r * 256, l') ≡ lifted (expire_call time) l
  unfolding expire_call expire_answer answer_number gone
  expire_done h r l' d =
      let y = d (view l) l (held_tested l ok b) in
      let a : gone ≡ expire_answer time (view l) = ap (λ (v : Bool). cond v gone (Refused BadTime)) (sym (le-leb time 9223372036854775807 h)) in
      let k : ℕ = length (view l).table - length (expire_effect time (view l)).table in
      let c : r ≡ k = y.count in
      let m : r * 256 ≡ 2 ^ 8 * k = omega arith in
      lifted_done (expire_call time) l ok (r * 256) l' (m ∙ ap answer_number a)
      (y.held.holds.is ∙ ap (λ (z : Answer). store (cond (is_yes z) (expire_effect time (view l)) (view l)) l) a)
