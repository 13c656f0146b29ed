-- NO REWINDING: a close of a point-to-point connection, and an expiry call that finds only such, leave every other connection equal in
-- every field.
use Rattle.std.specs.Prelude.{◌≡◌, List, Bool, true, false, not, ℕ, length, Some}
use Rattle.std.proofs.Common.{sym, ◌∙◌, ap, subst, arith}
use Rattle.wire_rules.specs.Opens.{close_of}
use Rattle.rules.specs.Lists.{find, keep, without_first}
use Rattle.rules_laws.specs.ListLaws
use Rattle.rules_laws.specs.ListLaws.{All}
use Rattle.rules.specs.State.{State}
use Rattle.rules.specs.Answers.{is_yes, timely}
use Rattle.rules.specs.Removal.{after_removal, remove_first, conn_triad, removed, closed, close_effect, close_call, expired, expire_answer, expire_effect, expire_call}
use Rattle.rules.specs.Calls
use Rattle.rules.specs.Calls.{answer, next}
use Rattle.rules_isolation.specs.Ends.{Ends, done, step, reaches}
use Rattle.rules_isolation.specs.Expiry.{expire_table}
use Rattle.rules_steps.specs.Names.{Triad, Conn, Info, Event}

-- the removal itself hands nothing on; what follows rests on this one
hands_on_none : (c : Conn) (l : List Conn) → c.fixed.multicast ≡ false → after_removal c l ≡ l
hands_on_none c l e = cc

-- the same; nothing rests on it, so that a wrong statement of it breaks it alone
point_to_point_alone : (c : Conn) (l : List Conn) → c.fixed.multicast ≡ false → after_removal c l ≡ l
point_to_point_alone c l e = cc

pub no_rewinding : (fault : Bool) (why : Info → Event) (c : Conn) (rest : List Conn) (s : State) → c.fixed.multicast ≡ false →
    (removed fault why c rest s).table ≡ rest
unfolding removed
no_rewinding fault why c rest s e = hands_on_none c rest e

-- CLOSE: of the table it leaves out the connection that it finds, and changes nothing else of it
pub close_rewinds_none : (request : List ℕ) (room : ℕ) (s : State) (k : Triad) (c : Conn) → close_of request ≡ Some k →
    find (conn_triad k) s.table ≡ Some c → c.fixed.multicast ≡ false → is_yes (answer (Calls.Close request room) s) ≡ true →
    (next (Calls.Close request room) s).table ≡ without_first (conn_triad k) s.table
unfolding close_call close_effect closed
close_rewinds_none request room s k c q e m y = rw (y, q, e) (no_rewinding false _ c (without_first (conn_triad k) s.table) s m)

-- EXPIRE: what is left is the connections that are not expired, as they were
ends_alone : {p : Conn → Bool} {l r : List Conn} → Ends p l r → All (λ c. p c ≡ true → c.fixed.multicast ≡ false) l → r ≡ keep (λ c. not (p c)) l
ends_alone {p} (done {l = l} e) a =
    sym (ListLaws.keep_all (λ c. not (p c)) l (ListLaws.all_to (λ c. p c ≡ false) (λ c. not (p c) ≡ true) (λ c n. ap not n) l (ListLaws.none_found p l e)))
ends_alone {p} (step {l = l} c e d) a =
    let y = ListLaws.find_passes p c l e in
    let m = ListLaws.all_find (λ c. p c ≡ true → c.fixed.multicast ≡ false) p c l e a y in
    let is : remove_first p l ≡ without_first p l = rw e (hands_on_none c (without_first p l) m) in
    let b = subst (All (λ c. p c ≡ true → c.fixed.multicast ≡ false)) (sym is) (ListLaws.all_without (λ c. p c ≡ true → c.fixed.multicast ≡ false) p l a) in
    ends_alone d b ∙ ap (keep (λ c. not (p c))) is ∙ ListLaws.without_keep_out p (λ c. not (p c)) c l e (ap not y)

pub expire_rewinds_none : (t : ℕ) (s : State) → timely t ≡ true → All (λ c. expired t c ≡ true → c.fixed.multicast ≡ false) s.table →
    (next (Calls.Expire t) s).table ≡ keep (λ c. not (expired t c)) s.table
unfolding expire_call expire_answer expire_effect
expire_rewinds_none t s y a =
    rw y (expire_table t (length s.table) s ∙ ends_alone (reaches (expired t) (length s.table) s.table (omega arith)) a)
