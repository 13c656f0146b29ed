-- WHAT THE STATE KEEPS of a connection is what the history knows of it: for the one connection that passes a test of its fixed part (an
-- output's owner, a triad's), each step keeps that so.
-- What the state tests, a frame and an expiry stand in proofs/Knows.antt.
use Rattle.std.specs.Prelude.{◌≡◌, Bool, true, cond, ◌&&◌, ◌||◌, ℕ, ◌+◌, Option, Some, None}
use Rattle.std.proofs.Math.Path.{refl, sym, ap, ap₂, subst}
use Rattle.std.proofs.Common.{◌∙◌}
use mathlib.Core.List.{List, [], ◌∷◌}
use Rattle.std.proofs.Math.Bool.{false}
use Rattle.std.proofs.Math.Dec.{eqb}
use Rattle.base_cells.specs.Numbers.{le}
use Rattle.base_cells.specs.Records.{enc_fields, le_mid}
use Rattle.wire_rules.specs.Timeout.{timeout_of}
use Rattle.wire_rules.specs.Replies.{open_reply}
use Rattle.rules.specs.declared.Event.TheVariants.{Closed}
use Rattle.rules.specs.Lists.{find, any, without_first, maybe}
use Rattle.rules_laws.specs.ListLaws
use Rattle.rules_laws.specs.ListLaws.{by_cases, clash, either_way, All}
use Rattle.rules.specs.State.{State, triad_is, with_sent, is_owner}
use Rattle.rules.specs.Answers.{answer_bytes}
use Rattle.rules.specs.Opening.{new_conn, new_fixed, new_heard, reply_of, opened}
use Rattle.rules.specs.Removal.{after_removal, conn_triad, removed}
use Rattle.rules.specs.Producing.{due, sends, produce_effect}
use Rattle.rules_isolation.specs.Ends.{all_removal}
use Rattle.rules_isolation.specs.Apart.{Apart, apart_without, apart_map, apart_removal, apart_append}
use Rattle.rules_isolation.specs.Survive.{Distinct, triad_of, triad_is_true}
use Rattle.rules_isolation.specs.Seen.{send_fixed}
use Rattle.rules_steps.specs.Names.{Triad, ForwardOpen, Origin, Fixed, Sent, Conn, Plan}
use Rattle.rules_steps.specs.Steps.{Removing, acceptance}
use Rattle.rules_lastword.specs.Words.{Contact, met, contact_of}

pub or_yes : (b : Bool) → b || true ≡ true
or_yes true = refl
or_yes false = refl

and_no : (b : Bool) → b && false ≡ false
and_no true = refl
and_no false = refl

abbrev pub optional : Bool → ℕ → Option ℕ
optional b n = cond b (Some n) None

-- a connection of the table is as known; of one that does not own, the CIP sequence is not kept
pub record Ear (m : Contact) (c : Conn) : Type 0 where
  pub triad : c.fixed.triad ≡ m.triad
  pub id : c.fixed.otid.0 ≡ m.id
  pub sender : c.fixed.originator ≡ m.sender
  pub timeout : timeout_of c.fixed.otrpi c.fixed.multiplier ≡ m.timeout
  pub until : c.heard.until ≡ m.at + m.timeout
  pub last : optional c.heard.any c.heard.sequence ≡ m.last
  pub cip : is_owner c.fixed.kind ≡ true → optional c.heard.anycip c.heard.cip ≡ m.cip

abbrev pub Known : Option Contact → Conn → Type 0
Known None c = ⊥
Known (Some m) c = Ear m c

known_sent : (w : Option Contact) (c : Conn) (x : Sent) → Known w c → Known w (with_sent x c)
known_sent None c x h = h
known_sent (Some m) c x h =
    record { triad = h.triad; id = h.id; sender = h.sender; timeout = h.timeout; until = h.until; last = h.last; cip = h.cip }

-- ---- the O→T id stands in the reply
pub id_told : (q : ForwardOpen) (g : Origin) (p : Plan) (n : ℕ) → le 4 (answer_bytes (acceptance q g p n)) 0 ≡ n
unfolding reply_of open_reply enc_fields
id_told q g p n = le_mid 3 n [] _ 0 refl

-- ---- the table
abbrev pub same_id : Fixed → Fixed → Bool
same_id a b = eqb a.otid.0 b.otid.0 && eqb a.originator b.originator

-- after a removal by its triad none has that triad
gone_triad : (k : Triad) (l : List Conn) → Distinct l → any (conn_triad k) (without_first (conn_triad k) l) ≡ false
gone_triad k [] d = refl
gone_triad k (x ∷ xs) d =
    by_cases (conn_triad k x)
    (λ y. rw y (subst (λ j. any (conn_triad j) xs ≡ false) (sym (triad_is_true k (triad_of x) y)) d.0))
    (λ n. rw (n, n) (gone_triad k xs d.1))

module _ (g : Fixed → Bool) where
  abbrev pub passes : Conn → Bool
  passes c = g c.fixed

  -- one passes, and an earlier one passes too or has its id and address
  abbrev pub crowds : Fixed → Fixed → Bool
  crowds a b = g b && (g a || same_id a b)

  abbrev pub Ears : Option Contact → Conn → Type 0
  Ears w c = g c.fixed ≡ true → Known w c

  -- KNOWN: no other crowds it, and it is as known
  pub record Knows (w : Option Contact) (s : State) : Type 0 where
    pub apart : Apart crowds s.table
    pub known : All (λ c. g c.fixed ≡ true → Known w c) s.table

  -- of what passes nothing, anything is so; and the other way round
  vacuous : (w : Option Contact) (l : List Conn) → any passes l ≡ false → All (Ears w) l
  vacuous w l n = ListLaws.all_to (λ c. passes c ≡ false) (Ears w) (λ c z y. clash (passes c) y z) l (ListLaws.none_passes passes l n)

  pub none_known : (l : List Conn) → All (λ c. g c.fixed ≡ true → Known None c) l → any passes l ≡ false
  none_known l a = ListLaws.none_is passes l (ListLaws.all_to (Ears None) (λ c. passes c ≡ false) (λ c h. by_cases (passes c) (λ y. absurd (h y)) (λ n. n)) l a)

  -- of two that pass none stands apart
  pub sole : (x : Conn) (xs : List Conn) → any (λ y. crowds x.fixed y.fixed) xs ≡ false → passes x ≡ true → any passes xs ≡ false
  sole x xs n v =
      ListLaws.none_is passes xs
      (ListLaws.all_to (λ y. crowds x.fixed y.fixed ≡ false) (λ y. passes y ≡ false)
      (λ y k. by_cases (passes y)
      (λ z. clash (crowds x.fixed y.fixed) (ap (λ d. d && (passes x || same_id x.fixed y.fixed)) z ∙ ap (λ d. d || same_id x.fixed y.fixed) v) k)
      (λ z. z)) xs (ListLaws.none_passes (λ y. crowds x.fixed y.fixed) xs n))

  -- once it is gone none passes
  pub gone : (p : Conn → Bool) (c : Conn) (l : List Conn) → find p l ≡ Some c → passes c ≡ true → Apart crowds l → any passes (without_first p l) ≡ false
  gone p c [] e y d = refl
  gone p c (x ∷ xs) e y d =
      by_cases (p x)
      (λ k. let s : Some x ≡ Some c = rw k at e in let z : x ≡ c = cc in rw k (sole x xs d.0 (ap passes z ∙ y)))
      (λ k. let f : find p xs ≡ Some c = rw k at e in
      let n : passes x ≡ false = by_cases (passes x) (λ z. clash (any passes xs) (ListLaws.find_any p passes c xs f y) (sole x xs d.0 z)) (λ z. z) in
      rw (k, n) (gone p c xs f y d.1))

  -- A REMOVAL
  pub knows_removing : (w : Option Contact) → Removing (Knows w)
  unfolding removed
  knows_removing w fault why p c s e h =
      record {
        apart = apart_removal crowds c (without_first p s.table) (apart_without crowds p s.table h.apart);
        known = all_removal (Ears w) (λ x z k y. known_sent w x z (k y)) c (without_first p s.table) (ListLaws.all_without (Ears w) p s.table h.known);
      }

  -- A CLOSE: of its own connection nothing is known any more
  closed_known : (k : Triad) (w : Option Contact) (l : List Conn) → any (conn_triad k) l ≡ false → All (Ears w) l →
      All (Ears (maybe None (λ m. cond (triad_is k m.triad) None (Some m)) w)) l
  closed_known k None l n a = a
  closed_known k (Some m) l n a =
      by_cases (triad_is k m.triad)
      (λ y. rw y (ListLaws.all_two (λ c. conn_triad k c ≡ false) (Ears (Some m)) (Ears None)
      (λ c z h v. clash (conn_triad k c) (ap (triad_is k) (h v).triad ∙ y) z) l (ListLaws.none_passes (conn_triad k) l n) a))
      (λ y. rw y a)

  none_triad : (k : Triad) (c : Conn) (l : List Conn) → Distinct l → any (conn_triad k) (after_removal c (without_first (conn_triad k) l)) ≡ false
  none_triad k c l d =
      ListLaws.none_is (conn_triad k) (after_removal c (without_first (conn_triad k) l))
      (all_removal (λ x. conn_triad k x ≡ false) (λ x z h. h) c (without_first (conn_triad k) l) (ListLaws.none_passes (conn_triad k) (without_first (conn_triad k) l) (gone_triad k l d)))

  module _ (asks : List ℕ → ForwardOpen → Bool) where
    pub knows_closing : (k : Triad) (c : Conn) (s : State) (w : Option Contact) → Distinct s.table → find (conn_triad k) s.table ≡ Some c → Knows w s →
        Knows ((contact_of asks).on_close k w) (removed false Closed c (without_first (conn_triad k) s.table) s)
    unfolding removed
    knows_closing k c s w d e h =
        let b = knows_removing w false Closed (conn_triad k) c s e h in
        record { apart = b.apart; known = closed_known k w (after_removal c (without_first (conn_triad k) s.table)) (none_triad k c s.table d) b.known }

    -- AN OPEN: it is known where it asks so
    new_ear : (t : ℕ) (q : ForwardOpen) (o : Origin) (p : Plan) (n : ℕ) → Ear (met t q o (acceptance q o p n)) (new_conn t q o p n)
    unfolding new_conn new_fixed new_heard
    new_ear t q o p n = record { triad = refl; id = sym (id_told q o p n); sender = refl; timeout = refl; until = refl; last = refl; cip = λ z. refl }

    pub knows_opening : (t : ℕ) (request : List ℕ) (q : ForwardOpen) (o : Origin) (bytes : List ℕ) (p : Plan) (s : State) (w : Option Contact) →
        g (new_fixed q o p s.next_id) ≡ asks request q → (g (new_fixed q o p s.next_id) ≡ true → any passes s.table ≡ false) →
        any (λ c. eqb c.fixed.otid.0 s.next_id) s.table ≡ false → Knows w s →
        Knows ((contact_of asks).on_open t request q o (acceptance q o p s.next_id) w) (opened t q o bytes p s)
    unfolding opened new_conn new_fixed
    knows_opening t request q o bytes p s w same lone new h =
        let c = new_conn t q o p s.next_id in
        let l = s.table in
        by_cases (passes c)
        (λ y. let a = lone y in
        let now = Some (met t q o (acceptance q o p s.next_id)) in
        subst (λ b. Knows (cond b now w) (opened t q o bytes p s)) (sym (sym same ∙ y))
        (record {
          apart = apart_append crowds c l (alone c l a new) h.apart;
          known = ListLaws.all_append (Ears now) l c (vacuous now l a) (λ z. new_ear t q o p s.next_id);
        }))
        (λ n. subst (λ b. Knows (cond b (Some (met t q o (acceptance q o p s.next_id))) w) (opened t q o bytes p s)) (sym (sym same ∙ n))
        (record {
          apart = apart_append crowds c l (ListLaws.none_is (λ x. crowds x.fixed c.fixed) l (ListLaws.all_from (λ x. crowds x.fixed c.fixed ≡ false) (λ x. ap (λ b. b && (passes x || same_id x.fixed c.fixed)) n) l)) h.apart;
          known = ListLaws.all_append (Ears w) l c h.known (λ z. clash (passes c) z n);
        }))
      where
        alone : (c : Conn) (l : List Conn) → any passes l ≡ false → any (λ x. eqb x.fixed.otid.0 c.fixed.otid.0) l ≡ false →
            any (λ x. crowds x.fixed c.fixed) l ≡ false
        alone c l a new =
            ListLaws.none_is (λ x. crowds x.fixed c.fixed) l
            (ListLaws.all_two (λ x. passes x ≡ false) (λ x. eqb x.fixed.otid.0 c.fixed.otid.0 ≡ false) (λ x. crowds x.fixed c.fixed ≡ false)
            (λ x i j. ap₂ (λ b d. passes c && (b || (d && eqb x.fixed.originator c.fixed.originator))) i j ∙ and_no (passes c)) l
            (ListLaws.none_passes passes l a) (ListLaws.none_passes (λ x. eqb x.fixed.otid.0 c.fixed.otid.0) l new))

  -- what is sent says nothing of what was heard
  sends_known : (w : Option Contact) (t : ℕ) (c : Conn) → Ears w c → Ears w (sends t c)
  sends_known w t c h = either_way (Ears w) (due t c) (λ y. known_sent w c _ (h y)) h

  pub knows_producing : (w : Option Contact) (t : ℕ) (s : State) → Knows w s → Knows w (produce_effect t s)
  unfolding produce_effect
  knows_producing w t s h =
      record {
        apart = apart_map crowds (sends t) (send_fixed t) s.table h.apart;
        known = ListLaws.all_mapped (sends t) (Ears w) (Ears w) (sends_known w t) s.table h.known;
      }
