-- Removal repeated until none is left that passes a test, as a relation, and its laws.
use Rattle.std.specs.Prelude.{◌≡◌, refl, List, [], ◌∷◌, map, Bool, true, false, not, ◌&&◌, ◌||◌, ℕ, zero, suc, ◌≤◌, eqb, length, Option, Some, None}
use Rattle.std.proofs.Common.{sym, ◌∙◌, ap, arith}
use Rattle.rules.specs.Lists.{find, any, keep, without_first, repeat}
use Rattle.rules_laws.specs.ListLaws
use Rattle.rules_laws.specs.ListLaws.{by_cases, clash, either_way, of_cond, All, and_left, and_right, eqb_true}
use Rattle.rules.specs.State.{with_sent, is_listener}
use Rattle.rules_steps.specs.Names.{ToId, Fixed, Heard, Sent, Conn}
use Rattle.rules.specs.Removal.{in_stream, feeds, hands_on, handed_over, ends_stream, without_listeners, after_removal, remove_first}

pub data Ends (p : Conn → Bool) : List Conn → List Conn → Type 0 where
  done : {l : List Conn} → find p l ≡ None → Ends p l l
  step : {l r : List Conn} (c : Conn) → find p l ≡ Some c → Ends p (remove_first p l) r → Ends p l r

pub one_end : {p : Conn → Bool} {l r t : List Conn} → Ends p l r → Ends p l t → r ≡ t
one_end (done e) (done f) = refl
one_end (done e) (step c f d) = clash true refl (cc)
one_end (step c e d) (done f) = clash true refl (cc)
one_end (step c e d) (step b f k) = one_end d k

-- what does not look at what was sent
abbrev pub Blind : (Conn → Type 0) → Type 0
Blind P = (c : Conn) (s : Sent) → P c → P (with_sent s c)

module _ (P : Conn → Type 0) (blind : Blind P) where
  pub all_removal : (c : Conn) (l : List Conn) → All P l → All P (after_removal c l)
  all_removal c l a =
      let b = either_way (All P) (hands_on c) (ListLaws.all_change P (in_stream c.fixed.toid) (with_sent c.sent) (λ x. blind x _) l a) a in
      either_way (All P) (ends_stream c (handed_over c l)) (ListLaws.all_keep P (λ x. not (in_stream c.fixed.toid x)) (handed_over c l) b) b

  pub all_ends : {p : Conn → Bool} {l r : List Conn} → Ends p l r → All P l → All P r
  all_ends (done e) a = a
  all_ends {p} (step {l = l} c e d) a = all_ends d (rw e (all_removal c (without_first p l) (ListLaws.all_without P p l a)))

  pub back_hand_over : (c : Conn) (l : List Conn) → All P (handed_over c l) → All P l
  back_hand_over c l a =
      by_cases (hands_on c)
      (λ e. ListLaws.back_change P (in_stream c.fixed.toid) (with_sent c.sent) (λ x h. blind _ x.sent h) l (rw e at a))
      (λ e. rw e at a)

pub to_id_is : (a b : ToId) → eqb a.0 b.0 ≡ true → a ≡ b
to_id_is a b e = let s = eqb_true a.0 b.0 e in λ i. record { 0 = s i }

pub in_stream_is : (k : ToId) (x : Conn) → in_stream k x ≡ true → (x.fixed.multicast ≡ true) × (x.fixed.toid ≡ k)
in_stream_is k x e =
    (and_left x.fixed.multicast (eqb x.fixed.toid.0 k.0) e, to_id_is x.fixed.toid k (and_right x.fixed.multicast (eqb x.fixed.toid.0 k.0) e))

pub stays_empty : (k : ToId) {p : Conn → Bool} {l r : List Conn} → Ends p l r → any (in_stream k) l ≡ false → any (in_stream k) r ≡ false
stays_empty k {l = l} {r = r} d n =
    ListLaws.none_is (in_stream k) r (all_ends (λ c. in_stream k c ≡ false) (λ c s h. h) d (ListLaws.none_passes (in_stream k) l n))

-- backwards: what is left, what went as the test says, and what went with its stream
module _ (P : Conn → Type 0) (blind : Blind P) (p : Conn → Bool) (went : (c : Conn) → p c ≡ true → P c) where
  pub back_removal : (c : Conn) (l : List Conn) → find p l ≡ Some c →
      ((x : Conn) → x.fixed.multicast ≡ true → any (in_stream x.fixed.toid) (remove_first p l) ≡ false → P x) →
      All P (remove_first p l) → All P l
  back_removal c l e orphan a =
      let k = c.fixed.toid in
      let h = handed_over c (without_first p l) in
      ListLaws.back_without P p went l
      (back_hand_over P blind c (without_first p l)
      (by_cases (ends_stream c h)
      (λ t. ListLaws.back_keep P (λ x. not (in_stream k x))
      (λ x n.
      let i : in_stream k x ≡ true = by_cases (in_stream k x) (λ y. y) (λ y. clash true refl (cc)) in
      let same = (in_stream_is k x i).1 in
      orphan x (in_stream_is k x i).0 (rw (same, e, t) (ListLaws.any_keep_not (in_stream k) h)))
      h
      (rw (e, t) at a))
      (λ f. rw (e, f) at a)))

  pub back_ends : {l r : List Conn} → Ends p l r → All P r →
      ((x : Conn) → x.fixed.multicast ≡ true → any (in_stream x.fixed.toid) r ≡ false → P x) →
      All P l
  back_ends (done e) a orphan = a
  back_ends (step {l = l} c e d) a orphan = back_removal c l e (λ x m n. orphan x m (stays_empty x.fixed.toid d n)) (back_ends d a orphan)

-- the removal looks at no stream but its own: what is asked of the streams' ids can be asked before or after
module _ (κ : ToId → Bool) where
  abbrev pub outside : Conn → Bool
  outside c = not (c.fixed.multicast && κ c.fixed.toid)

  stream_out : (k : ToId) → κ k ≡ true → (x : Conn) → in_stream k x ≡ true → outside x ≡ false
  stream_out k e x i = cc ((in_stream_is k x i).0, (in_stream_is k x i).1)

  stream_in : (k : ToId) → κ k ≡ false → (x : Conn) → in_stream k x ≡ true → outside x ≡ true
  stream_in k e x i = cc ((in_stream_is k x i).0, (in_stream_is k x i).1)

  removal_out : (c : Conn) (l : List Conn) → κ c.fixed.toid ≡ true → keep outside (after_removal c l) ≡ keep outside l
  removal_out c l e =
      let k = c.fixed.toid in
      either_way (λ t. keep outside t ≡ keep outside l) (ends_stream c (handed_over c l))
      (ListLaws.keep_drops (in_stream k) outside (stream_out k e) (handed_over c l) ∙ handed)
      handed
    where
      handed : keep outside (handed_over c l) ≡ keep outside l
      handed =
          either_way (λ t. keep outside t ≡ keep outside l) (hands_on c)
          (ListLaws.keep_change_out (in_stream c.fixed.toid) outside (with_sent c.sent) (λ x. refl) (stream_out c.fixed.toid e) l)
          refl

  feeds_in : (k : ToId) → κ k ≡ false → (x : Conn) → feeds k x ≡ true → outside x ≡ true
  feeds_in k e x i = stream_in k e x (and_left (in_stream k x) (not (is_listener x.fixed.kind)) i)

  removal_in : (c : Conn) (l : List Conn) → κ c.fixed.toid ≡ false → keep outside (after_removal c l) ≡ after_removal c (keep outside l)
  removal_in c l e = closes (handed_over c l) ∙ ap (without_listeners c) hands
    where
      k : ToId
      k = c.fixed.toid

      hands : keep outside (handed_over c l) ≡ handed_over c (keep outside l)
      hands =
          of_cond (keep outside) (hands_on c) (hands_on c) refl
          (ListLaws.keep_change_in (in_stream c.fixed.toid) outside (with_sent c.sent) (λ x. refl) (stream_in c.fixed.toid e) l)
          refl

      closes : (t : List Conn) → keep outside (without_listeners c t) ≡ without_listeners c (keep outside t)
      closes t =
          of_cond (keep outside) (ends_stream c t) (ends_stream c (keep outside t))
          (cc (ListLaws.any_keep (feeds c.fixed.toid) outside (feeds_in c.fixed.toid e) t))
          (ListLaws.keep_keep outside (λ x. not (in_stream c.fixed.toid x)) t)
          refl

  -- of a connection that is not multicast nothing follows
  removal_alone : (c : Conn) (l : List Conn) → c.fixed.multicast ≡ false → after_removal c l ≡ l
  removal_alone c l e = cc

  module _ (p : Conn → Bool) (c : Conn) (l r : List Conn) (e : find p l ≡ Some c) (before : Ends p (keep outside (remove_first p l)) (keep outside r)) where
    step_in : outside c ≡ true → keep outside (after_removal c (without_first p l)) ≡ after_removal c (keep outside (without_first p l)) → Ends p (keep outside l) (keep outside r)
    step_in o h =
        let f = ListLaws.find_keep p outside c l e o in
        let w = ListLaws.without_keep_in p outside c l e o in
        let same : keep outside (remove_first p l) ≡ remove_first p (keep outside l) = cc in
        step c f (rw same at before)

    step_out : outside c ≡ false → keep outside (after_removal c (without_first p l)) ≡ keep outside (without_first p l) → Ends p (keep outside l) (keep outside r)
    step_out o h =
        let w = ListLaws.without_keep_out p outside c l e o in
        let same : keep outside (remove_first p l) ≡ keep outside l = cc in
        rw same at before

    keep_step : (m k : Bool) → c.fixed.multicast ≡ m → κ c.fixed.toid ≡ k → Ends p (keep outside l) (keep outside r)
    keep_step false k m h = step_in (cc) (cc (removal_alone c (without_first p l) m, removal_alone c (keep outside (without_first p l)) m))
    keep_step true false m h = step_in (cc) (removal_in c (without_first p l) h)
    keep_step true true m h = step_out (cc) (removal_out c (without_first p l) h)

  pub keep_ends : {p : Conn → Bool} {l r : List Conn} → Ends p l r → Ends p (keep outside l) (keep outside r)
  keep_ends {p} (done {l = l} e) = done (ListLaws.find_none_keep p outside l e)
  keep_ends {p} (step {l = l} {r = r} c e d) = keep_step p c l r e (keep_ends d) c.fixed.multicast (κ c.fixed.toid) refl refl

-- another test that agrees on the table
pub same_test : (p q : Conn → Bool) → Blind (λ c. p c ≡ q c) → {l r : List Conn} → Ends p l r → All (λ c. p c ≡ q c) l → Ends q l r
same_test p q b (done {l = l} e) a = let n : find q l ≡ None = cc (ListLaws.find_same p q l a) in done n
same_test p q b (step {l = l} c e d) a =
    let f = ListLaws.find_same p q l a in
    let w = ListLaws.without_same p q l a in
    let same : remove_first p l ≡ remove_first q l = cc in
    let a₁ : All (λ c. p c ≡ q c) (remove_first p l) = rw e (all_removal (λ c. p c ≡ q c) b c (without_first p l) (ListLaws.all_without (λ c. p c ≡ q c) p l a)) in
    let f₁ : find q l ≡ Some c = cc in
    step c f₁ (rw same at (same_test p q b d a₁))

-- the same removals where something of what was heard is changed that the test does not see
module _ (w : Fixed → Heard → Heard) where
  abbrev pub rehear : Conn → Conn
  rehear c = record { fixed = c.fixed; heard = w c.fixed c.heard; sent = c.sent }

  pub removal_rehear : (c : Conn) (l : List Conn) → map rehear (after_removal c l) ≡ after_removal (rehear c) (map rehear l)
  removal_rehear c l = closes (handed_over c l) ∙ ap (without_listeners c) hands
    where
      hands : map rehear (handed_over c l) ≡ handed_over c (map rehear l)
      hands =
          of_cond (map rehear) (hands_on c) (hands_on c) refl
          (sym (ListLaws.change_map rehear (in_stream c.fixed.toid) (in_stream c.fixed.toid) (λ x. refl) (with_sent c.sent) (with_sent c.sent) (λ x e. refl) l))
          refl

      closes : (t : List Conn) → map rehear (without_listeners c t) ≡ without_listeners c (map rehear t)
      closes t =
          of_cond (map rehear) (ends_stream c t) (ends_stream c (map rehear t))
          (cc (ListLaws.any_map rehear (feeds c.fixed.toid) (feeds c.fixed.toid) (λ x. refl) t))
          (sym (ListLaws.keep_map rehear (λ x. not (in_stream c.fixed.toid x)) (λ x. not (in_stream c.fixed.toid x)) (λ x. refl) t))
          refl

  module _ (q : Conn → Bool) (unseen : (c : Conn) → q (rehear c) ≡ q c) where
    remove_rehear_with : (l : List Conn) (o : Option Conn) → find q l ≡ o → map rehear (remove_first q l) ≡ remove_first q (map rehear l)
    remove_rehear_with l None e = cc (ListLaws.find_map rehear q q unseen l)
    remove_rehear_with l (Some c) e =
        cc (ListLaws.find_map rehear q q unseen l, ListLaws.without_map rehear q q unseen l, removal_rehear c (without_first q l))

    pub remove_rehear : (l : List Conn) → map rehear (remove_first q l) ≡ remove_first q (map rehear l)
    remove_rehear l = remove_rehear_with l (find q l) refl

    pub ends_rehear : {l r : List Conn} → Ends q l r → Ends q (map rehear l) (map rehear r)
    ends_rehear (done {l = l} e) = let n : find q (map rehear l) ≡ None = cc (ListLaws.find_map rehear q q unseen l) in done n
    ends_rehear (step {l = l} c e d) =
        let f : find q (map rehear l) ≡ Some (rehear c) = cc (ListLaws.find_map rehear q q unseen l) in
        step (rehear c) f (rw (remove_rehear l) at (ends_rehear d))

-- what no listener has is lost with the removed connection only
module _ (f : Conn → Bool) (blind : (c : Conn) (s : Sent) → f (with_sent s c) ≡ f c) where
  abbrev pub Mute : Conn → Type 0
  Mute x = is_listener x.fixed.kind ≡ true → f x ≡ false

  mute_orphan : (k : ToId) (x : Conn) → feeds k x ≡ false → Mute x → in_stream k x ≡ true → f x ≡ false
  mute_orphan k x n q e = by_cases (is_listener x.fixed.kind) q (λ y. clash true refl (cc))

  any_orphans : (c : Conn) (l : List Conn) → All Mute l → any f (without_listeners c l) ≡ any f l
  any_orphans c l q =
      let k = c.fixed.toid in
      by_cases (ends_stream c l)
      (λ e. rw e (ListLaws.any_keep_rest f (in_stream k) l
      (ListLaws.all_two (λ x. feeds k x ≡ false) Mute (λ x. in_stream k x ≡ true → f x ≡ false) (mute_orphan k) l
      (ListLaws.none_passes (feeds k) l (ListLaws.not_true (any (feeds k) l) (and_right (feeds k c) (not (any (feeds k) l)) e))) q)))
      (λ e. rw e refl)

  pub any_removal : (p : Conn → Bool) (c : Conn) (l : List Conn) → find p l ≡ Some c → All Mute l → any f l ≡ f c || any f (after_removal c (without_first p l))
  any_removal p c l e q =
      let k = c.fixed.toid in
      let rest = without_first p l in
      let r = ListLaws.all_without Mute p l q in
      let h : any f (handed_over c rest) ≡ any f rest =
      either_way (λ t. any f t ≡ any f rest) (hands_on c) (ListLaws.any_change f (in_stream k) (with_sent c.sent) (λ x. blind x _) rest) refl in
      let m : All Mute (handed_over c rest) =
      either_way (All Mute) (hands_on c)
      (ListLaws.all_change Mute (in_stream k) (with_sent c.sent) (λ x y z. blind x _ ∙ y z) rest r) r in
      ListLaws.any_without f p c l e ∙ ap (λ b. f c || b) (sym h ∙ sym (any_orphans c (handed_over c rest) m))

-- the call itself ends so
pub length_removal : (c : Conn) (l : List Conn) → length (after_removal c l) ≤ length l
length_removal c l =
    let h : length (handed_over c l) ≤ length l =
    either_way (λ t. length t ≤ length l) (hands_on c)
    (omega (arith, ListLaws.length_change (in_stream c.fixed.toid) (with_sent c.sent) l)) (omega arith) in
    either_way (λ t. length t ≤ length l) (ends_stream c (handed_over c l))
    (omega (arith, ListLaws.length_keep (λ x. not (in_stream c.fixed.toid x)) (handed_over c l))) h

rests : (p : Conn → Bool) (n : ℕ) (l : List Conn) → find p l ≡ None → repeat n (remove_first p) l ≡ l
rests p zero l e = refl
rests p (suc n) l e = let s : remove_first p l ≡ l = cc in rw s (rests p n l e)

pub empty : (l : List Conn) → length l ≤ 0 → l ≡ []
empty [] h = refl
empty (x ∷ xs) h = absurd (omega arith)

pub reaches : (p : Conn → Bool) (n : ℕ) (l : List Conn) → length l ≤ n → Ends p l (repeat n (remove_first p) l)
reaches p zero l h = let n : find p l ≡ None = cc (empty l h) in done n
reaches p (suc n) l h = go (find p l) refl (reaches p n (remove_first p l))
  where
    go : (o : Option Conn) → find p l ≡ o → (length (remove_first p l) ≤ n → Ends p (remove_first p l) (repeat n (remove_first p) (remove_first p l))) →
        Ends p l (repeat n (remove_first p) (remove_first p l))
    go None e r = let s : remove_first p l ≡ l = cc in rw (s, rests p n l e) (done e)
    go (Some c) e r =
        step c e (r (rw e (omega (arith, length_removal c (without_first p l), ListLaws.length_without p c l e))))
