-- What the state tests of a connection is what the history tests of it; and an expiry and a frame keep it known.
use Rattle.std.specs.Prelude.{◌≡◌, Bool, true, cond, not, ◌&&◌, ◌||◌, ℕ, ◌+◌, ◌-◌, ◌%◌, ◌^◌, leb, ltb, length, Option, Some, None}
use Rattle.std.proofs.Math.Path.{refl, sym, ap, ap₂, subst}
use Rattle.std.proofs.Common.{◌∙◌, eq-eqb}
use mathlib.Core.List.{List, [], ◌∷◌}
use Rattle.std.proofs.Math.Bool.{false}
use Rattle.std.proofs.Math.Dec.{eqb}
use Rattle.base_cells.specs.Numbers.{le}
use Rattle.rules.specs.Lists.{find, any, change_first, maybe, is_some}
use Rattle.rules_laws.specs.ListLaws
use Rattle.rules_laws.specs.ListLaws.{by_cases, clash, All, eqb_true, and_left, and_right}
use Rattle.rules_laws.specs.ExpiryLaws.{same_test}
use Rattle.rules.specs.State.{State, is_owner}
use Rattle.rules.specs.Removal.{expired, expire_effect}
use Rattle.rules.specs.Receiving.{Frame, meant_for, newer, recorded, hear, received}
use Rattle.rules_isolation.specs.Apart.{Apart, apart_change}
use Rattle.rules_isolation.specs.Seen.{hear_fixed}
use Rattle.rules_faults.specs.RunBit.{none_silent}
use Rattle.rules_steps.specs.Names.{ForwardOpen, Fixed, Conn}
use Rattle.rules_steps.proofs.Steps.{expiry_keeps}
use Rattle.rules_lastword.specs.Words.{Contact, is_for, in_order, is_news, speaks, noted, silent, contact_of}
use Rattle.rules_lastword.specs.Knows.{or_yes, optional, Ear, Known, same_id, passes, crowds, Ears, Knows, sole, knows_removing}

-- ---- what the state tests is what the history tests
order_told : (b : Bool) (n : ℕ) (f : Frame) →
    not b || leb 1 ((f.sequence + 2 ^ 32 - n) % 2 ^ 32) && leb ((f.sequence + 2 ^ 32 - n) % 2 ^ 32) 0x7FFFFFFF ≡ in_order (optional b n) f
order_told true n f = refl
order_told false n f = refl

pub newer_is : (m : Contact) (f : Frame) (c : Conn) → Ear m c → newer c.heard f.sequence ≡ in_order m.last f
unfolding newer
newer_is m f c h = order_told c.heard.any c.heard.sequence f ∙ ap (λ z. in_order z f) h.last

news_told : (b : Bool) (n : ℕ) (f : Frame) → not (b && eqb n (le 2 f.payload 0)) ≡ is_news (optional b n) f
news_told true n f = refl
news_told false n f = refl

pub news_is : (m : Contact) (f : Frame) (c : Conn) → Ear m c → is_owner c.fixed.kind ≡ true →
    not (c.heard.anycip && eqb c.heard.cip (le 2 f.payload 0)) ≡ is_news m.cip f
news_is m f c h o = news_told c.heard.anycip c.heard.cip f ∙ ap (λ z. is_news z f) (h.cip o)

pub meant_is : (m : Contact) (from : ℕ) (f : Frame) (c : Conn) → Ear m c → meant_for from f c ≡ is_for from f m
meant_is m from f c h = ap₂ (λ a b. eqb a f.id.0 && eqb b from) h.id h.sender

pub silent_is : (m : Contact) (t : ℕ) (c : Conn) → Ear m c → expired t c ≡ silent t m
silent_is m t c h = ap (λ n. ltb n t) h.until ∙ sym (same_test m.timeout m.at t)

-- ---- a frame that is recorded
cip_told : (o b a : Bool) (x y : ℕ) (z : Option ℕ) → o ≡ true → optional a y ≡ z → optional (o && b || a) (cond (o && b) x y) ≡ cond b (Some x) z
cip_told true true a x y z k e = refl
cip_told true false a x y z k e = e
cip_told false b a x y z k e = clash true refl (sym k)

hear_new : (t : ℕ) (f : Frame) (m : Contact) (c : Conn) → newer c.heard f.sequence ≡ true → Ear m c → Ear (noted t f m) (hear t f c)
unfolding hear recorded
hear_new t f m c y h =
    rw y (record {
      triad = h.triad;
      id = h.id;
      sender = h.sender;
      timeout = h.timeout;
      until = ap (λ n. t + n) h.timeout;
      last = refl;
      cip = λ o. cip_told (is_owner c.fixed.kind) (leb 2 (length f.payload)) c.heard.anycip (le 2 f.payload 0) c.heard.cip m.cip o (h.cip o);
    })

hear_old : (t : ℕ) (f : Frame) (c : Conn) → newer c.heard f.sequence ≡ false → hear t f c ≡ c
unfolding hear
hear_old t f c n = rw n refl

module _ (g : Fixed → Bool) where
  module _ (asks : List ℕ → ForwardOpen → Bool) where
    -- AN EXPIRY: a connection that was silent for too long is gone
    silent_known : (t : ℕ) (w : Option Contact) (l : List Conn) → All (λ c. expired t c ≡ false) l → All (Ears g w) l →
        All (Ears g (maybe None (λ m. cond (silent t m) None (Some m)) w)) l
    silent_known t None l n a = a
    silent_known t (Some m) l n a =
        by_cases (silent t m)
        (λ y. rw y (ListLaws.all_two (λ c. expired t c ≡ false) (Ears g (Some m)) (Ears g None) (λ c z h v. clash (expired t c) (silent_is m t c (h v) ∙ y) z) l n a))
        (λ y. rw y a)

    pub knows_expiring : (t : ℕ) (s : State) (w : Option Contact) → Knows g w s → Knows g ((contact_of asks).on_expire t w) (expire_effect t s)
    knows_expiring t s w h =
        let b = expiry_keeps (Knows g w) (knows_removing g w) t s h in
        record { apart = b.apart; known = silent_known t w (expire_effect t s).table (none_silent t s) b.known }

    -- A FRAME
    abbrev told : ℕ → ℕ → Frame → Contact → Contact
    told t from f m = cond (speaks from f m) (noted t f m) m

    heard_one : (t from : ℕ) (f : Frame) (m : Contact) (x : Conn) → meant_for from f x ≡ true → Ear m x → Ear (told t from f m) (hear t f x)
    heard_one t from f m x e h =
        let o = sym (meant_is m from f x h) ∙ e in
        let k = newer_is m f x h in
        by_cases (in_order m.last f)
        (λ i. subst (λ b. Ear (cond b (noted t f m) m) (hear t f x)) (sym (ap (λ b. b && in_order m.last f) o ∙ i)) (hear_new t f m x (k ∙ i) h))
        (λ i. subst (λ b. Ear (cond b (noted t f m) m) (hear t f x)) (sym (ap (λ b. b && in_order m.last f) o ∙ i)) (subst (Ear m) (sym (hear_old t f x (k ∙ i))) h))

    -- a frame that is not from it teaches nothing of it
    not_from : (t from : ℕ) (f : Frame) (m : Contact) → is_for from f m ≡ false → told t from f m ≡ m
    not_from t from f m n = ap (λ b. cond (b && in_order m.last f) (noted t f m) m) n

    -- it is for another, that stands before: then not from this one
    pub shadowed : (from : ℕ) (f : Frame) (m : Contact) (x y : Conn) → meant_for from f x ≡ true → crowds g x.fixed y.fixed ≡ false → passes g y ≡ true → Ear m y →
        is_for from f m ≡ false
    shadowed from f m x y e n v h =
        by_cases (is_for from f m)
        (λ z. let a = meant_is m from f y h ∙ z in
        let i = eqb_true x.fixed.otid.0 f.id.0 (and_left (eqb x.fixed.otid.0 f.id.0) (eqb x.fixed.originator from) e) in
        let j = eqb_true y.fixed.otid.0 f.id.0 (and_left (eqb y.fixed.otid.0 f.id.0) (eqb y.fixed.originator from) a) in
        let o = eqb_true x.fixed.originator from (and_right (eqb x.fixed.otid.0 f.id.0) (eqb x.fixed.originator from) e) in
        let q = eqb_true y.fixed.originator from (and_right (eqb y.fixed.otid.0 f.id.0) (eqb y.fixed.originator from) a) in
        let b = eq-eqb x.fixed.otid.0 y.fixed.otid.0 (i ∙ sym j) in
        let c = eq-eqb x.fixed.originator y.fixed.originator (o ∙ sym q) in
        let same : same_id x.fixed y.fixed ≡ true = ap₂ ◌&&◌ b c in
        let yes : crowds g x.fixed y.fixed ≡ true = ap (λ d. d && (passes g x || same_id x.fixed y.fixed)) v ∙ ap (λ d. passes g x || d) same ∙ or_yes (passes g x) in
        clash (crowds g x.fixed y.fixed) yes n)
        (λ z. z)

    heard_known : (t from : ℕ) (f : Frame) (m : Contact) (l : List Conn) → Apart (crowds g) l → All (Ears g (Some m)) l →
        All (Ears g (Some (told t from f m))) (change_first (meant_for from f) (hear t f) l)
    heard_known t from f m [] d a = tt
    heard_known t from f m (x ∷ xs) d a =
        by_cases (meant_for from f x)
        (λ e. rw e (
          (λ y. heard_one t from f m x e (a.0 (sym (ap g (hear_fixed t f x)) ∙ y))),
          ListLaws.all_two (λ y. crowds g x.fixed y.fixed ≡ false) (Ears g (Some m)) (Ears g (Some (told t from f m)))
              (λ y n h v. subst (λ b. Ear b y) (sym (not_from t from f m (shadowed from f m x y e n v (h v)))) (h v)) xs
              (ListLaws.none_passes (λ y. crowds g x.fixed y.fixed) xs d.0) a.1,
        ))
        (λ e. rw e (
          (λ y. subst (λ b. Ear b x) (sym (not_from t from f m (sym (meant_is m from f x (a.0 y)) ∙ e))) (a.0 y)),
          heard_known t from f m xs d.1 a.1,
        ))

    heard_any : (t from : ℕ) (f : Frame) (w : Option Contact) (l : List Conn) → Apart (crowds g) l → All (Ears g w) l →
        All (Ears g ((contact_of asks).on_frame t from f w)) (change_first (meant_for from f) (hear t f) l)
    heard_any t from f None l d a = ListLaws.all_change (Ears g None) (meant_for from f) (hear t f) (λ x h y. h (sym (ap g (hear_fixed t f x)) ∙ y)) l a
    heard_any t from f (Some m) l d a = heard_known t from f m l d a

    pub knows_hearing : (t from : ℕ) (f : Frame) (s : State) (w : Option Contact) → Knows g w s → Knows g ((contact_of asks).on_frame t from f w) (received t from f s)
    unfolding received
    knows_hearing t from f s w h =
        record {
          apart = apart_change (crowds g) (hear t f) (hear_fixed t f) (meant_for from f) s.table h.apart;
          known = heard_any t from f w s.table h.apart h.known;
        }

    -- whom a frame is for: the one that is known, exactly where the frame is from it
    pub found_is_met : (from : ℕ) (f : Frame) (w : Option Contact) (l : List Conn) → Apart (crowds g) l → All (Ears g w) l → is_some w ≡ any (passes g) l →
        maybe false (is_for from f) w ≡ maybe false (passes g) (find (meant_for from f) l)
    found_is_met from f None [] d a e = refl
    found_is_met from f (Some m) [] d a e = clash true refl e
    found_is_met from f w (x ∷ xs) d a e =
        by_cases (meant_for from f x)
        (λ y. rw y (first w d.0 a.0 a.1 e y))
        (λ n. by_cases (passes g x)
        (λ v. let z = sole g x xs d.0 v in rw n (other w (a.0 v) n ∙ sym (unmet xs z)))
        (λ v. rw n (found_is_met from f w xs d.1 a.1 (e ∙ ap (λ b. b || any (passes g) xs) v))))
      where
        unmet : (l : List Conn) → any (passes g) l ≡ false → maybe false (passes g) (find (meant_for from f) l) ≡ false
        unmet l z = ListLaws.found_is false (passes g) (meant_for from f) (λ c. passes g c ≡ false) (λ b. b ≡ false) refl (λ c k h. h) l (ListLaws.none_passes (passes g) l z)

        other : (w : Option Contact) → Known w x → meant_for from f x ≡ false → maybe false (is_for from f) w ≡ false
        other None h n = absurd h
        other (Some m) h n = sym (meant_is m from f x h) ∙ n

        hidden : (m : Contact) → any (λ y. crowds g x.fixed y.fixed) xs ≡ false → All (Ears g (Some m)) xs → meant_for from f x ≡ true → any (passes g) xs ≡ true → is_for from f m ≡ false
        hidden m n a y z =
            by_cases (is_for from f m)
            (λ i. clash (any (passes g) xs) z (ListLaws.none_is (passes g) xs
            (ListLaws.all_two (λ y. crowds g x.fixed y.fixed ≡ false) (Ears g (Some m)) (λ y. passes g y ≡ false)
            (λ c k h. by_cases (passes g c) (λ v. clash (is_for from f m) i (shadowed from f m x c y k v (h v))) (λ v. v)) xs
            (ListLaws.none_passes (λ y. crowds g x.fixed y.fixed) xs n) a)))
            (λ i. i)

        first : (w : Option Contact) → any (λ y. crowds g x.fixed y.fixed) xs ≡ false → Ears g w x → All (Ears g w) xs → is_some w ≡ passes g x || any (passes g) xs →
            meant_for from f x ≡ true → maybe false (is_for from f) w ≡ passes g x
        first None n h a e y = by_cases (passes g x) (λ v. clash true refl (sym (e ∙ ap (λ b. b || any (passes g) xs) v))) (λ v. sym v)
        first (Some m) n h a e y =
            by_cases (passes g x)
            (λ v. sym (meant_is m from f x (h v)) ∙ y ∙ sym v)
            (λ v. hidden m n a y (sym (e ∙ ap (λ b. b || any (passes g) xs) v)) ∙ sym v)
