-- Which connections are left decides all the rest: an expiry comes to the same table as one that removes exactly the connections
-- that are not left, among those of the streams that are left.
use Rattle.std.specs.Prelude.{◌≡◌, refl, List, [], ◌∷◌, map, Bool, true, false, not, ◌&&◌, eqb}
use Rattle.std.proofs.Common.{sym, ◌∙◌, ap, subst, subst₂}
use Rattle.std.proofs.Math.Path.{fun_ext}
use Rattle.std.proofs.Math.Dec.{eqb_refl}
use Rattle.rules.specs.Lists.{find, any, keep, maybe}
use Rattle.rules_laws.specs.ListLaws
use Rattle.rules_laws.specs.ListLaws.{by_cases, clash, All, and_left, and_right, eqb_true, T_true}
use Rattle.rules.specs.State.{triad_is, with_sent}
use Rattle.rules_steps.specs.Names.{ToId, Triad, Fixed, Heard, Sent, Conn}
use Rattle.rules.specs.Checks.{has_triad}
use Rattle.rules.specs.Removal.{in_stream, conn_triad}
use Rattle.rules_isolation.specs.Apart.{Apart}
use Rattle.rules_isolation.specs.Ends.{Ends, done, step, one_end, all_ends, back_ends, outside, keep_ends, same_test, rehear, ends_rehear}

pub triad_is_true : (a b : Triad) → triad_is a b ≡ true → a ≡ b
triad_is_true a b e =
    let s = eqb_true a.serial b.serial (and_left _ (eqb a.vendor b.vendor) (and_left _ (eqb a.originator b.originator) e)) in
    let v = eqb_true a.vendor b.vendor (and_right (eqb a.serial b.serial) _ (and_left _ (eqb a.originator b.originator) e)) in
    let o = eqb_true a.originator b.originator (and_right (eqb a.serial b.serial && eqb a.vendor b.vendor) _ e) in
    λ i. record { serial = s i; vendor = v i; originator = o i }

pub triad_is_refl : (a : Triad) → triad_is a a ≡ true
triad_is_refl a =
    cc (T_true (eqb a.serial a.serial) (eqb_refl a.serial), T_true (eqb a.vendor a.vendor) (eqb_refl a.vendor), T_true (eqb a.originator a.originator) (eqb_refl a.originator))

pub triad_is_sym : (a b : Triad) → triad_is a b ≡ false → triad_is b a ≡ false
triad_is_sym a b e = by_cases (triad_is b a) (λ t. cc (triad_is_true b a t, triad_is_refl a)) (λ f. f)

abbrev pub triad_of : Conn → Triad
triad_of c = c.fixed.triad

-- no triad twice
abbrev pub Distinct : List Conn → Type 0
Distinct l = Apart (λ a. has_triad a.triad) l

-- what the triad tells of the connection
module _ (f : Conn → Bool) where
  abbrev told : List Conn → Triad → Bool
  told l t = maybe false f (find (conn_triad t) l)

  pub tells : (l : List Conn) → Distinct l → All (λ c. f c ≡ told l (triad_of c)) l
  tells [] d = tt
  tells (x ∷ xs) d = (
    cc (triad_is_refl (triad_of x)),
    ListLaws.all_two (λ c. conn_triad (triad_of x) c ≡ false) (λ c. f c ≡ told xs (triad_of c)) (λ c. f c ≡ told (x ∷ xs) (triad_of c))
        (λ c n h. cc (triad_is_sym (triad_of x) (triad_of c) n)) xs
        (ListLaws.none_passes (conn_triad (triad_of x)) xs d.0) (tells xs d.1),
  )

of_listed : (g : Triad → Bool) (r : List Conn) → All (λ c. g (triad_of c) ≡ false) r → (t : Triad) → any (conn_triad t) r ≡ true → g t ≡ false
of_listed g [] a t m = clash true refl (cc)
of_listed g (x ∷ xs) a t m = by_cases (conn_triad t x) (λ e. cc (triad_is_true t (triad_of x) e, a.0)) (λ e. of_listed g xs a.1 t (cc))

-- the tests, by the triads that are left
abbrev pub in_table : List Conn → Triad → Bool
in_table l t = any (conn_triad t) l

abbrev pub left : (Triad → Bool) → Conn → Bool
left ts c = ts (triad_of c)

abbrev pub gone : (Triad → Bool) → Conn → Bool
gone ts c = not (left ts c)

abbrev pub over : (Triad → Bool) → List Conn → ToId → Bool
over ts l k = not (any (λ c. in_stream k c && left ts c) l)

pub none_left : {p : Conn → Bool} {l r : List Conn} → Ends p l r → All (λ c. p c ≡ false) r
none_left {p} (done {l = l} e) = ListLaws.none_found p l e
none_left (step c e d) = none_left d

module _ (p : Conn → Bool) (blind : (c : Conn) (s : Sent) → p (with_sent s c) ≡ p c) (l r : List Conn) (ends : Ends p l r) (distinct : Distinct l) where
  abbrev ts : Triad → Bool
  ts = in_table r

  abbrev inside : Conn → Bool
  inside = outside (over (in_table r) l)

  -- what holds of none that is left held of none of those before that are left
  left_tells : (f : Conn → Bool) → ((c : Conn) (s : Sent) → f (with_sent s c) ≡ f c) → All (λ c. f c ≡ false) r → All (λ c. left ts c ≡ true → f c ≡ false) l
  left_tells f b n =
      let a₁ = tells f l distinct in
      let a₂ = all_ends (λ c. f c ≡ told f l (triad_of c)) (λ c s h. b c s ∙ h) ends a₁ in
      let a₃ = ListLaws.all_two (λ c. f c ≡ told f l (triad_of c)) (λ c. f c ≡ false) (λ c. told f l (triad_of c) ≡ false) (λ c h k. sym h ∙ k) r a₂ n in
      ListLaws.all_to (λ c. f c ≡ told f l (triad_of c)) (λ c. left ts c ≡ true → f c ≡ false) (λ c h m. h ∙ of_listed (told f l) r a₃ (triad_of c) m) l a₁

  self_left : All (λ c. left ts c ≡ true) r
  self_left =
      ListLaws.all_to (λ c. (f : Conn → Bool) → f c ≡ true → any f r ≡ true) (λ c. left ts c ≡ true)
      (λ c h. h (conn_triad (triad_of c)) (triad_is_refl (triad_of c)))
      r (ListLaws.self r)

  abbrev lives : ToId → Conn → Bool
  lives k x = in_stream k x && left (in_table r) x

  -- no stream of what is left is over
  inside_if : (c : Conn) → ((f : Conn → Bool) → f c ≡ true → any f r ≡ true) → left ts c ≡ true → inside c ≡ true
  inside_if c h t =
      let k = c.fixed.toid in
      by_cases (any (lives k) l) (λ y. by_cases c.fixed.multicast (λ m. cc) (λ m. cc))
      λ n. by_cases c.fixed.multicast
      (λ m. clash (any (lives k) r)
      (h (lives k) (cc (T_true (eqb k.0 k.0) (eqb_refl k.0))))
      (ListLaws.none_is (lives k) r (all_ends (λ x. lives k x ≡ false) (λ x s e. e) ends (ListLaws.none_passes (lives k) l n))))
      (λ m. cc)

  all_inside : All (λ c. inside c ≡ true) r
  all_inside =
      ListLaws.all_two (λ c. (f : Conn → Bool) → f c ≡ true → any f r ≡ true) (λ c. left ts c ≡ true) (λ c. inside c ≡ true) inside_if r (ListLaws.self r) self_left

  orphaned : (x : Conn) → x.fixed.multicast ≡ true → any (in_stream x.fixed.toid) r ≡ false → inside x ≡ false
  orphaned x m n =
      let k = x.fixed.toid in
      let a = left_tells (in_stream k) (λ c s. refl) (ListLaws.none_passes (in_stream k) r n) in
      let b = ListLaws.all_to (λ c. left ts c ≡ true → in_stream k c ≡ false) (λ c. lives k c ≡ false)
      (λ c h. by_cases (left ts c) (λ t. cc (h t)) (λ f. by_cases (in_stream k c) (λ i. cc) (λ i. cc))) l a in
      cc (ListLaws.none_is (lives k) l b)

  stays : All (λ c. p c ≡ false → inside c ≡ true → left ts c ≡ true) l
  stays =
      back_ends (λ c. p c ≡ false → inside c ≡ true → left ts c ≡ true) (λ c s h n. h (sym (blind c s) ∙ n)) p (λ c t f. clash (p c) t f) ends
      (ListLaws.all_to (λ c. left ts c ≡ true) (λ c. p c ≡ false → inside c ≡ true → left ts c ≡ true) (λ c t n i. t) r self_left)
      (λ x m n f i. clash (inside x) i (orphaned x m n))

  agrees : All (λ c. inside c ≡ true → p c ≡ gone ts c) l
  agrees =
      ListLaws.all_two (λ c. left ts c ≡ true → p c ≡ false) (λ c. p c ≡ false → inside c ≡ true → left ts c ≡ true) (λ c. inside c ≡ true → p c ≡ gone ts c)
      (λ c h k i. by_cases (left ts c) (λ t. cc (h t)) (λ f. by_cases (p c) (λ y. cc) (λ n. clash (left ts c) (k n i) f)))
      l (left_tells p blind (none_left ends)) stays

  pub canonical : Ends (gone ts) (keep inside l) r
  canonical =
      let d : Ends p (keep inside l) (keep inside r) = keep_ends (over ts l) ends in
      let e : Ends p (keep inside l) r = rw (ListLaws.keep_all inside r all_inside) at d in
      same_test p (gone ts) (λ c s h. blind c s ∙ h) e (ListLaws.kept (λ c. p c ≡ gone ts c) inside l agrees)

-- THE EXPIRY LEMMA: two tables that differ in what was heard, and the same connections left by two tests: all else of them is the same too
module _ (w : Fixed → Heard → Heard) where
  pub canonical_seen : (p : Conn → Bool) → ((c : Conn) (s : Sent) → p (with_sent s c) ≡ p c) → (l r : List Conn) → Ends p l r → Distinct l →
      Ends (gone (in_table r)) (keep (outside (over (in_table r) (map (rehear w) l))) (map (rehear w) l)) (map (rehear w) r)
  canonical_seen p b l r ends d =
      let ts = in_table r in
      let k : over ts l ≡ over ts (map (rehear w) l) =
      fun_ext (λ k. ap not (sym (ListLaws.any_map (rehear w) (λ c. in_stream k c && left ts c) (λ c. in_stream k c && left ts c) (λ x. refl) l))) in
      let m = ListLaws.keep_map (rehear w) (outside (over ts l)) (outside (over ts l)) (λ x. refl) l in
      let e = ends_rehear w (gone ts) (λ x. refl) (canonical p b l r ends d) in
      subst (λ κ. Ends (gone ts) (keep (outside κ) (map (rehear w) l)) (map (rehear w) r)) k
      (subst (λ t. Ends (gone ts) t (map (rehear w) r)) (sym m) e)

  pub same_left : (p q : Conn → Bool) → ((c : Conn) (s : Sent) → p (with_sent s c) ≡ p c) → ((c : Conn) (s : Sent) → q (with_sent s c) ≡ q c) →
      (l m r t : List Conn) → Ends p l r → Ends q m t → Distinct l → Distinct m →
      map (rehear w) l ≡ map (rehear w) m → ((d : Triad) → in_table r d ≡ in_table t d) → map (rehear w) r ≡ map (rehear w) t
  same_left p q b k l m r t e f d g seen left =
      one_end
      (subst₂ (λ ts s. Ends (gone ts) (keep (outside (over ts s)) s) (map (rehear w) r)) (fun_ext left) seen (canonical_seen p b l r e d))
      (canonical_seen q k m t f g)
