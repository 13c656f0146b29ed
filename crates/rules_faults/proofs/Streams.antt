-- Streams over every run: a removal, an open and a change of rows keep that every connection is fed, and so every call does.
use Rattle.std.specs.Prelude.{◌≡◌, List, [], ◌∷◌, ◌++◌, map, Bool, cond, not, ◌&&◌, ◌||◌, ℕ, Option, Some, None, Ok}
use Rattle.std.proofs.Math.Path.{refl, sym, ap}
use Rattle.std.proofs.Common.{◌∙◌, ap₂, subst, eq-eqb}
use Rattle.std.proofs.Math.Bool.{true, false}
use Rattle.std.proofs.Math.Dec.{eqb, eqb_refl}
use Rattle.rules.specs.Lists.{find, any, change_first, without_first}
use Rattle.rules_laws.specs.ListLaws
use Rattle.rules_laws.specs.ListLaws.{T_true, by_cases, clash, either_way, All, and_left, and_right}
use Rattle.rules.specs.State.{Setup, State, with_sent, produces, fixeds, is_listener}
use Rattle.rules.specs.Setup.{fresh}
use Rattle.rules.specs.Checks.{asks_multicast, carries, stream_found, stream_of, joins, stream_check, roles_of, path_in, plan_of}
use Rattle.rules_laws.specs.CheckLaws
use Rattle.rules.specs.Opening.{after_id, side_of, first_due, new_fixed, new_conn, opened, asked_path, verdict_of, config_bytes}
use Rattle.rules.specs.Removal.{in_stream, feeds, hands_on, handed_over, ends_stream, without_listeners, after_removal, removed}
use Rattle.rules.specs.Receiving.{Frame, meant_for, newer, hear, received}
use Rattle.rules.specs.Producing.{next_due, due, sent, sends, produce_effect}
use Rattle.rules.specs.Host.{next_event_effect}
use Rattle.rules.specs.Calls.{Call, run}
use Rattle.rules_isolation.specs.Ends.{all_removal, to_id_is, in_stream_is}
use Rattle.rules_isolation.specs.Seen.{hear_fixed, send_fixed}
use Rattle.rules_steps.specs.Names.{ToId, Socket, ForwardOpen, Origin, Fixed, Conn, Info, Event, Stream, Plan}
use Rattle.rules_steps.specs.Steps.{Kept}
use Rattle.rules_steps.proofs.Steps.{run_kept}
use Rattle.rules_faults.specs.Streams.{source, Fed, AllFed}
use Rattle.rules.specs.declared.Roles.{Roles}

-- a connection is in one stream only
one_stream : (j k : ToId) (y : Conn) → eqb j.0 k.0 ≡ false → in_stream j y ≡ true → in_stream k y ≡ false
one_stream j k y n i =
    by_cases (in_stream k y) (λ z. clash (eqb j.0 k.0) (eq-eqb j.0 k.0 (ap (λ (z : ToId). z.0) (sym (in_stream_is j y i).1 ∙ (in_stream_is k y z).1))) n) (λ z. z)

not_in : (j k : ToId) (y : Conn) → eqb j.0 k.0 ≡ false → in_stream k y ≡ true → in_stream j y ≡ false
not_in j k y n i = by_cases (in_stream j y) (λ z. clash (in_stream k y) i (one_stream j k y n z)) (λ z. z)

other_id : (j : ToId) (y : Conn) → eqb j.0 y.fixed.toid.0 ≡ false → in_stream j y ≡ false
other_id j y n =
    by_cases (in_stream j y) (λ z. clash (eqb j.0 y.fixed.toid.0) (eq-eqb j.0 y.fixed.toid.0 (ap (λ (z : ToId). z.0) (sym (in_stream_is j y z).1))) n) (λ z. z)

no_source : (j : ToId) (c : Conn) → hands_on c ≡ false → source j c ≡ false
no_source j c e =
    by_cases c.fixed.multicast (λ m. by_cases (eqb c.fixed.toid.0 j.0) (λ z. cc) (λ z. cc)) (λ m. cc)

module _ (c : Conn) (l : List Conn) where
  -- the removed connection's stream, and the table after the hand-over
  abbrev k : ToId
  k = c.fixed.toid

  abbrev h : List Conn
  h = handed_over c l

  feeders_handed : (j : ToId) → any (feeds j) h ≡ any (feeds j) l
  feeders_handed j =
      either_way (λ t. any (feeds j) t ≡ any (feeds j) l) (hands_on c)
      (ListLaws.any_change (feeds j) (in_stream k) (with_sent c.sent) (λ x. refl) l) refl

  members_handed : (j : ToId) → any (in_stream j) h ≡ any (in_stream j) l
  members_handed j =
      either_way (λ t. any (in_stream j) t ≡ any (in_stream j) l) (hands_on c)
      (ListLaws.any_change (in_stream j) (in_stream k) (with_sent c.sent) (λ x. refl) l) refl

  -- a stream with a member has a source after the hand-over
  source_handed : (j : ToId) → source j c || any (source j) l ≡ true → any (in_stream j) l ≡ true → any (source j) h ≡ true
  source_handed j y m =
      by_cases (hands_on c)
      (λ e. rw e
      (by_cases (eqb j.0 k.0)
      (λ q. ListLaws.any_change_makes (source j) (in_stream k) (with_sent c.sent)
      (λ x i. let w = and_right c.fixed.multicast (produces c.sent.due) e in cc (to_id_is j k q)) l (subst (λ n. any (in_stream n) l ≡ true) (to_id_is j k q) m))
      (λ n. ListLaws.any_change_where (source j) (in_stream k) (with_sent c.sent) (λ x i. let z = not_in j k x n i in cc) l ∙ (let z = other_id j c n in cc))))
      (λ e. rw e (let z = no_source j c e in cc))

  -- what passes a test in a stream that is not the removed connection's is left with the stream
  left_in_stream : (f : Conn → Bool) (j : ToId) → ((y : Conn) → f y ≡ true → in_stream j y ≡ true) → eqb j.0 k.0 ≡ false → any f (without_listeners c h) ≡ any f h
  left_in_stream f j sub n =
      either_way (λ t. any f t ≡ any f h) (ends_stream c h)
      (ListLaws.any_keep f (λ x. not (in_stream k x)) (λ y i. ap not (one_stream j k y n (sub y i))) h) refl

-- THE REMOVAL KEEPS IT
module _ (p : Conn → Bool) (c : Conn) (l : List Conn) (e : find p l ≡ Some c) where
  abbrev left_over : List Conn
  left_over = after_removal c (without_first p l)

  abbrev handed : List Conn
  handed = handed_over c (without_first p l)

  -- none of an ended stream is left
  not_ended : All (λ x. ends_stream c handed ≡ true → in_stream c.fixed.toid x ≡ false) left_over
  not_ended =
      by_cases (ends_stream c handed)
      (λ y. rw y (ListLaws.kept (λ x. true ≡ true → in_stream c.fixed.toid x ≡ false) (λ x. not (in_stream c.fixed.toid x)) handed
      (ListLaws.all_from (λ x. not (in_stream c.fixed.toid x) ≡ true → true ≡ true → in_stream c.fixed.toid x ≡ false) (λ x n z. ListLaws.not_true _ n) handed)))
      (λ n. rw n (ListLaws.all_from (λ x. false ≡ true → in_stream c.fixed.toid x ≡ false) (λ x z. clash true refl (sym z)) handed))

  fewer : (f : Conn → Bool) → any f left_over ≡ true → any f handed ≡ true
  fewer f y =
      by_cases (any f handed) (λ z. z)
      (λ z. clash (any f left_over) y
      (ListLaws.none_is f left_over
      (let a = ListLaws.none_passes f handed z in
      either_way (All (λ x. f x ≡ false)) (ends_stream c handed) (ListLaws.all_keep (λ x. f x ≡ false) (λ x. not (in_stream c.fixed.toid x)) handed a) a)))

  -- in another stream than that of the removed connection
  feeder_elsewhere : (j : ToId) → eqb j.0 c.fixed.toid.0 ≡ false → any (feeds j) l ≡ true → any (feeds j) left_over ≡ true
  feeder_elsewhere j n y =
      let a = left_in_stream c (without_first p l) (feeds j) j (λ z i. and_left (in_stream j z) (not (is_listener z.fixed.kind)) i) n in
      let b = feeders_handed c (without_first p l) j in
      let d = ListLaws.any_without (feeds j) p c l e in
      let o = other_id j c n in
      let f : feeds j c ≡ false = ap (λ t. t && not (is_listener c.fixed.kind)) o in
      a ∙ b ∙ sym (d ∙ ap (λ t. t || any (feeds j) (without_first p l)) f) ∙ y

  feeder_here : ends_stream c handed ≡ false → any (feeds c.fixed.toid) l ≡ true → any (feeds c.fixed.toid) left_over ≡ true
  feeder_here n y =
      let k = c.fixed.toid in
      let b = feeders_handed c (without_first p l) k in
      let d = ListLaws.any_without (feeds k) p c l e in
      let g : any (feeds k) handed ≡ true =
      by_cases (any (feeds k) handed) (λ z. z)
      (λ z. by_cases (feeds k c)
      (λ w. clash (ends_stream c handed) (ap (λ t. t && not (any (feeds k) handed)) w ∙ ap not z) n)
      (λ w. clash (any (feeds k) l) y (d ∙ ap (λ t. t || any (feeds k) (without_first p l)) w ∙ sym b ∙ z))) in
      rw n g

  feeder_left : (x : Conn) → Fed l x → (ends_stream c handed ≡ true → in_stream c.fixed.toid x ≡ false) → is_listener x.fixed.kind ≡ true →
      any (feeds x.fixed.toid) left_over ≡ true
  feeder_left x f n y =
      by_cases (eqb x.fixed.toid.0 c.fixed.toid.0)
      (λ q. let s = to_id_is x.fixed.toid c.fixed.toid q in
      let here : in_stream c.fixed.toid x ≡ true = ap (λ t. t && eqb x.fixed.toid.0 c.fixed.toid.0) (f.joined y) ∙ q in
      subst (λ j. any (feeds j) left_over ≡ true) (sym s)
      (feeder_here (by_cases (ends_stream c handed) (λ z. clash _ here (n z)) (λ z. z)) (subst (λ j. any (feeds j) l ≡ true) s (f.feeder y))))
      (λ q. feeder_elsewhere x.fixed.toid q (f.feeder y))

  sender_left : (x : Conn) → Fed l x → (ends_stream c handed ≡ true → in_stream c.fixed.toid x ≡ false) →
      ((g : Conn → Bool) → g x ≡ true → any g left_over ≡ true) → x.fixed.multicast ≡ true → any (source x.fixed.toid) left_over ≡ true
  sender_left x f n in-it y =
      let j = x.fixed.toid in
      let rest = without_first p l in
      let self : in_stream j x ≡ true = ap (λ t. t && eqb j.0 j.0) y ∙ T_true (eqb j.0 j.0) (eqb_refl j.0) in
      let m : any (in_stream j) rest ≡ true = sym (members_handed c rest j) ∙ fewer (in_stream j) (in-it (in_stream j) self) in
      let h = source_handed c rest j (sym (ListLaws.any_without (source j) p c l e) ∙ f.sender y) m in
      by_cases (eqb j.0 c.fixed.toid.0)
      (λ q. let here : in_stream c.fixed.toid x ≡ true = ap (λ t. t && eqb j.0 c.fixed.toid.0) y ∙ q in
      let z : ends_stream c handed ≡ false = by_cases (ends_stream c handed) (λ z. clash _ here (n z)) (λ z. z) in
      rw z h)
      (λ q. left_in_stream c rest (source j) j (λ z i. and_left (in_stream j z) (produces z.sent.due) i) q ∙ h)

  fed_left : (x : Conn) → Fed l x → (ends_stream c handed ≡ true → in_stream c.fixed.toid x ≡ false) →
      ((g : Conn → Bool) → g x ≡ true → any g left_over ≡ true) → Fed left_over x
  fed_left x f n in-it = record { joined = f.joined; feeder = feeder_left x f n; sender = sender_left x f n in-it }

  pub removal_fed : AllFed l → AllFed left_over
  removal_fed a =
      let b = all_removal (Fed l) (λ x s f. record { joined = f.joined; feeder = f.feeder; sender = f.sender }) c (without_first p l) (ListLaws.all_without (Fed l) p l a) in
      ListLaws.all_two (λ x. Fed l x × (ends_stream c handed ≡ true → in_stream c.fixed.toid x ≡ false)) (λ x. (g : Conn → Bool) → g x ≡ true → any g left_over ≡ true) (Fed left_over)
      (λ x f i. fed_left x f.0 f.1 i) left_over
      (ListLaws.all_two (Fed l) (λ x. ends_stream c handed ≡ true → in_stream c.fixed.toid x ≡ false) (λ x. Fed l x × (ends_stream c handed ≡ true → in_stream c.fixed.toid x ≡ false))
      (λ x f n. (f, n)) left_over b not_ended)
      (ListLaws.self left_over)

-- OPEN: what an accepted open's plan says of its stream
record Admitted (q : ForwardOpen) (l : List Fixed) (p : Plan) : Type 0 where
  roles : Roles
  kind_is : p.kind ≡ roles.kind
  stream_is : p.stream ≡ stream_of q roles l
  stream_fits : not (is_listener roles.kind) || joins (stream_of q roles l) ≡ true

admitted : (request : List ℕ) (q : ForwardOpen) (s : State) (p : Plan) → verdict_of request q s ≡ Ok p → Admitted q (fixeds s.table) p
unfolding verdict_of plan_of stream_check
admitted request q s p e =
    let x = CheckLaws.passed s.setup (fixeds s.table) q (asked_path request q) p e in
    let r = roles_of s.setup (path_in (asked_path request q)) in
    let f = CheckLaws.must_none (not (is_listener r.kind) || joins (stream_of q r (fixeds s.table))) _ x.0.stream in
    subst (Admitted q (fixeds s.table)) x.1 (record { roles = r; kind_is = refl; stream_is = refl; stream_fits = f })

abbrev stream_record : Fixed → Stream
stream_record f = record { toid = f.toid; dest = f.dest; torpi = f.torpi }

-- a stream that is joined is a connection's
joined_stream : {P : Type 0} (b : Bool) (x : Option Fixed) (y : Stream) → cond b (stream_found x) None ≡ Some y →
    ((f : Fixed) → b ≡ true → x ≡ Some f → f.toid ≡ y.toid → P) → P
joined_stream true (Some f) y e k = k f refl refl (let z : stream_record f ≡ y = cc in ap (λ (v : Stream). v.toid) z)
joined_stream true None y e k = clash true refl (cc)
joined_stream false x y e k = clash true refl (cc)

-- the new connection: it joins a stream that is fed and sent, or sends its own
module _ (now : ℕ) (q : ForwardOpen) (g : Origin) (l : List Conn) (n : ℕ) (p : Plan) (a : Admitted q (fixeds l) p) (fed : AllFed l) where
  carries_is : (f : Fixed) → carries q a.roles f ≡ true → (f.multicast ≡ true) × (not (is_listener f.kind) ≡ true)
  carries_is f y =
      let i = eqb f.input a.roles.input in
      let o = is_listener a.roles.kind || eqb f.torpi q.to.rpi in
      let w = and_left (f.multicast && not (is_listener f.kind)) i (and_left (f.multicast && not (is_listener f.kind) && i) o y) in
      (and_left f.multicast (not (is_listener f.kind)) w, and_right f.multicast (not (is_listener f.kind)) w)

  joined_fed : (f : Fixed) → find (carries q a.roles) (fixeds l) ≡ Some f → any (feeds f.toid) l ≡ true
  joined_fed f e =
      let c = carries_is f (ListLaws.find_passes (carries q a.roles) f (fixeds l) e) in
      let feeding : Fixed → Bool = λ x. x.multicast && eqb x.toid.0 f.toid.0 && not (is_listener x.kind) in
      sym (ListLaws.any_map (λ x. x.fixed) feeding (feeds f.toid) (λ x. refl) l) ∙
      ListLaws.find_any (carries q a.roles) feeding f (fixeds l) e (cc (c.0, c.1, T_true (eqb f.toid.0 f.toid.0) (eqb_refl f.toid.0)))

  joined_sent : (f : Fixed) → find (carries q a.roles) (fixeds l) ≡ Some f → any (source f.toid) l ≡ true
  joined_sent f e =
      let c = carries_is f (ListLaws.find_passes (carries q a.roles) f (fixeds l) e) in
      ListLaws.all_find (λ x. x.multicast ≡ true → any (source x.toid) l ≡ true) (carries q a.roles) f (fixeds l) e
      (ListLaws.all_mapped (λ x. x.fixed) (Fed l) (λ x. x.multicast ≡ true → any (source x.toid) l ≡ true) (λ x k. k.sender) l fed) c.0

  grown : (f : Conn → Bool) → any f l ≡ true → any f (l ++ (new_conn now q g p n ∷ [])) ≡ true
  grown f y = ListLaws.any_append f l (new_conn now q g p n ∷ []) ∙ ap (λ b. b || (f (new_conn now q g p n) || false)) y

  last_one : (f : Conn → Bool) → f (new_conn now q g p n) ≡ true → any f (l ++ (new_conn now q g p n ∷ [])) ≡ true
  last_one f y = ListLaws.any_append f l (new_conn now q g p n ∷ []) ∙ by_cases (any f l) (λ z. rw z refl) (λ z. rw (z, y) refl)

  new_fed : (x : Option Stream) → p.stream ≡ x → Fed (l ++ (new_conn now q g p n ∷ [])) (new_conn now q g p n)
  unfolding new_conn new_fixed side_of stream_of
  new_fed None e =
      let own : stream_of q a.roles (fixeds l) ≡ None = sym a.stream_is ∙ e in
      let w : joins (stream_of q a.roles (fixeds l)) ≡ false = ap joins own in
      let k : is_listener a.roles.kind ≡ false = by_cases (is_listener a.roles.kind) (λ z. clash true refl (cc a.stream_fits)) (λ z. z) in
      let quiet : is_listener p.kind ≡ false = ap is_listener a.kind_is ∙ k in
      let sends-it : produces (first_due now p.stream).due ≡ true = ap (λ x. produces (first_due now x).due) e in
      record {
        joined = λ y. clash _ y quiet;
        feeder = λ y. clash _ y quiet;
        sender =
            λ y. last_one (source (new_conn now q g p n).fixed.toid)
            (ap (λ b. b && eqb (new_conn now q g p n).fixed.toid.0 (new_conn now q g p n).fixed.toid.0 && produces (first_due now p.stream).due) y ∙
            ap (λ b. b && produces (first_due now p.stream).due) (T_true (eqb (new_conn now q g p n).fixed.toid.0 (new_conn now q g p n).fixed.toid.0) (eqb_refl (new_conn now q g p n).fixed.toid.0)) ∙ sends-it);
      }
  new_fed (Some y) e =
      joined_stream (asks_multicast q) (find (carries q a.roles) (fixeds l)) y (sym a.stream_is ∙ e)
      (λ f m x t.
      let id : (new_conn now q g p n).fixed.toid ≡ f.toid = ap (λ x. (side_of q g (after_id n) x).toid) e ∙ sym t in
      record {
        joined = λ y. m;
        feeder = λ y. grown (feeds (new_conn now q g p n).fixed.toid) (subst (λ j. any (feeds j) l ≡ true) (sym id) (joined_fed f x));
        sender = λ y. grown (source (new_conn now q g p n).fixed.toid) (subst (λ j. any (source j) l ≡ true) (sym id) (joined_sent f x));
      })

  open_fed : AllFed (l ++ (new_conn now q g p n ∷ []))
  open_fed =
      ListLaws.all_append (Fed (l ++ (new_conn now q g p n ∷ []))) l (new_conn now q g p n)
      (ListLaws.all_to (Fed l) (Fed (l ++ (new_conn now q g p n ∷ [])))
      (λ x k. record { joined = k.joined; feeder = λ y. grown (feeds x.fixed.toid) (k.feeder y); sender = λ y. grown (source x.fixed.toid) (k.sender y) }) l fed)
      (new_fed p.stream refl)

-- EVERY CALL KEEPS IT
-- a change of rows that keeps what is fixed and who produces
module _ (u : Conn → Conn) (same : (c : Conn) → (u c).fixed ≡ c.fixed) (same_sent : (c : Conn) → produces (u c).sent.due ≡ produces c.sent.due) where
  feeds_same : (j : ToId) (c : Conn) → feeds j (u c) ≡ feeds j c
  feeds_same j c = ap (λ (f : Fixed). f.multicast && eqb f.toid.0 j.0 && not (is_listener f.kind)) (same c)

  source_same : (j : ToId) (c : Conn) → source j (u c) ≡ source j c
  source_same j c = ap₂ (λ (f : Fixed) b. f.multicast && eqb f.toid.0 j.0 && b) (same c) (same_sent c)

  fed_same : (l m : List Conn) → ((j : ToId) → any (feeds j) l ≡ any (feeds j) m) → ((j : ToId) → any (source j) l ≡ any (source j) m) → (c : Conn) → Fed l c → Fed m (u c)
  fed_same l m f g c k =
      subst (λ (x : Fixed). Fed m (record { fixed = x; heard = (u c).heard; sent = (u c).sent })) (sym (same c))
      (record { joined = k.joined; feeder = λ y. sym (f c.fixed.toid) ∙ k.feeder y; sender = λ y. sym (g c.fixed.toid) ∙ k.sender y })

  map_fed : (l : List Conn) → AllFed l → AllFed (map u l)
  map_fed l a =
      ListLaws.all_mapped u (Fed l) (Fed (map u l))
      (fed_same l (map u l) (λ j. sym (ListLaws.any_map u (feeds j) (feeds j) (feeds_same j) l)) (λ j. sym (ListLaws.any_map u (source j) (source j) (source_same j) l))) l a

  change_fed : (p : Conn → Bool) (l : List Conn) → AllFed l → AllFed (change_first p u l)
  change_fed p l a =
      let m = change_first p u l in
      let f : (j : ToId) → any (feeds j) l ≡ any (feeds j) m = λ j. sym (ListLaws.any_change (feeds j) p u (feeds_same j) l) in
      let g : (j : ToId) → any (source j) l ≡ any (source j) m = λ j. sym (ListLaws.any_change (source j) p u (source_same j) l) in
      ListLaws.all_change (Fed m) p u (fed_same m m (λ j. refl) (λ j. refl)) l
      (ListLaws.all_to (Fed l) (Fed m) (λ x k. record { joined = k.joined; feeder = λ y. sym (f x.fixed.toid) ∙ k.feeder y; sender = λ y. sym (g x.fixed.toid) ∙ k.sender y }) l a)

abbrev FedState : State → Type 0
FedState s = AllFed s.table

opening : (t : ℕ) (request : List ℕ) (q : ForwardOpen) (g : Origin) (p : Plan) (s : State) → verdict_of request q s ≡ Ok p → FedState s →
    FedState (opened t q g (config_bytes request q) p s)
unfolding opened
opening t request q g p s e a = open_fed t q g s.table s.next_id p (admitted request q s p e) a

removing : (fault : Bool) (why : Info → Event) (p : Conn → Bool) (c : Conn) (s : State) → find p s.table ≡ Some c → FedState s →
    FedState (removed fault why c (without_first p s.table) s)
unfolding removed
removing fault why p c s e a = removal_fed p c s.table e a

hear_sent : (now : ℕ) (f : Frame) (c : Conn) → produces (hear now f c).sent.due ≡ produces c.sent.due
unfolding hear
hear_sent now f c = either_way (λ (x : Conn). produces x.sent.due ≡ produces c.sent.due) (newer c.heard f.sequence) refl refl

still_produces : (t rpi : ℕ) (d : Option ℕ) → produces (next_due t rpi d) ≡ produces d
still_produces t rpi None = refl
still_produces t rpi (Some n) = refl

sends_sent : (now : ℕ) (c : Conn) → produces (sends now c).sent.due ≡ produces c.sent.due
unfolding sent
sends_sent now c =
    either_way (λ (x : Conn). produces x.sent.due ≡ produces c.sent.due) (due now c) (still_produces now c.fixed.torpi c.sent.due) refl

hearing : (t from : ℕ) (f : Frame) (s : State) → FedState s → FedState (received t from f s)
unfolding received
hearing t from f s a = change_fed (hear t f) (hear_fixed t f) (hear_sent t f) (meant_for from f) s.table a

producing : (t : ℕ) (s : State) → FedState s → FedState (produce_effect t s)
unfolding produce_effect
producing t s a = map_fed (sends t) (send_fixed t) (sends_sent t) s.table a

noting : (s : State) → FedState s → FedState (next_event_effect s)
unfolding next_event_effect
noting s a = a

fed_kept : Kept FedState
fed_kept =
    record {
      quiet = record { producing = producing; setting = λ n i bytes s e a. a; reading = λ n i s e a. a; noting = noting };
      removing = removing;
      opening = opening;
      hearing = hearing;
    }

-- NO DISPLAY STAYS JOINED TO A STREAM THAT NOBODY SENDS
pub streams_are_fed : (u : Setup) (seed : ℕ) (cs : List Call) → AllFed (run cs (fresh u seed)).table
unfolding fresh
streams_are_fed u seed cs = run_kept FedState fed_kept cs (fresh u seed) tt
