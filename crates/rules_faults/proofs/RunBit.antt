-- The run bit over every run: each kind of call keeps that what is in run is an output with an owner, and after an expiry call that owner
-- is not silent.
use Rattle.std.specs.Prelude.{◌≡◌, refl, List, [], ◌∷◌, ◌++◌, map, Bool, true, false, not, ◌&&◌, ◌||◌, ℕ, zero, suc, eqb, get_or, Option, Some, None}
use Rattle.std.proofs.Common.{sym, ◌∙◌, ap, subst, eq-eqb}
use Rattle.rules.specs.Lists.{find, any, change_first, without_first, change_at, maybe}
use Rattle.rules_laws.specs.ListLaws
use Rattle.rules_laws.specs.ListLaws.{by_cases, clash, either_way, All, and_left, and_right, eqb_true}
use Rattle.rules.specs.State.{Setup, Shape, shape_at, Content, no_content, State, is_output, is_owner, is_listener}
use Rattle.rules.specs.Answers.{timely}
use Rattle.rules.specs.Setup.{blank, fresh}
use Rattle.rules.specs.Checks.{owns}
use Rattle.rules.specs.Opening.{holding, stored, new_conn, opened, config_bytes}
use Rattle.rules.specs.Removal.{after_removal, idle, run_lost, removed, expired, expire_answer, expire_call}
use Rattle.rules.specs.Receiving.{Frame, meant_for, hear, taken, changes, deliver, delivered, received}
use Rattle.rules.specs.Producing.{sends, produce_effect}
use Rattle.rules.specs.Host.{filled, read, next_event_effect}
use Rattle.rules.specs.Calls
use Rattle.rules.specs.Calls.{Call, next, run}
use Rattle.rules_isolation.specs.Ends.{any_removal}
use Rattle.rules_isolation.specs.Seen.{hear_fixed, send_fixed, taken_owner}
use Rattle.rules_isolation.specs.Expiry.{owns_not}
use Rattle.rules_isolation.specs.Sound.{Sound, sound_kept, fresh_sound, Owning}
use Rattle.rules_steps.specs.Names.{ForwardOpen, Origin, Fixed, Conn, Info, Event, Plan}
use Rattle.rules_steps.specs.Steps.{Kept}
use Rattle.rules_steps.proofs.Steps.{kept, run_kept}
use Rattle.rules_faults.specs.RunBit.{owner_of, InRun, Owned, at_change, none_silent}

idle_there : (i : ℕ) (l : List Content) → (get_or (change_at i idle l) i no_content).run ≡ false
idle_there i [] = refl
idle_there zero (a ∷ l) = refl
idle_there (suc i) (a ∷ l) = idle_there i l

-- the table changes and no owner goes
more : (u : Setup) (l m : List Conn) → ((i : ℕ) → any (owner_of i) l ≡ true → any (owner_of i) m ≡ true) → (i : ℕ) (a : Content) → InRun u l i a → InRun u m i a
more u l m h i a k r = ((k r).0, h i (k r).1)

-- OPEN
stored_run : (u : Setup) (l : List Conn) (x : Option ℕ) (bytes : List ℕ) (cs : List Content) → ((i : ℕ) → InRun u l i (get_or cs i no_content)) →
    (i : ℕ) → InRun u l i (get_or (stored x bytes cs) i no_content)
stored_run u l None bytes cs h i = h i
stored_run u l (Some j) bytes cs h i = at_change (InRun u l i) i j (holding bytes) cs (h i) (λ e. h i)

opening : (t : ℕ) (request : List ℕ) (q : ForwardOpen) (g : Origin) (p : Plan) (s : State) → Owned s → Owned (opened t q g (config_bytes request q) p s)
unfolding opened
opening t request q g p s h i =
    let c = new_conn t q g p s.next_id in
    let bytes = config_bytes request q in
    more s.setup s.table (s.table ++ (c ∷ [])) (λ j y. ListLaws.any_append (owner_of j) s.table (c ∷ []) ∙ ap (λ b. b || (owner_of j c || false)) y) i
    (get_or (stored p.stores bytes s.contents) i no_content) (stored_run s.setup s.table p.stores bytes s.contents h i)

-- REMOVAL: an owner that is not the removed one is left
owner_left : (i : ℕ) (p : Conn → Bool) (c : Conn) (l : List Conn) → find p l ≡ Some c → owner_of i c ≡ false → any (owner_of i) l ≡ true →
    any (owner_of i) (after_removal c (without_first p l)) ≡ true
owner_left i p c l e n y =
    let a = any_removal (owner_of i) (λ x s. refl) p c l e (ListLaws.all_from (λ x. is_listener x.fixed.kind ≡ true → owner_of i x ≡ false) (λ x z. owns_not i x z) l) in
    sym (a ∙ ap (λ b. b || any (owner_of i) (after_removal c (without_first p l))) n) ∙ y

-- what the removed connection owned is idle
lost_there : (i : ℕ) (f : Fixed) (l : List Content) → owns i f ≡ true → (get_or (run_lost f l) i no_content).run ≡ false
lost_there i f l e =
    let o = and_left (is_owner f.kind) (eqb f.output i) e in
    let k = eqb_true f.output i (and_right (is_owner f.kind) (eqb f.output i) e) in
    rw (o, k) (idle_there i l)

-- what is in run after the loss was so before
lost_before : (i : ℕ) (f : Fixed) (l : List Content) → (get_or (run_lost f l) i no_content).run ≡ true → (get_or l i no_content).run ≡ true
lost_before i f l =
    either_way (λ x. (get_or x i no_content).run ≡ true → (get_or l i no_content).run ≡ true) (is_owner f.kind)
    (at_change (λ a. a.run ≡ true → (get_or l i no_content).run ≡ true) i f.output idle l (λ r. r) (λ e r. clash true refl (sym r))) (λ r. r)

removing : (fault : Bool) (why : Info → Event) (p : Conn → Bool) (c : Conn) (s : State) → find p s.table ≡ Some c → Owned s →
    Owned (removed fault why c (without_first p s.table) s)
unfolding removed
removing fault why p c s e h i r =
    let b = h i (lost_before i c.fixed s.contents r) in
    by_cases (owner_of i c)
    (λ y. clash (get_or (run_lost c.fixed s.contents) i no_content).run r (lost_there i c.fixed s.contents y))
    (λ n. (b.0, owner_left i p c s.table e n b.1))

-- RECEIVE: a frame's data goes to an output that its connection owns
delivered_run : (u : Setup) (l : List Conn) (f : Frame) (c : Conn) (cs : List Content) → Owning u c → ((i : ℕ) → owner_of i c ≡ true → any (owner_of i) l ≡ true) →
    ((i : ℕ) → InRun u l i (get_or cs i no_content)) → (i : ℕ) → InRun u l i (get_or (delivered u f c cs) i no_content)
unfolding deliver
delivered_run u l f c cs w own h i =
    by_cases (taken u f c)
    (λ e. let o = taken_owner u f c e in
    rw e (at_change (InRun u l i) i c.fixed.output (deliver f) cs (h i)
    (λ k. either_way (InRun u l i) (changes f (get_or cs i no_content))
    (λ r. (
      subst (λ j. is_output (shape_at u j).kind ≡ true) (sym k) (w o),
      own i (ap (λ b. b && eqb c.fixed.output i) o ∙ eq-eqb c.fixed.output i (sym k)),
    ))
    (h i))))
    (λ n. rw n (h i))

hearing : (u : Setup) (t from : ℕ) (f : Frame) (s : State) → Sound u s → Owned s → Owned (received t from f s)
unfolding received
hearing u t from f s q h i =
    more s.setup s.table (change_first (meant_for from f) (hear t f) s.table)
    (λ j y. ListLaws.any_change (owner_of j) (meant_for from f) (hear t f) (λ c. ap (λ (x : Fixed). owns j x) (hear_fixed t f c)) s.table ∙ y) i
    (get_or (maybe s.contents (λ c. delivered s.setup f c s.contents) (find (meant_for from f) s.table)) i no_content)
    (ListLaws.found_is s.contents (λ c. delivered s.setup f c s.contents) (meant_for from f)
    (λ c. Owning s.setup c × ((g : Conn → Bool) → g c ≡ true → any g s.table ≡ true))
    (λ cs. InRun s.setup s.table i (get_or cs i no_content)) (h i)
    (λ c m k. delivered_run s.setup s.table f c s.contents k.0 (λ j. k.1 (owner_of j)) h i)
    s.table
    (ListLaws.all_two (Owning s.setup) (λ c. (g : Conn → Bool) → g c ≡ true → any g s.table ≡ true)
    (λ c. Owning s.setup c × ((g : Conn → Bool) → g c ≡ true → any g s.table ≡ true)) (λ c a b. (a, b)) s.table
    (subst (λ v. All (Owning v) s.table) (sym q.setup) q.outputs) (ListLaws.self s.table)))

producing : (t : ℕ) (s : State) → Owned s → Owned (produce_effect t s)
unfolding produce_effect
producing t s h i =
    more s.setup s.table (map (sends t) s.table)
    (λ j y. ListLaws.any_map (sends t) (owner_of j) (owner_of j) (λ c. ap (λ (x : Fixed). owns j x) (send_fixed t c)) s.table ∙ y) i (get_or s.contents i no_content) (h i)

noting : (s : State) → Owned s → Owned (next_event_effect s)
unfolding next_event_effect
noting s h = h

-- EVERY CALL KEEPS IT, of a sound state
abbrev Good : Setup → State → Type 0
Good u s = Sound u s × Owned s

good_kept : (u : Setup) → Kept (Good u)
good_kept u =
    let k = sound_kept u in
    record {
      quiet =
          record {
            producing = λ t s h. (k.quiet.producing t s h.0, producing t s h.1);
            setting =
                λ n j bytes s e h. (
                  k.quiet.setting n j bytes s e h.0,
                  (λ i. at_change (InRun s.setup s.table i) i j (filled (shape_at s.setup j).size bytes) s.contents (h.1 i) (λ z. h.1 i)),
                );
            reading =
                λ n j s e h. (
                  k.quiet.reading n j s e h.0,
                  (λ i. at_change (InRun s.setup s.table i) i j read s.contents (h.1 i) (λ z. h.1 i)),
                );
            noting = λ s h. (k.quiet.noting s h.0, noting s h.1);
          };
      removing = λ fault why p c s e h. (k.removing fault why p c s e h.0, removing fault why p c s e h.1);
      opening = λ t request q g p s e h. (k.opening t request q g p s e h.0, opening t request q g p s h.1);
      hearing = λ t from f s h. (k.hearing t from f s h.0, hearing u t from f s h.0 h.1);
    }

blank_idle : (i : ℕ) (l : List Shape) → (get_or (map blank l) i no_content).run ≡ false
blank_idle i [] = refl
blank_idle zero (a ∷ l) = refl
blank_idle (suc i) (a ∷ l) = blank_idle i l

fresh_owned : (u : Setup) (seed : ℕ) → Owned (fresh u seed)
unfolding fresh
fresh_owned u seed i r = clash (get_or (map blank u.assemblies) i no_content).run r (blank_idle i u.assemblies)

-- THE RUN BIT HAS AN OWNER
pub run_has_owner : (u : Setup) (seed : ℕ) (cs : List Call) → Owned (run cs (fresh u seed))
run_has_owner u seed cs = (run_kept (Good u) (good_kept u) cs (fresh u seed) (fresh_sound u seed, fresh_owned u seed)).1

still_heard : (t i : ℕ) (l : List Conn) → All (λ c. expired t c ≡ false) l → any (owner_of i) l ≡ true → any (λ c. owner_of i c && not (expired t c)) l ≡ true
still_heard t i [] a y = y
still_heard t i (x ∷ xs) a y =
    let n = a.0 in
    by_cases (owner_of i x) (λ z. cc) (λ z. let r = still_heard t i xs a.1 (cc) in cc)

-- THE RUN BIT DOES NOT OUTLIVE A SILENT CONTROLLER: after an expiry call at time t, what is in run has an owner that was heard at most
-- its timeout before t (`expired` is false: rules, ExpiryLaws), and so has every connection that is left
pub run_is_heard : (u : Setup) (seed : ℕ) (cs : List Call) (t : ℕ) → timely t ≡ true → (i : ℕ) →
    (get_or (next (Calls.Expire t) (run cs (fresh u seed))).contents i no_content).run ≡ true →
    any (λ c. owner_of i c && not (expired t c)) (next (Calls.Expire t) (run cs (fresh u seed))).table ≡ true
unfolding expire_call expire_answer
run_is_heard u seed cs t y i r =
    let s = run cs (fresh u seed) in
    let q = run_kept (Good u) (good_kept u) cs (fresh u seed) (fresh_sound u seed, fresh_owned u seed) in
    let o = (kept (Good u) (good_kept u) (Calls.Expire t) s q).1 i r in
    let a : All (λ c. expired t c ≡ false) (next (Calls.Expire t) s).table = rw y (none_silent t s) in
    still_heard t i (next (Calls.Expire t) s).table a o.1
