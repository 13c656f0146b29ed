-- DEMAND 3 PROVED. Two runs that differ in frames from one address look alike but for what that address sent: one call keeps it, and so
-- does every pair of runs.
use Rattle.std.specs.Prelude.{◌≡◌, List, [], ◌∷◌, map, Bool, true, false, not, ◌&&◌, ℕ, eqb, get_or, Option, Some, None}
use Rattle.std.proofs.Math.Path.{refl, ap, subst}
use Rattle.std.proofs.Common.{sym, ◌∙◌, eq-eqb}
use Rattle.rules.specs.Lists.{any, keep, maybe, joined}
use Rattle.rules_laws.specs.ListLaws
use Rattle.rules_laws.specs.ListLaws.{by_cases, clash, either_way, All, and_left, and_right, eqb_true}
use Rattle.rules.specs.State.{Setup, shape_at, Content, no_content, State, is_output, is_owner}
use Rattle.rules.specs.Answers.{Answer, is_yes, settled, fitting, Wrote, timely}
use Rattle.rules.specs.Setup.{fresh}
use Rattle.rules.specs.Events.{info_of, info_record}
use Rattle.rules.specs.Checks.{owns, place_of}
use Rattle.rules.specs.Opening.{open_call}
use Rattle.rules.specs.Removal.{close_call, expire_answer, expire_call}
use Rattle.rules.specs.Receiving.{receive_answer, receive_call}
use Rattle.rules.specs.Producing.{produce_call}
use Rattle.rules.specs.Host.{read, output_bytes, output_at, stats_bytes, set_input_call, output_read, output_answer, output_effect, output_call, next_event_answer, next_event_call, connection_bytes, connections_answer, stats_answer}
use Rattle.rules.specs.Calls
use Rattle.rules.specs.Calls.{Call, answer, next, run}
use Rattle.rules_steps.specs.Names.{Triad, Conn}
use Rattle.rules_isolation.specs.Contents.{change_alike, change_unseen, content_alike}
use Rattle.rules_isolation.specs.Seen
use Rattle.rules_isolation.specs.Seen.{Alike, Covers, Sparing, Feeding, stray, hide, hide_bare, itself, join, back, settled_alike, settled_unseen}
use Rattle.rules_isolation.specs.Expiry.{expire_alike, expire_says_alike}
use Rattle.rules_isolation.specs.Sound.{Sound, sound, fresh_sound, Owning}
use Rattle.rules_isolation.specs.Demand.{Paired, end, both, first_only, second_only, removes, RemovesAlike, SameExpiries, AnsweredAlike, AllAnsweredAlike, other, owned_by, NeverOwned, Independent}

-- the outputs that `A` owns in a run are all covered
abbrev Covered : ℕ → (ℕ → Bool) → List Call → State → Type 0
Covered A o [] s = Covers A o s.table
Covered A o (c ∷ cs) s = Covers A o s.table × Covered A o cs (next c s)

covered_now : (A : ℕ) (o : ℕ → Bool) (cs : List Call) (s : State) → Covered A o cs s → Covers A o s.table
covered_now A o [] s h = h
covered_now A o (c ∷ cs) s h = h.0

module _ (A : ℕ) (o : ℕ → Bool) (u : Setup) (sparing : Sparing o u) where
  covers_too : (s r : State) → Alike A o s r → Covers A o s.table → Covers A o r.table
  covers_too s r a c =
      sym (Seen.blind_alike A (any (stray A o)) (λ l. ListLaws.any_map (hide A) (stray A o) (stray A o) (λ x. refl) l) s.table r.table a.table) ∙ c

  itself_frame : (t : ℕ) (frame : List ℕ) (s : State) → Covers A o s.table → Alike A o (next (Calls.Receive t A frame) s) s
  unfolding receive_call
  itself_frame t frame s c = settled_unseen (receive_answer t) (Seen.receive_unseen A o t A (eq-eqb A A refl) s c frame)

  receive_call_lem : (t from : ℕ) (frame : List ℕ) (s r : State) → Alike A o s r → Covers A o s.table → Alike A o (next (Calls.Receive t from frame) s) (next (Calls.Receive t from frame) r)
  unfolding receive_call
  receive_call_lem t from frame s r a c =
      by_cases (eqb from A)
      (λ y. settled_alike (receive_answer t) (receive_answer t) refl
      (join (Seen.receive_unseen A o t from y s c frame) (join a (back (Seen.receive_unseen A o t from y r (covers_too s r a c) frame)))) a)
      (λ n. settled_alike (receive_answer t) (receive_answer t) refl (Seen.receive_alike A o s r a t from frame n) a)

  -- a read of an output: re-arming it is seen where the output is
  read_at : (s r : State) → Alike A o s r → (a b : Answer) → (x : Option ℕ) → (maybe true o x ≡ false → a ≡ b) →
      Alike A o (settled a (output_read s x) s).1 (settled b (output_read r x) r).1
  read_at s r q a b None e = either_way (λ z. Alike A o z (settled b r r).1) (is_yes a) (either_way (Alike A o s) (is_yes b) q q) (either_way (Alike A o s) (is_yes b) q q)
  read_at s r q a b (Some i) e =
      by_cases (o i)
      (λ y. let unseen : (z : State) → Alike A o (output_read z (Some i)) z =
      λ z. record { setup = refl; contents = change_unseen o i read z.contents y; table = refl; next_id = refl; counters = refl } in
      join (settled_unseen a (unseen s)) (join q (back (settled_unseen b (unseen r)))))
      (λ n. settled_alike a b (e n)
      (record { setup = q.setup; contents = change_alike o i read s.contents r.contents q.contents; table = q.table; next_id = q.next_id; counters = q.counters }) q)

  output_says : (room : ℕ) (s r : State) → Alike A o s r → (x : Option ℕ) → maybe true o x ≡ false → output_at room s x ≡ output_at room r x
  output_says room s r q None e = refl
  output_says room s r q (Some i) e = ap (λ (a : Content). fitting room (output_bytes a) (Wrote (output_bytes a))) (content_alike o i s.contents r.contents q.contents e)

  read_call : (n room : ℕ) (s r : State) → Alike A o s r → Alike A o (next (Calls.ReadOutput n room) s) (next (Calls.ReadOutput n room) r)
  unfolding output_call output_answer output_effect
  read_call n room s r q =
      let e : place_of is_output s.setup n ≡ place_of is_output r.setup n = ap (λ v. place_of is_output v n) q.setup in
      subst (λ x. Alike A o (settled (output_at room s x) (output_read s x) s).1 (settled (output_at room r (place_of is_output r.setup n)) (output_read r (place_of is_output r.setup n)) r).1) (sym e)
      (read_at s r q _ _ (place_of is_output r.setup n) (output_says room s r q (place_of is_output r.setup n)))

  expire_call_lem : (t : ℕ) (s r : State) → Alike A o s r → Sound u s → Sound u r → Covers A o s.table → ((d : Triad) → removes t d s ≡ removes t d r) →
      (answer (Calls.Expire t) s ≡ answer (Calls.Expire t) r) × Alike A o (next (Calls.Expire t) s) (next (Calls.Expire t) r)
  unfolding expire_call expire_answer
  expire_call_lem t s r a hs hr c e =
      by_cases (timely t)
      (λ y. let q = expire_alike A o t s r a hs.distinct hr.distinct c (covers_too s r a c) (rw y at e) in
      (expire_says_alike A o t s r a q, rw y q))
      (λ n. (rw n refl, rw n a))

  connections_say : (s r : State) → Alike A o s r → connection_bytes s ≡ connection_bytes r
  unfolding connection_bytes
  connections_say s r a =
      ap (λ v. joined (λ c. info_record 0 (info_of v c.fixed)) s.table) a.setup ∙
      Seen.blind_alike A (λ l. joined (λ c. info_record 0 (info_of r.setup c.fixed)) l)
      (λ l. Seen.joined_map (hide A) (λ c. info_record 0 (info_of r.setup c.fixed)) (λ c. refl) l) s.table r.table a.table

  -- one call
  one_call : (c : Call) (s r : State) → Alike A o s r → Sound u s → Sound u r → Covers A o s.table → RemovesAlike c s r →
      AnsweredAlike c s r × Alike A o (next c s) (next c r)
  unfolding open_call close_call receive_call produce_call set_input_call next_event_call connections_answer stats_answer
  one_call (Calls.Open t service request g room) s r a hs hr c e =
      let x = Seen.open_says_alike A o s r a t service request g room in
      (x, settled_alike _ _ x (Seen.open_alike A o s r a t service request g) a)
  one_call (Calls.OpenRefusal service request room) s r a hs hr c e = (refl, a)
  one_call (Calls.Close request room) s r a hs hr c e =
      let x = Seen.close_says_alike A o s r a request room in
      (x, settled_alike _ _ x (Seen.close_alike A o s r a request) a)
  one_call (Calls.Receive t from frame) s r a hs hr c e = (refl, receive_call_lem t from frame s r a c)
  one_call (Calls.Produce t room) s r a hs hr c e =
      let x = Seen.produce_says_alike A o s r a (subst (Sparing o) (sym hs.setup) sparing) (subst (λ v. All (Feeding v) s.table) (sym hs.setup) hs.inputs) t room in
      (x, settled_alike _ _ x (Seen.produce_alike A o s r a t) a)
  one_call (Calls.Expire t) s r a hs hr c e = expire_call_lem t s r a hs hr c e
  one_call (Calls.Deadline room) s r a hs hr c e = (tt, a)
  one_call (Calls.SetInput n bytes) s r a hs hr c e =
      let x = Seen.set_input_says_alike A o s r a n bytes in
      (x, settled_alike _ _ x (Seen.set_input_alike A o s r a n bytes) a)
  one_call (Calls.ReadOutput n room) s r a hs hr c e = (tt, read_call n room s r a)
  one_call (Calls.ReadAssembly kind n room) s r a hs hr c e = (tt, a)
  one_call (Calls.NextEvent room) s r a hs hr c e = (
    tt,
    join (settled_unseen (next_event_answer room s) (Seen.event_unseen A o s)) (join a (back (settled_unseen (next_event_answer room r) (Seen.event_unseen A o r)))),
  )
  one_call (Calls.Connections room) s r a hs hr c e = (ap (λ b. fitting room b (Wrote b)) (connections_say s r a), a)
  one_call (Calls.Stats room) s r a hs hr c e = (ap (λ n. fitting room (stats_bytes n) (Wrote (stats_bytes n))) a.counters, a)
  one_call (Calls.Message local mask message room position) s r a hs hr c e = (tt, a)

  -- THE INDUCTION
  independent : {cs ds : List Call} (p : Paired A cs ds) (s r : State) → Alike A o s r → Sound u s → Sound u r → Covered A o cs s → SameExpiries p s r →
      AllAnsweredAlike p s r × Alike A o (run cs s) (run ds r)
  independent end s r a hs hr c e = (tt, a)
  independent (both x p) s r a hs hr c e =
      let b = one_call x s r a hs hr c.0 e.0 in
      let d = independent p (next x s) (next x r) b.1 (sound u x s hs) (sound u x r hr) c.1 e.1 in
      ((b.0, d.0), d.1)
  independent (first_only t frame p) s r a hs hr c e =
      independent p (next (Calls.Receive t A frame) s) r (join (itself_frame t frame s c.0) a) (sound u (Calls.Receive t A frame) s hs) hr c.1 e
  independent {cs = cs} (second_only t frame p) s r a hs hr c e =
      independent p s (next (Calls.Receive t A frame) r) (join a (back (itself_frame t frame r (covers_too s r a (covered_now A o cs s c))))) hs (sound u (Calls.Receive t A frame) r hr) c e

others_bare : (A : ℕ) (l : List Conn) → keep (other A) (map (hide A) l) ≡ keep (other A) l
others_bare A [] = refl
others_bare A (x ∷ xs) = let r = others_bare A xs in by_cases (eqb x.fixed.originator A) (λ e. cc) (λ e. cc (hide_bare A x e))

-- cover the outputs but one
but : Setup → ℕ → ℕ → Bool
but u i j = is_output (shape_at u j).kind && not (eqb j i)

but_spares : (u : Setup) (i : ℕ) → Sparing (but u i) u
unfolding but
but_spares u i j e = let n = Seen.input_no_output (shape_at u j).kind e in cc

but_bare : (u : Setup) (i : ℕ) → but u i i ≡ false
unfolding but
but_bare u i = let e = eq-eqb i i refl in by_cases (is_output (shape_at u i).kind) (λ y. cc) (λ y. cc)

stray_owned : (u : Setup) (A i : ℕ) (c : Conn) → owned_by A i c ≡ false → Owning u c → stray A (but u i) c ≡ false
unfolding but
stray_owned u A i c n w =
    by_cases (eqb c.fixed.originator A)
    (λ y. by_cases (is_owner c.fixed.kind) (λ z. let k = w z in by_cases (eqb c.fixed.output i) (λ m. clash true refl (cc)) (λ m. cc)) (λ z. cc))
    (λ y. cc)

never_stray : (u : Setup) (A i : ℕ) (l : List Conn) → any (owned_by A i) l ≡ false → All (Owning u) l → Covers A (but u i) l
never_stray u A i l e w =
    ListLaws.none_is (stray A (but u i)) l
    (ListLaws.all_two (λ c. owned_by A i c ≡ false) (Owning u) (λ c. stray A (but u i) c ≡ false) (stray_owned u A i) l (ListLaws.none_passes (owned_by A i) l e) w)

never_covered : (u : Setup) (A i : ℕ) (cs : List Call) (s : State) → Sound u s → NeverOwned A i cs s → Covered A (but u i) cs s
never_covered u A i [] s h n = never_stray u A i s.table n h.outputs
never_covered u A i (c ∷ cs) s h n = (never_stray u A i s.table n.0 h.outputs, never_covered u A i cs (next c s) (sound u c s h) n.1)

-- cover all outputs
outs : Setup → ℕ → Bool
outs u j = is_output (shape_at u j).kind

outs_spare : (u : Setup) → Sparing (outs u) u
unfolding outs
outs_spare u j e = Seen.input_no_output (shape_at u j).kind e

all_covers : (u : Setup) (A : ℕ) (l : List Conn) → All (Owning u) l → Covers A (outs u) l
unfolding outs
all_covers u A l w =
    ListLaws.none_is (stray A (outs u)) l
    (ListLaws.all_to (Owning u) (λ c. stray A (outs u) c ≡ false)
    (λ c k. by_cases (eqb c.fixed.originator A) (λ y. by_cases (is_owner c.fixed.kind) (λ z. let m = k z in cc) (λ z. cc)) (λ y. cc)) l w)

all_covered : (u : Setup) (A : ℕ) (cs : List Call) (s : State) → Sound u s → Covered A (outs u) cs s
all_covered u A [] s h = all_covers u A s.table h.outputs
all_covered u A (c ∷ cs) s h = (all_covers u A s.table h.outputs, all_covered u A cs (next c s) (sound u c s h))

-- from any sound state
pub from_sound : (A : ℕ) (u : Setup) (s : State) → Sound u s → {cs ds : List Call} (p : Paired A cs ds) → SameExpiries p s s → Independent p s
from_sound A u s h {cs} {ds} p e =
    let all = independent A (outs u) u (outs_spare u) p s s (itself A (outs u) s) h h (all_covered u A cs s h) e in
    record {
      connections = sym (others_bare A (run cs s).table) ∙ ap (keep (other A)) all.1.table ∙ others_bare A (run ds s).table;
      answers = all.0;
      assemblies =
          λ i n.
          let one = independent A (but u i) u (but_spares u i) p s s (itself A (but u i) s) h h (never_covered u A i cs s h n) e in
          content_alike (but u i) i (run cs s).contents (run ds s).contents one.1.contents (but_bare u i);
    }

-- DEMAND 3
pub demand_3 : (A : ℕ) (u : Setup) (seed : ℕ) {cs ds : List Call} (p : Paired A cs ds) → SameExpiries p (fresh u seed) (fresh u seed) → Independent p (fresh u seed)
demand_3 A u seed p e = from_sound A u (fresh u seed) (fresh_sound u seed) p e

-- an assembly that is no output is never owned: inputs and configuration are equal in both runs
no_owner : (u : Setup) (A i : ℕ) → is_output (shape_at u i).kind ≡ false → (c : Conn) → Owning u c → owned_by A i c ≡ false
no_owner u A i n c w =
    by_cases (owns i c.fixed)
    (λ y. let o = w (and_left (is_owner c.fixed.kind) (eqb c.fixed.output i) y) in
    let k = eqb_true c.fixed.output i (and_right (is_owner c.fixed.kind) (eqb c.fixed.output i) y) in
    clash (is_output (shape_at u c.fixed.output).kind) o (ap (λ j. is_output (shape_at u j).kind) k ∙ n))
    (λ y. by_cases (eqb c.fixed.originator A) (λ z. cc) (λ z. cc))

no_owners : (u : Setup) (A i : ℕ) → is_output (shape_at u i).kind ≡ false → (l : List Conn) → All (Owning u) l → any (owned_by A i) l ≡ false
no_owners u A i n l w = ListLaws.none_is (owned_by A i) l (ListLaws.all_to (Owning u) (λ c. owned_by A i c ≡ false) (no_owner u A i n) l w)

never_owned : (u : Setup) (A i : ℕ) → is_output (shape_at u i).kind ≡ false → (cs : List Call) (s : State) → Sound u s → NeverOwned A i cs s
never_owned u A i n [] s h = no_owners u A i n s.table h.outputs
never_owned u A i n (c ∷ cs) s h = (no_owners u A i n s.table h.outputs, never_owned u A i n cs (next c s) (sound u c s h))

pub inputs_equal : (A : ℕ) (u : Setup) (seed : ℕ) {cs ds : List Call} (p : Paired A cs ds) → SameExpiries p (fresh u seed) (fresh u seed) →
    (i : ℕ) → is_output (shape_at u i).kind ≡ false → get_or (run cs (fresh u seed)).contents i no_content ≡ get_or (run ds (fresh u seed)).contents i no_content
inputs_equal A u seed {cs} p e i n = (demand_3 A u seed p e).assemblies i (never_owned u A i n cs (fresh u seed) (fresh_sound u seed))
