-- Expiry on the whole state: its table is the repeated removal's, and the outputs that lose run are those of the expired owners.
use Rattle.std.specs.Prelude.{◌≡◌, List, map, Bool, false, not, ◌&&◌, ◌||◌, eqb, Option, Some, None}
use Rattle.std.proofs.Math.Path.{refl, sym, ap, ap₂}
use Rattle.std.proofs.Common.{◌∙◌, arith}
use Rattle.std.proofs.Math.Bool.{true}
use Prim.Native.Nat.{ℕ, zero, suc, ◌-◌, ◌≤◌}
use Rattle.std.proofs.Math.ListN.{length}
use Rattle.rules.specs.declared.Kind.TheVariants.{Owner, InputOnly, ListenOnly}
use Rattle.rules.specs.declared.Event.TheVariants.{TimedOut}
use Rattle.rules.specs.Lists.{find, any, without_first, maybe, repeat}
use Rattle.rules_laws.specs.ListLaws
use Rattle.rules_laws.specs.ListLaws.{by_cases, clash, and_left, and_right, eqb_true}
use Rattle.rules.specs.State.{State, is_owner, is_listener}
use Rattle.rules.specs.Answers.{Gone, at_time}
use Rattle.rules.specs.Checks.{owns}
use Rattle.rules.specs.Removal.{after_removal, remove_first, conn_triad, expired, removed, expired_first, expire_effect, expire_answer}
use Rattle.rules_laws.specs.RemovalLaws.{removed_if}
use Rattle.rules_steps.specs.Names.{Triad, Kind, Conn}
use Rattle.rules_isolation.specs.Ends.{reaches, any_removal, all_ends, length_removal, empty}
use Rattle.rules_isolation.specs.Survive.{Distinct, in_table, same_left}
use Rattle.rules_isolation.specs.Contents.{cover, idle_by, idle_none, idle_two, idles_alike, run_lost_lem}
use Rattle.rules_isolation.specs.Seen.{deaf, hide, hide_bare, stray, Covers, blind_alike, length_alike, Alike}

-- a listener owns nothing
listener_owns : (k : Kind) → is_listener k ≡ true → is_owner k ≡ false
listener_owns Owner e = clash true refl (sym e)
listener_owns InputOnly e = refl
listener_owns ListenOnly e = refl

pub owns_not : (i : ℕ) (c : Conn) → is_listener c.fixed.kind ≡ true → owns i c.fixed ≡ false
owns_not i c e = let n = listener_owns c.fixed.kind e in cc

module _ (now : ℕ) where
  gone_table : (s : State) (x : Option Conn) →
      (removed_if true TimedOut (expired now) s x).table ≡ maybe s.table (λ c. after_removal c (without_first (expired now) s.table)) x
  unfolding removed
  gone_table s None = refl
  gone_table s (Some c) = refl

  pub expire_table : (n : ℕ) (s : State) → (repeat n (expired_first now) s).table ≡ repeat n (remove_first (expired now)) s.table
  unfolding expired_first
  expire_table zero s = refl
  expire_table (suc n) s = expire_table n (expired_first now s) ∙ ap (repeat n (remove_first (expired now))) (gone_table s (find (expired now) s.table))

  -- what expiry leaves alone
  pub record Left (s t : State) : Type 0 where
    pub setup : s.setup ≡ t.setup
    pub next_id : s.next_id ≡ t.next_id
    pub counters : s.counters ≡ t.counters

  gone_left : (s : State) (x : Option Conn) → Left (removed_if true TimedOut (expired now) s x) s
  unfolding removed
  gone_left s None = record { setup = refl; next_id = refl; counters = refl }
  gone_left s (Some c) = record { setup = refl; next_id = refl; counters = refl }

  pub expire_left : (n : ℕ) (s : State) → Left (repeat n (expired_first now) s) s
  unfolding expired_first
  expire_left zero s = record { setup = refl; next_id = refl; counters = refl }
  expire_left (suc n) s =
      let a = expire_left n (expired_first now s) in
      let b = gone_left s (find (expired now) s.table) in
      record { setup = a.setup ∙ b.setup; next_id = a.next_id ∙ b.next_id; counters = a.counters ∙ b.counters }

  -- the outputs that lose run
  abbrev pub ends_run : ℕ → Conn → Bool
  ends_run i c = expired now c && owns i c.fixed

  abbrev pub loses : List Conn → ℕ → Bool
  loses l i = any (ends_run i) l

  mute : (i : ℕ) (x : Conn) → is_listener x.fixed.kind ≡ true → ends_run i x ≡ false
  mute i x y = let n = owns_not i x y in by_cases (expired now x) (λ z. cc) (λ z. cc)

  loses_step : (i : ℕ) (c : Conn) (l : List Conn) → find (expired now) l ≡ Some c →
      loses l i ≡ owns i c.fixed || loses (after_removal c (without_first (expired now) l)) i
  loses_step i c l e =
      let a =
      any_removal (ends_run i) (λ x s. refl) (expired now) c l e
      (ListLaws.all_from (λ x. is_listener x.fixed.kind ≡ true → ends_run i x ≡ false) (mute i) l) in
      let p = ListLaws.find_passes (expired now) c l e in
      a ∙ ap (λ b. b && owns i c.fixed || loses (after_removal c (without_first (expired now) l)) i) p

  none_lost : (l : List Conn) → find (expired now) l ≡ None → (i : ℕ) → loses l i ≡ false
  none_lost l e i = ListLaws.none_is (ends_run i) l (ListLaws.all_to (λ c. expired now c ≡ false) (λ c. ends_run i c ≡ false) (λ c n. cc) l (ListLaws.none_found (expired now) l e))

  stops : (n : ℕ) (s : State) → find (expired now) s.table ≡ None → repeat n (expired_first now) s ≡ s
  unfolding expired_first
  stops zero s e = refl
  stops (suc n) s e = let k : expired_first now s ≡ s = rw e in ap (repeat n (expired_first now)) k ∙ stops n s e

  -- THE OUTPUTS AFTER AN EXPIRY
  pub expire_contents : (n : ℕ) (s : State) → length s.table ≤ n →
      (repeat n (expired_first now) s).contents ≡ idle_by (loses s.table) s.contents
  unfolding expired_first removed
  expire_contents zero s h = sym (idle_none (loses s.table) (λ i. ap (λ l. loses l i) (empty s.table h)) s.contents)
  expire_contents (suc n) s h = go (find (expired now) s.table) refl (expire_contents n)
    where
      go : (x : Option Conn) → find (expired now) s.table ≡ x →
          ((t : State) → length t.table ≤ n → (repeat n (expired_first now) t).contents ≡ idle_by (loses t.table) t.contents) →
          (repeat n (expired_first now) (expired_first now s)).contents ≡ idle_by (loses s.table) s.contents
      go None e ih = ap (λ (t : State). t.contents) (stops (suc n) s e) ∙ sym (idle_none (loses s.table) (none_lost s.table e) s.contents)
      go (Some c) e ih =
          let t = removed_if true TimedOut (expired now) s (Some c) in
          let is : expired_first now s ≡ t = rw e in
          let rest = without_first (expired now) s.table in
          ap (λ x. (repeat n (expired_first now) x).contents) is ∙
          ih t (omega (arith, length_removal c rest, ListLaws.length_without (expired now) c s.table e)) ∙
          ap (idle_by (loses (after_removal c rest))) (run_lost_lem c.fixed s.contents) ∙
          idle_two (loses s.table) (loses (after_removal c rest)) (λ i. owns i c.fixed) (λ i. loses_step i c s.table e) s.contents

-- THE EXPIRY LEMMA for states
module _ (A : ℕ) (o : ℕ → Bool) (now : ℕ) where
  -- an output that is not covered loses run by an owner of another address only
  by_others : ℕ → Conn → Bool
  by_others i c = not (eqb c.fixed.originator A) && ends_run now i c

  not_owned : (i : ℕ) → o i ≡ false → (c : Conn) → is_owner c.fixed.kind && not (o c.fixed.output) ≡ false → owns i c.fixed ≡ false
  not_owned i n c e =
      by_cases (owns i c.fixed)
      (λ y. let w = and_left (is_owner c.fixed.kind) (eqb c.fixed.output i) y in
      let z = eqb_true c.fixed.output i (and_right (is_owner c.fixed.kind) (eqb c.fixed.output i) y) in
      let k : o c.fixed.output ≡ false = ap o z ∙ n in
      clash true refl (cc))
      (λ y. y)

  only_others : (i : ℕ) → o i ≡ false → (c : Conn) → stray A o c ≡ false → ends_run now i c ≡ by_others i c
  unfolding by_others
  only_others i n c s = by_cases (eqb c.fixed.originator A) (λ y. let k = not_owned i n c (cc) in by_cases (expired now c) (λ z. cc) (λ z. cc)) (λ y. cc)

  others_seen : (i : ℕ) (c : Conn) → by_others i (hide A c) ≡ by_others i c
  unfolding by_others
  others_seen i c = by_cases (eqb c.fixed.originator A) (λ y. cc) (λ y. ap (by_others i) (hide_bare A c y))

  loses_seen : (i : ℕ) → o i ≡ false → (l : List Conn) → Covers A o l → loses now l i ≡ any (by_others i) (map (hide A) l)
  loses_seen i n l c =
      ListLaws.any_same (ends_run now i) (by_others i) l (ListLaws.all_to (λ x. stray A o x ≡ false) (λ x. ends_run now i x ≡ by_others i x) (only_others i n) l (ListLaws.none_passes (stray A o) l c)) ∙
      sym (ListLaws.any_map (hide A) (by_others i) (by_others i) (others_seen i) l)

  -- what is not there is not left
  none_new : (s : State) (d : Triad) → in_table s.table d ≡ false → in_table (expire_effect now s).table d ≡ false
  unfolding expire_effect
  none_new s d e =
      let r = repeat (length s.table) (remove_first (expired now)) s.table in
      ap (λ l. in_table l d) (expire_table now (length s.table) s) ∙
      ListLaws.none_is (conn_triad d) r (all_ends (λ c. conn_triad d c ≡ false) (λ c k h. h) (reaches (expired now) (length s.table) s.table (omega arith)) (ListLaws.none_passes (conn_triad d) s.table e))

  -- removed alike, so left alike
  left_alike : (b c x y : Bool) → b ≡ c → (b ≡ false → x ≡ false) → (c ≡ false → y ≡ false) → b && not x ≡ c && not y → x ≡ y
  left_alike true c true true e f g h = refl
  left_alike true c true false e f g h = cc
  left_alike true c false true e f g h = cc
  left_alike true c false false e f g h = refl
  left_alike false c x y e f g h = f refl ∙ sym (g (sym e))

  pub expire_alike : (s t : State) → Alike A o s t → Distinct s.table → Distinct t.table → Covers A o s.table → Covers A o t.table →
      ((d : Triad) → in_table s.table d && not (in_table (expire_effect now s).table d) ≡ in_table t.table d && not (in_table (expire_effect now t).table d)) →
      Alike A o (expire_effect now s) (expire_effect now t)
  unfolding expire_effect
  expire_alike s t r ds dt cs ct same =
      let es = expire_table now (length s.table) s in
      let et = expire_table now (length t.table) t in
      let ls = expire_left now (length s.table) s in
      let lt = expire_left now (length t.table) t in
      record {
        setup = ls.setup ∙ r.setup ∙ sym lt.setup;
        contents =
            ap (cover o) (expire_contents now (length s.table) s (omega arith)) ∙
            idles_alike o (loses now s.table) (loses now t.table)
            (λ i n. loses_seen i n s.table cs ∙ ap (any (by_others i)) r.table ∙ sym (loses_seen i n t.table ct)) s.contents t.contents r.contents ∙
            sym (ap (cover o) (expire_contents now (length t.table) t (omega arith)));
        table =
            ap (map (hide A)) es ∙
            same_left (deaf A) (expired now) (expired now) (λ c k. refl) (λ c k. refl) s.table t.table _ _
            (reaches (expired now) (length s.table) s.table (omega arith)) (reaches (expired now) (length t.table) t.table (omega arith))
            ds dt r.table
            (λ d. sym (ap (λ l. in_table l d) es) ∙
            left_alike (in_table s.table d) (in_table t.table d) _ _
            (blind_alike A (λ l. in_table l d) (λ l. ListLaws.any_map (hide A) (conn_triad d) (conn_triad d) (λ x. refl) l) s.table t.table r.table)
            (none_new s d) (none_new t d) (same d) ∙
            ap (λ l. in_table l d) et) ∙
            sym (ap (map (hide A)) et);
        next_id = ls.next_id ∙ r.next_id ∙ sym lt.next_id;
        counters = ls.counters ∙ r.counters ∙ sym lt.counters;
      }

  -- as many go
  pub expire_says_alike : (s t : State) → Alike A o s t → Alike A o (expire_effect now s) (expire_effect now t) → expire_answer now s ≡ expire_answer now t
  unfolding expire_answer
  expire_says_alike s t r q =
      ap₂ (λ a b. at_time now (Gone (a - b))) (length_alike A s.table t.table r.table) (length_alike A (expire_effect now s).table (expire_effect now t).table q.table)
