-- Who is known is there, after an expiry too: where no listener passes the test, a connection leaves by its own silence.
use Rattle.std.specs.Prelude.{◌≡◌, refl, List, Bool, true, false, cond, ◌||◌, ℕ, length, Option, Some, None}
use Rattle.std.proofs.Math.Path.{sym, ap}
use Rattle.std.proofs.Common.{◌∙◌, subst, arith}
use Rattle.rules.specs.Lists.{any, without_first, maybe, is_some}
use Rattle.rules_laws.specs.ListLaws
use Rattle.rules_laws.specs.ListLaws.{by_cases, clash, All}
use Rattle.rules.specs.State.{State, is_listener}
use Rattle.rules.specs.Removal.{after_removal, remove_first, expired, expire_effect}
use Rattle.rules_isolation.specs.Ends.{Ends, done, step, reaches, all_removal}
use Rattle.rules_isolation.specs.Expiry.{expire_table}
use Rattle.rules_steps.specs.Names.{Fixed, Conn}
use Rattle.rules_lastword.specs.Words.{Contact, silent}
use Rattle.rules_lastword.specs.Knows.{Known, passes, none_known}
use Rattle.rules_lastword.proofs.Knows.{silent_is}
use Rattle.rules_lastword.specs.Knows.{Ears}
use Rattle.rules_lastword.specs.Present.{any_left}

module _ (g : Fixed → Bool) (mute : (c : Conn) → is_listener c.fixed.kind ≡ true → g c.fixed ≡ false) where
  -- AN EXPIRY
  abbrev spared : ℕ → Conn → Type 0
  spared t c = expired t c ≡ true → g c.fixed ≡ false

  any_ends : (t : ℕ) {l r : List Conn} → Ends (expired t) l r → All (spared t) l → any (passes g) l ≡ any (passes g) r
  any_ends t (done e) a = refl
  any_ends t (step {l = l} c e d) a =
      let rest = without_first (expired t) l in
      let other : passes g c ≡ false = ListLaws.all_find (spared t) (expired t) c l e a (ListLaws.find_passes (expired t) c l e) in
      let b : All (spared t) (remove_first (expired t) l) = rw e (all_removal (spared t) (λ x s h. h) c rest (ListLaws.all_without (spared t) (expired t) l a)) in
      let is : remove_first (expired t) l ≡ after_removal c rest = rw e refl in
      any_left g mute (expired t) c l e ∙ ap (λ z. z || any (passes g) (after_removal c rest)) other ∙ sym (ap (any (passes g)) is) ∙ any_ends t d b

  pub present_expiring : (t : ℕ) (s : State) (w : Option Contact) → All (λ c. g c.fixed ≡ true → Known w c) s.table →
      let w' = maybe None (λ m. cond (silent t m) None (Some m)) w in
      All (λ c. g c.fixed ≡ true → Known w' c) (expire_effect t s).table → is_some w ≡ any (passes g) s.table →
      is_some w' ≡ any (passes g) (expire_effect t s).table
  unfolding expire_effect
  present_expiring t s None a b h = sym (none_known g (expire_effect t s).table b)
  present_expiring t s (Some m) a b h =
      by_cases (silent t m)
      (λ y. ap (λ b. is_some (cond b None (Some m))) y ∙ sym (none_known g (expire_effect t s).table (subst (λ b. All (Ears g (cond b None (Some m))) (expire_effect t s).table) y b)))
      (λ n. let heard : All (spared t) s.table =
      ListLaws.all_to (Ears g (Some m)) (spared t)
      (λ c k x. by_cases (passes g c) (λ v. clash (silent t m) (sym (silent_is m t c (k v)) ∙ x) n) (λ v. v)) s.table a in
      ap (λ b. is_some (cond b None (Some m))) n ∙ h ∙ any_ends t (reaches (expired t) (length s.table) s.table (omega arith)) heard ∙
      sym (ap (any (passes g)) (expire_table t (length s.table) s)))
