-- WHO IS KNOWN IS THERE: where no listener passes the test, a connection is known exactly where the table has one that passes. It leaves by a
-- close of its own or by its own silence, not with another's stream.
-- The expiry stands in proofs/Present.antt.
use Rattle.std.specs.Prelude.{◌≡◌, refl, List, Bool, true, false, cond, ◌||◌, Option, Some, None}
use Rattle.std.proofs.Math.Path.{sym, ap}
use Rattle.std.proofs.Common.{◌∙◌, subst}
use Rattle.rules.specs.Lists.{find, any, without_first, maybe, is_some}
use Rattle.rules_laws.specs.ListLaws
use Rattle.rules_laws.specs.ListLaws.{by_cases, clash, All}
use Rattle.rules.specs.State.{triad_is, is_listener}
use Rattle.rules.specs.Removal.{after_removal, conn_triad}
use Rattle.rules_isolation.specs.Ends.{any_removal}
use Rattle.rules_steps.specs.Names.{Triad, Fixed, Conn}
use Rattle.rules_lastword.specs.Words.{Contact}
use Rattle.rules_lastword.specs.Knows.{Known, passes, none_known}

module _ (g : Fixed → Bool) (mute : (c : Conn) → is_listener c.fixed.kind ≡ true → g c.fixed ≡ false) where
  abbrev Ears : Option Contact → Conn → Type 0
  Ears w c = g c.fixed ≡ true → Known w c

  pub any_left : (p : Conn → Bool) (c : Conn) (l : List Conn) → find p l ≡ Some c →
      any (passes g) l ≡ passes g c || any (passes g) (after_removal c (without_first p l))
  any_left p c l e = any_removal (passes g) (λ x s. refl) p c l e (ListLaws.all_from (λ x. is_listener x.fixed.kind ≡ true → passes g x ≡ false) mute l)

  -- A CLOSE
  pub present_closing : (k : Triad) (c : Conn) (l : List Conn) (w : Option Contact) → find (conn_triad k) l ≡ Some c → All (λ c. g c.fixed ≡ true → Known w c) l →
      let left = after_removal c (without_first (conn_triad k) l) in
      let w' = maybe None (λ m. cond (triad_is k m.triad) None (Some m)) w in
      All (λ c. g c.fixed ≡ true → Known w' c) left → is_some w ≡ any (passes g) l → is_some w' ≡ any (passes g) left
  present_closing k c l None e a b h = sym (none_known g (after_removal c (without_first (conn_triad k) l)) b)
  present_closing k c l (Some m) e a b h =
      let left = after_removal c (without_first (conn_triad k) l) in
      by_cases (triad_is k m.triad)
      (λ y. ap (λ b. is_some (cond b None (Some m))) y ∙ sym (none_known g left (subst (λ b. All (Ears (cond b None (Some m))) left) y b)))
      (λ n. let other : passes g c ≡ false =
      by_cases (passes g c)
      (λ v. let ear = ListLaws.all_find (Ears (Some m)) (conn_triad k) c l e a v in
      clash (triad_is k m.triad) (sym (ap (triad_is k) ear.triad) ∙ ListLaws.find_passes (conn_triad k) c l e) n)
      (λ v. v) in
      ap (λ b. is_some (cond b None (Some m))) n ∙ h ∙ any_left (conn_triad k) c l e ∙ ap (λ b. b || any (passes g) left) other)
