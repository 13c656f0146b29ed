-- Connections that stand apart: of no two in a table is the earlier so related to the later, by what is fixed of them. No step but an open
-- can bring two together.
use Rattle.std.specs.Prelude.{◌≡◌, refl, List, [], ◌∷◌, ◌++◌, map, Bool, false, not}
use Rattle.std.proofs.Common.{◌∙◌, ap}
use Rattle.rules.specs.Lists.{any, keep, change_first, without_first}
use Rattle.rules_laws.specs.ListLaws
use Rattle.rules_laws.specs.ListLaws.{by_cases, either_way}
use Rattle.rules.specs.State.{with_sent}
use Rattle.rules.specs.Removal.{in_stream, hands_on, handed_over, ends_stream, after_removal}
use Rattle.rules_steps.specs.Names.{Fixed, Conn}

-- of fewer none passes that did not before
pub none_keep : (q g : Conn → Bool) (l : List Conn) → any q l ≡ false → any q (keep g l) ≡ false
none_keep q g l e = ListLaws.none_is q (keep g l) (ListLaws.all_keep (λ x. q x ≡ false) g l (ListLaws.none_passes q l e))

pub none_without : (q p : Conn → Bool) (l : List Conn) → any q l ≡ false → any q (without_first p l) ≡ false
none_without q p l e = ListLaws.none_is q (without_first p l) (ListLaws.all_without (λ x. q x ≡ false) p l (ListLaws.none_passes q l e))

module _ (r : Fixed → Fixed → Bool) where
  abbrev pub Apart : List Conn → Type 0
  Apart [] = Unit {0}
  Apart (x ∷ xs) = (any (λ y. r x.fixed y.fixed) xs ≡ false) × Apart xs

  pub apart_keep : (g : Conn → Bool) (l : List Conn) → Apart l → Apart (keep g l)
  apart_keep g [] d = tt
  apart_keep g (x ∷ xs) d =
      by_cases (g x) (λ e. rw e (none_keep (λ y. r x.fixed y.fixed) g xs d.0, apart_keep g xs d.1)) (λ e. rw e (apart_keep g xs d.1))

  pub apart_without : (p : Conn → Bool) (l : List Conn) → Apart l → Apart (without_first p l)
  apart_without p [] d = tt
  apart_without p (x ∷ xs) d =
      by_cases (p x) (λ e. rw e d.1) (λ e. rw e (none_without (λ y. r x.fixed y.fixed) p xs d.0, apart_without p xs d.1))

  module _ (u : Conn → Conn) (same : (c : Conn) → (u c).fixed ≡ c.fixed) where
    to_same : (x : Fixed) (c : Conn) → r x (u c).fixed ≡ r x c.fixed
    to_same x c = ap (λ (f : Fixed). r x f) (same c)

    pub apart_change : (p : Conn → Bool) (l : List Conn) → Apart l → Apart (change_first p u l)
    apart_change p [] d = tt
    apart_change p (x ∷ xs) d =
        by_cases (p x)
        (λ e. rw e (ap (λ (f : Fixed). any (λ y. r f y.fixed) xs) (same x) ∙ d.0, d.1))
        (λ e. rw e (ListLaws.any_change (λ y. r x.fixed y.fixed) p u (to_same x.fixed) xs ∙ d.0, apart_change p xs d.1))

    pub apart_map : (l : List Conn) → Apart l → Apart (map u l)
    apart_map [] d = tt
    apart_map (x ∷ xs) d = (
      ap (λ (f : Fixed). any (λ y. r f y.fixed) (map u xs)) (same x) ∙
          ListLaws.any_map u (λ y. r x.fixed y.fixed) (λ y. r x.fixed y.fixed) (to_same x.fixed) xs ∙ d.0,
      apart_map xs d.1,
    )

  pub apart_removal : (c : Conn) (l : List Conn) → Apart l → Apart (after_removal c l)
  apart_removal c l d =
      let h = either_way Apart (hands_on c) (apart_change (with_sent c.sent) (λ x. refl) (in_stream c.fixed.toid) l d) d in
      either_way Apart (ends_stream c (handed_over c l)) (apart_keep (λ x. not (in_stream c.fixed.toid x)) (handed_over c l) h) h

  -- one more at the end, to which none is so related
  pub apart_append : (c : Conn) (l : List Conn) → any (λ x. r x.fixed c.fixed) l ≡ false → Apart l → Apart (l ++ (c ∷ []))
  apart_append c [] e d = (refl, tt)
  apart_append c (x ∷ xs) e d =
      let a = ListLaws.none_passes (λ x. r x.fixed c.fixed) (x ∷ xs) e in (
        ListLaws.any_append (λ y. r x.fixed y.fixed) xs (c ∷ []) ∙ cc (d.0, a.0),
        apart_append c xs (ListLaws.none_is (λ x. r x.fixed c.fixed) xs a.1) d.1,
      )
