-- What a step and a list of items are, case by case.
use Rattle.std.specs.Prelude.{Ok, Err}
use Prim.Native.Nat.{ℕ, zero, suc, ◌-◌, ◌<◌, ◌≤◌}
use mathlib.Core.Path.{◌≡◌, refl, sym, ap, ◌∙◌}
use mathlib.Core.Bool.{Bool, true, false}
use mathlib.Core.List.{List}
use lib.ListN.{length}
use lib.Dec.{eqb, leb}
use native.Mathlib.Omega.{arith}
use borrow.Author.Tests.{le-leb, lt-leb, eq-eqb}
use Rattle.base_cells.specs.Pick.{pick}
use Rattle.base_cells.specs.Numbers.{le}
use Rattle.wire_rules.specs.Items.{cursor, start_of, item_end, step_at, step_after, item_of, Part, Items, well_formed, broken, cons, items_from, whole_of}
use Rattle.wire_rules.specs.declared.Cursor.{Cursor}
use Rattle.wire_rules.specs.declared.Step.TheVariants.{Item, End, Broken}

-- ---- the count

pub no_count : (s : List ℕ) → length s < 2 → Err 0 ≡ start_of s
unfolding start_of
no_count s h = simp (lt-leb _ _ h)

pub counted : (s : List ℕ) (n : ℕ) → 2 ≤ length s → n ≡ le 2 s 0 → Ok (cursor 2 n) ≡ start_of s
unfolding start_of
counted s n h e = simp (le-leb _ _ h, e)

-- ---- one step

module _ (s : List ℕ) (at : ℕ) where
  pub step_end : (left : ℕ) → left ≡ 0 → at ≡ length s → End ≡ step_at s at left
  unfolding step_at
  step_end left e h = rw (e, eq-eqb _ _ h)

-- ---- a list, step by step

whole_cons : (p : Part) (l : Items) → whole_of (cons p l) ≡ whole_of l
whole_cons p (well_formed l) = refl
whole_cons p (broken o) = refl

not_item : (at k b l : ℕ) (x : Cursor) (t : Bool) → Item k b l x ≡ pick t End (Broken at) → ⊥
not_item at k b l x true e = let z : ◌≡◌ {A = ℕ} 0 1 = cc in omega arith
not_item at k b l x false e = let z : ◌≡◌ {A = ℕ} 0 1 = cc in omega arith

same_item : (at k b l k' b' l' : ℕ) (x c : Cursor) (t : Bool) → Item k b l x ≡ pick t (Item k' b' l' c) (Broken at) → x ≡ c
same_item at k b l k' b' l' x c true e = cc
same_item at k b l k' b' l' x c false e = absurd (let z : ◌≡◌ {A = ℕ} 0 1 = cc in omega arith)

module _ (s : List ℕ) (at : ℕ) where
  pub ends : (n : ℕ) → End ≡ step_at s at n → Ok tt ≡ whole_of (items_from n s at)
  unfolding items_from
  ends zero e = rw (← e)
  ends (suc n) e = rw (← e)

  pub stops : (n o : ℕ) → Broken o ≡ step_at s at n → Err o ≡ whole_of (items_from n s at)
  unfolding items_from
  stops zero o e = rw (← e)
  stops (suc n) o e = rw (← e)

  -- an item is found only where one is to come, and then one fewer is
  pub next_is : (n k b l : ℕ) (x : Cursor) → Item k b l x ≡ step_at s at n → (0 < n) × (x ≡ cursor (item_end s at) (n - 1))
  unfolding step_at
  next_is zero k b l x e = absurd (not_item at k b l x (eqb at (length s)) e)
  next_is (suc n) k b l x e =
      let m : n ≡ suc n - 1 = omega arith in
      (omega arith, same_item at k b l _ _ _ x _ (leb (item_end s at) (length s)) e ∙ ap (cursor (item_end s at)) m)

  pub fewer : (n k b l : ℕ) (x : Cursor) → Item k b l x ≡ step_at s at n → x.left < n
  fewer n k b l x e =
      let h = next_is n k b l x e in
      omega (arith, h.0, ap (λ (c : Cursor). c.left) h.1)

  pub goes : (n k b l : ℕ) (x : Cursor) → Item k b l x ≡ step_at s at n → whole_of (items_from x.left s x.at) ≡ whole_of (items_from n s at)
  unfolding items_from
  goes zero k b l x e = absurd (omega (arith, fewer 0 k b l x e))
  goes (suc n) k b l x e =
      let m : x.left ≡ n = ap (λ (c : Cursor). c.left) (next_is (suc n) k b l x e).1 ∙ omega arith in
      rw (← e, m) (sym (whole_cons _ (items_from n s x.at)))

-- ---- item n

pub item_begins : (s : List ℕ) (n : ℕ) (c : Cursor) → Ok c ≡ start_of s → step_after n s c.at c.left ≡ item_of n s
unfolding item_of
item_begins s n c e = rw (← e)
