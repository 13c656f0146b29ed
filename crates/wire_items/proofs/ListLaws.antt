-- What a well-formed list is, said without a walk; and where a list that is none breaks.
use Rattle.std.specs.Prelude.{Ok, Err}
use Prim.Native.Nat.{ℕ, zero, suc, ◌+◌, ◌<◌, ◌≤◌}
use mathlib.Core.Path.{◌≡◌, refl, sym, ap, ◌∙◌}
use mathlib.Core.Bool.{Bool, true, false}
use mathlib.Core.List.{List, [], ◌∷◌}
use lib.ListN.{length, get_or}
use lib.Dec.{eqb, leb}
use native.Mathlib.Omega.{arith}
use native.Mathlib.Decide.{dec_le}
use borrow.Author.Tests.{eqb-true, leb-true, le-leb, eq-eqb}
use Rattle.base_cells.specs.Pick.{pick}
use Rattle.base_cells.specs.Numbers.{le}
use Rattle.wire_rules.specs.Items.{cursor, item_end, step_at, step_after, item_of, Part, Items, well_formed, broken, cons, follow, items_from, items_of, whole_of}
use Rattle.wire_rules.specs.declared.Cursor.{Cursor}
use Rattle.wire_rules.specs.declared.Step.TheVariants.{Item, End, Broken}
use Rattle.wire_items.proofs.ItemLaws.{no_count, counted, item_begins}

-- the item whose kind stands at `at`
abbrev pub part_at : List ℕ → ℕ → Part
part_at s at = record { kind = le 2 s at; start = at + 4; len = le 2 s (at + 2) }

-- items one behind the other from `at` on: where each ends the next begins, and the last ends with the data
pub data Chain (s : List ℕ) : ℕ → List Part → Type 0 where
  last : {at : ℕ} → at ≡ length s → Chain s at []
  link : {at : ℕ} {l : List Part} → Chain s (item_end s at) l → Chain s at (part_at s at ∷ l)

-- a count, and a chain of that many items
pub record Listed (s : List ℕ) (l : List Part) : Type 0 where
  pub room : 2 ≤ length s
  pub count : le 2 s 0 ≡ length l
  pub chain : Chain s 2 l

abbrev pub WellFormed : List ℕ → Type 0
WellFormed s = (l : List Part) × Listed s l

pub chain_within : {s : List ℕ} {at : ℕ} {l : List Part} → Chain s at l → at ≤ length s
chain_within (last e) = omega arith
chain_within (link c) = omega (arith, chain_within c)

-- ---- a list that the walk accepts is such a chain

no_offset : (l : List Part) (o : ℕ) → broken o ≡ well_formed l → ⊥
no_offset l o e = let z : ◌≡◌ {A = ℕ} 0 1 = cc in omega arith

ended : (s : List ℕ) (at : ℕ) (l : List Part) (t : Bool) → eqb at (length s) ≡ t → follow (pick t End (Broken at)) broken ≡ well_formed l
    → Chain s at l × (0 ≡ length l)
ended s at [] true e w = (last (eqb-true at (length s) e), refl)
ended s at (p ∷ l) true e w = absurd (let z : ◌≡◌ {A = ℕ} 0 1 = cc in omega arith)
ended s at l false e w = absurd (no_offset l at w)

linked : (s : List ℕ) (at n : ℕ) (x : Items) (l : List Part) → ((l' : List Part) → x ≡ well_formed l' → Chain s (item_end s at) l' × (n ≡ length l'))
    → cons (part_at s at) x ≡ well_formed l → Chain s at l × (suc n ≡ length l)
linked s at n (broken o) l f w = absurd (no_offset l o w)
linked s at n (well_formed l') l f w =
    let c = f l' refl in
    let e : part_at s at ∷ l' ≡ l = cc in
    rw (← e) (link c.0, ap suc c.1)

found : (s : List ℕ) (at n : ℕ) (x : ℕ → Items) (l : List Part) (t : Bool)
    → ((l' : List Part) → x (item_end s at) ≡ well_formed l' → Chain s (item_end s at) l' × (n ≡ length l'))
    → follow (pick t (Item (le 2 s at) (at + 4) (le 2 s (at + 2)) (cursor (item_end s at) n)) (Broken at)) x ≡ well_formed l
    → Chain s at l × (suc n ≡ length l)
found s at n x l true f w = linked s at n (x (item_end s at)) l f w
found s at n x l false f w = absurd (no_offset l at w)

pub chained : (n : ℕ) (s : List ℕ) (at : ℕ) (l : List Part) → items_from n s at ≡ well_formed l → Chain s at l × (n ≡ length l)
unfolding items_from step_at
chained zero s at l w = ended s at l (eqb at (length s)) refl w
chained (suc n) s at l w = found s at n (items_from n s) l (leb (item_end s at) (length s)) (λ l' e. chained n s (item_end s at) l' e) w

-- ---- and the walk accepts each such chain

pub accepted : {s : List ℕ} {at : ℕ} {l : List Part} → Chain s at l → items_from (length l) s at ≡ well_formed l
unfolding items_from step_at
accepted (last e) = simp (eq-eqb _ _ e)
accepted (link c) = simp (le-leb _ _ (chain_within c), accepted c)

-- ---- the offset where a list breaks is one of the data's, or its end

ended_within : (s : List ℕ) (at o : ℕ) (t : Bool) → at ≤ length s → follow (pick t End (Broken at)) broken ≡ broken o → o ≤ length s
ended_within s at o true h w = absurd (no_offset [] o (sym w))
ended_within s at o false h w = let e : at ≡ o = cc in omega arith

found_within : (s : List ℕ) (at n o : ℕ) (x : Items) (t : Bool) → at ≤ length s → leb (item_end s at) (length s) ≡ t
    → (item_end s at ≤ length s → x ≡ broken o → o ≤ length s)
    → follow (pick t (Item (le 2 s at) (at + 4) (le 2 s (at + 2)) (cursor (item_end s at) n)) (Broken at)) (λ _. x) ≡ broken o → o ≤ length s
found_within s at n o (well_formed l) true h e f w = absurd (no_offset (part_at s at ∷ l) o (sym w))
found_within s at n o (broken k) true h e f w = f (leb-true _ _ e) w
found_within s at n o x false h e f w = let e' : at ≡ o = cc in omega arith

within : (n : ℕ) (s : List ℕ) (at o : ℕ) → at ≤ length s → items_from n s at ≡ broken o → o ≤ length s
unfolding items_from step_at
within zero s at o h w = ended_within s at o (eqb at (length s)) h w
within (suc n) s at o h w =
    found_within s at n o (items_from n s (item_end s at)) (leb (item_end s at) (length s)) h refl (λ g e. within n s (item_end s at) o g e) (inside s at n (leb (item_end s at) (length s)) ∙ w)
  where
    inside : (s : List ℕ) (at n : ℕ) (t : Bool)
        → follow (pick t (Item (le 2 s at) (at + 4) (le 2 s (at + 2)) (cursor (item_end s at) n)) (Broken at)) (λ _. items_from n s (item_end s at))
        ≡ follow (pick t (Item (le 2 s at) (at + 4) (le 2 s (at + 2)) (cursor (item_end s at) n)) (Broken at)) (items_from n s)
    inside s at n true = refl
    inside s at n false = refl

-- ---- the whole list

pub of_good : (x : Items) → Ok tt ≡ whole_of x → (l : List Part) × (x ≡ well_formed l)
of_good (well_formed l) e = (l, refl)
of_good (broken o) e = absurd (let z : ◌≡◌ {A = ℕ} 0 1 = cc in omega arith)

pub of_broken : (x : Items) (o : ℕ) → Err o ≡ whole_of x → x ≡ broken o
of_broken (well_formed l) o e = absurd (let z : ◌≡◌ {A = ℕ} 0 1 = cc in omega arith)
of_broken (broken k) o e = cc

pub from_count : (s : List ℕ) → 2 ≤ length s → items_of s ≡ items_from (le 2 s 0) s 2
unfolding items_of
from_count s h = rw (← counted s (le 2 s 0) h refl)

no_items : (s : List ℕ) → length s < 2 → items_of s ≡ broken 0
unfolding items_of
no_items s h = rw (← no_count s h)

pub listed : (s : List ℕ) (l : List Part) → items_of s ≡ well_formed l → Listed s l
listed s l e = go (dec_le 2 (length s))
  where
    go : Dec (2 ≤ length s) → Listed s l
    go (yes h) = let c = chained (le 2 s 0) s 2 l (sym (from_count s h) ∙ e) in record { room = h; count = c.1; chain = c.0 }
    go (no h) = absurd (no_offset l 0 (sym (no_items s (omega arith)) ∙ e))

-- the check says Good exactly of the well-formed lists
pub good_is : (s : List ℕ) → Ok tt ≡ whole_of (items_of s) → WellFormed s
good_is s g = let l = of_good (items_of s) g in (l.0, listed s l.0 l.1)

pub is_good : (s : List ℕ) → WellFormed s → Ok tt ≡ whole_of (items_of s)
is_good s w = let d = w.1 in sym (ap whole_of (from_count s d.room ∙ ap (λ (n : ℕ). items_from n s 2) d.count ∙ accepted d.chain))

-- and no list is both well formed and broken at an offset
pub not_both : (s : List ℕ) (o : ℕ) → WellFormed s → Err o ≡ whole_of (items_of s) → ⊥
not_both s o w b = let e = is_good s w in let z : ◌≡◌ {A = ℕ} 0 1 = cc in omega arith

pub broken_within : (s : List ℕ) (o : ℕ) → Err o ≡ whole_of (items_of s) → o ≤ length s
broken_within s o b = go (dec_le 2 (length s))
  where
    go : Dec (2 ≤ length s) → o ≤ length s
    go (yes h) = within (le 2 s 0) s 2 o h (sym (from_count s h) ∙ of_broken (items_of s) o b)
    go (no h) = let e : broken 0 ≡ broken o = sym (no_items s (omega arith)) ∙ of_broken (items_of s) o b in let z : 0 ≡ o = cc in omega arith

-- ---- item n of a well-formed list is the list's, and behind the last is the end

nth : {s : List ℕ} {at : ℕ} {l : List Part} → Chain s at l → (n : ℕ) → n < length l → (p : Part)
    → (c : Cursor) × (step_after n s at (length l) ≡ Item (get_or l n p).kind (get_or l n p).start (get_or l n p).len c)
unfolding step_after step_at
nth (last e) n h p = absurd (omega arith)
nth {s} {at} (link {l = l} c) zero h p = (cursor (item_end s at) (length l), simp (le-leb _ _ (chain_within c)))
nth (link c) (suc n) h p = let r = nth c n (omega arith) p in (r.0, simp (le-leb _ _ (chain_within c)) r.1)

nth_end : {s : List ℕ} {at : ℕ} {l : List Part} → Chain s at l → step_after (length l) s at (length l) ≡ End
unfolding step_after step_at
nth_end (last e) = simp (eq-eqb _ _ e)
nth_end (link c) = simp (le-leb _ _ (chain_within c)) (nth_end c)

module _ (s : List ℕ) (l : List Part) (d : Listed s l) where
  from_start : (n : ℕ) → item_of n s ≡ step_after n s 2 (length l)
  from_start n = sym (item_begins s n (cursor 2 (le 2 s 0)) (counted s (le 2 s 0) d.room refl)) ∙ ap (step_after n s 2) d.count

  pub item_is : (n : ℕ) → n < length l → (p : Part) → (c : Cursor) × (item_of n s ≡ Item (get_or l n p).kind (get_or l n p).start (get_or l n p).len c)
  item_is n h p = let r = nth d.chain n h p in (r.0, from_start n ∙ r.1)

  pub item_end_lem : item_of (length l) s ≡ End
  item_end_lem = from_start (length l) ∙ nth_end d.chain
