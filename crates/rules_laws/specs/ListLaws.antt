-- Laws of lists under Boolean tests.
use Rattle.std.specs.Prelude.{◌≡◌, refl, List, [], ◌∷◌, ◌++◌, map, Bool, true, false, cond, not, ◌&&◌, ◌||◌, ℕ, suc, ◌+◌, ◌≤◌, length, T, eqb, Option, Some, None}
use Rattle.std.proofs.Common.{sym, subst, arith, eqb→eq}
use Rattle.rules.specs.Lists.{maybe, find, any, keep, change_first, without_first}

-- what is shown of both values of a test
pub by_cases {ℓ} : {P : Type ℓ} (b : Bool) → (b ≡ true → P) → (b ≡ false → P) → P
by_cases true t f = t refl
by_cases false t f = f refl

pub clash {ℓ} : {P : Type ℓ} (b : Bool) → b ≡ true → b ≡ false → P
clash b t f = absurd (let z : ◌≡◌ {A = ℕ} 0 1 = cc in omega arith)

abbrev pub option_map : {A B : Type 0} → (A → B) → Option A → Option B
option_map f None = None
option_map f (Some a) = Some (f a)

-- a property of both branches
pub either_way : {X : Type 0} (Q : X → Type 0) (b : Bool) {x y : X} → Q x → Q y → Q (cond b x y)
either_way Q true t f = t
either_way Q false t f = f

-- a function of a choice is the choice of the results
pub of_cond : {X Y : Type 0} (f : X → Y) (b c : Bool) {x y : X} {s t : Y} → b ≡ c → f x ≡ s → f y ≡ t → f (cond b x y) ≡ cond c s t
of_cond f true true e p q = p
of_cond f true false e p q = clash true refl e
of_cond f false true e p q = clash true refl (sym e)
of_cond f false false e p q = q

pub and_left : (a b : Bool) → a && b ≡ true → a ≡ true
and_left true b e = refl
and_left false b e = e

pub and_right : (a b : Bool) → a && b ≡ true → b ≡ true
and_right true b e = e
and_right false b e = clash true refl (cc)

pub not_true : (b : Bool) → not b ≡ true → b ≡ false
not_true true e = sym e
not_true false e = refl

pub eqb_true : (a b : ℕ) → eqb a b ≡ true → a ≡ b
eqb_true a b e = eqb→eq a b (rw e tt)

pub T_true : (b : Bool) → T b → b ≡ true
T_true true t = refl
T_true false t = absurd t

module _ {A : Type 0} where
  abbrev pub All : (A → Type 0) → List A → Type 0
  All P [] = Unit {0}
  All P (x ∷ xs) = P x × All P xs

  pub any_keep : (s g : A → Bool) → ((x : A) → s x ≡ true → g x ≡ true) → (l : List A) → any s (keep g l) ≡ any s l
  any_keep s g h [] = refl
  any_keep s g h (x ∷ xs) = by_cases (s x) (λ e. cc (h x e)) λ e. by_cases (g x) (λ k. cc (any_keep s g h xs)) (λ k. cc (any_keep s g h xs))

  pub any_keep_not : (s : A → Bool) (l : List A) → any s (keep (λ x. not (s x)) l) ≡ false
  any_keep_not s [] = refl
  any_keep_not s (x ∷ xs) = by_cases (s x) (λ e. cc (any_keep_not s xs)) (λ e. cc (any_keep_not s xs))

  pub keep_keep : (g h : A → Bool) (l : List A) → keep g (keep h l) ≡ keep h (keep g l)
  keep_keep g h [] = refl
  keep_keep g h (x ∷ xs) =
      let r = keep_keep g h xs in
      by_cases (g x) (λ e. by_cases (h x) (λ k. cc) (λ k. cc)) (λ e. by_cases (h x) (λ k. cc) (λ k. cc))

  pub keep_drops : (s g : A → Bool) → ((x : A) → s x ≡ true → g x ≡ false) → (l : List A) → keep g (keep (λ x. not (s x)) l) ≡ keep g l
  keep_drops s g h [] = refl
  keep_drops s g h (x ∷ xs) =
      let r = keep_drops s g h xs in
      by_cases (s x) (λ e. cc (h x e)) (λ e. by_cases (g x) (λ k. cc) (λ k. cc))

  pub keep_all : (g : A → Bool) (l : List A) → All (λ x. g x ≡ true) l → keep g l ≡ l
  keep_all g [] a = refl
  keep_all g (x ∷ xs) a = cc (a.0, keep_all g xs a.1)

  module _ (s g : A → Bool) (u : A → A) (same : (x : A) → g (u x) ≡ g x) where
    pub keep_change_in : ((x : A) → s x ≡ true → g x ≡ true) → (l : List A) → keep g (change_first s u l) ≡ change_first s u (keep g l)
    keep_change_in h [] = refl
    keep_change_in h (x ∷ xs) =
        let r = keep_change_in h xs in
        by_cases (s x) (λ e. cc (h x e, same x)) (λ e. by_cases (g x) (λ k. cc) (λ k. cc))

    pub keep_change_out : ((x : A) → s x ≡ true → g x ≡ false) → (l : List A) → keep g (change_first s u l) ≡ keep g l
    keep_change_out h [] = refl
    keep_change_out h (x ∷ xs) =
        let r = keep_change_out h xs in
        by_cases (s x) (λ e. cc (h x e, same x)) (λ e. by_cases (g x) (λ k. cc) (λ k. cc))

  module _ (p g : A → Bool) (c : A) where
    pub find_keep : (l : List A) → find p l ≡ Some c → g c ≡ true → find p (keep g l) ≡ Some c
    find_keep [] f k = f
    find_keep (x ∷ xs) f k =
        by_cases (p x) (λ e. let f : Some x ≡ Some c = cc in cc) (λ e. let f : find p xs ≡ Some c = cc in let r = find_keep xs f k in by_cases (g x) (λ h. cc) (λ h. cc))

    pub without_keep_in : (l : List A) → find p l ≡ Some c → g c ≡ true → keep g (without_first p l) ≡ without_first p (keep g l)
    without_keep_in [] f k = refl
    without_keep_in (x ∷ xs) f k =
        by_cases (p x) (λ e. let f : Some x ≡ Some c = cc in cc) (λ e. let f : find p xs ≡ Some c = cc in let r = without_keep_in xs f k in by_cases (g x) (λ h. cc) (λ h. cc))

    pub without_keep_out : (l : List A) → find p l ≡ Some c → g c ≡ false → keep g (without_first p l) ≡ keep g l
    without_keep_out [] f k = refl
    without_keep_out (x ∷ xs) f k =
        by_cases (p x) (λ e. let f : Some x ≡ Some c = cc in cc) (λ e. let f : find p xs ≡ Some c = cc in let r = without_keep_out xs f k in by_cases (g x) (λ h. cc) (λ h. cc))

  pub find_none_keep : (p g : A → Bool) (l : List A) → find p l ≡ None → find p (keep g l) ≡ None
  find_none_keep p g [] f = refl
  find_none_keep p g (x ∷ xs) f =
      by_cases (p x) (λ e. clash true refl (cc)) (λ e. let f : find p xs ≡ None = cc in let r = find_none_keep p g xs f in by_cases (g x) (λ h. cc) (λ h. cc))

  pub find_any : (p f : A → Bool) (c : A) (l : List A) → find p l ≡ Some c → f c ≡ true → any f l ≡ true
  find_any p f c [] e y = clash true refl (cc)
  find_any p f c (x ∷ xs) e y = by_cases (p x) (λ k. cc) (λ k. let r = find_any p f c xs (cc) y in by_cases (f x) (λ z. cc) (λ z. cc))

  pub find_passes : (p : A → Bool) (c : A) (l : List A) → find p l ≡ Some c → p c ≡ true
  find_passes p c [] f = cc
  find_passes p c (x ∷ xs) f = by_cases (p x) (λ e. cc) (λ e. find_passes p c xs (cc))

  -- every element
  module _ (P : A → Type 0) where
    pub all_from : ((x : A) → P x) → (l : List A) → All P l
    all_from h [] = tt
    all_from h (x ∷ xs) = (h x, all_from h xs)

    pub all_keep : (g : A → Bool) (l : List A) → All P l → All P (keep g l)
    all_keep g [] a = tt
    all_keep g (x ∷ xs) a = by_cases (g x) (λ e. rw e (a.0, all_keep g xs a.1)) (λ e. rw e (all_keep g xs a.1))

    pub all_without : (p : A → Bool) (l : List A) → All P l → All P (without_first p l)
    all_without p [] a = tt
    all_without p (x ∷ xs) a = by_cases (p x) (λ e. rw e a.1) (λ e. rw e (a.0, all_without p xs a.1))

    pub all_change : (p : A → Bool) (u : A → A) → ((x : A) → P x → P (u x)) → (l : List A) → All P l → All P (change_first p u l)
    all_change p u h [] a = tt
    all_change p u h (x ∷ xs) a = by_cases (p x) (λ e. rw e (h x a.0, a.1)) (λ e. rw e (a.0, all_change p u h xs a.1))

    pub all_append : (l : List A) (c : A) → All P l → P c → All P (l ++ (c ∷ []))
    all_append [] c a k = (k, tt)
    all_append (x ∷ xs) c a k = (a.0, all_append xs c a.1 k)

    pub all_find : (p : A → Bool) (c : A) (l : List A) → find p l ≡ Some c → All P l → P c
    all_find p c [] e a = clash true refl (cc)
    all_find p c (x ∷ xs) e a = by_cases (p x) (λ k. let s : x ≡ c = cc in subst P s a.0) (λ k. all_find p c xs (cc) a.1)

    pub all_change_where : (p : A → Bool) (u : A → A) → ((x : A) → p x ≡ true → P x → P (u x)) → (l : List A) → All P l → All P (change_first p u l)
    all_change_where p u h [] a = tt
    all_change_where p u h (x ∷ xs) a = by_cases (p x) (λ e. rw e (h x e a.0, a.1)) (λ e. rw e (a.0, all_change_where p u h xs a.1))

    pub back_keep : (g : A → Bool) → ((x : A) → g x ≡ false → P x) → (l : List A) → All P (keep g l) → All P l
    back_keep g h [] a = tt
    back_keep g h (x ∷ xs) a =
        by_cases (g x) (λ e. let b : P x × All P (keep g xs) = rw e at a in (b.0, back_keep g h xs b.1)) (λ e. (h x e, back_keep g h xs (rw e at a)))

    pub back_without : (p : A → Bool) → ((x : A) → p x ≡ true → P x) → (l : List A) → All P (without_first p l) → All P l
    back_without p h [] a = tt
    back_without p h (x ∷ xs) a =
        by_cases (p x) (λ e. (h x e, rw e at a)) (λ e. let b : P x × All P (without_first p xs) = rw e at a in (b.0, back_without p h xs b.1))

    pub back_change : (p : A → Bool) (u : A → A) → ((x : A) → P (u x) → P x) → (l : List A) → All P (change_first p u l) → All P l
    back_change p u h [] a = tt
    back_change p u h (x ∷ xs) a =
        by_cases (p x)
        (λ e. let b : P (u x) × All P xs = rw e at a in (h x b.0, b.1))
        (λ e. let b : P x × All P (change_first p u xs) = rw e at a in (b.0, back_change p u h xs b.1))

  pub none_passes : (p : A → Bool) (l : List A) → any p l ≡ false → All (λ x. p x ≡ false) l
  none_passes p [] e = tt
  none_passes p (x ∷ xs) e = by_cases (p x) (λ k. clash true refl (cc)) (λ k. (k, none_passes p xs (cc)))

  pub none_is : (p : A → Bool) (l : List A) → All (λ x. p x ≡ false) l → any p l ≡ false
  none_is p [] a = refl
  none_is p (x ∷ xs) a = cc (a.0, none_is p xs a.1)

  pub none_found : (p : A → Bool) (l : List A) → find p l ≡ None → All (λ x. p x ≡ false) l
  none_found p [] e = tt
  none_found p (x ∷ xs) e = by_cases (p x) (λ k. clash true refl (cc)) (λ k. (k, none_found p xs (cc)))

  -- two tests that agree on the list
  module _ (p q : A → Bool) where
    pub find_same : (l : List A) → All (λ x. p x ≡ q x) l → find p l ≡ find q l
    find_same [] a = refl
    find_same (x ∷ xs) a = cc (a.0, find_same xs a.1)

    pub without_same : (l : List A) → All (λ x. p x ≡ q x) l → without_first p l ≡ without_first q l
    without_same [] a = refl
    without_same (x ∷ xs) a = cc (a.0, without_same xs a.1)

    pub any_same : (l : List A) → All (λ x. p x ≡ q x) l → any p l ≡ any q l
    any_same [] a = refl
    any_same (x ∷ xs) a = cc (a.0, any_same xs a.1)

  -- `any` after a change
  pub any_without : (f p : A → Bool) (c : A) (l : List A) → find p l ≡ Some c → any f l ≡ f c || any f (without_first p l)
  any_without f p c [] e = clash true refl (cc)
  any_without f p c (x ∷ xs) e =
      by_cases (p x) (λ t. cc) (λ n. let r = any_without f p c xs (cc) in by_cases (f x) (λ y. by_cases (f c) (λ z. cc) (λ z. cc)) (λ y. by_cases (f c) (λ z. cc) (λ z. cc)))

  pub any_change : (f p : A → Bool) (u : A → A) → ((x : A) → f (u x) ≡ f x) → (l : List A) → any f (change_first p u l) ≡ any f l
  any_change f p u h [] = refl
  any_change f p u h (x ∷ xs) = by_cases (p x) (λ e. cc (h x)) (λ e. cc (any_change f p u h xs))

  pub any_change_where : (f p : A → Bool) (u : A → A) → ((x : A) → p x ≡ true → f (u x) ≡ f x) → (l : List A) → any f (change_first p u l) ≡ any f l
  any_change_where f p u h [] = refl
  any_change_where f p u h (x ∷ xs) = by_cases (p x) (λ e. cc (h x e)) (λ e. cc (any_change_where f p u h xs))

  pub any_change_makes : (f p : A → Bool) (u : A → A) → ((x : A) → p x ≡ true → f (u x) ≡ true) → (l : List A) → any p l ≡ true → any f (change_first p u l) ≡ true
  any_change_makes f p u h [] y = y
  any_change_makes f p u h (x ∷ xs) y = by_cases (p x) (λ e. cc (h x e)) (λ e. let r = any_change_makes f p u h xs (cc) in by_cases (f x) (λ z. cc) (λ z. cc))

  pub any_keep_rest : (f s : A → Bool) (l : List A) → All (λ x. s x ≡ true → f x ≡ false) l → any f (keep (λ x. not (s x)) l) ≡ any f l
  any_keep_rest f s [] a = refl
  any_keep_rest f s (x ∷ xs) a = let r = any_keep_rest f s xs a.1 in by_cases (s x) (λ e. cc (a.0 e)) (λ e. cc)

  pub any_append : (f : A → Bool) (l m : List A) → any f (l ++ m) ≡ any f l || any f m
  any_append f [] m = refl
  any_append f (x ∷ xs) m = by_cases (f x) (λ e. cc) (λ e. cc (any_append f xs m))

  -- lengths
  pub length_keep : (g : A → Bool) (l : List A) → length (keep g l) ≤ length l
  length_keep g [] = omega arith
  length_keep g (x ∷ xs) = let r = length_keep g xs in by_cases (g x) (λ e. rw e (omega arith)) (λ e. rw e (omega arith))

  pub length_change : (p : A → Bool) (u : A → A) (l : List A) → length (change_first p u l) ≡ length l
  length_change p u [] = refl
  length_change p u (x ∷ xs) = by_cases (p x) (λ e. cc) (λ e. cc (length_change p u xs))

  pub length_without : (p : A → Bool) (c : A) (l : List A) → find p l ≡ Some c → suc (length (without_first p l)) ≡ length l
  length_without p c [] f = clash true refl (cc)
  length_without p c (x ∷ xs) f = by_cases (p x) (λ e. cc) (λ e. cc (length_without p c xs (cc)))

  pub all_to : (P Q : A → Type 0) → ((x : A) → P x → Q x) → (l : List A) → All P l → All Q l
  all_to P Q h [] a = tt
  all_to P Q h (x ∷ xs) a = (h x a.0, all_to P Q h xs a.1)

  pub kept : (P : A → Type 0) (g : A → Bool) (l : List A) → All (λ x. g x ≡ true → P x) l → All P (keep g l)
  kept P g [] a = tt
  kept P g (x ∷ xs) a = by_cases (g x) (λ e. rw e (a.0 e, kept P g xs a.1)) (λ e. rw e (kept P g xs a.1))

  -- every element is one that a test can find
  pub self : (l : List A) → All (λ x. (f : A → Bool) → f x ≡ true → any f l ≡ true) l
  self [] = tt
  self (x ∷ xs) = (
    (λ f e. cc),
    all_to (λ y. (f : A → Bool) → f y ≡ true → any f xs ≡ true) (λ y. (f : A → Bool) → f y ≡ true → any f (x ∷ xs) ≡ true)
        (λ y h f e. by_cases (f x) (λ k. cc) (λ k. cc (h f e))) xs (self xs),
  )

  pub all_two : (P Q R : A → Type 0) → ((x : A) → P x → Q x → R x) → (l : List A) → All P l → All Q l → All R l
  all_two P Q R h [] a b = tt
  all_two P Q R h (x ∷ xs) a b = (h x a.0 b.0, all_two P Q R h xs a.1 b.1)

-- under a map
module _ {A B : Type 0} (f : A → B) where
  module _ (p : B → Bool) (q : A → Bool) (same : (x : A) → p (f x) ≡ q x) where
    pub any_map : (l : List A) → any p (map f l) ≡ any q l
    any_map [] = refl
    any_map (x ∷ xs) = cc (same x, any_map xs)

    pub find_map : (l : List A) → find p (map f l) ≡ option_map f (find q l)
    find_map [] = refl
    find_map (x ∷ xs) = by_cases (q x) (λ e. cc (same x)) (λ e. cc (same x, find_map xs))

    pub keep_map : (l : List A) → keep p (map f l) ≡ map f (keep q l)
    keep_map [] = refl
    keep_map (x ∷ xs) = by_cases (q x) (λ e. cc (same x, keep_map xs)) (λ e. cc (same x, keep_map xs))

    pub without_map : (l : List A) → without_first p (map f l) ≡ map f (without_first q l)
    without_map [] = refl
    without_map (x ∷ xs) = by_cases (q x) (λ e. cc (same x)) (λ e. cc (same x, without_map xs))

    pub change_map : (v : B → B) (u : A → A) → ((x : A) → q x ≡ true → v (f x) ≡ f (u x)) → (l : List A) → change_first p v (map f l) ≡ map f (change_first q u l)
    change_map v u h [] = refl
    change_map v u h (x ∷ xs) = by_cases (q x) (λ e. cc (same x, h x e)) (λ e. cc (same x, change_map v u h xs))

  -- a change that the map does not show
  pub change_unseen : (p : A → Bool) (u : A → A) → ((x : A) → p x ≡ true → f (u x) ≡ f x) → (l : List A) → map f (change_first p u l) ≡ map f l
  change_unseen p u h [] = refl
  change_unseen p u h (x ∷ xs) = by_cases (p x) (λ e. cc (h x e)) (λ e. cc (change_unseen p u h xs))

-- what is found
module _ {A B : Type 0} (d : B) (g : A → B) (p : A → Bool) where
  pub found_seen : (h : A → A) → ((x : A) → p (h x) ≡ p x) → ((x : A) → p x ≡ true → g (h x) ≡ g x) → (l : List A) → maybe d g (find p (map h l)) ≡ maybe d g (find p l)
  found_seen h same e [] = refl
  found_seen h same e (x ∷ xs) = by_cases (p x) (λ t. cc (same x, e x t)) (λ f. cc (same x, found_seen h same e xs))

  pub found_is : (P : A → Type 0) (Q : B → Type 0) → Q d → ((x : A) → p x ≡ true → P x → Q (g x)) → (l : List A) → All P l → Q (maybe d g (find p l))
  found_is P Q n h [] a = n
  found_is P Q n h (x ∷ xs) a = by_cases (p x) (λ t. rw t (h x t a.0)) (λ f. rw f (found_is P Q n h xs a.1))

pub all_mapped : {A B : Type 0} (f : A → B) (P : A → Type 0) (Q : B → Type 0) → ((x : A) → P x → Q (f x)) → (l : List A) → All P l → All Q (map f l)
all_mapped f P Q h [] a = tt
all_mapped f P Q h (x ∷ xs) a = (h x a.0, all_mapped f P Q h xs a.1)
