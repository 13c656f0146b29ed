-- One segment more: what the walk holds is what the definition reads of the segments passed.
use Prim.Native.Nat.{ℕ, suc, ◌+◌, min}
use mathlib.Core.Path.{◌≡◌, refl, sym, ap, ◌∙◌}
use mathlib.Core.Bool.{true}
use mathlib.Core.List.{List, [], ◌∷◌, ◌++◌, append-nil, append_assoc}
use lib.ListN.{length, get_or}
use lib.Dec.{ltb, eqb}
use native.Mathlib.Nat.{min-eq_right}
use native.Mathlib.Omega.{arith}
use Rattle.std.specs.Prelude.{Some}
use Rattle.base_cells.specs.Pick.{pick}
use Rattle.wire_rules.specs.ConnectionPath.{gather, some, last, final, connection_path}
use Rattle.wire_paths.specs.Adding.{with_bar, with_key, with_class, with_number, with_data, added}
use Rattle.wire_rules.specs.declared.Key.{Key}
use Rattle.wire_rules.specs.declared.Seg.{Seg}
use Rattle.wire_rules.specs.declared.Seg.TheVariants.{Port, Class, Instance, Point, Attribute, Keyed, Data}

-- ---- lists with one more at the end

module _ {A : Type 0} where
  pub gather_more : (f : Seg → List A) (l : List Seg) (x : Seg) → gather f (l ++ (x ∷ [])) ≡ gather f l ++ f x
  unfolding gather
  gather_more f [] x = append-nil (f x)
  gather_more f (y ∷ l) x = ap (λ (m : List A). f y ++ m) (gather_more f l x) ∙ sym (append_assoc (f y) (gather f l) (f x))

  pub some_more : (l : List A) (a : A) → some (l ++ (a ∷ [])) ≡ true
  unfolding some
  some_more [] a = refl
  some_more (b ∷ l) a = refl

  pub last_more : (d : A) (l : List A) (a : A) → last d (l ++ (a ∷ [])) ≡ a
  unfolding last
  last_more d [] a = refl
  last_more d (b ∷ l) a = last_more b l a

  pub final_more : (l : List A) (a : A) → final (l ++ (a ∷ [])) ≡ Some a
  unfolding final last
  final_more [] a = refl
  final_more (b ∷ l) a = ap Some (last_more b l a)

-- ---- a segment of each kind

module _ (l : List Seg) where
  add_port : (p start len : ℕ) → connection_path (l ++ (Port p start len ∷ [])) ≡ with_bar (connection_path l)
  unfolding connection_path
  add_port p start len = simp (gather_more, append-nil, some_more)

  add_attribute : (v : ℕ) → connection_path (l ++ (Attribute v ∷ [])) ≡ with_bar (connection_path l)
  unfolding connection_path
  add_attribute v = simp (gather_more, append-nil, some_more)

  add_class : (v : ℕ) → connection_path (l ++ (Class v ∷ [])) ≡ with_class (connection_path l) v
  unfolding connection_path
  add_class v = simp (gather_more, append-nil, final_more)

  add_key : (k : Key) → connection_path (l ++ (Keyed k ∷ [])) ≡ with_key (connection_path l) k
  unfolding connection_path
  add_key k = simp (gather_more, append-nil, final_more)

  add_data : (start len : ℕ) → connection_path (l ++ (Data start len ∷ [])) ≡ with_data (connection_path l) start len
  unfolding connection_path
  add_data start len = simp (gather_more, append-nil, last_more)

-- ---- an instance or a point, by how many stand before it

many : (n : ℕ) → min (suc (suc (suc (suc n)))) 4 ≡ 4
many n = min-eq_right (omega arith)

counted : (m : List ℕ) (v : ℕ) → min (length (m ++ (v ∷ []))) 4 ≡ pick (ltb (min (length m) 4) 4) (min (length m) 4 + 1) 4
counted [] v = refl
counted (a ∷ []) v = refl
counted (a ∷ b ∷ []) v = refl
counted (a ∷ b ∷ c ∷ []) v = refl
counted (a ∷ b ∷ c ∷ d ∷ m) v = simp many

first_of : (m : List ℕ) (v : ℕ) → get_or (m ++ (v ∷ [])) 0 0 ≡ pick (eqb (min (length m) 4) 0) v (get_or m 0 0)
first_of [] v = refl
first_of (a ∷ []) v = refl
first_of (a ∷ b ∷ []) v = refl
first_of (a ∷ b ∷ c ∷ []) v = refl
first_of (a ∷ b ∷ c ∷ d ∷ m) v = simp many

second_of : (m : List ℕ) (v : ℕ) → get_or (m ++ (v ∷ [])) 1 0 ≡ pick (eqb (min (length m) 4) 1) v (get_or m 1 0)
second_of [] v = refl
second_of (a ∷ []) v = refl
second_of (a ∷ b ∷ []) v = refl
second_of (a ∷ b ∷ c ∷ []) v = refl
second_of (a ∷ b ∷ c ∷ d ∷ m) v = simp many

third_of : (m : List ℕ) (v : ℕ) → get_or (m ++ (v ∷ [])) 2 0 ≡ pick (eqb (min (length m) 4) 2) v (get_or m 2 0)
third_of [] v = refl
third_of (a ∷ []) v = refl
third_of (a ∷ b ∷ []) v = refl
third_of (a ∷ b ∷ c ∷ []) v = refl
third_of (a ∷ b ∷ c ∷ d ∷ m) v = simp many

module _ (l : List Seg) where
  add_instance : (v : ℕ) → connection_path (l ++ (Instance v ∷ [])) ≡ with_number (connection_path l) v
  unfolding connection_path
  add_instance v = simp (gather_more, append-nil, counted, first_of, second_of, third_of)

  add_point : (v : ℕ) → connection_path (l ++ (Point v ∷ [])) ≡ with_number (connection_path l) v
  unfolding connection_path
  add_point v = simp (gather_more, append-nil, counted, first_of, second_of, third_of)

  pub added_more : (x : Seg) → connection_path (l ++ (x ∷ [])) ≡ added (connection_path l) x
  added_more (Port p start len) = add_port l p start len
  added_more (Class v) = add_class l v
  added_more (Instance v) = add_instance v
  added_more (Point v) = add_point v
  added_more (Attribute v) = add_attribute l v
  added_more (Keyed k) = add_key l k
  added_more (Data start len) = add_data l start len
