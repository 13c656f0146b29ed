-- What a path names, step by step.
use Rattle.std.specs.Prelude.{Option, None, Ok, Err}
use Rattle.std.specs.Option.{option_or}
use Prim.Native.Nat.{ℕ}
use mathlib.Core.Path.{◌≡◌, refl, sym, ◌∙◌, ap}
use mathlib.Core.List.{List, [], ◌∷◌, ◌++◌, append-nil}
use native.Mathlib.Omega.{arith}
use Rattle.wire_rules.specs.Segments.{step_at, Segs, segs, broken, segs_of}
use Rattle.wire_rules.specs.ConnectionPath.{gather}
use Rattle.wire_segments.specs.WalkLaws.{Ahead, ahead_all, ahead_then, ahead_end, ahead_whole, Passed, passed_none, passed_more, passed_all, passed_broken}
use Rattle.wire_rules.specs.declared.Seg.{Seg}
use Rattle.wire_rules.specs.declared.Seg.TheVariants.{Port, Class, Instance, Point, Attribute, Keyed, Data}
use Rattle.wire_rules.specs.contracts.Seg.{the_type}
use denote.Enum.Declared.{tag_of}
use types.Run.{OneOf, miss}
use Rattle.wire_rules.specs.declared.SegStep.TheVariants.{Segment, End, Broken}
use Rattle.wire_rules.specs.Requests.{in_class, object_in, attribute_of, first_of, attribute_in, attribute_answer, first_attribute, request_with, object_named}
use Rattle.wire_requests.specs.Reading.{NamesClass, NamesInClass, NamesObject}
use Rattle.wire_rules.specs.declared.Object.{Object}

-- ---- the object

module _ (s : List ℕ) (at c : ℕ) where
  pub alone_end : End ≡ step_at s at → NamesClass s at c (object_named c 0)
  alone_end q l a = rw (ahead_end s at l a q)

  pub alone_more : (x : Seg) (next : ℕ) → Segment x next ≡ step_at s at → NamesClass s at c None
  alone_more x next q l a = rw (ahead_then s at l a x next q).is

  pub alone_broken : (o : ℕ) → Broken o ≡ step_at s at → NamesClass s at c None
  alone_broken o q l a = absurd (ahead_whole s at l a o q)

  pub class_end : End ≡ step_at s at → NamesInClass s at c (object_named c 0)
  class_end q l a = rw (ahead_end s at l a q)

  pub class_broken : (o : ℕ) → Broken o ≡ step_at s at → NamesInClass s at c None
  class_broken o q l a = absurd (ahead_whole s at l a o q)

  -- the segment behind the class, and what it and the rest name
  pub class_then : (x : Seg) (next : ℕ) (o : Option Object) → Segment x next ≡ step_at s at
      → ((m : List Seg) → Ahead s next m → o ≡ in_class c (x ∷ m)) → NamesInClass s at c o
  class_then x next o q f l a =
      let t = ahead_then s at l a x next q in
      f t.rest t.ahead ∙ sym (ap (in_class c) t.is)

-- any segment but an instance or an attribute
abbrev no_instance : List ℕ
no_instance = 0 ∷ 1 ∷ 3 ∷ 5 ∷ 6 ∷ []

pub class_other : (c : ℕ) (x : Seg) (m : List Seg) → OneOf no_instance (tag_of the_type x) → None ≡ in_class c (x ∷ m)
class_other c (Port p start len) m h = refl
class_other c (Class v) m h = refl
class_other c (Instance v) m h = absurd (miss no_instance 2 tt h)
class_other c (Point v) m h = refl
class_other c (Attribute v) m h = absurd (miss no_instance 4 tt h)
class_other c (Keyed k) m h = refl
class_other c (Data start len) m h = refl

-- any segment but a class
abbrev no_class : List ℕ
no_class = 0 ∷ 2 ∷ 3 ∷ 4 ∷ 5 ∷ 6 ∷ []

pub object_other : (x : Seg) (m : List Seg) → OneOf no_class (tag_of the_type x) → None ≡ object_in (x ∷ m)
object_other (Port p start len) m h = refl
object_other (Class v) m h = absurd (miss no_class 1 tt h)
object_other (Instance v) m h = refl
object_other (Point v) m h = refl
object_other (Attribute v) m h = refl
object_other (Keyed k) m h = refl
object_other (Data start len) m h = refl

module _ (s : List ℕ) where
  pub object_end : End ≡ step_at s 0 → NamesObject s None
  object_end q l e = rw (ahead_end s 0 l (ahead_all s l e) q)

  pub object_broken : (o : ℕ) → Broken o ≡ step_at s 0 → NamesObject s None
  object_broken o q l e = absurd (ahead_whole s 0 l (ahead_all s l e) o q)

  pub object_then : (x : Seg) (next : ℕ) (o : Option Object) → Segment x next ≡ step_at s 0
      → ((m : List Seg) → Ahead s next m → o ≡ object_in (x ∷ m)) → NamesObject s o
  object_then x next o q f l e =
      let t = ahead_then s 0 l (ahead_all s l e) x next q in
      f t.rest t.ahead ∙ sym (ap object_in t.is)

-- ---- the attribute

kept_more : (l : List Seg) (x : Seg) → first_of (gather attribute_of (l ++ (x ∷ []))) ≡ option_or (first_of (gather attribute_of l)) (first_of (attribute_of x))
unfolding gather
kept_more [] x = ap first_of (append-nil (attribute_of x))
kept_more (y ∷ l) x = go (attribute_of y) (kept_more l x)
  where
    go : (a : List ℕ) → first_of (gather attribute_of (l ++ (x ∷ []))) ≡ option_or (first_of (gather attribute_of l)) (first_of (attribute_of x))
        → first_of (a ++ gather attribute_of (l ++ (x ∷ []))) ≡ option_or (first_of (a ++ gather attribute_of l)) (first_of (attribute_of x))
    go [] e = e
    go (n ∷ a) e = refl

-- what the walk holds at a place is the first attribute of the segments before it
pub record Held (s : List ℕ) (at : ℕ) (h : Option ℕ) : Type 0 where
  pub done : List Seg
  pub passed : Passed s at done
  pub holds : h ≡ attribute_in done

pub held_none : (s : List ℕ) → Held s 0 None
unfolding attribute_in gather
held_none s = record { done = []; passed = passed_none s; holds = refl }

module _ (s : List ℕ) (at : ℕ) (h : Option ℕ) (p : Held s at h) where
  pub held_more : (g : Option ℕ) (x : Seg) (next : ℕ) → Segment x next ≡ step_at s at → g ≡ option_or h (first_of (attribute_of x)) → Held s next g
  unfolding attribute_in
  held_more g x next f e =
      record {
        done = p.done ++ (x ∷ []);
        passed = passed_more s at p.done p.passed x next f;
        holds = e ∙ ap (λ (z : Option ℕ). option_or z (first_of (attribute_of x))) p.holds ∙ sym (kept_more p.done x);
      }

  pub held_all : End ≡ step_at s at → Ok h ≡ first_attribute s
  unfolding first_attribute
  held_all f = ap Ok p.holds ∙ sym (ap attribute_answer (passed_all s at p.done p.passed f))

  pub held_broken : (o : ℕ) → Broken o ≡ step_at s at → Err o ≡ first_attribute s
  unfolding first_attribute
  held_broken o f = sym (ap attribute_answer (passed_broken s at p.done p.passed o f))

-- ---- the request

module _ (service start : ℕ) (s : List ℕ) where
  pub request_parsed : (o : Option Object) (a : Option ℕ) → Ok a ≡ first_attribute s → NamesObject s o
      → Ok (record { service = service; object = o; attribute = a; datastart = start }) ≡ request_with service start (segs_of s)
  unfolding first_attribute request_with
  request_parsed o a e f = go (segs_of s) refl e
    where
      go : (r : Segs) → segs_of s ≡ r → Ok a ≡ attribute_answer r
          → Ok (record { service = service; object = o; attribute = a; datastart = start }) ≡ request_with service start r
      go (segs l) q g =
          let h : a ≡ attribute_in l = cc in
          λ i. Ok (record { service = service; object = f l q i; attribute = h i; datastart = start })
      go (broken b) q g = absurd (let z : ◌≡◌ {A = ℕ} 0 1 = cc in omega arith)

  pub request_unparsed : (o : ℕ) → Err o ≡ first_attribute s → Err service ≡ request_with service start (segs_of s)
  unfolding first_attribute request_with
  request_unparsed o e = go (segs_of s) e
    where
      go : (r : Segs) → Err o ≡ attribute_answer r → Err service ≡ request_with service start r
      go (segs l) g = absurd (let z : ◌≡◌ {A = ℕ} 0 1 = cc in omega arith)
      go (broken b) g = refl
