-- What the code knows on its way through a path that parses.
use Rattle.std.specs.Prelude.{ℕ, ◌≡◌, List, Option}
use Rattle.wire_rules.specs.Segments.{segs, segs_of}
use Rattle.wire_segments.specs.WalkLaws.{Ahead}
use Rattle.wire_rules.specs.declared.Seg.{Seg}
use Rattle.wire_rules.specs.Requests.{class_alone, in_class, object_in}
use Rattle.wire_rules.specs.declared.Object.{Object}

abbrev pub NamesClass : List ℕ → ℕ → ℕ → Option Object → Type 0
NamesClass s at c o = (l : List Seg) → Ahead s at l → o ≡ class_alone c l

abbrev pub NamesInClass : List ℕ → ℕ → ℕ → Option Object → Type 0
NamesInClass s at c o = (l : List Seg) → Ahead s at l → o ≡ in_class c l

abbrev pub NamesObject : List ℕ → Option Object → Type 0
NamesObject s o = (l : List Seg) → segs_of s ≡ segs l → o ≡ object_in l
