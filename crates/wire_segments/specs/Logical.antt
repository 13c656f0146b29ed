-- The segment that a kind and a value make.
use Rattle.std.specs.Prelude.{ℕ}
use Rattle.wire_segments.specs.declared.Logical as kinds
use Rattle.wire_segments.specs.declared.Logical.{Logical}
use Rattle.wire_rules.specs.declared.Seg.{Seg}
use Rattle.wire_rules.specs.declared.Seg.TheVariants.{Class, Instance, Point, Attribute}

abbrev pub named : Logical → ℕ → Seg
named kinds.TheVariants.Class = Class
named kinds.TheVariants.Instance = Instance
named kinds.TheVariants.Point = Point
named kinds.TheVariants.Attribute = Attribute
