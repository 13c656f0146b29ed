-- What is held of a path with one segment more: the step of the walk in code. MoreLaws shows that it keeps connection_path.
use Rattle.std.specs.Prelude.{ℕ, ◌+◌, true, ltb, eqb, Some}
use Rattle.base_cells.specs.Pick.{pick}
use Rattle.wire_rules.specs.declared.Key.{Key}
use Rattle.wire_rules.specs.declared.Seg.{Seg}
use Rattle.wire_rules.specs.declared.Seg.TheVariants.{Port, Class, Instance, Point, Attribute, Keyed, Data}
use Rattle.wire_rules.specs.declared.ConnectionPath.{ConnectionPath}

abbrev pub with_bar : ConnectionPath → ConnectionPath
with_bar p = record p { barred = true }

abbrev pub with_key : ConnectionPath → Key → ConnectionPath
with_key p k = record p { key = Some k }

abbrev pub with_class : ConnectionPath → ℕ → ConnectionPath
with_class p v = record p { class = Some v }

-- one more instance or point: the first three are kept, and the count stops at 4
abbrev pub with_number : ConnectionPath → ℕ → ConnectionPath
with_number p v =
    record p {
      count = pick (ltb p.count 4) (p.count + 1) 4;
      first = pick (eqb p.count 0) v p.first;
      second = pick (eqb p.count 1) v p.second;
      third = pick (eqb p.count 2) v p.third;
    }

abbrev pub with_data : ConnectionPath → ℕ → ℕ → ConnectionPath
with_data p start len = record p { datastart = start; datalen = len }

abbrev pub added : ConnectionPath → Seg → ConnectionPath
added p (Port port start len) = with_bar p
added p (Class v) = with_class p v
added p (Instance v) = with_number p v
added p (Point v) = with_number p v
added p (Attribute v) = with_bar p
added p (Keyed k) = with_key p k
added p (Data start len) = with_data p start len
