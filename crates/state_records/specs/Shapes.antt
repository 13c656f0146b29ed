-- What is told of a connection's assemblies, from the setup's region.
use Rattle.std.specs.Prelude.{ℕ, ◌≤◌, ◌<◌, cond, List, [], ◌≡◌, refl}
use Rattle.std.proofs.Common.{arith}
use Rattle.std.proofs.Math.Path.{sym}
use Rattle.std.proofs.Math.ListN.{get_or-eq_default}
use Rattle.rules.specs.State.{Shape, no_shape, shape_at, is_owner}
use Rattle.rules.specs.Events.{info_of}
use Rattle.rules.specs.declared.Kind.{Kind}
use Rattle.rules.specs.declared.Info.{Info}
use Rattle.rules.specs.declared.Fixed.{Fixed}
use Rattle.state_rules.specs.Places.{setup_in, assemblies_of}
use Rattle.state_rules.specs.Setups.{shape_in, setup_from, setup_of, shapes_of}
use Rattle.state_rules.specs.SetupLaws.{length_shapes, shape_of_lem}

-- the shape at a place of the setup's list
unfoldable pub shape_of : List ℕ → ℕ → Shape
shape_of r i = shape_at (setup_from r []) i

abbrev pub if_owner : Kind → ℕ → ℕ
if_owner k n = cond (is_owner k) n 0

module _ (r : List ℕ) (i n : ℕ) (en : n ≡ assemblies_of r) where
  pub shape_within : i < n → shape_in r i ≡ shape_of r i
  unfolding shape_of
  shape_within p = sym (shape_of_lem r i no_shape (omega arith))

  pub shape_past : n ≤ i → no_shape ≡ shape_of r i
  unfolding shape_of
  shape_past p = sym (get_or-eq_default (shapes_of r) no_shape {n = i} (let e = length_shapes r in omega arith))

pub told_is : (r : List ℕ) (f : Fixed) (a b c d : ℕ) → a ≡ (shape_of r f.input).instance → b ≡ (shape_of r f.input).size
    → c ≡ if_owner f.kind (shape_of r f.output).instance → d ≡ if_owner f.kind (shape_of r f.output).size
    → ◌≡◌ {A = Info} (record {
      kind = f.kind;
      originator = f.originator;
      otrpi = f.otrpi;
      torpi = f.torpi;
      input = a;
      inputsize = b;
      output = c;
      outputsize = d;
      multicast = f.multicast;
      otid = f.otid;
      toid = f.toid;
    }) (info_of (setup_from r []) f)
unfolding shape_of info_of
told_is r f a b c d ea eb ec ed =
    λ j.
    record {
      kind = f.kind;
      originator = f.originator;
      otrpi = f.otrpi;
      torpi = f.torpi;
      input = ea j;
      inputsize = eb j;
      output = ec j;
      outputsize = ed j;
      multicast = f.multicast;
      otid = f.otid;
      toid = f.toid;
    }

-- the EDS is not asked: the setup's region of a lent state tells what its setup tells
pub info_in : (l : List ℕ) (f : Fixed) → info_of (setup_from (setup_in l) []) f ≡ info_of (setup_of l) f
unfolding info_of setup_of
info_in l f = refl
