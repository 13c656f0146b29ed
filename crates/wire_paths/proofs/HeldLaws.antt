-- The walk of parse_path: what it holds at a place is what the definition reads of the segments before it.
use Rattle.std.specs.Prelude.{Ok, Err}
use Prim.Native.Nat.{ℕ}
use mathlib.Core.Path.{◌≡◌, sym, ◌∙◌, ap}
use mathlib.Core.List.{List, [], ◌∷◌, ◌++◌}
use Rattle.wire_rules.specs.Segments.{step_at}
use Rattle.wire_segments.specs.WalkLaws.{Passed, passed_none, passed_more, passed_all, passed_broken}
use Rattle.wire_rules.specs.ConnectionPath.{connection_path, path_read, path_of}
use Rattle.wire_paths.specs.Adding.{added}
use Rattle.wire_paths.proofs.MoreLaws.{added_more}
use Rattle.wire_rules.specs.declared.Seg.{Seg}
use Rattle.wire_rules.specs.declared.SegStep.TheVariants.{Segment, End, Broken}
use Rattle.wire_rules.specs.declared.ConnectionPath.{ConnectionPath}

pub record Held (s : List ℕ) (at : ℕ) (p : ConnectionPath) : Type 0 where
  pub done : List Seg
  pub passed : Passed s at done
  pub holds : p ≡ connection_path done

pub held_none : (s : List ℕ) (p : ConnectionPath) → p ≡ connection_path [] → Held s 0 p
held_none s p e = record { done = []; passed = passed_none s; holds = e }

module _ (s : List ℕ) (at : ℕ) (p : ConnectionPath) (h : Held s at p) where
  pub held_more : (q : ConnectionPath) (x : Seg) (next : ℕ) → Segment x next ≡ step_at s at → q ≡ added p x → Held s next q
  held_more q x next f e =
      record {
        done = h.done ++ (x ∷ []);
        passed = passed_more s at h.done h.passed x next f;
        holds = e ∙ ap (λ (z : ConnectionPath). added z x) h.holds ∙ sym (added_more h.done x);
      }

  pub held_all : End ≡ step_at s at → Ok p ≡ path_of s
  unfolding path_of
  held_all f = ap Ok h.holds ∙ sym (ap path_read (passed_all s at h.done h.passed f))

  pub held_broken : (o : ℕ) → Broken o ≡ step_at s at → Err o ≡ path_of s
  unfolding path_of
  held_broken o f = sym (ap path_read (passed_broken s at h.done h.passed o f))
