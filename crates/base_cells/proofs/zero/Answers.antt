use Rattle.std.proofs.Common.{ℕ, ◌-◌, ◌+◌, ◌≤◌, ◌∙◌, ◌++◌, ◌≡◌, List, arith, ap, length, take, drop, set, replicate, length-drop, length-take-le}
use Rattle.std.proofs.lemmas.Grind.{common_steps}
use Rattle.std.proofs.lemmas.List.Edits.{fill_more}
use Rattle.std.proofs.lemmas.List.{length-replicate, drop_all}
use Rattle.base_cells.specs.Numbers.{part_sets}
use Rattle.base_cells.proofs.zero.Goals as goal

pub loop-b-preserved : goal.loop-b-preserved
loop-b-preserved c = let w = c.loop-b in
    ap (λ (z : List ℕ). set z w.b-index 0) w.invariant
    ∙ fill_more w.b-index 0 (take (c.args.at + c.args.n - c.args.at) (drop c.args.at c.args.s.now)) c.loop-b-test.true

-- after the last byte nothing is left of what stood there
all_filled : (d x : List ℕ) (n k : ℕ) → length d ≡ n → length x ≡ length d → length d ≤ k → x ≡ replicate k 0 ++ drop k d → x ≡ replicate n 0
all_filled d x n k e f h i = grind (arith, common_steps, drop_all)

pub returns : goal.returns
returns c = let a = c.args in
    let w = c.loop-b in
    let d : List ℕ = take (a.at + a.n - a.at) (drop a.at a.s.now) in
    let n : length (replicate {A = ℕ} a.n 0) ≡ a.n = length-replicate a.n 0 in
    let l : length d ≡ a.n = length-take-le (a.at + a.n - a.at) (drop a.at a.s.now) (rw length-drop (omega arith)) ∙ omega arith in
    part_sets a.s.now _ (replicate a.n 0) a.at _ (all_filled d w.b-items a.n w.b-index l w.auto.b-items c.loop-b-test.false w.invariant) (omega arith) (omega arith)
