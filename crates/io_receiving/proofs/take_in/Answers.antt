-- Data that changes nothing, data of which an event waits already, and data that is told.
use Rattle.std.proofs.Common.{ℕ, subst, ◌-◌, ◌%◌, List, ◌≡◌, refl, arith, eqb, length, get_or, take, drop, length-drop, take_all}
use Rattle.rules.specs.declared.Event.TheVariants.{OutputChanged}
use Rattle.state_rules.specs.Places.{connections_of}
use Rattle.state_image.specs.Kept.{kept_few}
use Rattle.state_events.specs.Records.{output_is}
use Rattle.state_image.specs.Holds.{Becomes}
use Rattle.state_events.specs.Pushes.{assembly_told, told_as}
use Rattle.io_receiving.specs.TakeLaws.{take_same, take_quiet, take_told}
use Rattle.io_receiving.proofs.take_in.Goals as goal

pub returns-then-not-differs : goal.returns-then-not-differs
returns-then-not-differs c = let a = c.args in
    let s = a.s.now in
    let d = a.d.now in
    let x : List ℕ = take (length d - 6) (drop 6 d) in
    let ex : x ≡ drop 6 d = take_all (length d - 6) (drop 6 d) (let k = length-drop 6 d in omega arith) in
    λ f ef st l h n. take_same s a.i c.requires.1 d c.runs-was.result c.runs-was.ensures (eqb (get_or d 2 0 % 2) 1) refl c.put_data-changed.new.s c.put_data-changed.result x ex
    c.put_data-changed.ensures.1 c.differs.result c.differs.ensures f ef st l h n c.if-not-differs.true

pub put_mark-requires : goal.put_mark-requires
put_mark-requires c = let k = c.put_data-changed.ensures.0 in
    let s = c.args.s.now in
    (k.ready, let e = kept_few (connections_of s) s c.put_data-changed.new.s k in let p = c.requires.1 in omega (arith, e, p))

pub returns-then-told : goal.returns-then-told
returns-then-told c = let a = c.args in
    let s = a.s.now in
    let d = a.d.now in
    let x : List ℕ = take (length d - 6) (drop 6 d) in
    let ex : x ≡ drop 6 d = take_all (length d - 6) (drop 6 d) (let k = length-drop 6 d in omega arith) in
    λ f ef st l h n. take_quiet s a.i c.requires.1 d c.runs-was.result c.runs-was.ensures (eqb (get_or d 2 0 % 2) 1) refl c.put_data-changed.new.s c.put_data-changed.result x ex
    c.put_data-changed.ensures.1 c.differs.result c.differs.ensures f ef st l h n c.put_mark.new.s c.put_mark.ensures.1
    c.if-not-differs.false c.told-told.result c.told-told.ensures c.if-told.true

pub returns : goal.returns
returns c = let a = c.args in
    let s = a.s.now in
    let d = a.d.now in
    let x : List ℕ = take (length d - 6) (drop 6 d) in
    let ex : x ≡ drop 6 d = take_all (length d - 6) (drop 6 d) (let k = length-drop 6 d in omega arith) in
    λ f ef st l h n. take_told s a.i c.requires.1 d c.runs-was.result c.runs-was.ensures (eqb (get_or d 2 0 % 2) 1) refl c.put_data-changed.new.s c.put_data-changed.result x ex
    c.put_data-changed.ensures.1 c.differs.result c.differs.ensures f ef st l h n c.put_mark.new.s c.put_mark.ensures.1
    c.if-not-differs.false c.told-told.result c.told-told.ensures c.if-told.false c.instance_at-instance.result
    c.instance_at-instance.ensures c.tell_assembly.new.s
    (let v = c.instance_at-instance.result in
    let s₁ = c.put_mark.new.s in
    let s₂ = c.tell_assembly.new.s in
    told_as s₁ s₂ 5 v 0 (OutputChanged v) (output_is v) (subst (λ (n : ℕ). Becomes s₁ s₂ (assembly_told n v 0)) c.number.ensures c.tell_assembly.ensures.1))
