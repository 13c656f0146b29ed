-- The bytes are put, then the event of their assembly is told.
use Rattle.std.proofs.Common.{ℕ, subst, arith, refl, length}
use Rattle.rules.specs.declared.Event.TheVariants.{Configured}
use Rattle.state_rules.specs.Places.{connections_of}
use Rattle.state_image.specs.Kept.{kept_few}
use Rattle.state_events.specs.Records.{configured_is}
use Rattle.state_image.specs.Holds.{Becomes}
use Rattle.state_events.specs.Pushes.{assembly_told, told_as}
use Rattle.open_answering.specs.StepLaws.{config_kept, config_done}
use Rattle.open_answering.proofs.placing.configure.Goals as goal

pub returns : goal.returns
returns c = let a = c.args in
    let s = a.s.now in
    let s₁ = c.put_bytes.new.s in
    let s₂ = c.tell_assembly.new.s in
    let v = c.instance_at-instance.result in
    let m = length a.config.now in
    let k = c.put_bytes.ensures.0 in
    let configured : Becomes s₁ s₂ (assembly_told 4 v m) = subst (λ (n : ℕ). Becomes s₁ s₂ (assembly_told n v m)) c.number.ensures c.tell_assembly.ensures.1 in (
      config_kept a.i a.config.now s s₁ s₂ k c.tell_assembly.ensures.0,
      config_done a.i a.config.now s s₁ s₂ (let e = kept_few (connections_of s) s s₁ k in let p = c.requires.1 in omega (arith, e, p)) v m c.instance_at-instance.ensures refl
          c.put_bytes.ensures.1 (told_as s₁ s₂ 4 v m (Configured v m) (configured_is v m) configured),
    )
