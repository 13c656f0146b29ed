-- The EDS and its name are lent from the state to the File object.
use Rattle.std.proofs.Common.{ℕ, ◌≡◌, ◌+◌, ◌-◌, ap, sym, Err, take, drop, length-take, arith}
use native.Mathlib.Nat.{add-sub_cancel_left}
use Rattle.std.proofs.lemmas.Grind.{common_steps}
use Rattle.state_image.specs.Fits.{is_long}
use Rattle.state_image.specs.Holds.{setup_ready}
use Rattle.rules.specs.declared.objects.Fault.TheVariants.{PathUnknown}
use Rattle.state_rules.specs.Places.{eds_at}
use Rattle.state_rules.specs.Image.{view}
use Rattle.msg_attributes.specs.Told.{told}
use Rattle.msg_positions.specs.Positions.{dec_upload}
use Rattle.msg_answering.specs.Positions.{names_short, eds_by_length, no_length, no_file, the_file}
use Rattle.msg_answering.proofs.file_in.Goals as goal

pub returns-in_err-n : goal.returns-in_err-n
unfolding told
returns-in_err-n c = let a = c.args in
    let none = no_length (view a.s.now).setup.eds (grind (arith, common_steps)) in
    let fault : c.from_residual.result ≡ Err PathUnknown = grind (arith, common_steps) in
    no_file a.s.now a.service a.instance a.a a.given.now (dec_upload a.position.now) a.out.now _ none (λ i. (fault i, (sym c.requires.1.again i, a.out.now)))

pub slice_bounds-file-end-2 : goal.slice_bounds-file-end-2
slice_bounds-file-end-2 c =
    let n = is_long c.args.s.now c.requires.0.test in
    let e = eds_by_length c.args.s.now c.requires.0.test c.in_ok-n.n (grind (arith, common_steps)) in
    omega arith

pub file-requires : goal.file-requires
file-requires c = let s = c.args.s.now in let t = c.requires.0.test in
    let e = eds_by_length s t c.in_ok-n.n (grind (arith, common_steps)) in
    let z = length-take (eds_at + c.in_ok-n.n - eds_at) (drop eds_at s) in
    ((setup_ready s c.requires.0.ready).0, names_short s t, omega arith, c.requires.1, omega arith)

pub returns : goal.returns
returns c = let a = c.args in
    let e = eds_by_length a.s.now c.requires.0.test c.in_ok-n.n (grind (arith, common_steps)) in
    the_file a.s.now a.service a.instance a.a a.given.now (dec_upload a.position.now) a.out.now _ _ _ e.0
    (ap (λ (k : ℕ). take k (drop eds_at a.s.now)) (add-sub_cancel_left eds_at c.in_ok-n.n)) c.file.ensures
