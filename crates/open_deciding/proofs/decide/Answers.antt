-- The table's checks and the plan, as the rules have them; the checks before them need no answer.
use Rattle.std.proofs.Common.{[], List, Bool, true, false, cond, eqb, eq-eqb, ne_eqb, ◌≡◌, ◌∙◌, sym, Option, None, rules}
use Rattle.wire_rules.specs.declared.ForwardOpen.{ForwardOpen}
use Rattle.wire_rules.specs.declared.ConnectionPath.{ConnectionPath}
use Rattle.rules.specs.declared.Fixed.{Fixed}
use Rattle.rules.specs.declared.Plan.{Plan}
use Rattle.rules.specs.declared.Roles.{Roles}
use Rattle.rules.specs.declared.Stream.{Stream}
use Rattle.rules.specs.State.{Setup}
use Rattle.rules.specs.Checks.{verdict, path_check, owner_check, stream_of, roles_of, plan_of}
use Rattle.state_rules.specs.Rows.{fixeds_in}
use Rattle.state_rules.specs.Setups.{setup_from}
use Rattle.open_streams.specs.Owning.{roles_with}
use Rattle.open_streams.specs.Joining.{stop_known}
use Rattle.open_streams.specs.TableLaws.{room_rows}
use Rattle.open_deciding.proofs.decide.Goals as goal

plan_known : (u : Setup) (table : List Fixed) (o : ForwardOpen) (p : ConnectionPath) (r : Roles) → r ≡ roles_of u p
    → (stream : Option Stream) → stream ≡ stream_of o (roles_with r.kind r.input 0) table → (empty : Bool) → eqb p.datalen 0 ≡ empty
    → ◌≡◌ {A = Plan} (record { kind = r.kind; input = r.input; output = r.output; stores = cond empty None r.config; stream = stream }) (plan_of u table o p)
unfolding stream_of plan_of
plan_known u table o p r e stream es empty eb =
    (λ j. record { kind = r.kind; input = r.input; output = r.output; stores = cond (sym eb j) None r.config; stream = es j })
    ∙ (λ j. record {
      kind = (e j).kind;
      input = (e j).input;
      output = (e j).output;
      stores = cond (eqb p.datalen 0) None (e j).config;
      stream = stream_of o (e j) table;
    })

pub returns-in_err-stream_check : goal.returns-in_err-stream_check
unfolding verdict path_check owner_check
returns-in_err-stream_check c =
    let stop = c.in_err-stream_check.ensures ∙ stop_known c.args.o c.in_ok-roles.roles (fixeds_in c.args.n c.args.t.now) c.stream_of-stream.result c.stream_of-stream.ensures in
    search rules

pub returns-in_err-room : goal.returns-in_err-room
unfolding verdict path_check owner_check
returns-in_err-room c =
    let stop = c.in_ok-stream_check.ensures ∙ stop_known c.args.o c.in_ok-roles.roles (fixeds_in c.args.n c.args.t.now) c.stream_of-stream.result c.stream_of-stream.ensures in
    let room = c.in_err-room.ensures ∙ room_rows c.args.n c.args.t.now in
    search rules

pub returns-then-p-eq0 : goal.returns-then-p-eq0
unfolding verdict path_check owner_check
returns-then-p-eq0 c =
    let tab : List Fixed = fixeds_in c.args.n c.args.t.now in
    let r : Roles = c.in_ok-roles.roles in
    let stop = c.in_ok-stream_check.ensures ∙ stop_known c.args.o r tab c.stream_of-stream.result c.stream_of-stream.ensures in
    let room = c.in_ok-room.ensures ∙ room_rows c.args.n c.args.t.now in
    let plan = plan_known (setup_from c.args.r.now []) tab c.args.o c.in_ok-p.p r c.in_ok-roles.ensures.roles c.stream_of-stream.result c.stream_of-stream.ensures true (eq-eqb c.in_ok-p.p.datalen 0 c.if-p-eq0.true) in
    search rules

pub returns-else-p-eq0 : goal.returns-else-p-eq0
unfolding verdict path_check owner_check
returns-else-p-eq0 c =
    let tab : List Fixed = fixeds_in c.args.n c.args.t.now in
    let r : Roles = c.in_ok-roles.roles in
    let stop = c.in_ok-stream_check.ensures ∙ stop_known c.args.o r tab c.stream_of-stream.result c.stream_of-stream.ensures in
    let room = c.in_ok-room.ensures ∙ room_rows c.args.n c.args.t.now in
    let plan = plan_known (setup_from c.args.r.now []) tab c.args.o c.in_ok-p.p r c.in_ok-roles.ensures.roles c.stream_of-stream.result c.stream_of-stream.ensures false (ne_eqb c.in_ok-p.p.datalen 0 c.if-p-eq0.false) in
    search rules
