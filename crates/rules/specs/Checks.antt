-- An open, check by check: the DECISION (rules 6.1 to 6.15, and 7.1 to 7.7 for the stream). It reads the setup and the fixed parts of
-- the table, and nothing else of the state.
pub use Rattle.rules.specs.declared.Roles.{Roles}
use Rattle.std.specs.Prelude.{List, [], ◌∷◌, Bool, true, false, cond, not, ◌&&◌, ◌||◌, ℕ, ◌+◌, eqb, leb, ltb, length, Option, Some, None, Result, Ok, Err}
use Rattle.wire_rules.specs.declared.NetType.{NetType}
use Rattle.wire_rules.specs.declared.NetType.TheVariants.{Null, Multicast, PointToPoint, Reserved}
use Rattle.wire_rules.specs.declared.NetParams.{NetParams}
use Rattle.wire_rules.specs.declared.ForwardOpen.{ForwardOpen}
use Rattle.wire_rules.specs.Transport.{transport_ok, compatible_bit, major_of}
use Rattle.wire_rules.specs.declared.Key.{Key}
use Rattle.wire_rules.specs.declared.ConnectionPath.{ConnectionPath}
use Rattle.rules.specs.Lists.{find, place, any, maybe, is_some}
use Rattle.rules.specs.State.{AssemblyKind, is_input, is_output, is_config, Kind, Owner, InputOnly, ListenOnly, is_owner, is_listener, Triad, triad_is, Fixed, Identity, Shape, Setup, shape_at, Stop, Stream, Plan}
use Rattle.rules.specs.Answers

-- a check that holds says nothing; one that does not says what stops the open
unfoldable pub must : Bool → Stop → Option Stop
must true s = None
must false s = Some s

-- the first of two that does not hold
unfoldable pub and_then : Option Stop → Option Stop → Option Stop
and_then None b = b
and_then (Some s) b = Some s

abbrev pub first_stop : List (Option Stop) → Option Stop
first_stop [] = None
first_stop (None ∷ cs) = first_stop cs
first_stop (Some s ∷ cs) = Some s

-- 6.1: the class and the direction of the transport byte
unfoldable pub transport_check : ForwardOpen → Option Stop
transport_check o = must (transport_ok o.transport) (Answers.Transport o.transport)

-- 6.2: the path parses, and holds no port and no attribute segment
unfoldable pub path_check : Result ConnectionPath ℕ → Option Stop
path_check (Err offset) = Some (Answers.PathBroken offset)
path_check (Ok p) = must (not p.barred) Answers.PathBarred

-- what the path holds, once it has parsed
abbrev pub no_path : ConnectionPath
no_path =
    record {
      barred = false;
      key = None;
      class = None;
      count = 0;
      first = 0;
      second = 0;
      third = 0;
      datastart = 0;
      datalen = 0;
    }

abbrev pub path_in : Result ConnectionPath ℕ → ConnectionPath
path_in (Err offset) = no_path
path_in (Ok p) = p

-- 6.3a: a number of the key that is 0 is any
abbrev pub any_or : ℕ → ℕ → Bool
any_or ours asked = eqb asked 0 || eqb asked ours

-- 6.3b: the major revision is 0 (the minor is then not read), or ours with minor 0, ours, or below ours where the compatibility bit is set
unfoldable pub revision_ok : Identity → Key → Bool
revision_ok us k =
    eqb (major_of k.major) 0 ||
    eqb (major_of k.major) us.major && (any_or us.minor k.minor || compatible_bit k.major && ltb k.minor us.minor)

-- 6.3: vendor, product code, device type, revision, in this order
unfoldable pub key_stop : Identity → Key → Option Stop
key_stop us k =
    and_then (must (any_or us.vendor k.vendor) (Answers.KeyVendor k.vendor us.vendor))
    (and_then (must (any_or us.product k.product) (Answers.KeyProduct k.product us.product))
    (and_then (must (any_or us.device k.device) (Answers.KeyDevice k.device us.device))
    (must (revision_ok us k) (Answers.KeyRevision k.major k.minor us.major us.minor))))

unfoldable pub key_check : Identity → ConnectionPath → Option Stop
key_check us p = maybe None (key_stop us) p.key

-- 6.4a: configuration if there are three, O→T, T→O
abbrev pub has_config : ConnectionPath → Bool
has_config p = eqb p.count 3

abbrev pub config_point : ConnectionPath → ℕ
config_point p = p.first

abbrev pub ot_point : ConnectionPath → ℕ
ot_point p = cond (has_config p) p.second p.first

abbrev pub to_point : ConnectionPath → ℕ
to_point p = cond (has_config p) p.third p.second

-- 6.4b: O→T is tried as input-only heartbeat, listen-only heartbeat, output assembly
unfoldable pub kind_of : Setup → ℕ → Kind
kind_of u point = cond (eqb point u.input_only) InputOnly (cond (eqb point u.listen_only) ListenOnly Owner)

-- the place of the assembly of an instance and kind
abbrev pub is_at : (AssemblyKind → Bool) → ℕ → Shape → Bool
is_at is n a = is a.kind && eqb a.instance n

unfoldable pub place_of : (AssemblyKind → Bool) → Setup → ℕ → Option ℕ
place_of is u n = place (is_at is n) u.assemblies

abbrev pub place_or0 : Option ℕ → ℕ
place_or0 i = maybe 0 (λ n. n) i

-- 6.4, 6.4b, 6.4c: class 4, two or three numbers, an output unless O→T is a heartbeat, an input
unfoldable pub points_check : Setup → ConnectionPath → Option Stop
points_check u p =
    and_then (must (maybe false (λ c. eqb c 4) p.class) (Answers.ClassNotFour p.class))
    (and_then (must (eqb p.count 2 || eqb p.count 3) (Answers.NumberCount p.count))
    (and_then (must (not (is_owner (kind_of u (ot_point p))) || is_some (place_of is_output u (ot_point p))) (Answers.NoOutputPoint (ot_point p)))
    (must (is_some (place_of is_input u (to_point p))) (Answers.NoInputPoint (to_point p)))))

-- what the points come to
unfoldable pub roles_of : Setup → ConnectionPath → Roles
roles_of u p =
    record {
      kind = kind_of u (ot_point p);
      input = place_or0 (place_of is_input u (to_point p));
      output = cond (is_owner (kind_of u (ot_point p))) (place_or0 (place_of is_output u (ot_point p))) 0;
      config = cond (has_config p) (place_of is_config u (config_point p)) None;
    }

-- 6.5, 6.5a: data without a configuration assembly, or of another length
abbrev pub config_stop : Setup → ℕ → Option ℕ → Option Stop
config_stop u length None = Some (Answers.NoConfig length)
config_stop u length (Some i) = must (eqb (shape_at u i).size length) (Answers.ConfigLength length (shape_at u i).size)

-- 6.5b: without data nothing is asked
unfoldable pub config_check : Setup → ConnectionPath → Roles → Option Stop
config_check u p r = cond (eqb p.datalen 0) None (config_stop u p.datalen r.config)

-- 6.6: both RPIs are within the range, whose ends pass
abbrev pub rpi_ok : Setup → ℕ → Bool
rpi_ok u rpi = leb u.rpi_min rpi && leb rpi u.rpi_max

unfoldable pub rpi_check : Setup → ForwardOpen → Option Stop
rpi_check u o =
    and_then (must (rpi_ok u o.ot.rpi) (Answers.OtRpi o.ot.rpi u.rpi_min u.rpi_max))
    (must (rpi_ok u o.to.rpi) (Answers.ToRpi o.to.rpi u.rpi_min u.rpi_max))

-- 6.7: O→T point-to-point, T→O that or multicast
abbrev pub is_point : NetType → Bool
is_point Null = false
is_point Multicast = false
is_point PointToPoint = true
is_point Reserved = false

abbrev pub is_multicast : NetType → Bool
is_multicast Null = false
is_multicast Multicast = true
is_multicast PointToPoint = false
is_multicast Reserved = false

abbrev pub asks_multicast : ForwardOpen → Bool
asks_multicast o = is_multicast o.to.params.net

unfoldable pub type_check : ForwardOpen → Option Stop
type_check o =
    and_then (must (is_point o.ot.params.net) (Answers.OtType o.ot.params.net))
    (must (is_point o.to.params.net || asks_multicast o) (Answers.ToType o.to.params.net))

-- 6.8, 6.9: equal, or less if variable
abbrev pub size_ok : NetParams → ℕ → Bool
size_ok n wanted = eqb n.size wanted || n.variable && leb n.size wanted

-- 6.8a: a heartbeat has nothing, a CIP sequence, or that and a run/idle header
abbrev pub beat_size : ℕ → Bool
beat_size n = eqb n 0 || eqb n 2 || eqb n 6

-- 6.8, 6.8a: an owner's data have a CIP sequence and a header before them
unfoldable pub ot_size_check : Setup → ForwardOpen → Roles → Option Stop
ot_size_check u o r =
    cond (is_owner r.kind)
    (must (size_ok o.ot.params ((shape_at u r.output).size + 6)) (Answers.OwnerSize o.ot.params.size ((shape_at u r.output).size + 6)))
    (must (beat_size o.ot.params.size) (Answers.HeartbeatSize o.ot.params.size))

-- 6.9: ours have a CIP sequence
unfoldable pub to_size_check : Setup → ForwardOpen → Roles → Option Stop
to_size_check u o r =
    must (size_ok o.to.params ((shape_at u r.input).size + 2)) (Answers.InputSize o.to.params.size ((shape_at u r.input).size + 2))

-- 6.10: the triad is not in use
abbrev pub has_triad : Triad → Fixed → Bool
has_triad t f = triad_is t f.triad

unfoldable pub triad_check : ForwardOpen → List Fixed → Option Stop
triad_check o table = must (not (any (has_triad o.triad) table)) Answers.TriadInUse

-- 6.11: the output has no owner
abbrev pub owns : ℕ → Fixed → Bool
owns i f = is_owner f.kind && eqb f.output i

unfoldable pub owner_check : Setup → Roles → List Fixed → Option Stop
owner_check u r table =
    must (not (is_owner r.kind && any (owns r.output) table)) (Answers.Owned (shape_at u r.output).instance)

-- 7.2 to 7.6: a multicast connection, not listen-only, on the same input, with equal T→O RPI unless the open is listen-only
abbrev pub carries : ForwardOpen → Roles → Fixed → Bool
carries o r f =
    f.multicast && not (is_listener f.kind) && eqb f.input r.input && (is_listener r.kind || eqb f.torpi o.to.rpi)

abbrev pub stream_found : Option Fixed → Option Stream
stream_found None = None
stream_found (Some f) = Some (record { toid = f.toid; dest = f.dest; torpi = f.torpi })

-- 7.1, 7.7: the stream of a multicast open, the first such in the table
unfoldable pub stream_of : ForwardOpen → Roles → List Fixed → Option Stream
stream_of o r table = cond (asks_multicast o) (stream_found (find (carries o r) table)) None

abbrev pub joins : Option Stream → Bool
joins (Some x) = true
joins None = false

-- 6.12: a listen-only open has a stream
unfoldable pub stream_check : ForwardOpen → Roles → List Fixed → Option Stop
stream_check o r table =
    must (not (is_listener r.kind) || joins (stream_of o r table)) (cond (asks_multicast o) Answers.NoStream Answers.ListenPointToPoint)

-- 6.13: the table has room
abbrev pub max_connections : ℕ
max_connections = 32

unfoldable pub room_check : List Fixed → Option Stop
room_check table = must (ltb (length table) max_connections) Answers.Full

-- 6.14: THE THIRTEEN CHECKS, in their order
abbrev pub checks : Setup → List Fixed → ForwardOpen → Result ConnectionPath ℕ → List (Option Stop)
checks u table o answer =
    let p = path_in answer in
    let r = roles_of u p in
    transport_check o ∷
    path_check answer ∷
    key_check u.identity p ∷
    points_check u p ∷
    config_check u p r ∷
    rpi_check u o ∷
    type_check o ∷
    ot_size_check u o r ∷
    to_size_check u o r ∷
    triad_check o table ∷
    owner_check u r table ∷
    stream_check o r table ∷
    room_check table ∷
    []

-- where configuration data goes; 7.27: nowhere without data
unfoldable pub plan_of : Setup → List Fixed → ForwardOpen → ConnectionPath → Plan
plan_of u table o p =
    let r = roles_of u p in
    record {
      kind = r.kind;
      input = r.input;
      output = r.output;
      stores = cond (eqb p.datalen 0) None r.config;
      stream = stream_of o r table;
    }

-- THE DECISION: the first check that does not hold, or a plan
unfoldable pub verdict : Setup → List Fixed → ForwardOpen → Result ConnectionPath ℕ → Result Plan Stop
verdict u table o answer = maybe (Ok (plan_of u table o (path_in answer))) Err (first_stop (checks u table o answer))
