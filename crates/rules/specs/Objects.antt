-- The five objects: Identity (0x01), Assembly (0x04), TCP/IP (0xF5), Ethernet Link (0xF6) and File (0x37). Each gives the outcome
-- for a service, an instance and an attribute; File also has the EDS upload.
use Rattle.std.specs.Prelude.{List, [], ◌∷◌, Bool, cond, ◌&&◌, ℕ, ◌+◌, ◌*◌, ◌^◌, max, eqb, length, Option, Some, None}
use Rattle.rules.specs.declared.objects.Position.{Position}
use Rattle.base_cells.specs.Numbers.{le_bytes}
use Rattle.base_cells.specs.Records.{enc_fields, of_bool}
use Rattle.rules.specs.Lists.{any, place}
use Rattle.rules.specs.State.{is_owner, Shape, Setup, Content, State, content_at}
use Rattle.rules.specs.Attributes.{Outcome, Fails, ObjectUnknown, Attributes, single, among, class_attributes, short_string, file_name, tagged_text}
use Rattle.rules.specs.Upload.{checksum, initiate, transfer}

-- ---- Identity

-- 13.10: owned: an exclusive owner is in the table
unfoldable pub owned : State → Bool
owned st = any (λ c. is_owner c.fixed.kind) st.table

-- 13.11: in run: an owner's output is in run
unfoldable pub running : State → Bool
running st = any (λ c. is_owner c.fixed.kind && (content_at st c.fixed.output).run) st.table

-- 13.11: extended device status: 2 at least one faulted connection, 3 no connections, 6 at least one in run, 7 all idle
unfoldable pub extended_status : State → ℕ
extended_status st = cond st.fault 2 (cond (eqb (length st.table) 0) 3 (cond (running st) 6 7))

-- the identity status: owned is bit 0, the extended device status bits 4 to 7
unfoldable pub identity_status : State → ℕ
identity_status st = of_bool (owned st) + 2 ^ 4 * extended_status st

-- 13.9: vendor, device type, product code, revision, status, serial number, product name, state (3, operational)
unfoldable pub identity_attributes : State → Attributes
identity_attributes st =
    let us = st.setup.identity in
    (1, le_bytes 2 us.vendor) ∷
    (2, le_bytes 2 us.device) ∷
    (3, le_bytes 2 us.product) ∷
    (4, us.major ∷ us.minor ∷ []) ∷
    (5, le_bytes 2 (identity_status st)) ∷
    (6, le_bytes 4 us.serial) ∷
    (7, short_string us.name) ∷
    (8, 3 ∷ []) ∷
    []

-- 13.6: service 0x01, all attributes at once, is no service here: 0x08
unfoldable pub identity : State → ℕ → ℕ → Option ℕ → Outcome
identity st service instance a = among 1 instance (single service a class_attributes) (single service a (identity_attributes st))

-- ---- Assembly

abbrev pub largest_instance : List Shape → ℕ
largest_instance [] = 0
largest_instance (a ∷ rest) = max a.instance (largest_instance rest)

-- 13.12: the class: revision 2, largest instance
unfoldable pub assembly_class : Setup → Attributes
assembly_class u = (1, le_bytes 2 2) ∷ (2, le_bytes 2 (largest_instance u.assemblies)) ∷ []

-- 13.13: an assembly of any kind: its data, and the size of it
unfoldable pub assembly_attributes : Content → Attributes
assembly_attributes held = (3, held.bytes) ∷ (4, le_bytes 2 (length held.bytes)) ∷ []

unfoldable pub assembly_place : Setup → ℕ → Option ℕ
assembly_place u instance = place (λ a. eqb a.instance instance) u.assemblies

abbrev pub assembly_object : State → ℕ → Option ℕ → Option ℕ → Outcome
assembly_object st service a None = Fails ObjectUnknown
assembly_object st service a (Some i) = single service a (assembly_attributes (content_at st i))

unfoldable pub assembly : State → ℕ → ℕ → Option ℕ → Outcome
assembly st service instance a =
    cond (eqb instance 0) (single service a (assembly_class st.setup)) (assembly_object st service a (assembly_place st.setup instance))

-- ---- TCP/IP

-- the path of its Ethernet Link object: two words, class 0xF6, instance 1
abbrev pub link_path : List ℕ
link_path = 0x02 ∷ 0x00 ∷ 0x20 ∷ 0xF6 ∷ 0x24 ∷ 0x01 ∷ []

-- 13.14: local address and mask as little-endian numbers, no gateway, no name servers, no domain name
unfoldable pub interface : ℕ → ℕ → List ℕ
interface local mask = enc_fields (4 ∷ 4 ∷ 4 ∷ 4 ∷ 4 ∷ 2 ∷ []) (local ∷ mask ∷ 0 ∷ 0 ∷ 0 ∷ 0 ∷ [])

-- 13.14: status (1, a valid configuration), capability and control (0, set by the operating system), link, interface, no host name
unfoldable pub tcp_ip_attributes : ℕ → ℕ → Attributes
tcp_ip_attributes local mask =
    (1, le_bytes 4 1) ∷
    (2, le_bytes 4 0) ∷
    (3, le_bytes 4 0) ∷
    (4, link_path) ∷
    (5, interface local mask) ∷
    (6, le_bytes 2 0) ∷
    []

unfoldable pub tcp_ip : ℕ → ℕ → ℕ → ℕ → Option ℕ → Outcome
tcp_ip local mask service instance a = among 1 instance (single service a class_attributes) (single service a (tcp_ip_attributes local mask))

-- ---- Ethernet Link

-- 13.15: speed in Mbit/s, flags (link up, full duplex, negotiated), MAC
unfoldable pub ethernet_attributes : Setup → Attributes
ethernet_attributes u = (1, le_bytes 4 100) ∷ (2, le_bytes 4 0x0F) ∷ (3, u.mac) ∷ []

unfoldable pub ethernet_link : Setup → ℕ → ℕ → Option ℕ → Outcome
ethernet_link u service instance a = among 1 instance (single service a class_attributes) (single service a (ethernet_attributes u))

-- ---- File

-- 13.16: the instance of the EDS
abbrev pub eds_instance : ℕ
eds_instance = 0xC8

-- 13.17: state (2, loaded), instance name, instance format version, file name, file revision, file size, checksum, invocation and save
-- method (0), access rule (1, read only), encoding (0, binary)
unfoldable pub file_attributes : Setup → List ℕ → Attributes
file_attributes u eds =
    (1, 2 ∷ []) ∷
    (2, tagged_text file_name) ∷
    (3, le_bytes 2 1) ∷
    (4, tagged_text u.eds_name) ∷
    (5, u.identity.major ∷ u.identity.minor ∷ []) ∷
    (6, le_bytes 4 (length eds)) ∷
    (7, le_bytes 2 (checksum eds)) ∷
    (8, 0 ∷ []) ∷
    (9, 0 ∷ []) ∷
    (10, 1 ∷ []) ∷
    (11, 0 ∷ []) ∷
    []

abbrev pub initiate_upload : ℕ
initiate_upload = 0x4B

abbrev pub upload_transfer : ℕ
upload_transfer = 0x4F

-- 14.1: the services of the EDS: initiate, transfer, and a single attribute, which leaves the position as it is
unfoldable pub eds_file : Setup → List ℕ → ℕ → Option ℕ → List ℕ → Option Position → Outcome × Option Position
eds_file u eds service a bytes up =
    cond (eqb service initiate_upload) (initiate u.transfer_limit eds up bytes)
    (cond (eqb service upload_transfer) (transfer eds up bytes)
    (single service a (file_attributes u eds), up))

unfoldable pub file : Setup → List ℕ → ℕ → ℕ → Option ℕ → List ℕ → Option Position → Outcome × Option Position
file u eds service instance a bytes up =
    cond (eqb instance 0) (single service a class_attributes, up)
    (cond (eqb instance eds_instance) (eds_file u eds service a bytes up)
    (Fails ObjectUnknown, up))
