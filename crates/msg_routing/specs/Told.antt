-- The answers by what was read.
use Rattle.std.specs.Prelude.{ℕ, ◌≤◌, ◌<◌, List, [], ◌∷◌, ◌≡◌, length, is_some, unwrap_or, Ok}
use Rattle.std.proofs.Math.Path.{refl}
use Rattle.std.proofs.Common.{ap}
use Rattle.base_cells.specs.Records.{sum, of_bool, put_fields}
use Rattle.wire_rules.specs.declared.ConnectionPath.{ConnectionPath}
use Rattle.wire_rules.specs.ConnectionPath.{path_of}
use Rattle.wire_rules.specs.declared.Request.{Request}
use Rattle.wire_rules.specs.Requests.{request_of}
use Rattle.rules.specs.Answers.{Answer}
use Rattle.rules.specs.Routing.{key_told, path_record, path_for, path_answer, is_named, class_of, instance_of, has_attribute, attribute_of, request_record, request_for, request_answer}
use Rattle.msg_routing.specs.Answered.{wrote, wrote_none, wrote_all, answered, answered_same}

-- the fields of the records, and their widths
abbrev pub path_widths : List ℕ
path_widths = 1 ∷ 1 ∷ 1 ∷ 1 ∷ 2 ∷ 2 ∷ 2 ∷ 1 ∷ 1 ∷ 4 ∷ 4 ∷ 4 ∷ 4 ∷ 2 ∷ 2 ∷ []

abbrev pub path_fields : ConnectionPath → List ℕ
path_fields p =
    of_bool p.barred ∷ of_bool (is_some p.key) ∷ of_bool (is_some p.class) ∷ p.count ∷
    (key_told p).vendor ∷ (key_told p).device ∷ (key_told p).product ∷ (key_told p).major ∷ (key_told p).minor ∷
    unwrap_or p.class 0 ∷ p.first ∷ p.second ∷ p.third ∷ p.datastart ∷ p.datalen ∷ []

abbrev pub request_widths : List ℕ
request_widths = 1 ∷ 1 ∷ 1 ∷ 1 ∷ 4 ∷ 4 ∷ 4 ∷ 4 ∷ []

abbrev pub request_fields : Request → List ℕ
request_fields q =
    q.service ∷ is_named q.object ∷ has_attribute q.attribute ∷ 0 ∷
    class_of q.object ∷ instance_of q.object ∷ attribute_of q.attribute ∷ q.datastart ∷ []

unfoldable pub path_told : ConnectionPath → ℕ → Answer
path_told p room = wrote (path_record p) room

unfoldable pub request_told : Request → ℕ → Answer
request_told q room = wrote (request_record q) room

-- the writers
module _ (out : List ℕ) where
  pub path_none : (p : ConnectionPath) → length out < 32 → (8, out) ≡ answered (path_told p) out
  unfolding path_told path_record sum
  path_none p h = wrote_none path_widths (path_fields p) out tt 32 refl h

  pub path_all : (p : ConnectionPath) (out' : List ℕ) → 32 ≤ length out → out' ≡ put_fields path_widths out 0 (path_fields p) → (8192, out') ≡ answered (path_told p) out
  unfolding path_told path_record sum
  path_all p out' h f = wrote_all path_widths (path_fields p) out tt 32 refl out' h f

  pub request_none : (q : Request) → length out < 20 → (8, out) ≡ answered (request_told q) out
  unfolding request_told request_record sum
  request_none q h = wrote_none request_widths (request_fields q) out tt 20 refl h

  pub request_all : (q : Request) (out' : List ℕ) → 20 ≤ length out → out' ≡ put_fields request_widths out 0 (request_fields q) → (5120, out') ≡ answered (request_told q) out
  unfolding request_told request_record sum
  request_all q out' h f = wrote_all request_widths (request_fields q) out tt 20 refl out' h f

-- the readers
module _ (s out : List ℕ) where
  pub path_told_lem : (p : ConnectionPath) → Ok p ≡ path_of s → answered (path_told p) out ≡ answered (path_answer s) out
  unfolding path_answer path_told
  path_told_lem p e = answered_same (path_told p) out (path_answer s) (ap (path_for (length out)) e)

  pub request_told_lem : (q : Request) → Ok q ≡ request_of s → answered (request_told q) out ≡ answered (request_answer s) out
  unfolding request_answer request_told
  request_told_lem q e = answered_same (request_told q) out (request_answer s) (ap (request_for (length out)) e)
