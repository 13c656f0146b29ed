-- THE LANE OBEYS ITS LIVE OWNER'S LAST WORD, ON BYTES: in every run of C calls since a setup answered 0, what `threshtide_output` answers and writes
-- for an output's instance is the last word of that output's live owner, as the calls made and the answers given tell it.
use Rattle.std.specs.Prelude.{ℕ, ◌*◌, ◌≤◌, ◌<◌, Bool, true, false, cond, List, [], ◌∷◌, ◌++◌, ◌≡◌, refl, length, drop, replicate}
use Rattle.std.proofs.Common.{append_assoc, append-nil, ap, sym, subst, ◌∙◌, zero-add, arith, eqb-true, le-leb}
use Rattle.std.proofs.lemmas.List.Edits.{sets, sets-eq}
use Rattle.std.proofs.lemmas.Bool.{lt-leb}
use Rattle.base_cells.specs.Records.{of_bool}
use Rattle.rules_laws.specs.ListLaws.{clash}
use Rattle.rules.specs.State.{Setup, shape_at}
use Rattle.rules.specs.Answers.{Answer, Wrote, Refused, fitting, answer_number, answer_bytes}
use Rattle.rules_steps.specs.Steps.{history}
use Rattle.rules_lastword.specs.Words.{Word, word_of, no_word, in_run, holds, opens}
use Rattle.app_starting.specs.Block.{setup_call}
use Rattle.host_runs.specs.CallContracts.{Said, Met, Told}
use Rattle.host_runs.specs.HostCalls.{CCall, contract}
use Rattle.host_runs.specs.Runs.{Turn, Ran, none, one}
use Rattle.host_promises.specs.Logs.{log_of, anew, OneSetup}
use Rattle.rules.specs.declared.No.TheVariants.{NoRoom}

-- ---- what the calls made and the answers given tell

-- of an output of instance number n, at place i of the setup's list
abbrev pub last_word : Setup → ℕ → ℕ → List Turn → Word
last_word u n i ts = history (word_of u n (shape_at u i).size) (log_of ts) no_word

-- how many opens were accepted
abbrev pub opens_in : List Turn → ℕ
opens_in ts = history opens (log_of ts) 0

-- 1 or 0 for run, then the data; before any frame, zeros
abbrev pub said_by : Setup → ℕ → Word → List ℕ
said_by u i w = of_bool (in_run w) ∷ holds (replicate (shape_at u i).size 0) w

-- ---- one call further

pub ran_more : {ts : List Turn} {s s' s'' : List ℕ} (c : CCall) (a : Said) → Ran ts s s' → Met (contract c) s' s'' a → Ran (ts ++ ((c, a) ∷ [])) s s''
ran_more c a none m = one c a m none
ran_more c a (one d b k r) m = one d b k (ran_more c a r m)

pub setup_more : (ts : List Turn) (c : CCall) (a : Said) → OneSetup ts → anew c a ≡ false → OneSetup (ts ++ ((c, a) ∷ []))
setup_more [] c a h n = (n, tt)
setup_more (t ∷ ts) c a h n = (h.0, setup_more ts c a h.1 n)

-- ---- every run has an end of which the promise speaks: the calls since the last setup answered 0
pub record Since (all : List Turn) (s'' : List ℕ) : Type 0 where
  pub before : List ℕ
  pub block : List ℕ
  pub eds : List ℕ
  pub seed : ℕ
  pub s : List ℕ
  pub begun : (0, s) ≡ setup_call before block eds seed
  pub earlier : List Turn
  pub turns : List Turn
  pub whole : earlier ++ turns ≡ all
  pub ran : Ran turns s s''
  pub setup : OneSetup turns

since_turn : (c : CCall) (a : Said) {all : List Turn} {s s' : List ℕ} → Met (contract c) s s' a → Since all s → (b : Bool) → anew c a ≡ b → Since (all ++ ((c, a) ∷ [])) s'
since_turn (CCall.Setup block eds seed) a {all} {s} {s'} m h true e =
    record {
      before = s;
      block = block;
      eds = eds;
      seed = seed;
      s = s';
      begun = ap (λ (n : ℕ). (n, s')) (sym (eqb-true a.number 0 e)) ∙ m;
      earlier = all ++ ((CCall.Setup block eds seed, a) ∷ []);
      turns = [];
      whole = append-nil (all ++ ((CCall.Setup block eds seed, a) ∷ []));
      ran = none;
      setup = tt;
    }
since_turn (CCall.On c) a m h true e = clash true refl (sym e)
since_turn (CCall.Path path out) a m h true e = clash true refl (sym e)
since_turn (CCall.Request message out) a m h true e = clash true refl (sym e)
since_turn c a m h false e =
    record {
      before = h.before;
      block = h.block;
      eds = h.eds;
      seed = h.seed;
      s = h.s;
      begun = h.begun;
      earlier = h.earlier;
      turns = h.turns ++ ((c, a) ∷ []);
      whole = sym (append_assoc h.earlier h.turns ((c, a) ∷ [])) ∙ ap (λ (ts : List Turn). ts ++ ((c, a) ∷ [])) h.whole;
      ran = ran_more c a h.ran m;
      setup = setup_more h.turns c a h.setup e;
    }

since_ran : {all ts : List Turn} {s s'' : List ℕ} → Since all s → Ran ts s s'' → Since (all ++ ts) s''
since_ran {all} {s'' = s''} h none = subst (λ (ts : List Turn). Since ts s'') (sym (append-nil all)) h
since_ran {all} {s'' = s''} h (one c a {ts} m r) =
    subst (λ (us : List Turn). Since us s'') (append_assoc all ((c, a) ∷ []) ts) (since_ran (since_turn c a m h (anew c a) refl) r)

pub since_setup : (l block eds : List ℕ) (seed : ℕ) (s : List ℕ) → (0, s) ≡ setup_call l block eds seed → {ts : List Turn} {s'' : List ℕ} → Ran ts s s'' → Since ts s''
since_setup l block eds seed s e r =
    since_ran (record { before = l; block = block; eds = eds; seed = seed; s = s; begun = e; earlier = []; turns = []; whole = refl; ran = none; setup = tt }) r

-- ---- THE PROMISE

-- an answer gives these bytes: where the lent output has room, at its start, and what is behind stays; else No. 8, and all of it stays
pub record Gives (bytes out : List ℕ) (a : Said) : Type 0 where
  pub room : length bytes ≤ length out → (a.number ≡ 256 * length bytes) × (a.output ≡ bytes ++ drop (length bytes) out)
  pub no_room : length out < length bytes → (a.number ≡ 8) × (a.output ≡ out)

pub gives : (bytes out : List ℕ) (a : Said) → Told (fitting (length out) bytes (Wrote bytes)) out a → Gives bytes out a
unfolding answer_number
gives bytes out a t =
    record {
      room = λ h.
          let k = le-leb (length bytes) (length out) h in
          let x : fitting (length out) bytes (Wrote bytes) ≡ Wrote bytes = ap (λ (b : Bool). cond b (Wrote bytes) (Refused NoRoom)) k in
          (t.0 ∙ ap answer_number x, t.1 ∙ ap (λ (y : Answer). sets out 0 (answer_bytes y)) x ∙ sets-eq bytes out 0 (omega arith) ∙ ap (λ (j : ℕ). bytes ++ drop j out) (zero-add (length bytes)));
      no_room = λ h.
          let k = lt-leb (length bytes) (length out) h in
          let x : fitting (length out) bytes (Wrote bytes) ≡ Refused NoRoom = ap (λ (b : Bool). cond b (Wrote bytes) (Refused NoRoom)) k in
          (t.0 ∙ ap answer_number x, t.1 ∙ ap (λ (y : Answer). sets out 0 (answer_bytes y)) x);
    }
