-- What the assemblies hold, with those at some places covered, and with those at some places idle.
use Rattle.std.specs.Prelude.{◌≡◌, refl, List, [], ◌∷◌, Bool, true, false, cond, ◌||◌, ℕ, zero, suc, eqb, get_or}
use Rattle.std.proofs.Common.{sym, ◌∙◌, ap, ap₂, eq-eqb}
use Rattle.std.proofs.Math.Dec.{eqb-zero-suc, eqb-suc-zero, eqb-suc-suc}
use Rattle.rules.specs.Lists.{change_at}
use Rattle.rules_laws.specs.ListLaws.{by_cases}
use Rattle.rules.specs.State.{Content, no_content, is_owner}
use Rattle.rules.specs.Checks.{owns}
use Rattle.rules.specs.Removal.{idle, run_lost}
use Rattle.rules_steps.specs.Names.{Fixed}

-- nothing is seen of what is held at a covered place
abbrev pub cover : (ℕ → Bool) → List Content → List Content
cover o [] = []
cover o (a ∷ l) = cond (o 0) no_content a ∷ cover (λ i. o (suc i)) l

twice : (b : Bool) (a : Content) → cond b no_content (cond b no_content a) ≡ cond b no_content a
twice true a = refl
twice false a = refl

pub cover_twice : (o : ℕ → Bool) (l : List Content) → cover o (cover o l) ≡ cover o l
cover_twice o [] = refl
cover_twice o (a ∷ l) = ap₂ ◌∷◌ (twice (o 0) a) (cover_twice (λ i. o (suc i)) l)

under : (b : Bool) (u : Content → Content) (a : Content) → cond b no_content (u (cond b no_content a)) ≡ cond b no_content (u a)
under true u a = refl
under false u a = refl

change_covered : (o : ℕ → Bool) (i : ℕ) (u : Content → Content) (l : List Content) → cover o (change_at i u (cover o l)) ≡ cover o (change_at i u l)
change_covered o i u [] = refl
change_covered o zero u (a ∷ l) = ap₂ ◌∷◌ (under (o 0) u a) (cover_twice (λ i. o (suc i)) l)
change_covered o (suc i) u (a ∷ l) = ap₂ ◌∷◌ (twice (o 0) a) (change_covered (λ i. o (suc i)) i u l)

-- what looks alike still does after a change at one place
pub change_alike : (o : ℕ → Bool) (i : ℕ) (u : Content → Content) (l m : List Content) → cover o l ≡ cover o m → cover o (change_at i u l) ≡ cover o (change_at i u m)
change_alike o i u l m e = sym (change_covered o i u l) ∙ ap (λ x. cover o (change_at i u x)) e ∙ change_covered o i u m

-- a change at a covered place is not seen
pub change_unseen : (o : ℕ → Bool) (i : ℕ) (u : Content → Content) (l : List Content) → o i ≡ true → cover o (change_at i u l) ≡ cover o l
change_unseen o i u [] e = refl
change_unseen o zero u (a ∷ l) e = rw e refl
change_unseen o (suc i) u (a ∷ l) e = ap (λ t. cond (o 0) no_content a ∷ t) (change_unseen (λ j. o (suc j)) i u l e)

bare : (o : ℕ → Bool) (i : ℕ) (l : List Content) → o i ≡ false → get_or (cover o l) i no_content ≡ get_or l i no_content
bare o i [] e = refl
bare o zero (a ∷ l) e = rw e refl
bare o (suc i) (a ∷ l) e = bare (λ j. o (suc j)) i l e

-- what is not covered is the same
pub content_alike : (o : ℕ → Bool) (i : ℕ) (l m : List Content) → cover o l ≡ cover o m → o i ≡ false → get_or l i no_content ≡ get_or m i no_content
content_alike o i l m e n = sym (bare o i l n) ∙ ap (λ x. get_or x i no_content) e ∙ bare o i m n

-- idle at some places
abbrev pub idle_by : (ℕ → Bool) → List Content → List Content
idle_by f [] = []
idle_by f (a ∷ l) = cond (f 0) (idle a) a ∷ idle_by (λ i. f (suc i)) l

pub idle_same : (f g : ℕ → Bool) → ((i : ℕ) → f i ≡ g i) → (l : List Content) → idle_by f l ≡ idle_by g l
idle_same f g h [] = refl
idle_same f g h (a ∷ l) = ap₂ ◌∷◌ (ap (λ b. cond b (idle a) a) (h 0)) (idle_same (λ i. f (suc i)) (λ i. g (suc i)) (λ i. h (suc i)) l)

pub idle_none : (f : ℕ → Bool) → ((i : ℕ) → f i ≡ false) → (l : List Content) → idle_by f l ≡ l
idle_none f h [] = refl
idle_none f h (a ∷ l) = ap₂ ◌∷◌ (ap (λ b. cond b (idle a) a) (h 0)) (idle_none (λ i. f (suc i)) (λ i. h (suc i)) l)

pub change_idle : (j : ℕ) (l : List Content) → change_at j idle l ≡ idle_by (eqb j) l
change_idle j [] = refl
change_idle zero (a ∷ l) = ap₂ ◌∷◌ (sym (ap (λ b. cond b (idle a) a) (eq-eqb 0 0 refl))) (sym (idle_none (λ i. eqb 0 (suc i)) eqb-zero-suc l))
change_idle (suc j) (a ∷ l) =
    ap₂ ◌∷◌ (sym (ap (λ b. cond b (idle a) a) (eqb-suc-zero j)))
    (change_idle j l ∙ sym (idle_same (λ i. eqb (suc j) (suc i)) (eqb j) (eqb-suc-suc j) l))

pub run_lost_lem : (x : Fixed) (l : List Content) → run_lost x l ≡ idle_by (λ i. owns i x) l
run_lost_lem x l =
    by_cases (is_owner x.kind)
    (λ e. rw e (change_idle x.output l))
    (λ e. rw e (sym (idle_none (λ i. false) (λ i. refl) l)))

both_idle : (h g : Bool) (a : Content) → cond g (idle (cond h (idle a) a)) (cond h (idle a) a) ≡ cond (h || g) (idle a) a
both_idle true true a = refl
both_idle true false a = refl
both_idle false true a = refl
both_idle false false a = refl

pub idle_two : (f g h : ℕ → Bool) → ((i : ℕ) → f i ≡ h i || g i) → (l : List Content) → idle_by g (idle_by h l) ≡ idle_by f l
idle_two f g h e [] = refl
idle_two f g h e (a ∷ l) =
    ap₂ ◌∷◌ (both_idle (h 0) (g 0) a ∙ ap (λ b. cond b (idle a) a) (sym (e 0)))
    (idle_two (λ i. f (suc i)) (λ i. g (suc i)) (λ i. h (suc i)) (λ i. e (suc i)) l)

idle_seen : (o f g : Bool) → (o ≡ false → f ≡ g) → (a : Content) →
    cond o no_content (cond f (idle a) a) ≡ cond o no_content (cond g (idle (cond o no_content a)) (cond o no_content a))
idle_seen true f g h a = refl
idle_seen false f g h a = ap (λ b. cond b (idle a) a) (h refl)

idles_covered : (o f g : ℕ → Bool) → ((i : ℕ) → o i ≡ false → f i ≡ g i) → (l : List Content) → cover o (idle_by f l) ≡ cover o (idle_by g (cover o l))
idles_covered o f g h [] = refl
idles_covered o f g h (a ∷ l) = ap₂ ◌∷◌ (idle_seen (o 0) (f 0) (g 0) (h 0) a) (idles_covered (λ i. o (suc i)) (λ i. f (suc i)) (λ i. g (suc i)) (λ i. h (suc i)) l)

-- losing run: what is covered does not show it
pub idles_alike : (o f g : ℕ → Bool) → ((i : ℕ) → o i ≡ false → f i ≡ g i) → (l m : List Content) → cover o l ≡ cover o m → cover o (idle_by f l) ≡ cover o (idle_by g m)
idles_alike o f g h l m e = idles_covered o f g h l ∙ ap (λ x. cover o (idle_by g x)) e ∙ sym (idles_covered o g g (λ i n. refl) m)
